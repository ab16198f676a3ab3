-- The ways through survey: refused by the judgement or accepted, measured, and found to suffice or not.
use Rattle.std.specs.Prelude.{Option, Some, None, Result, Ok, Err}
use mathlib.Core.Path.{◌≡◌, refl, sym, ap, ap₂, ◌∙◌}
use mathlib.Core.Bool.{Bool, true, false, cond, ◌&&◌, and-false}
use mathlib.Core.List.{List}
use Prim.Native.Nat.{ℕ, ◌≤◌, ◌<◌, min}
use native.Mathlib.Omega.{arith}
use lib.Dec.{leb}
use lib.ListN.{length}
use borrow.Author.Tests.{leb-true, leb-false, le-leb, lt-leb}
use Rattle.octets.specs.Counts.{size_of}
use Rattle.format.specs.declared.Refusal.{Refusal}
use Rattle.format.specs.declared.Counts.{Counts}
use Rattle.format.specs.Answers.{refusal}
use Rattle.format.specs.Tree.{Items, count}
use Rattle.format.specs.Judge.{judge}
use Rattle.format.specs.Judge.Judged.{accepted}
use Rattle.format.specs.Meaning.{normal_of}
use Rattle.format.specs.Loaded.{store_of}
use Rattle.format.specs.Headers.{headers, headers_of}
use Rattle.format.specs.Calls.{judge_answer, Lent, roomy, stored_within}
use Rattle.judge.specs.Inside.{judge_inside}
use Rattle.reader.proofs.Reading.{Taken, was-refused, was-accepted}
use Rattle.survey.specs.Measure.{measured_of, Measures, MeasuresInside}
use Rattle.survey.specs.Survey.{sufficient, surveyed, needed_of, needed_by, records_sizes}
use Rattle.survey.specs.declared.measure.Sizes.{Sizes}
use Rattle.survey.specs.declared.Unfit.TheVariants.{Bad, Misfit}
use Rattle.survey.specs.Makers.{store_octets}

-- ---- measured

-- a size that an object may have is held against the room alone
capped : (n room : ℕ) → n ≤ 32_768 → leb n room ≡ leb n (min room 32_768)
capped n room h = go (leb n room) refl
  where
    go : (b : Bool) → leb n room ≡ b → b ≡ leb n (min room 32_768)
    go true q = sym (le-leb n (min room 32_768) (omega (arith, leb-true n room q)))
    go false q = sym (lt-leb n (min room 32_768) (omega (arith, leb-false n room q)))

sufficient-measured : (lent : Lent) (t : Items) → sufficient (measured_of t) lent.store lent.room ≡ stored_within lent t
unfolding measured_of stored_within roomy sufficient
sufficient-measured lent t = go (leb (length (store_of t)) lent.store.0) (leb (length (normal_of t)) 32_768) refl refl
  where
    go : (a b : Bool) → leb (length (store_of t)) lent.store.0 ≡ a → leb (length (normal_of t)) 32_768 ≡ b
        → sufficient (cond b (Some (store_octets (size_of (store_of t)) (size_of (normal_of t)))) None) lent.store lent.room
        ≡ a && leb (length (normal_of t)) (min lent.room.0 32_768)
    go a true w q = rw w (ap (λ x. a && x) (capped (length (normal_of t)) lent.room.0 (leb-true (length (normal_of t)) 32_768 q)))
    go a false w q =
        let over : leb (length (normal_of t)) (min lent.room.0 32_768) ≡ false = lt-leb (length (normal_of t)) (min lent.room.0 32_768) (omega (arith, leb-false (length (normal_of t)) 32_768 q)) in
        sym (ap (λ x. a && x) over ∙ and-false a)

module _ (o : List ℕ) (m : Option Sizes) (e : Measures o m) (b : Bool) (lent : Lent) (f : b ≡ sufficient m lent.store lent.room) where
  measured : (t : Items) → judge o ≡ accepted t → b ≡ stored_within lent t
  unfolding Measures
  measured t h = f ∙ ap (λ x. sufficient x lent.store lent.room) (e t h) ∙ sufficient-measured lent t

-- ---- survey

module _ (o : List ℕ) (v : Result Counts Refusal) (e : v ≡ judge_answer (headers_of o) (judge o)) (lent : Lent) where
  pub survey-bad : (r : Refusal) → v ≡ Err r → Err (Bad r) ≡ surveyed lent (judge o)
  unfolding surveyed
  survey-bad r f = rw (was-refused (headers_of o) (judge o) r (sym f ∙ e))

  module _ (c : Counts) (f : v ≡ Ok c) where
    so : Taken (headers_of o) (judge o) c
    so = was-accepted (headers_of o) (judge o) c (sym f ∙ e)

    pub survey-full : lent.records < c.records → (x : Refusal) → x ≡ refusal 14 0 → Err (Misfit x) ≡ surveyed lent (judge o)
    unfolding surveyed
    survey-full h x m = rw (m, so.is, lt-leb (count so.tree) lent.records (omega (arith, so.many)))

    module _ (h : c.records ≤ lent.records) (m : Option Sizes) (g : Measures o m) (b : Bool) (d : b ≡ sufficient m lent.store lent.room) where
      pub survey-fits : b ≡ true → Ok tt ≡ surveyed lent (judge o)
      unfolding surveyed
      survey-fits q = rw (so.is, le-leb (count so.tree) lent.records (omega (arith, so.many)), sym (measured o m g b lent d so.tree so.is), q)

      pub survey-small : b ≡ false → (x : Refusal) → x ≡ refusal 15 0 → Err (Misfit x) ≡ surveyed lent (judge o)
      unfolding surveyed
      survey-small q x y = rw (y, so.is, le-leb (count so.tree) lent.records (omega (arith, so.many)), sym (measured o m g b lent d so.tree so.is), q)

-- ---- needs_of

module _ (o : List ℕ) (v : Result Counts Refusal) (e : v ≡ judge_answer (headers_of o) (judge o)) where
  pub whole-refused : (r : Refusal) → v ≡ Err r → Err r ≡ needed_of (judge o)
  unfolding needed_of
  whole-refused r f = rw (was-refused (headers_of o) (judge o) r (sym f ∙ e))

  pub whole-items : (c : Counts) → v ≡ Ok c → (m : Option Sizes) → Measures o m → Ok (records_sizes c.records m) ≡ needed_of (judge o)
  unfolding needed_of Measures
  whole-items c f m g =
      let w = was-accepted (headers_of o) (judge o) c (sym f ∙ e) in
      ap₂ (λ n x. Ok (records_sizes n x)) w.many (g w.tree w.is) ∙ sym (ap needed_of w.is)

-- ---- survey_inside

module _ (element depth : ℕ) (o : List ℕ) (v : Result Counts Refusal) (e : v ≡ judge_answer (headers element o) (judge_inside element depth o)) where
  pub needed-refused : (r : Refusal) → v ≡ Err r → Err r ≡ needed_by element (judge_inside element depth o)
  unfolding needed_by
  needed-refused r f = rw (was-refused (headers element o) (judge_inside element depth o) r (sym f ∙ e))

  pub needed-items : (c : Counts) → v ≡ Ok c → (m : Option Sizes) → MeasuresInside element depth o m
      → Ok (records_sizes c.records m) ≡ needed_by element (judge_inside element depth o)
  unfolding needed_by MeasuresInside
  needed-items c f m g =
      let w = was-accepted (headers element o) (judge_inside element depth o) c (sym f ∙ e) in
      ap₂ (λ n x. Ok (records_sizes n x)) w.many (g w.tree w.is) ∙ sym (ap (needed_by element) w.is)

pub ruleset survey-ways = (survey-bad, survey-full, survey-fits, survey-small)
