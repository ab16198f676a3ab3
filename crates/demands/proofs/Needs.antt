-- Request 2026-09: what is to be lent, from the definitions of measuring and of normalising.
use Rattle.std.specs.Prelude.{Option, Some, None, Result, Ok, Err}
use mathlib.Core.Path.{◌≡◌, refl, sym, ap, ◌∙◌}
use mathlib.Core.Logic.{◌↔◌}
use mathlib.Core.Bool.{Bool, true, false, cond, ◌&&◌}
use Prim.Native.Nat.{ℕ, ◌≤◌, ◌<◌, min}
use native.Mathlib.Omega.{arith}
use lib.Dec.{leb}
use lib.ListN.{length}
use borrow.Author.Tests.{leb-true, leb-false, le-leb}
use Rattle.octets.specs.declared.counts.Octets.{Octets as OctetCount}
use Rattle.octets.specs.Counts.{size_of}
use Rattle.octets.proofs.Tests.{and_left, and_right, never}
use Rattle.format.specs.Answers.{refusal}
use Rattle.format.specs.Tree.{Items, count}
use Rattle.format.specs.Judge.{Judged, judge}
use Rattle.format.specs.Judge.Judged.{refused, accepted}
use Rattle.format.specs.Meaning.{normal_of}
use Rattle.format.specs.Loaded.{store_of}
use Rattle.format.specs.Calls.{Lent, roomy, stored_within, fits_lent, misfit, normal_answer}
use Rattle.format.specs.declared.Refusal.{Refusal}
use Rattle.survey.specs.declared.Needs.{Needs}
use Rattle.survey.specs.declared.measure.Sizes.{Sizes}
use Rattle.survey.specs.Measure.{measured_of}
use Rattle.survey.specs.Survey.{needed_of, records_sizes}
use Rattle.survey.specs.Makers.{store_octets}
use Rattle.demands.specs.Needs.{NeedsSuffice, OverNever}

-- what doesn't fit isn't written
unfitting : (lent : Lent) (t : Items) (k : OctetCount) → misfit lent t ≡ Ok k → ⊥
unfolding misfit
unfitting lent t k e = go (leb (count t) lent.records) e
  where
    go : (b : Bool) → cond b (Err (refusal 15 0)) (Err (refusal 14 0)) ≡ Ok k → ⊥
    go true q = never (cc)
    go false q = never (cc)

module _ (lent : Lent) (t : Items) where
  written-fits : (k : OctetCount) → normal_answer lent (accepted t) ≡ Ok k → fits_lent lent t ≡ true
  unfolding normal_answer
  written-fits k e = go (fits_lent lent t) refl
    where
      go : (b : Bool) → fits_lent lent t ≡ b → b ≡ true
      go true q = refl
      go false q = absurd (unfitting lent t k (rw q at e))

  fits-parts : fits_lent lent t ≡ true → (count t ≤ lent.records) × (length (store_of t) ≤ lent.store.0) × (length (normal_of t) ≤ min lent.room.0 32_768)
  unfolding fits_lent stored_within roomy
  fits-parts h =
      let a = leb (count t) lent.records in
      let b = leb (length (store_of t)) lent.store.0 in
      let c = leb (length (normal_of t)) (min lent.room.0 32_768) in
      let later = and_right a (b && c) h in (
        leb-true (count t) lent.records (and_left a (b && c) h),
        leb-true (length (store_of t)) lent.store.0 (and_left b c later),
        leb-true (length (normal_of t)) (min lent.room.0 32_768) (and_right b c later),
      )

  parts-fit : count t ≤ lent.records → length (store_of t) ≤ lent.store.0 → length (normal_of t) ≤ lent.room.0 → length (normal_of t) ≤ 32_768
      → normal_answer lent (accepted t) ≡ Ok (size_of (normal_of t))
  unfolding normal_answer fits_lent stored_within roomy
  parts-fit a b c d =
      rw (le-leb (count t) lent.records a, le-leb (length (store_of t)) lent.store.0 b, le-leb (length (normal_of t)) (min lent.room.0 32_768) (omega arith))

-- what is told to be needed says so much once
abbrev needs_told : ℕ → Option Sizes → Result Needs Refusal
needs_told n sizes = Ok (records_sizes n sizes)

pub same-needs : (n k : ℕ) (a b : Option Sizes) → needs_told n a ≡ needs_told k b → (n ≡ k) × (a ≡ b)
same-needs n k a b e = let x : records_sizes n a ≡ records_sizes k b = cc in (ap (λ z. z.records) x, ap (λ z. z.sizes) x)

pub same-sizes : (s o i k : OctetCount) → Some (store_octets s o) ≡ Some (store_octets i k) → (s ≡ i) × (o ≡ k)
same-sizes s o i k e = let x : store_octets s o ≡ store_octets i k = cc in (ap (λ z. z.store) x, ap (λ z. z.octets) x)

-- what an accepted object needs is what it takes
module _ (t : Items) (n : ℕ) where
  sizes-of : (s o : OctetCount) → Ok (records_sizes n (Some (store_octets s o))) ≡ needed_of (accepted t)
      → (length (normal_of t) ≤ 32_768) × (n ≡ count t) × (s ≡ size_of (store_of t)) × (o ≡ size_of (normal_of t))
  unfolding needed_of measured_of
  sizes-of s o e = go (leb (length (normal_of t)) 32_768) refl e
    where
      go : (b : Bool) → leb (length (normal_of t)) 32_768 ≡ b
          → needs_told n (Some (store_octets s o)) ≡ needs_told (count t) (cond b (Some (store_octets (size_of (store_of t)) (size_of (normal_of t)))) None)
          → (length (normal_of t) ≤ 32_768) × (n ≡ count t) × (s ≡ size_of (store_of t)) × (o ≡ size_of (normal_of t))
      go true q w =
          let x = same-needs n (count t) (Some (store_octets s o)) (Some (store_octets (size_of (store_of t)) (size_of (normal_of t)))) w in
          let y = same-sizes s o (size_of (store_of t)) (size_of (normal_of t)) x.1 in
          (leb-true (length (normal_of t)) 32_768 q, x.0, y.0, y.1)
      go false q w = let x = (same-needs n (count t) (Some (store_octets s o)) None w).1 in never (cc)

  over-long : Ok (records_sizes n None) ≡ needed_of (accepted t) → 32_768 < length (normal_of t)
  unfolding needed_of measured_of
  over-long e = go (leb (length (normal_of t)) 32_768) refl e
    where
      go : (b : Bool) → leb (length (normal_of t)) 32_768 ≡ b
          → needs_told n None ≡ needs_told (count t) (cond b (Some (store_octets (size_of (store_of t)) (size_of (normal_of t)))) None)
          → 32_768 < length (normal_of t)
      go true q w =
          let x = (same-needs n (count t) None (Some (store_octets (size_of (store_of t)) (size_of (normal_of t)))) w).1 in
          never (cc)
      go false q w = leb-false (length (normal_of t)) 32_768 q

pub needs-suffice : NeedsSuffice
unfolding needed_of
needs-suffice object n s o e lent = go (judge object) e
  where
    go : (j : Judged) → Ok (records_sizes n (Some (store_octets s o))) ≡ needed_of j → (normal_answer lent j ≡ Ok o)
        ↔ ((n ≤ lent.records) × (s.0 ≤ lent.store.0) × (o.0 ≤ lent.room.0))
    go (refused r) w = never (cc)
    go (accepted t) w =
        let k = sizes-of t n s o w in
        let x = ap (λ z. z.0) k.2 in
        let y = ap (λ z. z.0) k.3 in (
          (λ q. let p = fits-parts lent t (written-fits lent t o q) in (omega (arith, k.1), omega arith, omega arith)),
          (λ p. parts-fit lent t (omega (arith, p.0, k.1)) (omega (arith, p.1)) (omega (arith, p.2)) k.0 ∙ ap Ok (sym k.3)),
        )

pub over-never : OverNever
unfolding needed_of
over-never object n e lent o q = go (judge object) e q
  where
    go : (j : Judged) → Ok (records_sizes n None) ≡ needed_of j → normal_answer lent j ≡ Ok o → ⊥
    go (refused r) w p = never (cc)
    go (accepted t) w p = let f = fits-parts lent t (written-fits lent t o p) in omega (arith, over-long t n w)
