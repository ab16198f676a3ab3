-- The ways through the call: what is decided of two objects, and what is written and laid where nothing is refused.
use Rattle.std.specs.Prelude.{Result, Ok, Err}
use mathlib.Core.Path.{◌≡◌, refl, sym, ap, ap₂, ◌∙◌, subst}
use mathlib.Core.Bool.{true, false, cond}
use mathlib.Core.Option.{Option, none, some}
use mathlib.Core.List.{List, []}
use Prim.Native.Nat.{ℕ, ◌-◌, ◌≤◌, ◌<◌, min}
use native.Mathlib.Omega.{arith}
use lib.Dec.{leb}
use lib.ListN.{length, take, drop}
use lib.Seq.{sets}
use borrow.Author.Tests.{leb-true}
use Rattle.octets.specs.Numbers.{Octets as OctetList}
use Rattle.octets.specs.declared.counts.Octets.{Octets}
use Rattle.octets.specs.Counts.{as_octets, size_of}
use Rattle.octets.specs.Places.{between}
use Rattle.octets.proofs.Lists.{sets-none, part-of-sets}
use Rattle.octets.proofs.Tests.{never, and_left, and_right}
use Rattle.format.specs.declared.Refusal.{Refusal}
use Rattle.format.specs.Answers.{refusal}
use Rattle.format.specs.Tree.{Items, count}
use Rattle.format.specs.Judge.{Judged, rule, first, unless, judge}
use Rattle.format.specs.Judge.Judged.{refused, accepted}
use Rattle.format.specs.Meaning.{Meaning, meaning_of, encode}
use Rattle.format.specs.Loaded.{loaded_of}
use Rattle.format.specs.Calls.{Lent, places as places_of, roomy, stored_within, fits_lent}
use Rattle.format.specs.State.{Memory, places_in, lay_tree}
use Rattle.state.specs.Taking.{settled, taken_in, left, TakeInClaim, lent_by, loaded_into}
use Rattle.edits.proofs.Surveyed.{same-overflow}
use Rattle.merge.specs.declared.Services.{Services}
use Rattle.merge.specs.Merged.{merged}
use Rattle.merge.specs.Sizes.{records_in}
use Rattle.merge.specs.Calls.{conflict, misfit, Outcome, unless_refused, merged_into, outcome, answer_of, written_of, MergeClaim, records_size}
use Rattle.merge.specs.Calls.Outcome.{refuses, gives}
use Rattle.merge.proofs.Pure.{Pure, accepted-pure, merged-pure, pure-octets}
use Rattle.merge.proofs.Results.{merge-gives, merge-result}
use Rattle.merge.specs.declared.Merged.{Merged}
use Rattle.merge.specs.declared.MergeRefusal.{MergeRefusal}
use Rattle.merge.specs.declared.MergeRefusal.TheVariants.{Basic, Advanced, Neither}
use Rattle.merging.specs.declared.counting.Needs.{Needs}
use Rattle.merging.specs.Calls.{as_conflict, conflict_answer}
use Rattle.merging.specs.Takes.{most, piece_of, Adds}
use Rattle.merging.specs.Walks.{none_yet, ObjectPut}
use Rattle.merging.specs.Deciding.{Counted, lending, FitTold, Decided, Fills}

-- ---- decide

module _ (by : Services) (lent : Lent) where
  -- nothing is in the way of two accepted objects
  record Open (a b : Judged) : Type 0 where
    pub t : Items
    pub u : Items
    pub first : a ≡ accepted t
    pub second : b ≡ accepted u
    pub none-there : conflict by (meaning_of t) (meaning_of u) ≡ none

  -- what refuses to settle refuses to merge, for the same reason
  refused-told : (a b : Judged) (r : MergeRefusal) → Err r ≡ conflict_answer by a b → Err r ≡ answer_of (outcome by lent a b)
  unfolding conflict_answer as_conflict outcome merged_into unless_refused answer_of
  refused-told (refused x) b r q = let e : r ≡ Basic x = cc in ap Err e
  refused-told (accepted t) (refused x) r q = let e : r ≡ Advanced x = cc in ap Err e
  refused-told (accepted t) (accepted u) r q = go (conflict by (meaning_of t) (meaning_of u)) q
    where
      go : (o : Option Refusal) → Err r ≡ as_conflict o
          → Err r ≡ answer_of (unless_refused o (unless_refused (misfit lent (merged by (meaning_of t) (meaning_of u))) (gives (merged by (meaning_of t) (meaning_of u)))))
      go none e = never (cc)
      go (some x) e = let f : r ≡ Neither x = cc in ap Err f

  open_told : (a b : Judged) → Ok tt ≡ conflict_answer by a b → Open a b
  unfolding conflict_answer as_conflict
  open_told (refused x) b q = never (cc)
  open_told (accepted t) (refused x) q = never (cc)
  open_told (accepted t) (accepted u) q = go (conflict by (meaning_of t) (meaning_of u)) refl q
    where
      go : (o : Option Refusal) → conflict by (meaning_of t) (meaning_of u) ≡ o → Ok tt ≡ as_conflict o → Open (accepted t) (accepted u)
      go none e f = record { t = t; u = u; first = refl; second = refl; none-there = e }
      go (some x) e f = never (cc)

module _ (by : Services) (basic advanced : List ℕ) (places : ℕ) (store : Octets) (before : List ℕ) (k : Result (Unit {0}) MergeRefusal) (ke : k ≡ conflict_answer by (judge basic) (judge advanced)) where
  abbrev lent : Lent
  lent = lending places store (size_of before)

  pub decided-refused : (r : MergeRefusal) → k ≡ Err r → Decided by basic advanced places store before before (Err r)
  decided-refused r q = record { answers = refused-told by lent (judge basic) (judge advanced) r (sym q ∙ ke); leaves = refl }

  pub decided-free : k ≡ Ok tt → (after : List ℕ) (n : Needs) → ObjectPut false by basic advanced before after n → places < most → store.0 < most → (r : Result Merged MergeRefusal)
      → FitTold n places store (as_octets (length after)) r → Decided by basic advanced places store before after r
  unfolding ObjectPut FitTold piece_of outcome merged_into unless_refused
  decided-free q after n p lp ls r f =
      let o = open_told by lent (judge basic) (judge advanced) (sym q ∙ ke) in
      let w = merged by (meaning_of o.t) (meaning_of o.u) in
      let a = p o.t o.u o.first o.second in
      let same : after ≡ before = a.quiet refl in
      let c : Counted w n = record { records = let e = a.records in omega arith; store = let e = a.store in omega arith; octets = let e = a.octets in omega arith } in
      let r-is : r ≡ answer_of (unless_refused (misfit (lending places store (size_of before)) w) (gives w)) =
      f w c lp ls ∙ ap (λ s. answer_of (unless_refused (misfit (lending places store (size_of s)) w) (gives w))) same in
      record { answers = r-is ∙ sym (ap answer_of (ap₂ (outcome by lent) o.first o.second ∙ rw o.none-there)); leaves = same }

-- ---- fill

module _ (by : Services) (basic advanced : List ℕ) (size : ℕ) (m m' : Memory) (room room' : List ℕ) (n : Needs) (p : ObjectPut true by basic advanced room room' n) (a : Result ℕ Refusal)
    (c : TakeInClaim (between room' 0 size) (as_octets (length room')) m m' a) where
  pub fill_done : Fills by basic advanced size m m' room room'
  unfolding Fills ObjectPut piece_of taken_in settled unless first rule left fits_lent roomy
  fill_done w t g j f os e =
      let x = merge-gives by (lent_by m room) basic advanced w g in
      let put = subst (λ v. Adds true (piece_of v) none_yet room room' n) (sym x.is) (p x.basic x.advanced x.first x.second) in
      let short : length (encode w) ≤ min (length room) 32_768 = leb-true (length (encode w)) (min (length room) 32_768) x.fits.room in
      let written : room' ≡ sets room 0 (encode w) = put.holds (omega arith) in
      let k : size - 0 ≡ length (encode w) = omega arith in
      let part : between room' 0 size ≡ encode w = ap₂ (λ z r. take z (drop 0 r)) k written ∙ part-of-sets room 0 (encode w) (omega arith) in
      let long : length room' ≡ length room = put.long in
      let c' : TakeInClaim (encode w) (size_of room) m m' a = subst (λ k. TakeInClaim (encode w) (as_octets k) m m' a) long (subst (λ s. TakeInClaim s (as_octets (length room')) m m' a) part c) in
      let few = and_left (leb (count t) (places_in m)) (stored_within (lent_by m room) t) f in
      let within = and_right (leb (count t) (places_in m)) (stored_within (lent_by m room) t) f in
      record {
        writes = written;
        leaves = c'.leaves ∙ ap (λ k. left (taken_in (size_of room) m k) m) j ∙ rw (same-overflow (encode w) os (size_of room) m t j, few, within);
      }

-- ---- merge

told_size : Result Merged MergeRefusal → ℕ
told_size (Ok m) = m.size.0
told_size (Err r) = 0

empty-refused : judge [] ≡ refused (refusal 1 0)
unfolding judge rule unless
empty-refused = refl

-- what is decided of two objects that are merged
module _ (by : Services) (basic advanced : List ℕ) (places : ℕ) (store : Octets) (room room₁ : List ℕ) (answer : Result Merged MergeRefusal) (d : Decided by basic advanced places store room room₁ answer) where
  abbrev offer : Lent
  offer = lending places store (size_of room)

  -- no answer that refuses says that they are merged
  never-merged : (a b : Judged) (n : ℕ) (s : Octets) → outcome by offer a b ≡ refuses (Ok (records_size n s)) → ⊥
  unfolding outcome merged_into unless_refused
  never-merged (refused r) b n s q = never (cc)
  never-merged (accepted t) (refused r) n s q = never (cc)
  never-merged (accepted t) (accepted u) n s q = go (conflict by (meaning_of t) (meaning_of u)) (misfit offer (merged by (meaning_of t) (meaning_of u))) q
    where
      go : (c f : Option Refusal) → unless_refused c (unless_refused f (gives (merged by (meaning_of t) (meaning_of u)))) ≡ refuses (Ok (records_size n s)) → ⊥
      go none none h = never (cc)
      go none (some x) h = never (cc)
      go (some x) f h = never (cc)

  record Given (size : Octets) : Type 0 where
    pub w : Meaning
    pub is : outcome by offer (judge basic) (judge advanced) ≡ gives w
    pub long : size.0 ≡ length (encode w)

  module _ (records : ℕ) (size : Octets) (q : answer ≡ Ok (records_size records size)) where
    given : Given size
    unfolding answer_of told_size
    given = go (outcome by offer (judge basic) (judge advanced)) refl
      where
        go : (o : Outcome) → outcome by offer (judge basic) (judge advanced) ≡ o → Given size
        go (refuses x) e = absurd (never-merged (judge basic) (judge advanced) records size (e ∙ ap refuses (sym (sym q ∙ d.answers ∙ ap answer_of e))))
        go (gives w) e = record { w = w; is = e; long = ap told_size (sym q ∙ d.answers ∙ ap answer_of e) }

    fits-room : length (encode given.w) ≤ min (length room) 32_768
    unfolding roomy
    fits-room = leb-true (length (encode given.w)) (min (length room) 32_768) (merge-gives by offer basic advanced given.w given.is).fits.room

    pub merge-size : size.0 ≤ length room₁
    merge-size = omega (arith, fits-room, given.long, ap length d.leaves)

module _ (by : Services) (basic advanced : List ℕ) (m : Memory) (room room₁ : List ℕ) (places : ℕ) (pe : places ≡ min (places_of m.lists) (length m.bodies)) (answer : Result Merged MergeRefusal)
    (d : Decided by basic advanced places (as_octets (length m.store)) room room₁ answer) where
  abbrev loan : Lent
  loan = lent_by m room

  abbrev out : Outcome
  out = outcome by loan (judge basic) (judge advanced)

  same-loan : lending places (as_octets (length m.store)) (size_of room) ≡ loan
  unfolding places_in
  same-loan = ap (λ k. lending k (as_octets (length m.store)) (size_of room)) pe

  told : answer ≡ answer_of out
  told = d.answers ∙ ap (λ l. answer_of (outcome by l (judge basic) (judge advanced))) same-loan

  none_written : (o : Outcome) (x : Result Merged MergeRefusal) → o ≡ refuses x → written_of o ≡ []
  unfolding written_of
  none_written o x e = ap written_of e

  refusing : (x : Result Merged MergeRefusal) → out ≡ refuses x → MergeClaim by basic advanced m m room room₁ answer
  unfolding loaded_into
  refusing x e =
      let z = none_written out x e in
      record {
        answers = told;
        writes = d.leaves ∙ sym (ap (sets room 0) z ∙ sets-none room 0);
        leaves = sym (ap (λ s. loaded_into loan (judge s) m) z ∙ ap (λ j. loaded_into loan j m) empty-refused);
      }

  told-refused : (o : Outcome) → out ≡ o → (answer_of o ≡ answer) → ((n : ℕ) (s : Octets) → answer ≡ Ok (records_size n s) → ⊥) → MergeClaim by basic advanced m m room room₁ answer
  unfolding answer_of
  told-refused (refuses x) e q unmerged = refusing x e
  told-refused (gives w) e q unmerged = absurd (unmerged (records_in w) (size_of (encode w)) (sym q))

  pub merge-refused : (r : MergeRefusal) → answer ≡ Err r → MergeClaim by basic advanced m m room room₁ (Err r)
  merge-refused r q = subst (λ x. MergeClaim by basic advanced m m room room₁ x) q (told-refused out refl (sym told) (λ n s e. never (cc)))

  pub merge-done : (records : ℕ) (size : Octets) → answer ≡ Ok (records_size records size) → OctetList basic → OctetList advanced → (m' : Memory) (room' : List ℕ) → Fills by basic advanced size.0 m m' room₁ room'
      → MergeClaim by basic advanced m m' room room' (Ok (records_size records size))
  unfolding Fills written_of loaded_into
  merge-done records size q ob oa m' room' f =
      let g = given by basic advanced places (as_octets (length m.store)) room room₁ answer d records size q in
      let short = fits-room by basic advanced places (as_octets (length m.store)) room room₁ answer d records size q in
      let w = g.w in
      let is : out ≡ gives w = ap (λ l. outcome by l (judge basic) (judge advanced)) (sym same-loan) ∙ g.is in
      let r = merge-result by loan basic advanced w ob oa is in
      let b = r.both in
      let pure = merged-pure by (meaning_of b.basic) (meaning_of b.advanced) (accepted-pure basic b.basic ob b.first) (accepted-pure advanced b.advanced oa b.second) in
      let l : length (encode w) ≤ 32_768 = omega (arith, short) in
      let os : OctetList (encode w) = pure-octets w (subst (λ x. Pure x) (sym b.is) pure) (omega arith) in
      let h = subst (λ s. Fills by basic advanced size.0 m m' s room') d.leaves f w r.again.tree is r.again.accepts r.fits os g.long in
      record {
        answers = sym q ∙ told;
        writes = h.writes ∙ ap (λ o. sets room 0 (written_of o)) (sym is);
        leaves = h.leaves
            ∙ sym (ap (λ o. loaded_into loan (judge (written_of o)) m) is ∙ ap (λ j. loaded_into loan j m) r.again.accepts ∙ ap (λ y. cond y (lay_tree (loaded_of r.again.tree) m) m) r.fits);
      }
