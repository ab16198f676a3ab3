-- What merging two accepted objects gives: its result is an object's meaning, has all of both and nothing else, and obeys demands 2 and 3; with an empty
-- Advanced object it is Basic's (change request 2026-10).
use Rattle.std.specs.Prelude.{Result as Answered}
use mathlib.Core.Path.{◌≡◌, refl, sym, ap, ◌∙◌, subst}
use mathlib.Core.Bool.{true, false, cond, not, ◌&&◌, ◌||◌}
use mathlib.Core.Option.{Option, none, some}
use mathlib.Core.List.{List, [], ◌∷◌}
use Prim.Native.Nat.{ℕ, ◌≤◌, min}
use native.Mathlib.Omega.{arith}
use lib.Dec.{leb}
use lib.ListN.{length}
use borrow.Author.Tests.{not-true, leb-true, le-leb}
use Rattle.octets.specs.Numbers.{Octets}
use Rattle.octets.specs.Counts.{as_octets, octets_within}
use Rattle.format.specs.declared.Refusal.{Refusal}
use Rattle.format.specs.Tree.{Items}
use Rattle.format.specs.Judge.{Judged, rule, first, judge}
use Rattle.format.specs.Judge.Judged.{refused, accepted}
use Rattle.format.specs.Meaning.{Meaning, meaning_of, encode}
use Rattle.format.specs.Loaded.{loaded_of}
use Rattle.format.specs.Calls.{Lent, roomy, stored_within, fits_lent}
use Rattle.format.specs.State.{Memory, lay_tree}
use Rattle.format.specs.WellFormed.{ObjectOk}
use Rattle.state.specs.Taking.{lent_by, loaded_into}
use Rattle.octets.proofs.Tests.{and_left, and_right, or_right_false, never}
use Rattle.format.proofs.Rules.{first_head, first_tail, first_one, rule-true}
use Rattle.format.proofs.Normal.{accepted-ok}
use Rattle.format.proofs.Headers.{few}
use Rattle.survey.proofs.WholeSizes.{store-less}
use Rattle.merge.specs.declared.Services.{Services}
use Rattle.merge.specs.Merged.{merged, clash, same_top, twice}
use Rattle.merge.specs.Kept.{empty_top, Mergeable, InOrder, AnyOrder, Comes}
use Rattle.merge.specs.Sizes.{records_in, stored_in}
use Rattle.merge.specs.Calls.{conflict, misfit, Outcome, unless_refused, merged_into, outcome, written_of, MergeClaim}
use Rattle.merge.specs.Calls.Outcome.{gives}
use Rattle.merge.proofs.Empty.{merged-empty, empty-quiet, empty-once}
use Rattle.merge.proofs.Fine.{merged-ok}
use Rattle.merge.proofs.Basic.{basic-kept}
use Rattle.merge.proofs.Self.{or-false-left}
use Rattle.merge.proofs.Advanced.{advanced-kept}
use Rattle.merge.proofs.Comes.{all-comes}
use Rattle.merge.proofs.Pure.{accepted-pure, merged-pure, pure-octets}
use Rattle.merge.proofs.Sizes.{Taken, taken_in}
use Rattle.merge.specs.declared.Merged.{Merged}
use Rattle.merge.specs.declared.MergeRefusal.{MergeRefusal}

-- ---- where nothing is refused

-- 20 and 21 don't come
pub mergeable : (by : Services) (m n : Meaning) → conflict by m n ≡ none → Mergeable by m n
unfolding conflict
mergeable by m n h =
    let twenty = rule 20 0 (same_top m n && not (clash by m n)) in
    let more = rule 21 0 (not (twice by m || twice by n)) in
    let a = rule-true 20 0 (same_top m n && not (clash by m n)) (first_head twenty (more ∷ []) h) in
    let b = not-true (twice by m || twice by n) (rule-true 21 0 (not (twice by m || twice by n)) (sym (first_one more) ∙ first_tail twenty (more ∷ []) h)) in
    record {
      tops = and_left (same_top m n) (not (clash by m n)) a;
      quiet = not-true (clash by m n) (and_right (same_top m n) (not (clash by m n)) a);
      basic_once = or-false-left (twice by m) (twice by n) b;
      advanced_once = or_right_false (twice by m) (twice by n) b;
    }

-- nor 14 and 15
pub record Fits (lent : Lent) (m : Meaning) : Type 0 where
  pub records : leb (records_in m) lent.records ≡ true
  pub store : octets_within (as_octets (stored_in m)) lent.store ≡ true
  pub room : roomy lent.room (encode m) ≡ true

pub fits-lent : (lent : Lent) (m : Meaning) → misfit lent m ≡ none → Fits lent m
unfolding misfit
fits-lent lent m h =
    let places = leb (records_in m) lent.records in
    let stored = octets_within (as_octets (stored_in m)) lent.store in
    let written = roomy lent.room (encode m) in
    let both = rule-true 15 0 (stored && written) (sym (first_one (rule 15 0 (stored && written))) ∙ first_tail (rule 14 0 places) (rule 15 0 (stored && written) ∷ []) h) in
    record { records = rule-true 14 0 places (first_head (rule 14 0 places) (rule 15 0 (stored && written) ∷ []) h); store = and_left stored written both; room = and_right stored written both }

pub small : (lent : Lent) (m : Meaning) → Fits lent m → length (encode m) ≤ 32_768
unfolding roomy
small lent m f = let l = leb-true (length (encode m)) (min lent.room.0 32_768) f.room in omega arith

-- two objects that are merged into a meaning
pub record Gives (by : Services) (lent : Lent) (o p : List ℕ) (w : Meaning) : Type 0 where
  pub basic : Items
  pub advanced : Items
  pub first : judge o ≡ accepted basic
  pub second : judge p ≡ accepted advanced
  pub can : Mergeable by (meaning_of basic) (meaning_of advanced)
  pub is : w ≡ merged by (meaning_of basic) (meaning_of advanced)
  pub fits : Fits lent w

given-unless : (r : Option Refusal) (o : Outcome) (w : Meaning) → unless_refused r o ≡ gives w → (r ≡ none) × (o ≡ gives w)
unfolding unless_refused
given-unless none o w h = (refl, h)
given-unless (some r) o w h = never (cc)

given_is : (m w : Meaning) → gives m ≡ gives w → m ≡ w
given_is m w h = cc

given : (by : Services) (lent : Lent) (o p : List ℕ) (w : Meaning) (b a : Judged) → judge o ≡ b → judge p ≡ a → outcome by lent b a ≡ gives w → Gives by lent o p w
unfolding outcome merged_into
given by lent o p w (refused r) a e f h = never (cc)
given by lent o p w (accepted t) (refused r) e f h = never (cc)
given by lent o p w (accepted t) (accepted u) e f h =
    let m = meaning_of t in
    let n = meaning_of u in
    let x = given-unless (conflict by m n) (unless_refused (misfit lent (merged by m n)) (gives (merged by m n))) w h in
    let y = given-unless (misfit lent (merged by m n)) (gives (merged by m n)) w x.1 in
    let z : merged by m n ≡ w = given_is (merged by m n) w y.1 in
    record { basic = t; advanced = u; first = e; second = f; can = mergeable by m n x.0; is = sym z; fits = subst (Fits lent) z (fits-lent lent (merged by m n) y.0) }

pub merge-gives : (by : Services) (lent : Lent) (o p : List ℕ) (w : Meaning) → outcome by lent (judge o) (judge p) ≡ gives w → Gives by lent o p w
merge-gives by lent o p w h = given by lent o p w (judge o) (judge p) refl refl h

-- ---- the result

-- two accepted objects with one top tag, merged into what is no longer than an object: that is an object's meaning, and its normal form is accepted
module _ (by : Services) (o p : List ℕ) (t u : Items) (os : Octets o) (ps : Octets p) (h : judge o ≡ accepted t) (g : judge p ≡ accepted u)
    (tops : same_top (meaning_of t) (meaning_of u) ≡ true) where
  pair_ok : ObjectOk (merged by (meaning_of t) (meaning_of u))
  pair_ok = merged-ok by (meaning_of t) (meaning_of u) (accepted-ok o t os h) (accepted-ok p u ps g) tops

  module _ (l : length (encode (merged by (meaning_of t) (meaning_of u))) ≤ 32_768) where
    pair-octets : Octets (encode (merged by (meaning_of t) (meaning_of u)))
    pair-octets =
        pure-octets (merged by (meaning_of t) (meaning_of u)) (merged-pure by (meaning_of t) (meaning_of u) (accepted-pure o t os h) (accepted-pure p u ps g)) (omega arith)

    pair-taken : Taken (merged by (meaning_of t) (meaning_of u))
    pair-taken = taken_in (merged by (meaning_of t) (meaning_of u)) pair_ok pair-octets l

    -- neither 14 nor 15 comes then where 16,384 places and 32,768 octets of store and of room are lent
    pub merge-suffices : (lent : Lent) → 16_384 ≤ lent.records → 32_768 ≤ lent.store.0 → 32_768 ≤ lent.room.0 → misfit lent (merged by (meaning_of t) (meaning_of u)) ≡ none
    unfolding misfit first rule roomy
    merge-suffices lent a b c =
        let w = merged by (meaning_of t) (meaning_of u) in
        let k = pair-taken in
        let places = few (encode w) k.tree k.accepts in
        let stored = store-less (encode w) k.tree pair-octets k.accepts in
        rw (le-leb (records_in w) lent.records (omega (arith, places, k.records)), le-leb (stored_in w) lent.store.0 (omega (arith, stored, k.store, ap length k.itself)), le-leb (length (encode w)) (min lent.room.0 32_768) (omega arith))

-- it is a meaning that an object can have, so that 16 can't come; all of Basic is in it, in order, and all of Advanced, and nothing else. Its normal form is
-- accepted, means it and normalises to itself (demands 2 and 3); and the tree of that normal form fits what is lent
pub record Result (by : Services) (lent : Lent) (o p : List ℕ) (w : Meaning) : Type 0 where
  pub both : Gives by lent o p w
  pub object : ObjectOk w
  pub basic : InOrder (meaning_of both.basic) w
  pub advanced : AnyOrder (meaning_of both.advanced) w
  pub comes : Comes (meaning_of both.basic) (meaning_of both.advanced) w
  pub again : Taken w
  pub fits : fits_lent lent again.tree ≡ true

tree-fits : (lent : Lent) (m : Meaning) (k : Taken m) → Fits lent m → fits_lent lent k.tree ≡ true
unfolding fits_lent stored_within
tree-fits lent m k f = rw (k.records, k.store, k.itself, f.records, f.store) f.room

pub merge-result : (by : Services) (lent : Lent) (o p : List ℕ) (w : Meaning) → Octets o → Octets p → outcome by lent (judge o) (judge p) ≡ gives w → Result by lent o p w
merge-result by lent o p w os ps h =
    let g = merge-gives by lent o p w h in
    let t = g.basic in
    let u = g.advanced in
    let m = meaning_of t in
    let n = meaning_of u in
    let ok_m = accepted-ok o t os g.first in
    let ok_n = accepted-ok p u ps g.second in
    let l : length (encode (merged by m n)) ≤ 32_768 = subst (λ x. length (encode x) ≤ 32_768) g.is (small lent w g.fits) in
    let k : Taken w = subst (λ x. Taken x) (sym g.is) (pair-taken by o p t u os ps g.first g.second g.can.tops l) in
    record {
      both = g;
      object = subst (λ x. ObjectOk x) (sym g.is) (pair_ok by o p t u os ps g.first g.second g.can.tops);
      basic = subst (λ x. InOrder m x) (sym g.is) (basic-kept by m n);
      advanced = subst (λ x. AnyOrder n x) (sym g.is) (advanced-kept by m n ok_m ok_n g.can.tops g.can.quiet g.can.advanced_once);
      comes = subst (λ x. Comes m n x) (sym g.is) (all-comes by m n);
      again = k;
      fits = tree-fits lent w k g.fits;
    }

-- the claim says then that memory holds the tree of the result's normal form, laid as taking it in lays it
pub merge-leaves : (by : Services) (o p : List ℕ) (m m' : Memory) (room room' : List ℕ) (answer : Answered Merged MergeRefusal) (w : Meaning) → MergeClaim by o p m m' room room' answer
    → outcome by (lent_by m room) (judge o) (judge p) ≡ gives w → (r : Result by (lent_by m room) o p w) → m' ≡ lay_tree (loaded_of r.again.tree) m
unfolding loaded_into written_of
merge-leaves by o p m m' room room' answer w c h r =
    c.leaves
    ∙ (ap (λ x. loaded_into (lent_by m room) (judge (written_of x)) m) h
    ∙ (ap (λ j. loaded_into (lent_by m room) j m) r.again.accepts ∙ ap (λ b. cond b (lay_tree (loaded_of r.again.tree) m) m) r.fits))

-- ---- an empty Advanced object

-- "Merging with an Advanced object whose top is empty gives Basic's meaning, where Basic holds no key twice and the result fits"
pub merge-empty : (by : Services) (lent : Lent) (o p : List ℕ) (t u : Items) (tag : ℕ) → Octets o → judge o ≡ accepted t → judge p ≡ accepted u → meaning_of u ≡ empty_top tag
    → same_top (meaning_of t) (empty_top tag) ≡ true → twice by (meaning_of t) ≡ false → misfit lent (meaning_of t) ≡ none → outcome by lent (judge o) (judge p) ≡ gives (meaning_of t)
unfolding outcome merged_into unless_refused conflict first rule
merge-empty by lent o p t u tag os h g e s k f =
    let ok = accepted-ok o t os h in
    rw (h, g, e, s, empty-quiet by (meaning_of t) tag ok, k, empty-once by tag, merged-empty by (meaning_of t) tag ok s, f)
