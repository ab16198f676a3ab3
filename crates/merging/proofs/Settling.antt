-- The ways through settle and find_conflict.
use Rattle.std.specs.Prelude.{Result, Ok, Err}
use mathlib.Core.Path.{◌≡◌, refl, sym, ap, ap₂, ◌∙◌}
use mathlib.Core.Bool.{Bool, true, false, not, ◌&&◌, ◌||◌}
use mathlib.Core.Option.{Option, some}
use mathlib.Core.List.{List, [], ◌∷◌}
use Prim.Native.Nat.{ℕ, suc, ◌+◌, ◌<◌}
use native.Mathlib.Omega.{arith}
use lib.Dec.{eqb}
use lib.ListN.{length, get_or}
use borrow.Author.Tests.{eq-eqb, ne_eqb}
use Rattle.octets.specs.Header.{header_size, body_size}
use Rattle.octets.specs.Places.{first_body, after_first}
use Rattle.values.specs.declared.Kind.TheVariants.{HoldsItems}
use Rattle.values.specs.Table.{known}
use Rattle.values.specs.Values.{Value}
use Rattle.format.specs.declared.Refusal.{Refusal}
use Rattle.format.specs.declared.Counts.{Counts}
use Rattle.format.specs.Answers.{refusal}
use Rattle.format.specs.Tree.{Items}
use Rattle.format.specs.Tree.Items.{item}
use Rattle.format.specs.Judge.{is_items, rule, first, judge, outermost, read}
use Rattle.format.specs.Judge.Judged.{accepted}
use Rattle.format.specs.Meaning.{Meaning, attributes_in, cdata_in, means, table_of, meaning_of}
use Rattle.format.specs.Meaning.Meaning.{element}
use Rattle.format.specs.Headers.{headers_of}
use Rattle.format.specs.Calls.{judge_answer}
use Rattle.format.proofs.Means.{means-element}
use Rattle.format.proofs.Rules.{held, unless-none, accepted-size, accepted-read}
use Rattle.format.proofs.Fuel.{read-item}
use Rattle.format.proofs.Force.{top-known}
use Rattle.reader.specs.Filling.{share}
use Rattle.reader.proofs.Opening.{opened}
use Rattle.reader.proofs.Reading.{was-refused, was-accepted, whole}
use Rattle.merge.specs.declared.Services.{Services}
use Rattle.merge.specs.declared.MergeRefusal.{MergeRefusal}
use Rattle.merge.specs.declared.MergeRefusal.TheVariants.{Basic, Advanced, Neither}
use Rattle.merge.specs.Merged.{clash, same_top, twice}
use Rattle.merge.specs.Calls.{conflict}
use Rattle.merging.specs.Calls.{as_conflict, conflict_answer, HasTwice, HasClash, Settles}

-- ---- the meaning of an accepted object is one element with the tag of its first octet

top-opens : (o : List ℕ) (t : Items) → 0 < length o → read outermost 0 o ≡ accepted t → known 0 (get_or o 0 0) ≡ some HoldsItems
unfolding outermost
top-opens [] t l q = absurd (omega arith)
top-opens (tag ∷ rest) t l q =
    let s = tag ∷ rest in
    let b = unless-none _ _ t (sym (read-item outermost 0 tag rest (header_size s) (body_size s) (first_body s) (after_first s) refl refl refl refl) ∙ q) in
    top-known tag (held outermost 0 tag (header_size s) (body_size s) (suc (length rest)) (first_body s) b).allow

record Topped (o : List ℕ) (m : Meaning) : Type 0 where
  attributes : ℕ → Option Value
  children : Meaning
  cdata : Option (List ℕ)
  after : Meaning
  is : m ≡ element (get_or o 0 0) attributes children cdata after

topped : (o : List ℕ) (t : Items) → judge o ≡ accepted t → Topped o (meaning_of t)
unfolding share is_items
topped o t h =
    let l = (accepted-size o t h).0 in
    let k : known 0 (get_or o 0 0) ≡ some HoldsItems = top-opens o t l (accepted-read o t h) in
    let m = opened 0 1 0 o t l (whole o t h) in
    let e : t ≡ item (get_or o 0 0) (0 + header_size o) (first_body o) m.u m.v = m.tree ∙ rw k in
    record {
      attributes = attributes_in (table_of t) (get_or o 0 0) m.u;
      children = means (table_of t) m.u;
      cdata = cdata_in (table_of t) m.u;
      after = means (table_of t) m.v;
      is = ap (means (table_of t)) e ∙ means-element (table_of t) (get_or o 0 0) (0 + header_size o) (first_body o) m.u m.v k;
    }

tops : (o p : List ℕ) (t u : Items) → judge o ≡ accepted t → judge p ≡ accepted u → same_top (meaning_of t) (meaning_of u) ≡ eqb (get_or o 0 0) (get_or p 0 0)
unfolding same_top
tops o p t u h g = ap₂ same_top (topped o t h).is (topped p u g).is

-- ---- settle

answered : (by : Services) (m n : Meaning) (s c x y : Bool) → same_top m n ≡ s → clash by m n ≡ c → twice by m ≡ x → twice by n ≡ y
    → as_conflict (conflict by m n) ≡ as_conflict (first (rule 20 0 (s && not c) ∷ rule 21 0 (not (x || y)) ∷ []))
unfolding conflict
answered by m n s c x y p q f g = rw (p, q, f, g)

module _ (by : Services) (o p : List ℕ) where
  pub settle-tops : (a b : ℕ) → a ≡ get_or o 0 0 → b ≡ get_or p 0 0 → (a ≡ b → ⊥) → Settles by o p (Err (Neither (refusal 20 0)))
  unfolding Settles as_conflict first rule
  settle-tops a b ae be n t u h g =
      sym (answered by (meaning_of t) (meaning_of u) false (clash by (meaning_of t) (meaning_of u)) (twice by (meaning_of t)) (twice by (meaning_of u))
      (tops o p t u h g ∙ ne_eqb (get_or o 0 0) (get_or p 0 0) (λ q. n (ae ∙ (q ∙ sym be)))) refl refl refl)

  module _ (a b : ℕ) (ae : a ≡ get_or o 0 0) (be : b ≡ get_or p 0 0) (e : a ≡ b) (c : Bool) (cs : HasClash by o p c) where
    same-tops : (t u : Items) → judge o ≡ accepted t → judge p ≡ accepted u → same_top (meaning_of t) (meaning_of u) ≡ true
    same-tops t u h g = tops o p t u h g ∙ eq-eqb (get_or o 0 0) (get_or p 0 0) (sym ae ∙ (e ∙ be))

    pub settle-clash : c ≡ true → Settles by o p (Err (Neither (refusal 20 0)))
    unfolding Settles HasClash as_conflict first rule
    settle-clash q t u h g =
        sym (answered by (meaning_of t) (meaning_of u) true true (twice by (meaning_of t)) (twice by (meaning_of u)) (same-tops t u h g) (sym (cs t u h g) ∙ q) refl refl)

    module _ (n : c ≡ false) (x : Bool) (xs : HasTwice by o x) where
      pub settle-basic : x ≡ true → Settles by o p (Err (Neither (refusal 21 0)))
      unfolding Settles HasClash HasTwice as_conflict first rule
      settle-basic q t u h g =
          sym (answered by (meaning_of t) (meaning_of u) true false true (twice by (meaning_of u)) (same-tops t u h g) (sym (cs t u h g) ∙ n) (sym (xs t h) ∙ q) refl)

      module _ (m : x ≡ false) (y : Bool) (ys : HasTwice by p y) where
        pub settle-advanced : y ≡ true → Settles by o p (Err (Neither (refusal 21 0)))
        unfolding Settles HasClash HasTwice as_conflict first rule
        settle-advanced q t u h g =
            sym (answered by (meaning_of t) (meaning_of u) true false false true (same-tops t u h g) (sym (cs t u h g) ∙ n) (sym (xs t h) ∙ m) (sym (ys u g) ∙ q))

        pub settle-free : y ≡ false → Settles by o p (Ok tt)
        unfolding Settles HasClash HasTwice as_conflict first rule
        settle-free q t u h g =
            sym (answered by (meaning_of t) (meaning_of u) true false false false (same-tops t u h g) (sym (cs t u h g) ∙ n) (sym (xs t h) ∙ m) (sym (ys u g) ∙ q))

-- a refusal that was made by its number
pub settled-by : (by : Services) (o p : List ℕ) (n : ℕ) (r : MergeRefusal) → r ≡ Neither (refusal n 0) → Settles by o p (Err (Neither (refusal n 0))) → Settles by o p (Err r)
settled-by by o p n r e s = rw e s

pub ruleset settle-ways = (settle-tops, settle-clash, settle-basic, settle-advanced, settle-free, settled-by)

-- ---- find_conflict

module _ (by : Services) (a b : List ℕ) (ra : Result Counts Refusal) (ae : ra ≡ judge_answer (headers_of a) (judge a)) where
  pub conflict-basic : (n : Refusal) → ra ≡ Err n → Err (Basic n) ≡ conflict_answer by (judge a) (judge b)
  unfolding conflict_answer
  conflict-basic n q = sym (ap (λ j. conflict_answer by j (judge b)) (was-refused (headers_of a) (judge a) n (sym q ∙ ae)))

  module _ (m : Counts) (q : ra ≡ Ok m) (rb : Result Counts Refusal) (be : rb ≡ judge_answer (headers_of b) (judge b)) where
    pub conflict-advanced : (n : Refusal) → rb ≡ Err n → Err (Advanced n) ≡ conflict_answer by (judge a) (judge b)
    unfolding conflict_answer
    conflict-advanced n p = sym (ap₂ (conflict_answer by) (was-accepted (headers_of a) (judge a) m (sym q ∙ ae)).is (was-refused (headers_of b) (judge b) n (sym p ∙ be)))

    pub conflict-both : (n : Counts) → rb ≡ Ok n → (r : Result (Unit {0}) MergeRefusal) → Settles by a b r → r ≡ conflict_answer by (judge a) (judge b)
    unfolding conflict_answer Settles
    conflict-both n p r c =
        let x = was-accepted (headers_of a) (judge a) m (sym q ∙ ae) in
        let y = was-accepted (headers_of b) (judge b) n (sym p ∙ be) in
        c x.tree y.tree x.is y.is ∙ sym (ap₂ (conflict_answer by) x.is y.is)

pub ruleset conflict-ways = (conflict-basic, conflict-advanced, conflict-both)
