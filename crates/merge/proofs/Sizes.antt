-- What a meaning takes of memory is what the tree of its normal form takes; and what elements and others behind them take is the sum.
use mathlib.Core.Path.{◌≡◌, refl, ap, ◌∙◌}
use mathlib.Core.Option.{Option, none, some}
use Prim.Native.Nat.{ℕ, zero, suc, ◌+◌, ◌≤◌}
use native.Mathlib.Omega.{arith}
use lib.ListN.{length}
use Rattle.octets.specs.Numbers.{Octets}
use Rattle.values.specs.Values.{Value, octets_of}
use Rattle.format.specs.Tree.{Items, count}
use Rattle.format.specs.Judge.{judge}
use Rattle.format.specs.Judge.Judged.{accepted}
use Rattle.format.specs.Meaning.{Meaning, meaning_of, means, encode, normal_of}
use Rattle.format.specs.Meaning.Meaning.{nothing, element, leaf}
use Rattle.format.specs.Loaded.{store_of}
use Rattle.format.specs.WellFormed.{ObjectOk}
use Rattle.format.proofs.Sums.{sum}
use Rattle.format.proofs.Takes.{if_any, of_set, of_meaning, in_records, in_store, records-means, store-means}
use Rattle.format.proofs.Round.{reread}
use Rattle.merge.specs.Merged.{then}
use Rattle.merge.specs.Sizes.{taken, taken_by, records_in, stored_in}

taken-any : {A : Type 0} (f : A → ℕ) (o : Option A) → taken f o ≡ if_any f o
unfolding taken if_any
taken-any f none = refl
taken-any f (some a) = refl

taken-sum : (g : Value → ℕ) (k a : ℕ) (f : ℕ → Option Value) → taken_by g k a f ≡ sum k a (λ t. if_any g (f t))
unfolding taken_by sum
taken-sum g zero a f = refl
taken-sum g (suc k) a f = rw (taken-any g (f a), taken-sum g k (suc a) f)

records-of : (m : Meaning) → records_in m ≡ of_meaning in_records m
unfolding records_in of_meaning of_set
records-of nothing = refl
records-of (element tag f m c after) = rw (taken-sum (λ v. 1) 128 0x80 f, records-of m, taken-any (λ o. 1) c, records-of after) (omega arith)
records-of (leaf tag o after) = rw (records-of after)

stored_of : (m : Meaning) → stored_in m ≡ of_meaning in_store m
unfolding stored_in of_meaning of_set
stored_of nothing = refl
stored_of (element tag f m c after) = rw (taken-sum (λ v. length (octets_of v)) 128 0x80 f, stored_of m, taken-any length c, stored_of after)
stored_of (leaf tag o after) = rw (stored_of after)

-- ---- the tree of a normal form

-- it means what was written, and takes what that says
pub record Taken (m : Meaning) : Type 0 where
  pub tree : Items
  pub accepts : judge (encode m) ≡ accepted tree
  pub means-it : meaning_of tree ≡ m
  pub itself : normal_of tree ≡ encode m
  pub records : count tree ≡ records_in m
  pub store : length (store_of tree) ≡ stored_in m

pub taken_in : (m : Meaning) → ObjectOk m → Octets (encode m) → length (encode m) ≤ 32_768 → Taken m
taken_in m ok os l =
    let r = reread m ok l in
    let t = r.tree in
    let e : meaning_of t ≡ m = ap (λ T. means T t) r.table ∙ r.means-it in
    record {
      tree = t;
      accepts = r.accepts;
      means-it = e;
      itself = ap encode e;
      records = records-means (encode m) t os r.accepts ∙ rw (r.bare, e) (omega (arith, records-of m));
      store = store-means (encode m) t os r.accepts ∙ rw (r.bare, e) (omega (arith, stored_of m));
    }

-- ---- elements, then others

pub records-then : (m n : Meaning) → records_in (then m n) ≡ records_in m + records_in n
unfolding records_in then
records-then nothing n = omega arith
records-then (element tag f m c after) n = let x = records-then after n in omega arith
records-then (leaf tag o after) n = let x = records-then after n in omega arith

pub stored-then : (m n : Meaning) → stored_in (then m n) ≡ stored_in m + stored_in n
unfolding stored_in then
stored-then nothing n = omega arith
stored-then (element tag f m c after) n = let x = stored-then after n in omega arith
stored-then (leaf tag o after) n = let x = stored-then after n in omega arith
