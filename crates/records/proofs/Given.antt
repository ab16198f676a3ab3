-- Whether a tree was given, one law for each way through the code of `is_well_formed`.
use Prim.Native.Nat.{ℕ, suc, ◌≤◌, ◌<◌}
use mathlib.Core.Path.{◌≡◌, refl, sym, ap, ◌∙◌}
use mathlib.Core.List.{List}
use mathlib.Core.Option.{Option as Maybe, none, some}
use mathlib.Core.Bool.{Bool, true, false, cond, ◌&&◌, and-false}
use lib.Dec.{eqb, leb}
use native.Mathlib.Omega.{arith}
use borrow.Author.Tests.{lt-ltb, lt-leb, le-leb}
use Rattle.std.specs.Prelude.{Option, Some}
use Rattle.std.specs.Option.{option_eq}
use Rattle.format.specs.Writer.{at_top, walk, tree, to_end, rebuilt}
use Rattle.format.specs.Calls.{Lists, row, places, tree_given}
use Rattle.format.proofs.Walk.{whole-walk}
use Rattle.records.specs.Check.{is_given, first_in, walked, told}
use Rattle.records.specs.declared.check.Parent.{Parent}

-- above the top
abbrev above : Parent
above = record { tag = 0; number = 0; depth = 1 }

-- a tree is given where there are places and the walk comes to the end
pub given_is : (n : ℕ) (l : Lists) (lent : List ℕ) → is_given (tree_given n l lent) ≡ leb n (places l) && to_end n (walked l n lent (first_in above) 0 0)
unfolding is_given tree_given rebuilt walked at_top
given_is n l lent = go (leb n (places l)) (to_end n (walk (suc n) (row l) n lent at_top 0 0)) ∙ ap (λ o. leb n (places l) && to_end n o) (whole-walk (row l) n lent at_top 0)
  where
    go : (a b : Bool) → is_given (cond a (cond b (some (tree (suc n) (row l) n lent 1 0).0) none) none) ≡ a && b
    go true true = refl
    go true false = refl
    go false b = refl

end-zero : (o : Maybe ℕ) → to_end 0 o ≡ false
unfolding to_end
end-zero none = refl
end-zero (some j) = refl

module _ (n : ℕ) (l : Lists) (lent : List ℕ) where
  pub given-none : n ≡ 0 → false ≡ is_given (tree_given n l lent)
  given-none e = sym (given_is n l lent ∙ ap (λ x. leb n (places l) && x) (ap (λ m. to_end m (walked l n lent (first_in above) 0 0)) e ∙ end-zero (walked l n lent (first_in above) 0 0)) ∙ and-false (leb n (places l)))

  module _ (k : ℕ) (e : k ≡ places l) where
    pub given-beyond : k < n → false ≡ is_given (tree_given n l lent)
    given-beyond f = rw (given_is n l lent, lt-leb n (places l) (omega (arith, e)))

    module _ (f : n ≤ k) (v : Option ℕ) (ve : v ≡ told (walked l n lent (first_in above) 0 0)) where
      listed : leb n (places l) ≡ true
      listed = le-leb n (places l) (omega (arith, e))

      -- the number of records is where the walk ends, if it does
      ended : (o : Maybe ℕ) → (n ≡ 0 → ⊥) → option_eq eqb (told o) (Some n) ≡ to_end n o
      unfolding told to_end
      ended none z = refl
      ended (some j) z = rw (lt-ltb 0 n (omega arith))

      pub given-end : (n ≡ 0 → ⊥) → option_eq eqb v (Some n) ≡ is_given (tree_given n l lent)
      given-end z = rw (given_is n l lent, listed, ve) (ended (walked l n lent (first_in above) 0 0) z)

pub ruleset given-ways = (given-none, given-beyond, given-end)
