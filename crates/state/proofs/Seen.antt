-- What the check of memory answers, one law for each way through its code.
use Rattle.std.specs.Prelude.{None, Option as Optional}
use mathlib.Core.Path.{◌≡◌, refl, sym, ap, ◌∙◌, subst}
use mathlib.Core.Bool.{Bool, true, false, cond, not, ◌&&◌, false≢true}
use mathlib.Core.Option.{Option, none, some, some-injective, none-ne-some}
use mathlib.Core.List.{List, []}
use Prim.Native.Nat.{ℕ, ◌≤◌, ◌<◌}
use native.Mathlib.Omega.{arith}
use lib.Dec.{leb}
use lib.ListN.{length, take}
use borrow.Author.Tests.{leb-true, le-leb, not-true, not-false}
use Rattle.octets.proofs.Tests.{and_left, and_right, and-true}
use Rattle.format.specs.Tree.{Items}
use Rattle.format.specs.Meaning.{means, encode}
use Rattle.format.specs.Writer.{rebuilt}
use Rattle.format.specs.Loaded.{store_in}
use Rattle.format.specs.Same.{same_octets}
use Rattle.format.specs.Calls.{Lists, places, row, tree_given}
use Rattle.format.specs.State.{Memory, body_sizes, packed, same_items, tree_held}
use Rattle.format.proofs.Rebuilt.{Whole, rebuilt-whole}
use Rattle.format.proofs.Same.{same-octets, octets-same}
use Rattle.records.specs.Check.{is_given}
use Rattle.state.specs.Order.{HasPlaces, held_as, filled_in, as_filled, right_in, no_sums}
use Rattle.state.proofs.HeldTree.{Held, held, is_held, items-same, same-items}
use Rattle.state.proofs.Order.{flat-packed}
use Rattle.state.proofs.SizesHeld.{right-sizes}

has_all : (n : ℕ) (l : Lists) → n ≤ places l → HasPlaces n l
unfolding places
has_all n l h = (omega arith, omega arith, omega arith, omega arith, omega arith, omega arith)

-- records that are a tree have places in all six lists
pub has-places : (n : ℕ) (l : Lists) (store : List ℕ) (b : Bool) → b ≡ is_given (tree_given n l store) → not b ≡ false → HasPlaces n l
unfolding is_given tree_given
has-places n l store b e q = go (leb n (places l)) refl
  where
    go : (c : Bool) → leb n (places l) ≡ c → HasPlaces n l
    go true p = has_all n l (leb-true n (places l) p)
    go false p = absurd (false≢true (sym (e ∙ ap (λ z. is_given (cond z (rebuilt (row l) n store) none)) p) ∙ not-false b q))

module _ (n : ℕ) (m : Memory) where
  -- no tree is held where what is known of one would be absurd
  none-held : ((t : Items) → Held n m t → ⊥) → None ≡ held_as (tree_held n m)
  unfolding held_as
  none-held f = go (tree_held n m) refl
    where
      go : (o : Option Items) → tree_held n m ≡ o → None ≡ held_as o
      go none e = refl
      go (some t) e = absurd (f t (held n m t e))

  -- of a tree that is held the sizes are right
  sizes-right : (t : Items) → Held n m t → right_in m n no_sums ≡ true
  sizes-right t h =
      right-sizes (row m.lists) n m.store m.bodies t h.whole h.fewer h.packs
      ∙ and-true (same_octets (take n m.bodies) (body_sizes 0 t)) (leb (length (encode (means [] t))) 32_768)
      (subst (λ z. same_octets z (body_sizes 0 t) ≡ true) (sym h.sizes) (octets-same (body_sizes 0 t))) (le-leb (length (encode (means [] t))) 32_768 h.small)

  pub seen_few : length m.bodies < n → None ≡ held_as (tree_held n m)
  seen_few h = none-held (λ t v. omega (arith, v.fewer))

  module _ (b : Bool) (e : b ≡ is_given (tree_given n m.lists m.store)) where
    pub seen-ill : not b ≡ true → None ≡ held_as (tree_held n m)
    unfolding is_given
    seen-ill q = none-held (λ t v. false≢true (sym (not-true b q) ∙ (e ∙ ap is_given v.given)))

    module _ (q : not b ≡ false) where
      given : (t : Items) × (tree_given n m.lists m.store ≡ some t) × Whole (row m.lists) n m.store t
      unfolding is_given tree_given
      given = go (tree_given n m.lists m.store) refl
        where
          whole : (t : Items) (c : Bool) → cond c (rebuilt (row m.lists) n m.store) none ≡ some t → rebuilt (row m.lists) n m.store ≡ some t
          whole t true h = h
          whole t false h = absurd (none-ne-some t h)

          go : (o : Option Items) → tree_given n m.lists m.store ≡ o → (t : Items) × (tree_given n m.lists m.store ≡ some t) × Whole (row m.lists) n m.store t
          go none g = absurd (false≢true (sym (e ∙ ap is_given g) ∙ not-false b q))
          go (some t) g = (t, g, rebuilt-whole (row m.lists) n m.store t (whole t (leb n (places m.lists)) g))

      module _ (r : Bool) (re : r ≡ right_in m n no_sums) where
        pub seen-wrong : not r ≡ true → None ≡ held_as (tree_held n m)
        seen-wrong z = none-held (λ t v. false≢true (sym (not-true r z) ∙ (re ∙ sizes-right t v)))

        pub seen_all : not r ≡ false → n ≤ length m.bodies → (a : Optional ℕ) → a ≡ as_filled (filled_in m.lists m.store n 0 0) → a ≡ held_as (tree_held n m)
        unfolding as_filled held_as tree_given
        seen_all rr long a ae = ae ∙ (ap as_filled (flat-packed (row m.lists) n m.store t x) ∙ go (same_items t (packed t)) refl)
          where
            t : Items
            t = given.0

            x : Whole (row m.lists) n m.store t
            x = given.2

            given-tree : cond (leb n (places m.lists)) (rebuilt (row m.lists) n m.store) none ≡ some t
            given-tree = given.1

            few : (c : Bool) → leb n (places m.lists) ≡ c → c ≡ true
            few true k = refl
            few false k = absurd (none-ne-some t (ap (λ z. cond z (rebuilt (row m.lists) n m.store) none) (sym k) ∙ given-tree))

            go : (c : Bool) → same_items t (packed t) ≡ c → as_filled (cond c (some (length (store_in [] 0 t))) none) ≡ held_as (tree_held n m)
            go true p =
                let packs : packed t ≡ t = sym (same-items t (packed t) p) in
                let s = same_octets (take n m.bodies) (body_sizes 0 t) in
                let l = leb (length (encode (means [] t))) 32_768 in
                let both : s && l ≡ true = sym (right-sizes (row m.lists) n m.store m.bodies t x long packs) ∙ (sym re ∙ not-false r rr) in
                sym (ap held_as (is_held n m t x packs (same-octets (take n m.bodies) (body_sizes 0 t) (and_left s l both))
                (leb-true (length (encode (means [] t))) 32_768 (and_right s l both))
                (leb-true n (places m.lists) (few (leb n (places m.lists)) refl)) long))
            go false p =
                none-held (λ u v.
                let same : t ≡ u = some-injective t u (sym given.1 ∙ v.given) in
                false≢true (sym p ∙ subst (λ k. same_items k (packed k) ≡ true) (sym same) (subst (λ k. same_items u k ≡ true) (sym v.packs) (items-same u))))

pub ruleset seen-ways = (seen_few, seen-ill, seen-wrong, seen_all)
