-- The child elements of accepted octets, and the meaning that they show under a token table: what walks over two objects are told of.
use mathlib.Core.Path.{◌≡◌, refl, sym, subst}
use mathlib.Core.Bool.{Bool, true, false, cond}
use mathlib.Core.List.{List, [], ◌∷◌}
use Prim.Native.Nat.{ℕ, zero, suc, ◌+◌, ◌≤◌}
use native.Mathlib.Omega.{arith}
use Rattle.text.specs.Tokens.{Entries}
use Rattle.format.specs.Tree.{Items}
use Rattle.format.specs.Tree.Items.{item}
use Rattle.format.specs.Meaning.{Meaning, opens, is_child, attributes_in, cdata_in, leaf_octets, means}
use Rattle.format.specs.Meaning.Meaning.{nothing, element, leaf}
use Rattle.reader.specs.Filling.{Accepts}
use Rattle.compare.specs.Walks.{children_in}
use Rattle.compare.proofs.Walking.{Told, children-told}
use Rattle.compare.proofs.Walking.Told.{over as told_over, comes as told-comes}

-- an element that holds items shows its attributes, its CDATA and, in the same way, the child elements of its body, which is accepted; any other its octets
pub data Shows (T : Entries) : (depth : ℕ) → List (ℕ × List ℕ) → Meaning → Type 0 where
  over : {d : ℕ} → Shows T d [] nothing
  holds : {d : ℕ} {later : List (ℕ × List ℕ)} {m : Meaning} (tag from : ℕ) (body : List ℕ) (t : Items) → opens tag ≡ true → d ≤ 16 → Accepts tag (d + 1) from body t
      → Shows T (d + 1) (children_in body) (means T t) → Shows T d later m → Shows T d ((tag, body) ∷ later) (element tag (attributes_in T tag t) (means T t) (cdata_in T t) m)
  single : {d : ℕ} {later : List (ℕ × List ℕ)} {m : Meaning} (tag : ℕ) (body : List ℕ) → opens tag ≡ false → Shows T d later m
      → Shows T d ((tag, body) ∷ later) (leaf tag (leaf_octets T tag body) m)

module _ (T : Entries) where
  -- the body of an element is shown
  abbrev Within : ℕ → Type 0
  Within d = (tag from : ℕ) (body : List ℕ) (t : Items) → d ≤ 16 → Accepts tag (d + 1) from body t → Shows T (d + 1) (children_in body) (means T t)

  shown-item : (d tag from : ℕ) (body : List ℕ) (t after : Items) (later : List (ℕ × List ℕ)) → Within d → is_child tag ≡ true → (opens tag ≡ true → (d ≤ 16) × Accepts tag (d + 1) from body t)
      → Shows T d later (means T after) → Shows T d ((tag, body) ∷ later) (means T (item tag from body t after))
  unfolding means
  shown-item d tag from body t after later own c i h = rw c (go (opens tag) refl)
    where
      go : (o : Bool) → opens tag ≡ o
          → Shows T d ((tag, body) ∷ later) (cond o (element tag (attributes_in T tag t) (means T t) (cdata_in T t) (means T after)) (leaf tag (leaf_octets T tag body) (means T after)))
      go true e = holds tag from body t e (i e).0 (i e).1 (own tag from body t (i e).0 (i e).1) h
      go false e = single tag body e h

  told-shows : (d : ℕ) → Within d → {l : List (ℕ × List ℕ)} (t : Items) → Told d l t → Shows T d l (means T t)
  told-shows d own t (told_over h) = subst (Shows T d []) (sym (h T)) over
  told-shows d own t (told-comes {later = later} tag from body inside after c i h more) =
      subst (Shows T d ((tag, body) ∷ later)) (sym (h T)) (shown-item d tag from body inside after later own c i (told-shows d own after more))

  shows-within : (n p d i : ℕ) (s : List ℕ) (t : Items) → d + n ≡ 17 → Accepts p d i s t → Shows T d (children_in s) (means T t)
  shows-within zero p d i s t e a = told-shows d (λ tag from body u deep x. absurd (omega arith)) t (children-told p d i s t a)
  shows-within (suc n) p d i s t e a = told-shows d (λ tag from body u deep x. shows-within n tag (d + 1) from body u (omega arith) x) t (children-told p d i s t a)

  -- the items of an element at a depth that leaves so many levels
  pub shows : (n p d i : ℕ) (s : List ℕ) (t : Items) → d + n ≡ 17 → Accepts p d i s t → Shows T d (children_in s) (means T t)
  shows = shows-within
