-- A word looked for in a token table: that words of two lengths differ, and the walk of `tag_of`.
use mathlib.Core.Path.{◌≡◌, refl, sym, ap, ◌∙◌}
use mathlib.Core.Bool.{Bool, true, false, cond, ◌&&◌}
use mathlib.Core.Option.{some}
use mathlib.Core.List.{List, [], ◌∷◌}
use Prim.Native.Nat.{ℕ, suc, ◌≤◌, ◌<◌}
use lib.Dec.{eqb}
use lib.ListN.{length, get_or, take, drop}
use Rattle.std.specs.Prelude.{None, Some}
use Rattle.text.specs.Tokens.{entries}
use Rattle.text.proofs.Entries.{behind, ended-short, entries-past, entries_next}
use Rattle.format.specs.Same.{same_octets}
use Rattle.fold.specs.Packed.{tag_of}
use Rattle.packer.specs.Leaves.{as_tag}

-- ---- words of two lengths

unlike : (a b : List ℕ) → (length a ≡ length b → ⊥) → same_octets a b ≡ false
unfolding same_octets
unlike [] [] h = absurd (h refl)
unlike [] (y ∷ b) h = refl
unlike (x ∷ a) [] h = refl
unlike (x ∷ a) (y ∷ b) h = go (eqb x y) (unlike a b (λ e. h (ap suc e)))
  where
    go : (c : Bool) → same_octets a b ≡ false → c && same_octets a b ≡ false
    go true q = q
    go false q = refl

pub alike-not : (a b : List ℕ) → (length a ≡ length b → ⊥) → false ≡ same_octets a b
alike-not a b h = sym (unlike a b h)

-- ---- `tag_of`: what is left of a table has an entry with the text, or goes on behind its first entry, or has none

none_left : (s w : List ℕ) → entries s ≡ [] → None ≡ as_tag (tag_of (entries s) w)
unfolding tag_of as_tag
none_left s w e = rw e

pub seek-end : (s w : List ℕ) → length s < 2 → None ≡ as_tag (tag_of (entries s) w)
seek-end s w h = none_left s w (ended-short s h).names

module _ (s w : List ℕ) (n : ℕ) (h : 2 ≤ length s) (e : n ≡ get_or s 1 0) where
  pub seek-long : length (behind s) < n → None ≡ as_tag (tag_of (entries s) w)
  seek-long g = none_left s w (entries-past s n h e g)

  module _ (g : n ≤ length (behind s)) (text : List ℕ) (x : text ≡ take n (behind s)) (r : Bool) (q : r ≡ same_octets text w) where
    first : tag_of (entries s) w ≡ cond r (some (get_or s 0 0)) (tag_of (entries (drop n (behind s))) w)
    unfolding tag_of
    first = ap (λ o. tag_of o w) (entries_next s n h e g) ∙ rw (q, x)

    pub seek-here : r ≡ true → Some (get_or s 0 0) ≡ as_tag (tag_of (entries s) w)
    unfolding as_tag
    seek-here y = rw (first, y)

    pub seek-again : r ≡ false → tag_of (entries s) w ≡ tag_of (entries (drop n (behind s))) w
    seek-again y = first ∙ rw y
