-- Where items stand in a tree that is packed, and trees that are the same but for the items at one place: each edit makes such a tree. What is before that place
-- stays, what is behind it moves. Who reads the request has to believe none of this.
use Rattle.std.specs.Prelude.{◌≡◌, true, cond, List, [], ◌∷◌, ℕ, suc, ◌+◌, ◌-◌, ltb, length}
use Rattle.values.specs.Table.{known}
use Rattle.format.specs.declared.Record.{Record}
use Rattle.format.specs.Tree.{Items, count, records}
use Rattle.format.specs.Tree.Items.{item}
use Rattle.format.specs.Meaning.{opens}
use Rattle.format.specs.Writer.{Spot, below, past, at_top}
use Rattle.format.specs.Loaded.{stored, store_in, loaded_in}

-- a spot, the number of its element's record, the number of the next record and where that one's octets begin in the store
pub record Site : Type 0 where
  pub spot : Spot
  pub up : ℕ
  pub number : ℕ
  pub place : ℕ

abbrev pub top_site : Site
top_site = record { spot = at_top; up = 0; number = 0; place = 0 }

-- where the first item inside an item stands
abbrev pub inner : Site → ℕ → Site
inner s tag = record { spot = below s.spot tag; up = s.number; number = suc s.number; place = s.place }

-- what an item takes of the store, with all below it
unfoldable pub share : (element tag : ℕ) → List ℕ → Items → List ℕ
share element tag body inside = cond (opens tag) (store_in [] tag inside) (stored [] (known element tag) body)

-- where the item after an item stands
abbrev pub beyond : Site → ℕ → List ℕ → Items → Site
beyond s tag body inside =
    record { spot = past s.spot tag; up = s.up; number = suc s.number + count inside; place = s.place + length (share s.spot.parent tag body inside) }

-- the records of items that are packed from a site on, and what they take of the store
abbrev pub records_at : Site → Items → List Record
records_at s t = records s.spot.depth s.up s.number (loaded_in [] s.spot.parent s.place t)

abbrev pub store_at : Site → Items → List ℕ
store_at s t = store_in [] s.spot.parent t

-- items t and t' from a site on that are the same but for the items from another site in them on, which are u and w
pub data Swapped : Site → (t t' : Items) → Site → (u w : Items) → Type 0 where
  here : (s : Site) (t t' : Items) → Swapped s t t' s t t'
  inside : (s : Site) (tag at : ℕ) (body : List ℕ) (x x' y : Items) (h : Site) (u w : Items) → opens tag ≡ true → Swapped (inner s tag) x x' h u w
      → Swapped s (item tag at body x y) (item tag at body x' y) h u w
  after : (s : Site) (tag at : ℕ) (body : List ℕ) (x y y' : Items) (h : Site) (u w : Items) → Swapped (beyond s tag body x) y y' h u w
      → Swapped s (item tag at body x y) (item tag at body x y') h u w

-- ---- what moves: the numbers of records from one on, and the places of the store from one on

unfoldable pub shifted : (from to n : ℕ) → ℕ
shifted from to n = cond (ltb n from) n (n - from + to)

-- where a body begins; an element that holds items keeps its span (0, 0)
unfoldable pub start_after : (was is tag start : ℕ) → ℕ
start_after was is tag start = cond (opens tag) start (start - was + is)

unfoldable pub shifted_starts : (was is : ℕ) → (tags starts : List ℕ) → List ℕ
shifted_starts was is [] starts = []
shifted_starts was is (tag ∷ tags) [] = []
shifted_starts was is (tag ∷ tags) (start ∷ starts) = start_after was is tag start ∷ shifted_starts was is tags starts

unfoldable pub moved : (number number' place place' : ℕ) → Record → Record
moved number number' place place' r = record {
  tag = r.tag;
  kind = r.kind;
  depth = r.depth;
  parent = shifted number number' r.parent;
  start = start_after place place' r.tag r.start;
  size = r.size;
}
