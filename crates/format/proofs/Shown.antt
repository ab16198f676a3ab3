-- The ways through kind_of, and answers that it and the calls on lists of records don't give.
use mathlib.Core.Path.{◌≡◌, refl, sym, ◌∙◌}
use mathlib.Core.Bool.{Bool, true, false}
use mathlib.Core.List.{[], ◌∷◌}
use Prim.Native.Nat.{ℕ, min}
use borrow.Author.Tests.{eq-eqb, ne_eqb}
use Rattle.values.specs.Table.{attribute}
use Rattle.format.specs.declared.Record.{Record}
use Rattle.format.specs.Tree.{kind_of}
use Rattle.format.specs.Calls.{Lists, places, row, put_whole}
use Rattle.format.specs.Lent.{six}

-- the kind that a record shows
module _ (tag : ℕ) (b : Bool) (e : b ≡ attribute tag) where
  pub kind-attribute : b ≡ true → 1 ≡ kind_of tag
  unfolding kind_of
  kind-attribute h = rw (sym e ∙ h)

  module _ (h : b ≡ false) where
    pub kind-cdata : tag ≡ 1 → 2 ≡ kind_of tag
    unfolding kind_of
    kind-cdata q = rw (sym e ∙ h, eq-eqb tag 1 q)

    pub kind-element : (tag ≡ 1 → ⊥) → 0 ≡ kind_of tag
    unfolding kind_of
    kind-element q = rw (sym e ∙ h, ne_eqb tag 1 q)

pub ruleset kind-ways = (kind-attribute, kind-cdata, kind-element)

-- an attribute told as an element, CDATA as an attribute or an element: the kinds of the first attribute's tag, of CDATA's and of the top's, computed
pub kinds-told : (kind_of 0x80 ≡ 1) × (kind_of 0x01 ≡ 2) × (kind_of 0x02 ≡ 0)
unfolding kind_of attribute
kinds-told = (refl, refl, refl)

-- a field of another list or of another record, the last record told for one past the end: a record of two and the one past them, computed
abbrev two_records : Lists
two_records = six (0x03 ∷ 0x10 ∷ []) (0 ∷ 7 ∷ []) (1 ∷ 2 ∷ []) (0 ∷ 8 ∷ []) (2 ∷ 4 ∷ []) (9 ∷ 5 ∷ [])

pub rows_told : (row two_records 1 ≡ record { tag = 0x10; kind = 7; depth = 2; parent = 8; start = 4; size = 5 })
    × (row two_records 2 ≡ record { tag = 0; kind = 0; depth = 0; parent = 0; start = 0; size = 0 })
rows_told = (refl, refl)

-- the greater of two numbers, computed for each of them; the first list's length for the shortest's, the longest's
pub leasts-told : (min 3 5 ≡ 3) × (min 5 3 ≡ 3)
leasts-told = (refl, refl)

abbrev second_short : Lists
second_short = six (0x03 ∷ 0x10 ∷ []) (0 ∷ []) (1 ∷ 2 ∷ []) (0 ∷ 8 ∷ []) (2 ∷ 4 ∷ []) (9 ∷ 5 ∷ 6 ∷ [])

pub places-told : (places two_records ≡ 2) × (places second_short ≡ 1)
unfolding places
places-told = (refl, refl)

-- a record put at another number or its field into another list; one put in part, into the lists that have its place, and one past the end put at the end
abbrev other : Record
other = record { tag = 0x11; kind = 12; depth = 13; parent = 14; start = 15; size = 16 }

pub puts-told : (put_whole 1 other two_records ≡ six (0x03 ∷ 0x11 ∷ []) (0 ∷ 12 ∷ []) (1 ∷ 13 ∷ []) (0 ∷ 14 ∷ []) (2 ∷ 15 ∷ []) (9 ∷ 16 ∷ []))
    × (put_whole 1 other second_short ≡ second_short) × (put_whole 2 other two_records ≡ two_records)
unfolding put_whole places
puts-told = (refl, refl, refl)
