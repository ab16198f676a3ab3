-- The located tree of an accepted object, and its records (document 01, Records and meaning).
use Rattle.std.specs.Prelude.{cond, List, [], ◌∷◌, ◌++◌, ℕ, ◌+◌, eqb, length}
use Rattle.std.proofs.Math.Option.{Option, none, some}
use Rattle.values.specs.Table.{attribute}
use Rattle.values.specs.Calls.{default_octets}
use Rattle.format.specs.declared.Record.{Record}

-- known items in reading order. Each has its tag, the offset at which its body begins, its body, the items inside it and the items after it in the same element
pub data Items : Type 0 where
  end : Items
  item : (tag at : ℕ) (body : List ℕ) (inside after : Items) → Items

-- the body of the first item of a tag in one element
unfoldable pub find : ℕ → Items → Option (List ℕ)
find t end = none
find t (item tag at body inside after) = cond (eqb t tag) (some body) (find t after)

-- the items of an element without their defaults, and those inside them likewise (change request 2026-05)
unfoldable pub without_defaults : (parent : ℕ) → Items → Items
without_defaults parent end = end
without_defaults parent (item tag at body inside after) =
    let rest = without_defaults parent after in
    cond (default_octets parent tag body) rest (item tag at body (without_defaults tag inside) rest)

-- the kind that a record shows: 0 an element, 1 an attribute, 2 CDATA
unfoldable pub kind_of : ℕ → ℕ
kind_of tag = cond (attribute tag) 1 (cond (eqb tag 1) 2 0)

-- how many records there are: one for each known item but the token table
unfoldable pub count : Items → ℕ
count end = 0
count (item tag at body inside after) = cond (eqb tag 4) 0 (1 + count inside) + count after

-- the record of an item at a depth, below the parent of a number
abbrev pub record_of : (depth parent tag at : ℕ) → List ℕ → Record
record_of depth parent tag at body = record { tag = tag; kind = kind_of tag; depth = depth; parent = parent; start = at; size = length body }

-- the records of the items of one element in reading order, at a depth, below the parent of a number; the first of them gets the number n
unfoldable pub records : (depth parent n : ℕ) → Items → List Record
records depth parent n end = []
records depth parent n (item tag at body inside after) =
    cond (eqb tag 4) [] (record_of depth parent tag at body ∷ records (depth + 1) n (n + 1) inside)
    ++ records depth parent (cond (eqb tag 4) n (n + 1 + count inside)) after

-- the records of an object's tree: the top has depth 1 and number 0 and is its own parent
abbrev pub records_of : Items → List Record
records_of t = records 1 0 0 t

-- the bodies of the items that have a record, in reading order: as many as there are records, each where its record stands
unfoldable pub bodies_of : Items → List (List ℕ)
bodies_of end = []
bodies_of (item tag at body inside after) = cond (eqb tag 4) [] (body ∷ bodies_of inside) ++ bodies_of after
