-- The three edits of change request 2026-06, as functions of a tree: "replace a text, remove an item with all below it, put in an element with all below it at a given
-- place among its brothers". They know nothing of lists and store: where all of the new tree lies says packing it (format/specs/State).
use Rattle.std.specs.Prelude.{Bool, cond, ◌&&◌, ◌||◌, List, [], ℕ, zero, suc, ◌+◌, ◌-◌, eqb, leb, ltb, length}
use Rattle.std.proofs.Math.Option.{Option, none, some, map}
use Rattle.octets.specs.Header.{header_size, body_size}
use Rattle.values.specs.Table.{known, attribute}
use Rattle.format.specs.Tree.{Items, count}
use Rattle.format.specs.Tree.Items.{end, item}
use Rattle.format.specs.Judge.{Judged, Context, is_text, read}
use Rattle.format.specs.Judge.Judged.{refused, accepted}
use Rattle.format.specs.Meaning.{opens, is_child}

-- a new text for record i; record i removed; the element that octets are, put in as the child element of number k, from 0, of record i
pub data Edit : Type 0 where
  replace : (i : ℕ) (text : List ℕ) → Edit
  remove : (i : ℕ) → Edit
  insert : (i k : ℕ) (element : List ℕ) → Edit

-- ---- a record by its number: first an item's own, then those inside it, then those after it (document 01, Records and meaning)

-- the items of one element from a record on, the tag of that element and the depth of its items; no items where there is no such record
pub record Found : Type 0 where
  pub parent : ℕ
  pub depth : ℕ
  pub items : Items

unfoldable pub from : (i parent depth : ℕ) → Items → Found
from i parent depth end = record { parent = parent; depth = depth; items = end }
from zero parent depth (item tag at body inside after) = record { parent = parent; depth = depth; items = item tag at body inside after }
from (suc i) parent depth (item tag at body inside after) = cond (ltb i (count inside)) (from i tag (suc depth) inside) (from (i - count inside) parent depth after)

-- in a whole tree, whose top has the depth 1 and no element around it
abbrev pub record_at : ℕ → Items → Found
record_at i t = from i 0 1 t

-- the tree with the items from that record on changed
unfoldable pub change_at : (Items → Items) → ℕ → Items → Items
change_at f i end = end
change_at f zero (item tag at body inside after) = f (item tag at body inside after)
change_at f (suc i) (item tag at body inside after) =
    cond (ltb i (count inside)) (item tag at body (change_at f i inside) after) (item tag at body inside (change_at f (i - count inside) after))

-- the tag of the first item, 0, which no item has, where there is none; and what is inside it
unfoldable pub first_tag : Items → ℕ
first_tag end = 0
first_tag (item tag at body inside after) = tag

unfoldable pub first_inside : Items → Items
first_inside end = end
first_inside (item tag at body inside after) = inside

-- ---- what is done there

-- the first item with another body
unfoldable pub with_body : List ℕ → Items → Items
with_body o end = end
with_body o (item tag at body inside after) = item tag at o inside after

-- the first item taken away, with all below it
unfoldable pub without : Items → Items
without end = end
without (item tag at body inside after) = after

-- what is inside the first item changed
unfoldable pub holding : (Items → Items) → Items → Items
holding f end = end
holding f (item tag at body inside after) = item tag at body (f inside) after

-- items put before other items
unfoldable pub before : Items → Items → Items
before end t = t
before (item tag at body inside after) t = item tag at body inside (before after t)

-- an element put before the child element of a number; where there are just so many, behind the last of them, but before the CDATA. Attributes aren't counted
unfoldable pub put_child : ℕ → Items → Items → Items
put_child k e end = e
put_child k e (item tag at body inside after) =
    cond (attribute tag) (item tag at body inside (put_child k e after))
    (cond (eqb k 0 || eqb tag 1) (before e (item tag at body inside after)) (item tag at body inside (put_child (k - 1) e after)))

-- how many child elements there are, 0x06 among them
unfoldable pub children : Items → ℕ
children end = 0
children (item tag at body inside after) = cond (is_child tag) (suc (children after)) (children after)

-- ---- 18: "no such record or place, a record of the wrong kind, or the top itself to be removed"

-- a text is CDATA, a text attribute or 0x06; the top is record 0; a place is in an element that holds items, and the last of them is behind its child elements
unfoldable pub is_there : Edit → Items → Bool
is_there (replace i text) t = is_text (known (record_at i t).parent (first_tag (record_at i t).items))
is_there (remove i) t = ltb 0 i && ltb i (count t)
is_there (insert i k element) t = opens (first_tag (record_at i t).items) && leb k (children (first_inside (record_at i t).items))

-- ---- the element that is put in: octets, framed as document 01 says (Framing)

-- exactly one item, whose header and body are all of the octets, and no more than an object may have (document 01, 1 of the refusal numbers)
unfoldable pub is_one_item : List ℕ → Bool
is_one_item o = eqb (header_size o + body_size o) (length o) && leb (length o) 32_768

-- it is judged as an item of the element that it is put into. There is no token table, so a token octet is a fault
unfoldable pub inside_of : Found → Context
inside_of f = record { parent = first_tag f.items; depth = suc f.depth; stage = 0; seen = []; table = []; waiting = [] }

-- a known element, and not the token table
unfoldable pub first_element : Judged → Option Items
first_element (refused r) = none
first_element (accepted end) = none
first_element (accepted (item tag at body inside after)) = cond (is_child tag) (some (item tag at body inside end)) none

unfoldable pub element_of : Context → List ℕ → Option Items
element_of c o = cond (is_one_item o) (first_element (read c 0 o)) none

-- ---- the tree after an edit; none where what is to be put in isn't an element
unfoldable pub changed : Edit → Items → Option Items
changed (replace i text) t = some (change_at (with_body text) i t)
changed (remove i) t = some (change_at without i t)
changed (insert i k element) t = map (λ e. change_at (holding (put_child k e)) i t) (element_of (inside_of (record_at i t)) element)
