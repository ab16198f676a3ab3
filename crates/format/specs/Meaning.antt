-- What an accepted object means, and the normal form of a meaning (document 01, Records and meaning).
use Rattle.std.specs.Prelude.{Bool, cond, not, ◌||◌, List, [], ◌++◌, ℕ, zero, suc, eqb}
use Rattle.std.proofs.Math.Option.{Option, none, some, map}
use Rattle.octets.specs.Header.{framed}
use Rattle.text.specs.Tokens.{Entries, entries, expanded}
use Rattle.values.specs.declared.Kind.{Kind}
use Rattle.values.specs.Table.{known, attribute}
use Rattle.values.specs.Values.{Value, meant, octets_of, is_default}
use Rattle.format.specs.Tree.{Items, find}
use Rattle.format.specs.Tree.Items.{end, item}
use Rattle.format.specs.Judge.{Judged, is_items, is_text, judge}
use Rattle.format.specs.Judge.Judged.{refused, accepted}

-- the elements in one element, in order. One that holds items has its attributes as a set, a function from tag to value, its child elements, and its CDATA, of
-- which none differs from an empty one; any other, 0x06 and those of plain octets, has octets
pub data Meaning : Type 0 where
  nothing : Meaning
  element : (tag : ℕ) (attributes : ℕ → Option Value) (children : Meaning) (cdata : Option (List ℕ)) (after : Meaning) → Meaning
  leaf : (tag : ℕ) (octets : List ℕ) (after : Meaning) → Meaning

-- an element that holds items
unfoldable pub opens : ℕ → Bool
opens tag = is_items (known 0 tag)

-- an element that has a meaning of its own: no attribute, not CDATA, not the token table
unfoldable pub is_child : ℕ → Bool
is_child tag = not (attribute tag || eqb tag 1 || eqb tag 4)

unfoldable pub value_in : Entries → Option (List ℕ) → Option Kind → Option Value
value_in table none k = none
value_in table (some o) none = none
value_in table (some o) (some k) = some (meant table k o)

-- an attribute with its default means the same as none (change request 2026-05; 002, clause 4.4.1)
unfoldable pub counted : (parent tag : ℕ) → Option Value → Option Value
counted parent tag none = none
counted parent tag (some v) = cond (is_default parent tag v) none (some v)

-- the attributes of an element of a tag, among the items inside it. Which attributes count is said here and nowhere else
unfoldable pub attributes_in : Entries → ℕ → Items → ℕ → Option Value
attributes_in table parent inside tag = cond (attribute tag) (counted parent tag (value_in table (find tag inside) (known parent tag))) none

-- the CDATA among the items inside an element
unfoldable pub cdata_in : Entries → Items → Option (List ℕ)
cdata_in table inside = map (expanded table) (find 1 inside)

-- the octets that an element without items means: 0x06 its expanded text, the others their own
unfoldable pub leaf_octets : Entries → ℕ → List ℕ → List ℕ
leaf_octets table tag body = cond (is_text (known 0 tag)) (expanded table body) body

-- what items mean under the entries of the token table
unfoldable pub means : Entries → Items → Meaning
means table end = nothing
means table (item tag at body inside after) =
    let children = means table inside in
    let later = means table after in
    let held = element tag (attributes_in table tag inside) children (cdata_in table inside) later in
    let plain = leaf tag (leaf_octets table tag body) later in
    cond (is_child tag) (cond (opens tag) held plain) later

-- the token table of an object: the entries of the 0x04 in its top, none where there is no 0x04
unfoldable pub table_in : Option (List ℕ) → Entries
table_in none = []
table_in (some o) = entries o

unfoldable pub table_of : Items → Entries
table_of end = []
table_of (item tag at body inside after) = table_in (find 4 inside)

abbrev pub meaning_of : Items → Meaning
meaning_of t = means (table_of t) t

unfoldable pub if_accepted : {A : Type 0} → (Items → A) → Judged → Option A
if_accepted f (refused r) = none
if_accepted f (accepted t) = some (f t)

-- the meaning of an object, where it is accepted
unfoldable pub meaning : List ℕ → Option Meaning
meaning o = if_accepted meaning_of (judge o)

-- the octets of something that may be absent
unfoldable pub maybe : {A : Type 0} → (A → List ℕ) → Option A → List ℕ
maybe f none = []
maybe f (some a) = f a

-- the attributes of as many tags as the first number says, from a tag on, by rising tag
unfoldable pub rising : ℕ → ℕ → (ℕ → Option Value) → List ℕ
rising zero tag f = []
rising (suc n) tag f = maybe (λ v. framed tag (octets_of v)) (f tag) ++ rising n (suc tag) f

-- the normal form: no token table and no unknown item, as a meaning has none; attributes by rising tag, then child elements, then CDATA; each length in the
-- shorter of two forms; each value in its normal octets
unfoldable pub encode : Meaning → List ℕ
encode nothing = []
encode (element tag attributes children cdata after) =
    framed tag (rising 128 0x80 attributes ++ (encode children ++ maybe (framed 1) cdata)) ++ encode after
encode (leaf tag octets after) = framed tag octets ++ encode after

abbrev pub normal_of : Items → List ℕ
normal_of t = encode (meaning_of t)

-- the normal form of an object, where it is accepted
unfoldable pub normal : List ℕ → Option (List ℕ)
normal o = if_accepted normal_of (judge o)
