-- Sizes and octets of the normal form, record by record: what the writer measures and what it writes. That they are those of document 01's normal form is
-- proved (proofs/NormalSizes, and of the octets writer/proofs/Order), so nobody who reads document 01 has to believe them.
use Rattle.std.specs.Prelude.{cond, ◌||◌, List, [], ◌++◌, ℕ, suc, ◌+◌, eqb, length}
use Rattle.std.proofs.Math.Option.{Option, none}
use Rattle.octets.specs.Header.{length_field, framed}
use Rattle.values.specs.declared.Kind.{Kind}
use Rattle.values.specs.Table.{known, attribute}
use Rattle.values.specs.Values.{fits, meant, octets_of}
use Rattle.values.specs.Calls.{default_octets}
use Rattle.format.specs.Tree.{Items}
use Rattle.format.specs.Tree.Items.{end, item}
use Rattle.format.specs.Meaning.{opens, attributes_in, maybe, rising}

-- how many octets an item has whose body has n: its tag, the shorter length, its body
unfoldable pub framed_size : ℕ → ℕ
framed_size n = suc (length (length_field n)) + n

-- the normal octets of a value, none where the octets are no value of the kind
unfoldable pub value_octets : Kind → List ℕ → List ℕ
value_octets k body = cond (fits k body) (octets_of (meant [] k body)) []

-- the kind of value as which an item in an element of a tag is written: none where it isn't written, as the token table and what isn't known there (document 01,
-- Records and meaning), and a default (change request 2026-05)
unfoldable pub written_as : (parent tag : ℕ) → List ℕ → Option Kind
written_as parent tag body = cond (eqb tag 4 || default_octets parent tag body) none (known parent tag)

-- an item that holds no items; nothing where it isn't written
unfoldable pub item_octets : (parent tag : ℕ) → List ℕ → List ℕ
item_octets parent tag body = maybe (λ k. framed tag (value_octets k body)) (written_as parent tag body)

-- the size of the items of an element, each from the items inside it
unfoldable pub normal_size : ℕ → Items → ℕ
normal_size parent end = 0
normal_size parent (item tag at body inside after) =
    cond (opens tag) (framed_size (normal_size tag inside)) (length (item_octets parent tag body)) + normal_size parent after

-- an element's attributes by rising tag
unfoldable pub attribute_octets : ℕ → Items → List ℕ
attribute_octets parent inside = rising 128 0x80 (attributes_in [] parent inside)

-- the items of an element but for its attributes, in the order of their records: child elements, then CDATA
unfoldable pub later_octets : ℕ → Items → List ℕ
later_octets parent end = []
later_octets parent (item tag at body inside after) =
    let held = framed tag (attribute_octets tag inside ++ later_octets tag inside) in
    cond (attribute tag) [] (cond (opens tag) held (item_octets parent tag body)) ++ later_octets parent after
