-- A text folded by a token table, and the packed object of a normal form (request 2026-11; 002, clause 4.9).
use Rattle.std.specs.Prelude.{cond, List, [], ◌∷◌, ◌++◌, ℕ, ltb, length}
use Rattle.std.proofs.Math.Option.{Option, none, some}
use Rattle.octets.specs.Header.{framed}
use Rattle.text.specs.Tokens.{Entries}
use Rattle.values.specs.Table.{known, attribute}
use Rattle.format.specs.Tree.{Items}
use Rattle.format.specs.Tree.Items.{end, item}
use Rattle.format.specs.Judge.{Judged, is_text, judge}
use Rattle.format.specs.Judge.Judged.{refused, accepted}
use Rattle.format.specs.Meaning.{opens, normal_of}
use Rattle.format.specs.Same.{same_octets}
use Rattle.fold.specs.Words.{pieces, is_word, words_in, chosen}

-- the sixteen token octets by rising number: 0x01 to 0x13 but for tab, line feed and carriage return
unfoldable pub tokens : List ℕ
tokens = 1 ∷ 2 ∷ 3 ∷ 4 ∷ 5 ∷ 6 ∷ 7 ∷ 8 ∷ 0x0B ∷ 0x0C ∷ 0x0E ∷ 0x0F ∷ 0x10 ∷ 0x11 ∷ 0x12 ∷ 0x13 ∷ []

-- words with tags, in order
unfoldable pub entries_of : List ℕ → List (List ℕ) → Entries
entries_of [] ws = []
entries_of (t ∷ ts) [] = []
entries_of (t ∷ ts) (w ∷ ws) = (t, w) ∷ entries_of ts ws

-- the octets of a token table: of each entry the tag octet, the length octet and the word
unfoldable pub table_octets : Entries → List ℕ
table_octets [] = []
table_octets (e ∷ es) = e.0 ∷ length e.1 ∷ (e.1 ++ table_octets es)

-- the tag of the first entry with a text
unfoldable pub tag_of : Entries → List ℕ → Option ℕ
tag_of [] w = none
tag_of (e ∷ es) w = cond (same_octets e.1 w) (some e.0) (tag_of es w)

unfoldable pub or_word : Option ℕ → List ℕ → List ℕ
or_word none w = w
or_word (some t) w = t ∷ []

-- the tag in place of a piece that is a word and has an entry, any other piece as it is
unfoldable pub tagged : Entries → List ℕ → List ℕ
tagged es w = cond (is_word w) (or_word (tag_of es w) w) w

unfoldable pub tagged_all : Entries → List (List ℕ) → List ℕ
tagged_all es [] = []
tagged_all es (w ∷ ws) = tagged es w ++ tagged_all es ws

-- a text with the tag in place of each whole run of letters that is a word of the table
unfoldable pub folded : Entries → List ℕ → List ℕ
folded es o = tagged_all es (pieces [] o)

-- the items of an element of a tag, with folded texts and lengths in the form that is written; all else as it stands. The octets `table` come right behind the
-- attributes
unfoldable pub refolded : Entries → (table : List ℕ) (parent : ℕ) → Items → List ℕ
refolded es table parent end = table
refolded es table parent (item tag at body inside after) =
    cond (attribute tag) [] table
    ++ (framed tag (cond (opens tag) (refolded es [] tag inside) (cond (is_text (known parent tag)) (folded es body) body))
    ++ refolded es (cond (attribute tag) table []) parent after)

-- an object with some words folded: the same items, and the table in the top right behind its attributes, entries by rising tag
unfoldable pub folded_by : List (List ℕ) → Items → List ℕ
folded_by ws end = []
folded_by ws (item tag at body inside after) =
    framed tag (refolded (entries_of tokens ws) (framed 4 (table_octets (entries_of tokens ws))) tag inside)

-- the plain packer's proposal for a normal form, of which the tree is given: the chosen words folded where that is shorter, else the normal form itself. (With
-- no word chosen there would be an empty table, which is never shorter)
unfoldable pub proposal : List ℕ → Items → List ℕ
proposal o t = let p = folded_by (chosen (words_in 0 t)) t in cond (ltb (length p) (length o)) p o

-- octets that are a normal form: accepted, and their own normal form
unfoldable pub packed_if : List ℕ → Judged → Option (List ℕ)
packed_if o (refused r) = none
packed_if o (accepted t) = cond (same_octets (normal_of t) o) (some (proposal o t)) none

-- what the plain packer makes of octets; nothing, where they are no normal form
unfoldable pub packed : List ℕ → Option (List ℕ)
packed o = packed_if o (judge o)
