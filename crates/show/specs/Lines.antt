-- The lines of answers (document 01, Bench cases, has a listing whole), and a refusal in words.
use Rattle.std.specs.Prelude.{cond, List, [], ◌∷◌, ◌++◌, ℕ, eqb, get_or}
use Prim.Native.Char.{code}
use Prim.Native.String.{String}
use Rattle.format.specs.declared.Record.{Record}
use Rattle.format.specs.declared.Refusal.{Refusal}
use Rattle.show.specs.Digits.{decimal, hex_upper}

-- the characters of a text as numbers
unfoldable pub ascii : String → List ℕ
ascii String.[] = []
ascii (String.◌∷◌ c s) = code c ∷ ascii s

-- words with a space between each two, and a newline behind the last
unfoldable pub line : List (List ℕ) → List ℕ
line [] = []
line (w ∷ []) = w ++ (10 ∷ [])
line (w ∷ v ∷ ws) = (w ++ (32 ∷ [])) ++ line (v ∷ ws)

-- document 01's name of a record's kind; a record that reading hands out has no other
unfoldable pub kind_name : ℕ → List ℕ
kind_name k = ascii (get_or ("element" ∷ "attribute" ∷ "cdata" ∷ []) k "unknown")

-- a listing: its first line, a line for each record, its last line
unfoldable pub header_line : List ℕ
header_line = line (ascii "depth tag kind offset length" ∷ [])

unfoldable pub record_line : Record → List ℕ
record_line r = line (decimal r.depth ∷ hex_upper r.tag ∷ kind_name r.kind ∷ decimal r.start ∷ decimal r.size ∷ [])

unfoldable pub records_line : ℕ → List ℕ
records_line n = line (ascii "records" ∷ decimal n ∷ [])

-- a refusal: its number and its place (document 01, Refusal numbers), and behind every 9, and no other number, the field (change request 2026-04)
unfoldable pub field_of : Refusal → List (List ℕ)
field_of r = cond (eqb r.number 9) (ascii "field" ∷ decimal r.field ∷ []) []

unfoldable pub refusal_line : Refusal → List ℕ
refusal_line r = line (ascii "refused" ∷ decimal r.number ∷ ascii "at" ∷ decimal r.place ∷ field_of r)

-- lent memory that isn't as it was
unfoldable pub touched_line : List ℕ
touched_line = line (ascii "touched" ∷ [])

-- why a value is refused: of a time by the field that is wrong (change request 2026-04). Only a time has fields with a range, so any other value has a wrong length
unfoldable pub field_reasons : List String
field_reasons =
    "a value has a wrong length"
    ∷ "length of a time wrong"
    ∷ "date of a time out of range"
    ∷ "hours of a time out of range"
    ∷ "minutes of a time out of range"
    ∷ "seconds of a time out of range"
    ∷ []

unfoldable pub field_reason : ℕ → String
field_reason field = get_or field_reasons field "no such field"

-- why an object, a request, a list of records or a recording is refused, by the refusal's number (document 01, Refusal numbers; 17: request 2026-02; 18: 2026-06;
-- 19: 2026-07; 20 and 21: 2026-10; 22: 2026-11; 23 and 24: 2026-12); of 9 the field says more
unfoldable pub reasons : ℕ → List String
reasons field =
    "nothing is refused"
    ∷ "the object has no octets or more than 32768"
    ∷ "a tag or a length field is cut off"
    ∷ "a body is longer than what holds it"
    ∷ "this tag may not stand here"
    ∷ "something follows the top element"
    ∷ "the items are out of order, or one is there twice"
    ∷ "an element lies deeper than 16"
    ∷ "an attribute is there twice"
    ∷ field_reason field
    ∷ "a text is not valid"
    ∷ "the token table is not valid"
    ∷ "a token has no entry in the table"
    ∷ "a text is too long to be shown"
    ∷ "there are more records than places"
    ∷ "a room or store is too small, or the output has more than 32768 octets"
    ∷ "the records are not a well-formed tree, or would not be after the edit"
    ∷ "an item holds plain octets, which have no XML"
    ∷ "there is no such record or place, the record is of the wrong kind, or it is the top, which stays"
    ∷ "an item is not in the Basic profile of this data type"
    ∷ "the two objects cannot be merged: tops, languages, an attribute or texts differ"
    ∷ "an object holds a merging key twice under one parent"
    ∷ "not a packed object of that normal form, or no normal form"
    ∷ "not a recording: its mark or version is wrong"
    ∷ "the recording is cut off"
    ∷ []

unfoldable pub refusal_words : (field number : ℕ) → List ℕ
refusal_words field number = ascii (get_or (reasons field) number "no such refusal")
