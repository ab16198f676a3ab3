-- The header of an item: a tag octet and a length in one of three forms (document 01, Framing; 002, clauses 4.3.0, 4.4.0 and 4.5.0).
use Rattle.std.specs.Prelude.{cond, List, [], ◌∷◌, ◌++◌, ℕ, eqb, leb, length, take, drop, get_or}
use Rattle.octets.specs.Numbers.{value, digits}

-- how many octets the tag and the length take at the start of a part: two, or four where the length octet is 0xFE, or five where it is 0xFF. An octet that
-- the part doesn't have counts as 0 here and below, so that both are told of every part; rule 2 refuses a part that is shorter than its header
unfoldable pub header_size : List ℕ → ℕ
header_size part = cond (eqb (get_or part 1 0) 0xFE) 4 (cond (eqb (get_or part 1 0) 0xFF) 5 2)

-- how many octets the body has: the length octet itself, or the 16 bits behind 0xFE, or the 24 bits behind 0xFF. A long form may hold a small size
unfoldable pub body_size : List ℕ → ℕ
body_size part =
    cond (eqb (get_or part 1 0) 0xFE) (value (take 2 (drop 2 part)))
    (cond (eqb (get_or part 1 0) 0xFF) (value (take 3 (drop 2 part))) (get_or part 1 0))

-- the length of a body as normal form writes it: the shorter of two forms, the length octet itself or 16 bits behind 0xFE (document 01, Records and meaning, as
-- change request 2026-08 amends it). It is told of every n, but above 65,535 it is no length's field: whoever writes a header asks for less, and no body of an
-- object that is written has more than 32,768 octets (format/specs/Bodies)
unfoldable pub length_field : ℕ → List ℕ
length_field n = cond (leb n 0xFD) (n ∷ []) (0xFE ∷ digits 2 n)

-- an item in normal form: its tag, the shorter length, its body
unfoldable pub framed : ℕ → List ℕ → List ℕ
framed tag body = tag ∷ length_field (length body) ++ body
