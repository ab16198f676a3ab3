-- Valid text (document 01, Values: Text; 002, clause 4.5.1).
use Rattle.std.specs.Prelude.{Bool, true, false, cond, not, ◌&&◌, ◌||◌, List, [], ◌∷◌, ℕ, zero, suc, ◌+◌, ◌*◌, ◌/◌, ◌%◌, eqb, leb, ltb}
use Rattle.octets.specs.Numbers.{among}

-- the three octets below 0x20 that are plain text: tab, line feed, carriage return
unfoldable pub layout : ℕ → Bool
layout b = among b (0x09 ∷ 0x0A ∷ 0x0D ∷ [])

-- the sixteen octets that stand for an entry of the token table: 0x01 to 0x13 but for the three of layout (002, clause 4.9.1)
unfoldable pub token : ℕ → Bool
token b = leb 1 b && leb b 0x13 && not (layout b)

-- a code point that may be written in a form whose least code point is given: not overlong, no surrogate and nothing in the private range up to U+F8FF
-- (the two ranges touch: U+D800 to U+F8FF), nothing above U+10FFFF
unfoldable pub character : ℕ → ℕ → Bool
character least c = leb least c && leb c 0x10FFFF && (ltb c 0xD800 || ltb 0xF8FF c)

-- an octet below 0x80 that may stand by itself: from 0x20 on, layout, and, where tokens may stand, a token octet
unfoldable pub single : Bool → ℕ → Bool
single tokens b = leb 0x20 b || layout b || tokens && token b

-- an octet goes on with a character of which so many octets come after it: it begins with the bits 10, and the last one makes a code point that may be written
unfoldable pub goes_on : ℕ → ℕ → ℕ → ℕ → Bool
goes_on more c least b = eqb (b / 64) 2 && (not (eqb more 0) || character least (c * 64 + b % 64))

-- UTF-8, with so many octets still to come of a character, its bits so far and the least code point of its form. The leading ones of a first octet tell the
-- length: 110 two octets, 1110 three, 11110 four
unfoldable pub utf8 : Bool → ℕ → ℕ → ℕ → List ℕ → Bool
utf8 tokens zero c least [] = true
utf8 tokens (suc more) c least [] = false
utf8 tokens zero c least (b ∷ bs) =
    let one = single tokens b && utf8 tokens 0 0 0 bs in
    let two = utf8 tokens 1 (b % 32) 0x80 bs in
    let three = utf8 tokens 2 (b % 16) 0x800 bs in
    let four = utf8 tokens 3 (b % 8) 0x10000 bs in
    cond (ltb b 0x80) one (cond (eqb (b / 32) 6) two (cond (eqb (b / 16) 14) three (cond (eqb (b / 8) 30) four false)))
utf8 tokens (suc more) c least (b ∷ bs) = goes_on more c least b && utf8 tokens more (c * 64 + b % 64) least bs

-- valid text, in which token octets may stand (true) or not (false)
unfoldable pub text : Bool → List ℕ → Bool
text tokens = utf8 tokens 0 0 0
