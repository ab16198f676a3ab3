-- The lines by computation: document 01's listing whole (Bench cases), and answers that no call of this crate may give.
use Rattle.std.specs.Prelude.{Result, Ok, Err}
use mathlib.Core.Path.{◌≡◌, refl, ap}
use mathlib.Core.Bool.{true}
use mathlib.Core.List.{List, [], ◌∷◌, ◌++◌}
use Prim.Native.Nat.{ℕ}
use native.Mathlib.Omega.{arith}
use lib.ListN.{get_or}
use Rattle.octets.specs.Puts.{put_answer, put_out, Puts}
use Rattle.octets.specs.declared.PutError.{PutError}
use Rattle.octets.specs.declared.PutError.TheVariants.{NoRoom, Invalid}
use Rattle.format.specs.Answers.{refusal, wrong_value}
use Rattle.format.specs.declared.Record.{Record}
use Rattle.show.specs.Digits.{tens, decimal, hex_digit, two_digits, hex_lower, hex_upper}
use Rattle.show.specs.Lines.{ascii, line, kind_name, header_line, record_line, records_line, field_of, refusal_line, field_reasons, field_reason, reasons, refusal_words}

-- the listing of 03 04 06 02 65 6E
top : Record
top = record { tag = 3; kind = 0; depth = 1; parent = 0; start = 2; size = 4 }

language : Record
language = record { tag = 6; kind = 0; depth = 2; parent = 0; start = 4; size = 2 }

listing : header_line ++ (record_line top ++ (record_line language ++ records_line 2)) ≡ ascii "depth tag kind offset length\n1 03 element 2 4\n2 06 element 4 2\nrecords 2\n"
unfolding top language header_line record_line records_line line ascii kind_name decimal tens two_digits hex_digit
listing = refl

refused : refusal_line (refusal 12 32768) ≡ ascii "refused 12 at 32768\n"
unfolding refusal_line field_of line ascii decimal tens
refused = refl

-- every 9 has its field behind it, also where it is 0
refused-hours : refusal_line (wrong_value 412 3) ≡ ascii "refused 9 at 412 field 3\n"
unfolding refusal_line field_of line ascii decimal tens
refused-hours = refl

refused-value : refusal_line (wrong_value 2 0) ≡ ascii "refused 9 at 2 field 0\n"
unfolding refusal_line field_of line ascii decimal tens
refused-value = refl

-- a number is written as it is, without a digit more
zeros : List ℕ
zeros = 0 ∷ 0 ∷ 0 ∷ []

number-reversed : Puts true (decimal 10) 0 zeros (48 ∷ 49 ∷ 0 ∷ []) (Ok 2) → ⊥
unfolding zeros put_answer put_out decimal tens
number-reversed p = let z : ◌≡◌ {A = ℕ} 48 49 = ap (λ o. get_or o 0 0) p.leaves in omega arith

number-padded : Puts true (decimal 7) 0 zeros (48 ∷ 55 ∷ 0 ∷ []) (Ok 2) → ⊥
unfolding zeros put_answer put_out decimal tens
number-padded p = let z : ◌≡◌ {A = ℕ} 48 55 = ap (λ o. get_or o 0 0) p.leaves in omega arith

-- what has no room leaves the slice alone, and says so
number_cut : Puts true (decimal 1000) 0 zeros (49 ∷ 48 ∷ 48 ∷ []) (Err NoRoom) → ⊥
unfolding zeros put_answer put_out decimal tens
number_cut p = let z : ◌≡◌ {A = ℕ} 49 0 = ap (λ o. get_or o 0 0) p.leaves in omega arith

end_of : Result ℕ PutError → ℕ
end_of (Ok n) = n
end_of (Err NoRoom) = 0
end_of (Err Invalid) = 0

number-claimed : Puts true (decimal 1000) 0 zeros zeros (Ok 4) → ⊥
unfolding zeros put_answer put_out decimal tens end_of
number-claimed p = let z : ◌≡◌ {A = ℕ} 4 0 = ap end_of p.answers in omega arith

-- octets have lower-case letters, and a tag upper-case ones
octets-upper : Puts true (hex_lower (0xAB ∷ [])) 0 zeros (65 ∷ 66 ∷ 0 ∷ []) (Ok 2) → ⊥
unfolding zeros put_answer put_out hex_lower two_digits hex_digit
octets-upper p = let z : ◌≡◌ {A = ℕ} 65 97 = ap (λ o. get_or o 0 0) p.leaves in omega arith

tag-swapped : Puts true (hex_upper 0x1C) 0 zeros (67 ∷ 49 ∷ 0 ∷ []) (Ok 2) → ⊥
unfolding zeros put_answer put_out two_digits hex_digit
tag-swapped p = let z : ◌≡◌ {A = ℕ} 67 49 = ap (λ o. get_or o 0 0) p.leaves in omega arith

-- each refusal has words of its own
body-words : refusal_words 0 3 ≡ ascii "a body is longer than what holds it"
unfolding refusal_words reasons ascii
body-words = refl

room-words : refusal_words 0 15 ≡ ascii "a room or store is too small, or the output has more than 32768 octets"
unfolding refusal_words reasons ascii
room-words = refl

tree-words : refusal_words 0 16 ≡ ascii "the records are not a well-formed tree, or would not be after the edit"
unfolding refusal_words reasons ascii
tree-words = refl

plain-words : refusal_words 0 17 ≡ ascii "an item holds plain octets, which have no XML"
unfolding refusal_words reasons ascii
plain-words = refl

nowhere-words : refusal_words 0 18 ≡ ascii "there is no such record or place, the record is of the wrong kind, or it is the top, which stays"
unfolding refusal_words reasons ascii
nowhere-words = refl

profile-words : refusal_words 0 19 ≡ ascii "an item is not in the Basic profile of this data type"
unfolding refusal_words reasons ascii
profile-words = refl

merge-words : refusal_words 0 20 ≡ ascii "the two objects cannot be merged: tops, languages, an attribute or texts differ"
unfolding refusal_words reasons ascii
merge-words = refl

key-words : refusal_words 0 21 ≡ ascii "an object holds a merging key twice under one parent"
unfolding refusal_words reasons ascii
key-words = refl

packed-words : refusal_words 0 22 ≡ ascii "not a packed object of that normal form, or no normal form"
unfolding refusal_words reasons ascii
packed-words = refl

mark-words : refusal_words 0 23 ≡ ascii "not a recording: its mark or version is wrong"
unfolding refusal_words reasons ascii
mark-words = refl

cut-words : refusal_words 0 24 ≡ ascii "the recording is cut off"
unfolding refusal_words reasons ascii
cut-words = refl

hours-words : refusal_words 3 9 ≡ ascii "hours of a time out of range"
unfolding refusal_words reasons field_reasons field_reason ascii
hours-words = refl

value-words : refusal_words 0 9 ≡ ascii "a value has a wrong length"
unfolding refusal_words reasons field_reasons field_reason ascii
value-words = refl
