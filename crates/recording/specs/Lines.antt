-- What replay lists (change request 2026-12): a line for each whole object, in order, and a last one where the recording itself is refused.
use Rattle.std.specs.Prelude.{cond, List, [], ◌∷◌, ◌++◌, map, ℕ, suc, eqb, Result, Ok, Err}
use Rattle.std.proofs.Math.Option.{Option, none, some}
use Rattle.format.specs.declared.Refusal.{Refusal}
use Rattle.format.specs.Judge.{judge}
use Rattle.format.specs.Headers.{headers_of}
use Rattle.format.specs.Calls.{read_answer, judge_answer}
use Rattle.format.specs.declared.Counts.{Counts}
use Rattle.show.specs.Digits.{decimal}
use Rattle.show.specs.Lines.{ascii, line}
use Rattle.recording.specs.Recording.{Recording, recording_of}

-- an accepted object: its number in the recording, ok, and how many records it has ("1 ok 16")
unfoldable pub ok_line : (number count : ℕ) → List ℕ
ok_line number count = line (decimal number ∷ ascii "ok" ∷ decimal count ∷ [])

-- a refused one: its number, then that of the refusal, the place in the object ("2 6 4"), and behind every 9, and no other, the field of change request 2026-04
-- ("3 9 412 2")
unfoldable pub placed : Refusal → List (List ℕ)
placed r = decimal r.place ∷ cond (eqb r.number 9) (decimal r.field ∷ []) []

unfoldable pub bad_line : ℕ → Refusal → List ℕ
bad_line number r = line (decimal number ∷ decimal r.number ∷ placed r)

unfoldable pub answer_line : ℕ → Result Counts Refusal → List ℕ
answer_line number (Ok counts) = ok_line number counts.records
answer_line number (Err r) = bad_line number r

-- the recording itself is refused, with 23 or 24 at a place in the file ("refused 24 412")
unfoldable pub file_line : Refusal → List ℕ
file_line r = line (ascii "refused" ∷ decimal r.number ∷ decimal r.place ∷ [])

-- the lines of answers, from a number on
unfoldable pub answer_lines : ℕ → List (Result Counts Refusal) → List ℕ
answer_lines number [] = []
answer_lines number (answer ∷ answers) = answer_line number answer ++ answer_lines (suc number) answers

unfoldable pub end_line : Option Refusal → List ℕ
end_line none = []
end_line (some r) = file_line r

-- a listing, by whatever answers for an object
unfoldable pub listing : (List ℕ → Result Counts Refusal) → Recording → List ℕ
listing answer r = answer_lines 1 (map answer r.objects) ++ end_line r.ends

-- replay: the listing of what octets are as a recording
abbrev pub replay : (List ℕ → Result Counts Refusal) → List ℕ → List ℕ
replay answer octets = listing answer (recording_of octets)

-- what answers for an object: at first read, lent 1,024 record places; since change request 2026-14 the reader with no list
abbrev pub by_read : List ℕ → Result Counts Refusal
by_read object = read_answer 1_024 (headers_of object) (judge object)

abbrev pub by_scan : List ℕ → Result Counts Refusal
by_scan object = judge_answer (headers_of object) (judge object)
