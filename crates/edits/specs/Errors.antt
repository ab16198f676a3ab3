-- Why an edit is refused, and the refusal that says so to the caller. Who reads the request has to believe none of this.
use Rattle.std.specs.Prelude.{ℕ, Result, Ok, Err}
use Rattle.format.specs.declared.Refusal.{Refusal}
use Rattle.format.specs.Answers.{refusal}
use Rattle.edits.specs.declared.EditError.{EditError}
use Rattle.edits.specs.declared.EditError.TheVariants.{NoTree, NoPlace, BreaksRule, NoRecords, NoRoom}

abbrev pub refusal_of : EditError → Refusal
refusal_of NoTree = refusal 16 0
refusal_of NoPlace = refusal 18 0
refusal_of BreaksRule = refusal 16 0
refusal_of NoRecords = refusal 14 0
refusal_of NoRoom = refusal 15 0

-- what is planned, so that another reason for the same refusal is no other plan
abbrev pub planned : Result ℕ EditError → Result ℕ Refusal
planned (Ok used) = Ok used
planned (Err error) = Err (refusal_of error)
