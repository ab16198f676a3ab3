-- The small receiver's gate (request 2026-07).
use Rattle.std.specs.Prelude.{◌≡◌, Bool, true, false, List, ℕ, Option, Some, None, Result, Ok, Err}
use Rattle.format.specs.Answers.{refusal}
use Rattle.format.specs.Tree.{Items}
use Rattle.format.specs.Tree.Items.{end, item}
use Rattle.format.specs.declared.Refusal.{Refusal}
use Rattle.survey.specs.First.{sought_by, sought_in}
use Rattle.pocket.specs.declared.DataType.{DataType}
use Rattle.pocket.specs.Table.{rows, anywhere, allowed_in}

-- every item in an element of a tag, and inside these, is allowed where it stands. A tree has the known items alone
abbrev pub Allowed : DataType → (parent : ℕ) → Items → Type 0
Allowed d parent end = Unit {0}
Allowed d parent (item tag at body inside after) = (allowed_in d parent tag ≡ true) × Allowed d tag inside × Allowed d parent after

-- an item offends that isn't allowed, where it is known
unfoldable pub offends : DataType → (parent tag : ℕ) → Bool
offends d = sought_by false (rows d) anywhere

-- 1 to 13 by the judgement, then 19 at the first offender, else yes. No list is lent, so there is no 14
unfoldable pub gate_answer : Result (Option ℕ) Refusal → Result (Unit {0}) Refusal
gate_answer (Err r) = Err r
gate_answer (Ok None) = Ok tt
gate_answer (Ok (Some place)) = Err (refusal 19 place)

unfoldable pub gate_of : DataType → List ℕ → Result (Unit {0}) Refusal
gate_of d object = gate_answer (sought_in (offends d) object)
