-- What the gate's answer says, in the words of the grammar and of the tree (request 2026-07).
use Rattle.std.specs.Prelude.{◌≡◌, ◌↔◌, ◌⊎◌, List, ℕ, ◌≤◌, ◌<◌, length, Result, Ok, Err}
use Rattle.std.proofs.Math.Option.{some}
use Rattle.octets.specs.Numbers.{Octets}
use Rattle.format.specs.declared.Refusal.{Refusal}
use Rattle.format.specs.Answers.{refusal}
use Rattle.format.specs.Tree.{Items}
use Rattle.format.specs.Judge.{judge}
use Rattle.format.specs.Judge.Judged.{refused}
use Rattle.grammar.specs.Grammar.{Accepts}
use Rattle.survey.specs.First.{first_in, item_at}
use Rattle.pocket.specs.declared.DataType.{DataType}
use Rattle.pocket.specs.Gate.{Allowed, offends, gate_of}

-- 1 to 13 come first, as the judgement gives them; then 19 at a place, exactly where the object is one of the grammar and the item whose tag lies at that place is the first in reading order
-- of its known items that isn't allowed where it stands; then yes, exactly where all are allowed. No refusal has another number
pub record GateOrder (d : DataType) (object : List ℕ) (answer : Result (Unit {0}) Refusal) : Type 0 where
  pub of_object : (r : Refusal) → r.number ≤ 13 → (answer ≡ Err r) ↔ (judge object ≡ refused r)
  pub nineteen : (place : ℕ) → (answer ≡ Err (refusal 19 place)) ↔ ((t : Items) × Accepts object t × (first_in (offends d) 0 t ≡ some (item_at object place)))
  pub inside : (place : ℕ) → answer ≡ Err (refusal 19 place) → place < length object
  pub yes : (answer ≡ Ok tt) ↔ ((t : Items) × Accepts object t × Allowed d 0 t)
  pub others : (r : Refusal) → answer ≡ Err r → (r.number ≤ 13) ⊎ (r.number ≡ 19)

abbrev pub GateInOrder : Type 0
GateInOrder = (d : DataType) (object : List ℕ) (answer : Result (Unit {0}) Refusal) → Octets object → answer ≡ gate_of d object → GateOrder d object answer
