-- What document 01's numbers for an answer of merging are not.
use Rattle.std.specs.Prelude.{Ok, Err}
use mathlib.Core.Path.{◌≡◌, ap}
use Prim.Native.Nat.{ℕ}
use native.Mathlib.Omega.{arith}
use Rattle.octets.specs.Counts.{as_octets}
use Rattle.format.specs.Answers.{refusal, wrong_value}
use Rattle.merge.specs.Calls.{merge_outcome, records_size}
use Rattle.merge.specs.declared.MergeRefusal.TheVariants.{Basic, Advanced, Neither}

-- which object was refused is told, its field too; a refusal of both together isn't told of one; and octets aren't told for records
pub merge-outcomes : (merge_outcome (Err (Advanced (refusal 2 0))) ≡ merge_outcome (Err (Basic (refusal 2 0))) → ⊥)
    × (merge_outcome (Err (Basic (wrong_value 2 3))) ≡ merge_outcome (Err (Basic (refusal 9 2))) → ⊥)
    × (merge_outcome (Err (Neither (refusal 20 0))) ≡ merge_outcome (Err (Advanced (refusal 20 0))) → ⊥)
    × (merge_outcome (Ok (records_size 3 (as_octets 8))) ≡ merge_outcome (Ok (records_size 8 (as_octets 3))) → ⊥)
merge-outcomes = (
  (λ e. let z : ◌≡◌ {A = ℕ} 2 1 = ap (λ x. x.which) e in omega arith),
  (λ e. let z : ◌≡◌ {A = ℕ} 3 0 = ap (λ x. x.field) e in omega arith),
  (λ e. let z : ◌≡◌ {A = ℕ} 0 2 = ap (λ x. x.which) e in omega arith),
  (λ e. let z : ◌≡◌ {A = ℕ} 3 8 = ap (λ x. x.records) e in omega arith),
)
