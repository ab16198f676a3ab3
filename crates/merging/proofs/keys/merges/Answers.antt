use Rattle.merge.specs.Keys.{merges}
use Rattle.std.proofs.lemmas.Grind.{common_steps}
use Rattle.std.proofs.Common.{arith}
use Rattle.merging.proofs.keys.merges.Goals as goal

pub returns-then-is_of_schedule : goal.returns-then-is_of_schedule
unfolding merges
returns-then-is_of_schedule c = grind (arith, common_steps)

pub returns-else-is_of_schedule : goal.returns-else-is_of_schedule
unfolding merges
returns-else-is_of_schedule c = grind (arith, common_steps)
