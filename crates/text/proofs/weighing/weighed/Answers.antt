use Rattle.text.specs.Leaves.{all_marked}
use mathlib.Core.Path.{refl}
use Rattle.text.proofs.weighing.weighed.Goals as goal

pub returns : goal.returns
unfolding all_marked
returns c = refl
