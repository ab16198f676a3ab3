use mathlib.Core.Path.{refl}
use Rattle.values.specs.Table.{attribute}
use Rattle.values.proofs.table.is_attribute.Goals as goal

pub returns : goal.returns
unfolding attribute
returns c = refl
