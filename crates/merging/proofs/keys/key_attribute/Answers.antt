use Rattle.std.proofs.Common.{arith}
use Rattle.std.proofs.lemmas.Bool.Decides.{nat_tests}
use Rattle.merge.specs.Keys.{key_attribute}
use Rattle.merging.proofs.keys.key_attribute.Goals as goal

pub returns-in-28 : goal.returns-in-28
unfolding key_attribute
returns-in-28 c = grind (arith, nat_tests)

pub returns-in_default : goal.returns-in_default
unfolding key_attribute
returns-in_default c = grind (arith, nat_tests)
