use Rattle.std.proofs.Common.{rules}
use Rattle.merging.specs.Among.{equal_in}
use Rattle.merging.proofs.equal.has_equal.Goals as goal

pub returns : goal.returns
unfolding equal_in
returns c = search rules
