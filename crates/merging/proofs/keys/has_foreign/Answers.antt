use Rattle.std.proofs.Common.{rules}
use Rattle.merging.proofs.KeyWays.{foreign-all}
use Rattle.merging.proofs.keys.has_foreign.Goals as goal

pub returns : goal.returns
returns c = search (foreign-all, rules)
