use borrow.Author.Rules.{rules}
use Rattle.packer.proofs.Counted.{fill-ways}
use Rattle.packer.proofs.counting.fill_keys.Goals as goal

pub loop-j-preserved : goal.loop-j-preserved
loop-j-preserved c = search (fill-ways, rules)
