use borrow.Author.Rules.{rules}
use Rattle.packer.proofs.Chosen.{choose-begin, choose-done}
use Rattle.packer.proofs.counting.choose.Goals as goal

pub loop-i-init : goal.loop-i-init
loop-i-init c = search (choose-begin, rules)

pub returns : goal.returns
returns c = search (choose-done, rules)
