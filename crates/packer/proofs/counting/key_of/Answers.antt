use borrow.Author.Rules.{rules}
use Rattle.packer.proofs.Counted.{key-begin, key-again, key-done}
use Rattle.packer.proofs.counting.key_of.Goals as goal

pub loop-b-init : goal.loop-b-init
loop-b-init c = search (key-begin, rules)

pub loop-b-preserved : goal.loop-b-preserved
loop-b-preserved c = search (key-again, rules)

pub returns : goal.returns
returns c = search (key-done, rules)
