use Rattle.packer.proofs.Counted.{use-ways}
use borrow.Author.Rules.{rules}
use Rattle.packer.proofs.counting.is_use.Goals as goal

pub returns-then-size-other : goal.returns-then-size-other
returns-then-size-other c = search (use-ways, rules)
