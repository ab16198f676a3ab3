use borrow.Author.Rules.{rules}
use Rattle.packer.proofs.Counted.{again-ways}
use Rattle.packer.proofs.counting.is_again.Goals as goal

pub returns-then-keys-i : goal.returns-then-keys-i
returns-then-keys-i c = search (again-ways, rules)

pub returns : goal.returns
returns c = search (again-ways, rules)
