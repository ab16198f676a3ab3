use borrow.Author.Rules.{rules}
use Rattle.merging.proofs.Singly.{lay-ways}
use Rattle.merging.proofs.put.lay_value.Goals as goal

pub returns-in-HoldsText : goal.returns-in-HoldsText
returns-in-HoldsText c = search (lay-ways, rules)

pub returns-in_default : goal.returns-in_default
returns-in_default c = search (lay-ways, rules)
