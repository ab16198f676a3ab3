use borrow.Author.Rules.{rules}
use Rattle.merging.proofs.Singly.{size-other, size-ways}
use Rattle.merging.proofs.put.size_of.Goals as goal

pub returns-in-HoldsText : goal.returns-in-HoldsText
returns-in-HoldsText c = search (size-ways, rules)

pub returns-in_default : goal.returns-in_default
returns-in_default c =
    size-other c.args.table.now c.args.body.now c.args.kind c.stopped.result (search rules) c.value_size.result c.value_size.ensures c.stopped.ensures
