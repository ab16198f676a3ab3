use Rattle.text.proofs.Entries.{next-fits-2}
use Rattle.text.proofs.Index.{index-ways}
use borrow.Author.Rules.{rules}
use Rattle.text.proofs.tables.index_of.Goals as goal

pub loop-at-init : goal.loop-at-init
loop-at-init c = search (index-ways, rules)

pub returns-in_default : goal.returns-in_default
returns-in_default c = search (index-ways, rules)

pub overflow_add-at : goal.overflow_add-at
overflow_add-at c = search (index-ways, rules)

pub overflow_add-at-in-loop-at-2 : goal.overflow_add-at-in-loop-at-2
overflow_add-at-in-loop-at-2 c =
    next-fits-2 c.args.table.now _ c.loop-at-test.true _ c.first_entry.ensures _ c.in-Some.is (search rules)

pub loop-at-preserved : goal.loop-at-preserved
loop-at-preserved c = search (index-ways, rules)

pub returns : goal.returns
returns c = search (index-ways, rules)
