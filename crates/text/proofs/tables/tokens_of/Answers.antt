use Rattle.text.proofs.Entries.{list-ways, next-fits-2}
use borrow.Author.Rules.{rules}
use Rattle.text.proofs.tables.tokens_of.Goals as goal

pub loop-at-init : goal.loop-at-init
loop-at-init c = search (list-ways, rules)

pub returns-in_default : goal.returns-in_default
returns-in_default c = search (list-ways, rules)

pub overflow_add-at : goal.overflow_add-at
overflow_add-at c = search (list-ways, rules)

pub overflow_add-at-in-loop-at : goal.overflow_add-at-in-loop-at
overflow_add-at-in-loop-at c =
    next-fits-2 c.args.table.now _ c.loop-at-test.true _ c.first_entry.ensures _ c.in-Some.is (search rules)

pub loop-at-preserved : goal.loop-at-preserved
loop-at-preserved c = search (list-ways, rules)

pub returns : goal.returns
returns c = search (list-ways, rules)
