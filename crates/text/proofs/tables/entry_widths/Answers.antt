use Rattle.text.proofs.Entries.{next-fits-2}
use Rattle.text.proofs.Widths.{measure-ways}
use borrow.Author.Rules.{rules}
use Rattle.text.proofs.tables.entry_widths.Goals as goal

pub loop-at-init : goal.loop-at-init
loop-at-init c = search (measure-ways, rules)

pub returns-in_default : goal.returns-in_default
returns-in_default c = search (measure-ways, rules)

pub bounds-table-at : goal.bounds-table-at
bounds-table-at c = search (measure-ways, rules)

pub bounds-widths-place_of : goal.bounds-widths-place_of
bounds-widths-place_of c = search (measure-ways, rules)

pub overflow_add-at : goal.overflow_add-at
overflow_add-at c = search (measure-ways, rules)

pub overflow_add-at-in-loop-at : goal.overflow_add-at-in-loop-at
overflow_add-at-in-loop-at c =
    next-fits-2 c.args.table.now _ c.loop-at-test.true _ c.first_entry.ensures _ c.in-Some.is (search rules)

pub loop-at-preserved : goal.loop-at-preserved
loop-at-preserved c = search (measure-ways, rules)

pub returns : goal.returns
returns c = search (measure-ways, rules)
