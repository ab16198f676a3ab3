use Rattle.text.proofs.Entries.{table-ways, table_fits, table-fits-2, table-bit}
use borrow.Author.Rules.{rules}
use Rattle.text.proofs.tables.is_table.Goals as goal

pub loop-at-init : goal.loop-at-init
loop-at-init c = search (table-ways, rules)

pub returns-in_default : goal.returns-in_default
returns-in_default c = search (table-ways, rules)

pub overflow_shl-seen : goal.overflow_shl-seen
overflow_shl-seen c = search (table-bit, rules)

pub overflow_add-at : goal.overflow_add-at
overflow_add-at c = search (table_fits, rules)

pub overflow_add-at-in-loop-at : goal.overflow_add-at-in-loop-at
overflow_add-at-in-loop-at c =
    table-fits-2 _ _ _ c.loop-at.invariant c.loop-at-test.true _ c.good_entry.ensures _ c.in-Some.is (search rules)

pub loop-at-preserved : goal.loop-at-preserved
loop-at-preserved c = search (table-ways, rules)

pub returns : goal.returns
returns c = search (table-ways, rules)
