use borrow.Author.Rules.{rules}
use Rattle.show.specs.Lines.{ascii}
use Rattle.xml.specs.Names.{names}
use Rattle.xml.proofs.Packed.{packed, element_rows, element_table, element-put, element-rest}
use Rattle.xml.proofs.rows.put_element_name.Goals as goal

pub returns-in-0 : goal.returns-in-0
unfolding element_table element_rows packed names ascii
returns-in-0 c = search (element-put, rules)

pub returns-in-2 : goal.returns-in-2
unfolding element_table element_rows packed names ascii
returns-in-2 c = search (element-put, rules)

pub returns-in-3 : goal.returns-in-3
unfolding element_table element_rows packed names ascii
returns-in-3 c = search (element-put, rules)

pub returns-in-4 : goal.returns-in-4
unfolding element_table element_rows packed names ascii
returns-in-4 c = search (element-put, rules)

pub returns-in-5 : goal.returns-in-5
unfolding element_table element_rows packed names ascii
returns-in-5 c = search (element-put, rules)

pub returns-in-6 : goal.returns-in-6
unfolding element_table element_rows packed names ascii
returns-in-6 c = search (element-put, rules)

pub returns-in-7 : goal.returns-in-7
unfolding element_table element_rows packed names ascii
returns-in-7 c = search (element-put, rules)

pub returns-in_default : goal.returns-in_default
returns-in_default c = element-rest _ _ _ _ _ (search rules) c.in_default.in_default-own.rest c.put_none.ensures
