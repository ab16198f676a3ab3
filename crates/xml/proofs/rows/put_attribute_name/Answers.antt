use Rattle.values.specs.Table.{attribute}
use Rattle.show.specs.Lines.{ascii}
use Rattle.xml.specs.Names.{names}
use Rattle.xml.proofs.Packed.{packed, unless_empty, attributes_of, attribute_rows, attribute_table, attribute-put, attribute-rest}
use Rattle.xml.proofs.rows.put_attribute_name.Goals as goal

pub returns-in-0 : goal.returns-in-0
unfolding attribute_table attribute_rows attributes_of unless_empty packed attribute names ascii
returns-in-0 c = attribute-put _ _ _ _ _ _ _ 0 c.in-0.is c.put_row_within.ensures

pub returns-in-2 : goal.returns-in-2
unfolding attribute_table attribute_rows attributes_of unless_empty packed attribute names ascii
returns-in-2 c = attribute-put _ _ _ _ _ _ _ 2 c.in-2.is c.put_row_within-in-2.ensures

pub returns-in-3 : goal.returns-in-3
unfolding attribute_table attribute_rows attributes_of unless_empty packed attribute names ascii
returns-in-3 c = attribute-put _ _ _ _ _ _ _ 3 c.in-3.is c.put_row_within-in-3.ensures

pub returns-in-4 : goal.returns-in-4
unfolding attribute_table attribute_rows attributes_of unless_empty packed attribute names ascii
returns-in-4 c = attribute-put _ _ _ _ _ _ _ 4 c.in-4.is c.put_row_within-in-4.ensures

pub returns-in-5 : goal.returns-in-5
unfolding attribute_table attribute_rows attributes_of unless_empty packed attribute names ascii
returns-in-5 c = attribute-put _ _ _ _ _ _ _ 5 c.in-5.is c.put_row_within-in-5.ensures

pub returns-in-6 : goal.returns-in-6
unfolding attribute_table attribute_rows attributes_of unless_empty packed attribute names ascii
returns-in-6 c = attribute-put _ _ _ _ _ _ _ 6 c.in-6.is c.put_row_within-in-6.ensures

pub returns-in-7 : goal.returns-in-7
unfolding attribute_table attribute_rows attributes_of unless_empty packed attribute names ascii
returns-in-7 c = attribute-put _ _ _ _ _ _ _ 7 c.in-7.is c.put_row_within-in-7.ensures

pub returns-in_default : goal.returns-in_default
returns-in_default c = attribute-rest _ _ _ _ _ _ _ c.in_default.in_default-own.rest
