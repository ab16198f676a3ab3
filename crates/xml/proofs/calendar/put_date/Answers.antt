use Rattle.xml.proofs.Dating.{date-ways}
use borrow.Author.Rules.{rules}
use Rattle.xml.proofs.calendar.put_date.Goals as goal

pub month_of-month-requires : goal.month_of-month-requires
month_of-month-requires c = search (date-ways, rules)

pub put_four-a-requires : goal.put_four-a-requires
put_four-a-requires c = search (date-ways, rules)

pub put_pair-requires : goal.put_pair-requires
put_pair-requires c = search (date-ways, rules)

pub returns : goal.returns
returns c = search (date-ways, rules)
