use Rattle.xml.proofs.Dating.{time-ways}
use borrow.Author.Rules.{rules}
use Rattle.xml.proofs.calendar.put_time.Goals as goal

pub days_to-requires : goal.days_to-requires
days_to-requires c = search (time-ways, rules)

pub put_date-a-requires : goal.put_date-a-requires
put_date-a-requires c = search (time-ways, rules)

pub overflow_cast-local : goal.overflow_cast-local
overflow_cast-local c = search (time-ways, rules)

pub overflow_cast-local-2 : goal.overflow_cast-local-2
overflow_cast-local-2 c = search (time-ways, rules)

pub put_clock-c-requires : goal.put_clock-c-requires
put_clock-c-requires c = search (time-ways, rules)

pub put_offset-requires : goal.put_offset-requires
put_offset-requires c = search (time-ways, rules)

pub returns : goal.returns
returns c = search (time-ways, rules)
