use Rattle.values.proofs.TimeForm.{second-puts, second-room, second-room-2}
use borrow.Author.Rules.{rules}
use Rattle.values.proofs.time_form.put_second.Goals as goal

pub returns-then-second-eq0 : goal.returns-then-second-eq0
returns-then-second-eq0 c = search (second-puts, second-room, second-room-2, rules)

pub bounds-out-at : goal.bounds-out-at
bounds-out-at c = search (second-puts, second-room, second-room-2, rules)

pub bounds-out-at-2 : goal.bounds-out-at-2
bounds-out-at-2 c = search (second-puts, second-room, second-room-2, rules)

pub returns : goal.returns
returns c = search (second-puts, second-room, second-room-2, rules)
