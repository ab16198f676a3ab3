use Rattle.values.proofs.TimeForm.{offset-puts, offset-room}
use borrow.Author.Rules.{rules}
use Rattle.values.proofs.time_form.put_offset.Goals as goal

pub returns-then-halves-eq0 : goal.returns-then-halves-eq0
returns-then-halves-eq0 c = search (offset-puts, offset-room, rules)

pub bounds-out-at : goal.bounds-out-at
bounds-out-at c = search (offset-puts, offset-room, rules)

pub returns-then-minus : goal.returns-then-minus
returns-then-minus c = search (offset-puts, offset-room, rules)

pub bounds-out-at-2 : goal.bounds-out-at-2
bounds-out-at-2 c = search (offset-puts, offset-room, rules)

pub returns : goal.returns
returns c = search (offset-puts, offset-room, rules)
