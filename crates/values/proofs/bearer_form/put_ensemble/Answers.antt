use Rattle.values.proofs.Shifts.{stored-length}
use Rattle.values.proofs.BearerForm.{ensemble-puts, present-room, present-rest}
use borrow.Author.Rules.{rules}
use Rattle.values.proofs.bearer_form.put_ensemble.Goals as goal

pub bounds-out-at : goal.bounds-out-at
bounds-out-at c = search (ensemble-puts, present-room, rules)

pub put_two-requires : goal.put_two-requires
put_two-requires c =
    record { n_bound = search rules; at_in_bounds = search (present-rest, rules) }

pub returns-in_default : goal.returns-in_default
returns-in_default c = search (ensemble-puts, present-room, rules)

pub shape_of-out : goal.shape_of-out
shape_of-out c = search (stored-length, rules)

pub returns : goal.returns
returns c = search (ensemble-puts, present-room, rules)
