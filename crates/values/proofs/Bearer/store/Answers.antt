use Rattle.values.proofs.BearerForm.{scids-small, sid-small, first-room, ensemble-room, sid-room, bearer-length, bearer-stored}
use borrow.Author.Rules.{rules}
use Rattle.values.proofs.Bearer.store.Goals as goal

pub first_octet-requires : goal.first_octet-requires
first_octet-requires c = search (scids-small, rules)

pub bounds-out-at : goal.bounds-out-at
bounds-out-at c = search (first-room, rules)

pub put_ensemble-end-requires : goal.put_ensemble-end-requires
put_ensemble-end-requires c = search (ensemble-room, rules)

pub put_sid-requires : goal.put_sid-requires
put_sid-requires c = record { sid_value = search (sid-small, rules); long_in_bounds = search (sid-room, rules) }

pub shape_of-out : goal.shape_of-out
shape_of-out c = search (bearer-length, rules)

pub returns : goal.returns
returns c = search (bearer-stored, rules)
