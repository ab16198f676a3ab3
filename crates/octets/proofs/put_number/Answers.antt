use borrow.Author.Tests.{not-false}
use Rattle.octets.proofs.Puts.{room_in}
use Rattle.octets.proofs.Writing.{number-width, number_small, put-number-ways}
use borrow.Author.Rules.{rules}
use Rattle.octets.proofs.put_number.Goals as goal

pub returns-then-not-fits_width : goal.returns-then-not-fits_width
returns-then-not-fits_width c = search (put-number-ways, rules)

pub returns-then-not-has_room : goal.returns-then-not-has_room
returns-then-not-has_room c = search (put-number-ways, rules)

pub store_number-requires : goal.store_number-requires
store_number-requires c =
    let room = c.has_room in
    record { width_bound = search (number-width, not-false); n_bound = search (number_small, not-false); width_in_bounds = room_in _ _ _ room.result room.ensures (not-false _ c.if-not-has_room.false-raw) }

pub overflow_add-result : goal.overflow_add-result
overflow_add-result c = search (put-number-ways, rules)

pub returns : goal.returns
returns c = search (put-number-ways, rules)
