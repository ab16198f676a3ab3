use mathlib.Core.Bool.{true}
use Rattle.values.specs.Times.{time_octets}
use Rattle.values.proofs.Shifts.{put-valid, put-ways}
use mathlib.Core.Path.{ap}
use borrow.Author.Tests.{not-false}
use Rattle.octets.proofs.Puts.{asked-room}
use borrow.Author.Rules.{rules}
use Rattle.values.proofs.Time.put.Goals as goal

pub returns-then-not-valid : goal.returns-then-not-valid
returns-then-not-valid c = search (put-ways, rules)

pub returns-then-not-has_room : goal.returns-then-not-has_room
returns-then-not-has_room c = search (put-ways, rules)

pub store-requires : goal.store-requires
store-requires c =
    let args = c.args in
    let room = c.has_room in record { self_value = search (put-valid, not-false, rules); self_in_bounds = asked-room true (time_octets args.self) _ args.out.now _ (ap (λ n. n.0) c.size-size.ensures) room.result room.ensures (search (not-false, rules)) }

pub overflow_add-result : goal.overflow_add-result
overflow_add-result c = search (put-ways, rules)

pub returns : goal.returns
returns c = search (put-ways, rules)
