use mathlib.Core.Path.{sym}
use mathlib.Core.Bool.{true}
use borrow.Author.Tests.{not-true, not-false}
use Rattle.octets.proofs.Puts.{asked-room}
use Rattle.show.specs.Digits.{hex_lower}
use Rattle.show.proofs.Writing.{put-ways, length-hex}
use borrow.Author.Rules.{rules}
use Rattle.show.proofs.put_hex.Goals as goal

pub overflow_mul-size : goal.overflow_mul-size
overflow_mul-size c = search (put-ways, length-hex, rules)

pub has_room-requires : goal.has_room-requires
has_room-requires c = search (put-ways, length-hex, rules)

pub returns-then-not-has_room : goal.returns-then-not-has_room
returns-then-not-has_room c = search (put-ways, length-hex, rules)

pub store_all_hex-requires : goal.store_all_hex-requires
store_all_hex-requires c =
    let args = c.args in
    asked-room true (hex_lower args.s.now) _ args.out.now _ (sym (length-hex args.s.now)) _ c.has_room.ensures (search (not-true, not-false, rules))

pub shape_of-out : goal.shape_of-out
shape_of-out c = search (put-ways, length-hex, rules)

pub returns : goal.returns
returns c = search (put-ways, length-hex, rules)
