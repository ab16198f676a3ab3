use Rattle.octets.proofs.Puts.{room-ways}
use borrow.Author.Rules.{rules}
use Rattle.octets.proofs.has_room.Goals as goal

pub returns-then-at-room : goal.returns-then-at-room
returns-then-at-room c = search (room-ways, rules)

pub returns : goal.returns
returns c = search (room-ways, rules)
