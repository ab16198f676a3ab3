use borrow.Author.Rules.{rules}
use Rattle.octets.proofs.Upward.{moved-ways}
use Rattle.octets.proofs.moving.move_up.Goals as goal

pub returns-then-by-eq0 : goal.returns-then-by-eq0
returns-then-by-eq0 c = search (moved-ways, rules)

pub returns-then-from-end : goal.returns-then-from-end
returns-then-from-end c = search (moved-ways, rules)

pub returns-then-has_room : goal.returns-then-has_room
returns-then-has_room c = search (moved-ways, rules)

pub returns-else-has_room : goal.returns-else-has_room
returns-else-has_room c = search (moved-ways, rules)
