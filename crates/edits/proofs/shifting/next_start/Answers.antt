use Rattle.edits.proofs.Followed.{start-ways}
use borrow.Author.Rules.{rules}
use Rattle.edits.proofs.shifting.next_start.Goals as goal

pub returns-then-holds_items : goal.returns-then-holds_items
returns-then-holds_items c = search (start-ways, rules)

pub move_start-requires : goal.move_start-requires
move_start-requires c = search (start-ways, rules)

pub returns : goal.returns
returns c = search (start-ways, rules)
