use Rattle.edits.proofs.InsertLeaves.{one-between, one-ways}
use borrow.Author.Rules.{rules}
use Rattle.edits.proofs.inserting.is_one_item.Goals as goal

pub returns-then-octets-gt32768 : goal.returns-then-octets-gt32768
returns-then-octets-gt32768 c = search (one-ways, rules)

pub returns-in-None : goal.returns-in-None
returns-in-None c = search (one-ways, rules)

pub returns-in-Some : goal.returns-in-Some
returns-in-Some c = one-between _ c.if-octets-gt32768.false _ c.item_at.ensures _ _ c.in-Some.is
