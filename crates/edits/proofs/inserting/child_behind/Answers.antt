use native.Mathlib.Omega.{arith}
use borrow.Author.Rules.{rules}
use Rattle.edits.proofs.InsertLeaves.{walking-next, walking-end, walking-ways}
use Rattle.edits.proofs.inserting.child_behind.Goals as goal

pub returns-then-stops_at : goal.returns-then-stops_at
returns-then-stops_at c = search (walking-ways, rules)

pub loop-next-preserved : goal.loop-next-preserved
loop-next-preserved c = walking-next _ _ _ _ _ c.requires _ _ c.loop-next.invariant (omega arith) _ c.stops_at.ensures c.if-stops_at.false _ c.left_after-left.ensures

pub returns : goal.returns
returns c = walking-end _ _ _ _ _ c.requires _ _ c.loop-next.invariant (omega arith) _ c.found_at-2.ensures
