use Rattle.judge.proofs.LateWays.{late-head, late-found, late_ways}
use borrow.Author.Rules.{rules}
use Rattle.judge.proofs.late.hold_attributes.Goals as goal

pub returns-in_default : goal.returns-in_default
returns-in_default c = search (late_ways, rules)

pub overflow_sub-part-in-loop-at : goal.overflow_sub-part-in-loop-at
overflow_sub-part-in-loop-at c = late-head _ _ _ _ _ _ c.loop-at.invariant c.loop-at-test.true _ c.read_header.ensures _ _ c.in-Some.is

pub returns-then-part-at : goal.returns-then-part-at
returns-then-part-at c = search (late_ways, rules)

pub overflow_add-from : goal.overflow_add-from
overflow_add-from c = search (late_ways, rules)

pub overflow_add-to : goal.overflow_add-to
overflow_add-to c = search (late_ways, rules)

pub slice_bounds-is_settled-end : goal.slice_bounds-is_settled-end
slice_bounds-is_settled-end c = search (late_ways, rules)

pub loop-at-smaller : goal.loop-at-smaller
loop-at-smaller c = search (late_ways, rules)

pub loop-at-preserved : goal.loop-at-preserved
loop-at-preserved c = search (late_ways, rules)

pub returns-then-not-is_settled : goal.returns-then-not-is_settled
returns-then-not-is_settled c =
    late-found _ _ _ _ _ _ c.loop-at.invariant c.loop-at-test.true _ c.read_header.ensures _ _ c.in-Some.is
    c.if-part-at.false _ c.is_settled.ensures c.if-not-is_settled.true _ c.refuse.ensures

pub returns : goal.returns
returns c = search (late_ways, rules)
