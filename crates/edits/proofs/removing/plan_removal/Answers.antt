use Rattle.edits.proofs.Removed.{plan-none, plan-top, plan-past, plan-asks, plan-gap}
use Rattle.edits.proofs.removing.plan_removal.Goals as goal

pub returns-in_default : goal.returns-in_default
returns-in_default c = plan-none _ _ _ _ c.held.ensures (c.in_default.is)

pub returns-then-number-eq0 : goal.returns-then-number-eq0
returns-then-number-eq0 c = plan-top _ _ _ _ c.held.ensures _ (c.in-Some.is) c.if-number-eq0.true

pub returns-then-number-n : goal.returns-then-number-n
returns-then-number-n c = plan-past _ _ _ _ c.held.ensures _ (c.in-Some.is) c.if-number-n.true

pub gap_of-requires : goal.gap_of-requires
gap_of-requires c = plan-asks _ _ _ _ c.held.ensures _ (c.in-Some.is) c.if-number-eq0.false c.if-number-n.false c.requires

pub returns : goal.returns
returns c = plan-gap _ _ _ _ c.held.ensures _ (c.in-Some.is) c.if-number-eq0.false c.if-number-n.false _ c.gap_of.ensures
