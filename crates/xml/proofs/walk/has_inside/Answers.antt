use Rattle.xml.proofs.Holding.{seek-less, seek_found, seek-again}
use Rattle.xml.proofs.walk.has_inside.Goals as goal

pub returns-then-is_shown : goal.returns-then-is_shown
returns-then-is_shown c =
    seek_found _ _ c.loop-at.invariant c.loop-at-test.true _ c.item_at.ensures _ _ c.in-Some.is _ c.is_shown.ensures c.if-is_shown.true

pub loop-at-smaller : goal.loop-at-smaller
loop-at-smaller c = seek-less _ _ c.loop-at.invariant c.loop-at-test.true _ c.item_at.ensures _ _ c.in-Some.is

pub loop-at-preserved : goal.loop-at-preserved
loop-at-preserved c =
    seek-again _ _ c.loop-at.invariant c.loop-at-test.true _ c.item_at.ensures _ _ c.in-Some.is _ c.is_shown.ensures c.if-is_shown.false
