use native.Mathlib.Omega.{arith}
use Rattle.edits.proofs.Followed.{shifting-end, shifting-next}
use Rattle.edits.proofs.shifting.shift_starts.Goals as goal

pub loop-i-preserved : goal.loop-i-preserved
loop-i-preserved c = shifting-next _ _ _ _ _ _ c.requires _ _ c.loop-i.invariant c.loop-i-test.true (omega arith) _ c.next_start.ensures

pub returns : goal.returns
returns c = shifting-end _ _ _ _ _ _ c.requires _ _ c.loop-i.invariant (omega arith)
