use native.Mathlib.Omega.{arith}
use Rattle.edits.proofs.Scans.{sum-next, sum_past}
use Rattle.edits.proofs.extent.sum_of.Goals as goal

pub loop-size-preserved : goal.loop-size-preserved
loop-size-preserved c = omega (arith, sum-next _ _ c.loop-size-test.true)

pub returns : goal.returns
returns c = omega (arith, sum_past _ _ c.loop-size-test.false)
