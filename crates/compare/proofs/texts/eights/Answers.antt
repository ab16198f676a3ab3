use Rattle.std.proofs.Common.{arith}
use Rattle.compare.proofs.Expansions.{eights-again}
use Rattle.compare.proofs.texts.eights.Goals as goal

pub loop-i-preserved : goal.loop-i-preserved
loop-i-preserved c = eights-again _ _ _ c.loop-i.invariant (omega arith) (omega arith) _ c.are_eight_shared.ensures c.if-not-are_eight_shared.false
