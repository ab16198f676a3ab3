use native.Mathlib.Omega.{arith}
use Rattle.edits.proofs.Followed.{renumbering-next}
use Rattle.edits.proofs.shifting.shift_parents.Goals as goal

pub loop-i-preserved : goal.loop-i-preserved
loop-i-preserved c = renumbering-next _ _ _ _ _ c.requires _ _ c.loop-i.invariant c.loop-i-test.true (omega arith) _ c.next_parent.ensures
