use Prim.Native.Nat.{◌-◌}
use lib.ListN.{length}
use Rattle.text.specs.Tokens.{entries}
use Rattle.packer.proofs.Measuring.{Sums}
use Rattle.packer.proofs.texts.folded_size.Given as goal

abbrev pub invariant-loop-at : goal.invariant-loop-at
invariant-loop-at l = Sums (entries l.table) l.s l.size l.at

abbrev pub decreases-loop-at : goal.decreases-loop-at
decreases-loop-at l = length l.s - l.at
