use Prim.Native.Nat.{◌-◌}
use lib.ListN.{length}
use Rattle.text.specs.Tokens.{entries}
use Rattle.packer.proofs.Laid.{Folds}
use Rattle.packer.proofs.texts.put_text.Given as goal

abbrev pub invariant-loop-i : goal.invariant-loop-i
invariant-loop-i l = Folds (entries l.table) l.s l.initial.out l.at l.out l.to l.i

abbrev pub decreases-loop-i : goal.decreases-loop-i
decreases-loop-i l = length l.s - l.i
