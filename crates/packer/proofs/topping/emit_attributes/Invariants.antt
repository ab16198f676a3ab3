use Prim.Native.Nat.{◌-◌}
use lib.ListN.{length}
use Rattle.text.specs.Tokens.{entries}
use Rattle.packer.proofs.Topped.{Going}
use Rattle.packer.proofs.topping.emit_attributes.Given as goal

abbrev pub invariant-loop-i : goal.invariant-loop-i
invariant-loop-i l = Going (entries l.table) l.parent l.left l.part l.initial.out l.out l.at l.end l.i

abbrev pub decreases-loop-i : goal.decreases-loop-i
decreases-loop-i l = length l.part - l.i
