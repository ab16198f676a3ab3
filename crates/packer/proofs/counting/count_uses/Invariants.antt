use Prim.Native.Nat.{◌-◌}
use Rattle.packer.proofs.Counted.{Counting}
use Rattle.packer.proofs.counting.count_uses.Given as goal

abbrev pub invariant-loop-j : goal.invariant-loop-j
invariant-loop-j l = Counting l.object l.starts l.sizes l.initial.done l.done l.i l.n l.uses l.j

abbrev pub decreases-loop-j : goal.decreases-loop-j
decreases-loop-j l = l.n - l.j
