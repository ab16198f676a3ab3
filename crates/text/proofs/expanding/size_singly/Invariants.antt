use Prim.Native.Nat.{◌+◌}
use Rattle.text.specs.Weighing.{weight}
use Rattle.text.proofs.Replaced.{Adding}
use Rattle.text.proofs.expanding.size_singly.Given as goal

abbrev pub invariant-loop-b : goal.invariant-loop-b
invariant-loop-b l = Adding (weight l.widths) l.s (l.initial.total + weight l.widths l.s) l.most.0 l.total l.b-index
