use Prim.Native.Nat.{◌+◌, ◌*◌}
use lib.ListN.{drop}
use Rattle.text.specs.Weighing.{weight}
use Rattle.text.proofs.Replaced.{Adding}
use Rattle.text.proofs.expanding.size_from.Given as goal

abbrev pub invariant-loop-eight : goal.invariant-loop-eight
invariant-loop-eight l = Adding (weight l.widths) l.s (l.from + weight l.widths (drop l.from l.s)) l.most.0 l.total (l.from + 8 * l.eight-index)
