use Prim.Native.Nat.{◌+◌, ◌*◌}
use Rattle.text.specs.Runs.{RunTo}
use Rattle.text.proofs.runs.eights_end.Given as goal

abbrev pub invariant-loop-n : goal.invariant-loop-n
invariant-loop-n l = RunTo l.least l.most l.s l.at (l.at + 8 * l.n)
