use Prim.Native.Nat.{◌+◌, ◌*◌}
use Rattle.text.specs.Runs.{PlainTo}
use Rattle.text.proofs.runs.sixteens_end.Given as goal

abbrev pub invariant-loop-n : goal.invariant-loop-n
invariant-loop-n l = PlainTo l.s l.at (l.at + 16 * l.n)
