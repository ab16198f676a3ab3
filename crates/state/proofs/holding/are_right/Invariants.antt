use Rattle.state.specs.Taking.{shared_memory}
use Rattle.state.proofs.Checks.{Righting}
use Rattle.state.proofs.holding.are_right.Given as goal

abbrev pub invariant-loop-i : goal.invariant-loop-i
invariant-loop-i l = Righting (shared_memory l.memory) l.n l.i l.sums
