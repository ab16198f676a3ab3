use Rattle.format.specs.Lent.{shared_lists}
use Rattle.state.proofs.Checks.{Lying}
use Rattle.state.proofs.holding.lie_all.Given as goal

abbrev pub invariant-loop-i : goal.invariant-loop-i
invariant-loop-i l = Lying (shared_lists l.records) l.store l.n l.i l.at
