use Rattle.text.proofs.Replaced.{Gathering}
use Rattle.text.proofs.expanding.tokens_in.Given as goal

abbrev pub invariant-loop-b : goal.invariant-loop-b
invariant-loop-b l = Gathering l.s l.mask l.b-index
