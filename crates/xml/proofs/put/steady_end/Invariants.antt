use Rattle.xml.specs.Steps.{SteadyTo}
use Rattle.xml.proofs.put.steady_end.Given as goal

abbrev pub invariant-loop-end : goal.invariant-loop-end
invariant-loop-end l = SteadyTo l.s l.at l.end
