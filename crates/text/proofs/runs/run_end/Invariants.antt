use Rattle.text.specs.Runs.{RunTo}
use Rattle.text.proofs.runs.run_end.Given as goal

abbrev pub invariant-loop-end : goal.invariant-loop-end
invariant-loop-end l = RunTo l.least l.most l.s l.at l.end
