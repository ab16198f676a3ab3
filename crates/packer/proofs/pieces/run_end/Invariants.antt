use Rattle.packer.proofs.Cutting.{RunsTo}
use Rattle.packer.proofs.pieces.run_end.Given as goal

abbrev pub invariant-loop-end : goal.invariant-loop-end
invariant-loop-end l = RunsTo l.s l.at l.end
