use Rattle.packer.proofs.Ranked.{Passes}
use Rattle.packer.proofs.ranking.place_in.Given as goal

abbrev pub invariant-loop-i : goal.invariant-loop-i
invariant-loop-i l = Passes l.words l.count l.saved l.i
