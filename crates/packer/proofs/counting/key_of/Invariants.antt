use Rattle.packer.proofs.Counted.{Keying}
use Rattle.packer.proofs.counting.key_of.Given as goal

abbrev pub invariant-loop-b : goal.invariant-loop-b
invariant-loop-b l = Keying l.word l.key l.b-index
