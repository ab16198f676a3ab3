use Rattle.text.proofs.Sequences.{Follows}
use Rattle.text.proofs.characters.follows.Given as goal

abbrev pub invariant-loop-b : goal.invariant-loop-b
invariant-loop-b l = Follows l.rest l.bits l.least l.c l.b-index
