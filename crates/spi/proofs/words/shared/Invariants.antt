use Rattle.spi.proofs.Ways.{Shared}
use Rattle.spi.proofs.words.shared.Given as goal

abbrev pub invariant-loop-i : goal.invariant-loop-i
invariant-loop-i l = Shared l.a l.b l.i
