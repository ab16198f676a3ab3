use Rattle.compare.specs.Texts.{Shared}
use Rattle.compare.proofs.texts.common.Given as goal

abbrev pub invariant-loop-n : goal.invariant-loop-n
invariant-loop-n l = Shared l.a l.b l.n
