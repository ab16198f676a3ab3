use Rattle.std.proofs.Common.{◌*◌}
use Rattle.compare.specs.Texts.{Shared}
use Rattle.compare.proofs.texts.eights.Given as goal

abbrev pub invariant-loop-i : goal.invariant-loop-i
invariant-loop-i l = Shared l.a l.b (8 * l.i)
