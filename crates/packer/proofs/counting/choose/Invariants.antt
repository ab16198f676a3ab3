use mathlib.Core.Path.{◌≡◌}
use lib.ListN.{length}
use Rattle.packer.specs.Counting.{Chooses}
use Rattle.packer.proofs.counting.choose.Given as goal

abbrev pub invariant-loop-i : goal.invariant-loop-i
invariant-loop-i l = (length l.done ≡ length l.initial.done) × Chooses l.object l.starts l.sizes l.done l.n l.best l.i
