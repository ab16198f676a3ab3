use Rattle.edits.proofs.Climbing.{Tops}
use Rattle.edits.proofs.raising.top_fits.Given as goal

abbrev pub invariant-loop-g : goal.invariant-loop-g
invariant-loop-g l = Tops l.parents l.bodies l.element l.initial.old.0 l.initial.new.0 l.g l.old.0 l.new.0

abbrev pub decreases-loop-g : goal.decreases-loop-g
decreases-loop-g l = l.g
