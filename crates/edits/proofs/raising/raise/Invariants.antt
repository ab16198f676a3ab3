use Rattle.edits.proofs.Climbing.{Raises}
use Rattle.edits.proofs.raising.raise.Given as goal

abbrev pub invariant-loop-g : goal.invariant-loop-g
invariant-loop-g l = Raises l.parents l.initial.bodies l.element l.initial.old.0 l.initial.new.0 l.bodies l.g l.old.0 l.new.0

abbrev pub decreases-loop-g : goal.decreases-loop-g
decreases-loop-g l = l.g
