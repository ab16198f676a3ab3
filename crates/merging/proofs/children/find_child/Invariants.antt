use Rattle.std.proofs.Common.{Bool, List, ℕ, ◌-◌, length}
use Rattle.merging.specs.Searches.{Tests}
use Rattle.merging.proofs.Searching.{Sought}
use Rattle.merging.proofs.children.find_child.Given as goal

abbrev pub invariant-loop-child : goal.invariant-loop-child
invariant-loop-child g l = (f : ℕ → List ℕ → Bool) → Tests g.F.Fn l.passes f → Sought f l.part l.start l.i

abbrev pub decreases-loop-child : goal.decreases-loop-child
decreases-loop-child g l = length l.part - l.i
