use Rattle.std.specs.Prelude.{◌≡◌, ◌+◌, drop}
use Rattle.edits.specs.Extents.{sum_of}
use Rattle.edits.proofs.extent.sum_of.Given as goal

abbrev pub invariant-loop-size : goal.invariant-loop-size
invariant-loop-size l = l.total + sum_of (drop l.size-index l.size-items) ≡ sum_of l.size-items
