use Prim.Native.Nat.{◌+◌, ◌*◌}
use Rattle.text.specs.Links.{LinkedTo}
use Rattle.text.proofs.links.links_end.Given as goal

abbrev pub invariant-loop-n : goal.invariant-loop-n
invariant-loop-n l = LinkedTo l.s l.at (l.at + 16 * l.n)
