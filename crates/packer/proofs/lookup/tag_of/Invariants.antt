use mathlib.Core.Path.{◌≡◌}
use lib.ListN.{length}
use Rattle.text.specs.Tokens.{entries}
use Rattle.fold.specs.Packed.{tag_of}
use Rattle.packer.proofs.lookup.tag_of.Given as goal

abbrev pub invariant-loop-rest : goal.invariant-loop-rest
invariant-loop-rest l = tag_of (entries l.table) l.w ≡ tag_of (entries l.rest) l.w

abbrev pub decreases-loop-rest : goal.decreases-loop-rest
decreases-loop-rest l = length l.rest
