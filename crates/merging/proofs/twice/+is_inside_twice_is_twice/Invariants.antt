use Prim.Native.Nat.{◌+◌, ◌-◌}
use lib.ListN.{length}
use Rattle.text.specs.Index.{entries_by}
use Rattle.merging.specs.Keyed.{twice_inside}
use Rattle.merging.proofs.KeyWays.{Once}
use Rattle.merging.proofs.twice.+is_inside_twice_is_twice.Given as goal

abbrev pub decreases-is_inside_twice : goal.decreases-is_inside_twice
decreases-is_inside_twice l = l.levels + l.levels

abbrev pub decreases-is_twice : goal.decreases-is_twice
decreases-is_twice l = l.levels + l.levels + 1

abbrev pub invariant-is_twice-loop-child : goal.invariant-is_twice-loop-child
invariant-is_twice-loop-child l = Once l.by (entries_by l.index l.table) (twice_inside l.by (entries_by l.index l.table) l.levels) l.part l.i

abbrev pub decreases-is_twice-loop-child : goal.decreases-is_twice-loop-child
decreases-is_twice-loop-child l = length l.part - l.i
