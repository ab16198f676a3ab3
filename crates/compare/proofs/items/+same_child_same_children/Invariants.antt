use Prim.Native.Nat.{◌+◌, ◌-◌}
use lib.ListN.{length}
use Rattle.text.specs.Index.{entries_by}
use Rattle.compare.proofs.Comparing.{Abreast}
use Rattle.compare.proofs.items.+same_child_same_children.Given as goal

abbrev pub decreases-same_child : goal.decreases-same_child
decreases-same_child l = l.levels + l.levels

abbrev pub decreases-same_children : goal.decreases-same_children
decreases-same_children l = l.levels + l.levels + 1

abbrev pub invariant-same_children-loop-child_a : goal.invariant-same_children-loop-child_a
invariant-same_children-loop-child_a l = Abreast l.levels (entries_by l.index_a l.table_a) l.a (entries_by l.index_b l.table_b) l.b l.i l.j

abbrev pub decreases-same_children-loop-child_a : goal.decreases-same_children-loop-child_a
decreases-same_children-loop-child_a l = length l.a - l.i
