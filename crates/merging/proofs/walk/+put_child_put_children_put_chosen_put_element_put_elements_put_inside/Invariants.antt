use Rattle.merging.proofs.Walking.{Goes}
use Prim.Native.Nat.{◌+◌, ◌*◌, ◌-◌}
use lib.ListN.{length}
use Rattle.merging.proofs.walk.+put_child_put_children_put_chosen_put_element_put_elements_put_inside.Given as goal

abbrev pub decreases-put_child : goal.decreases-put_child
decreases-put_child l = 6 * l.left + 2

abbrev pub decreases-put_children : goal.decreases-put_children
decreases-put_children l = 6 * l.left + 3

abbrev pub decreases-put_chosen : goal.decreases-put_chosen
decreases-put_chosen l = 6 * l.left + 1

abbrev pub decreases-put_element : goal.decreases-put_element
decreases-put_element l = 6 * l.left

abbrev pub decreases-put_elements : goal.decreases-put_elements
decreases-put_elements l = 6 * l.left + 4

abbrev pub decreases-put_inside : goal.decreases-put_inside
decreases-put_inside l = 6 * l.left + 5

abbrev pub invariant-put_children-loop-child : goal.invariant-put_children-loop-child
invariant-put_children-loop-child l =
    Goes l.emit l.role l.by l.left l.index_a l.table_a l.a l.index_b l.table_b l.b l.initial.done l.initial.out l.out l.done l.i

abbrev pub decreases-put_children-loop-child : goal.decreases-put_children-loop-child
decreases-put_children-loop-child l = length l.a - l.i
