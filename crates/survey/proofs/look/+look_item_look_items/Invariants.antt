use Rattle.survey.specs.First.{sought_by}
use Rattle.survey.proofs.Looking.{Looks}
use Prim.Native.Nat.{◌+◌, ◌*◌, ◌-◌}
use lib.ListN.{length}
use Rattle.survey.proofs.look.+look_item_look_items.Given as goal

abbrev pub decreases-look_item : goal.decreases-look_item
decreases-look_item l = 2 * l.left

abbrev pub decreases-look_items : goal.decreases-look_items
decreases-look_items l = 2 * l.left + 1

abbrev pub invariant-look_items-loop-at : goal.invariant-look_items-loop-at
invariant-look_items-loop-at l = Looks (sought_by l.listed l.rows l.anywhere) l.parent l.left l.part l.offset l.at

abbrev pub decreases-look_items-loop-at : goal.decreases-look_items-loop-at
decreases-look_items-loop-at l = length l.part - l.at
