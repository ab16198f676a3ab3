use lib.ListN.{length}
use Rattle.judge.proofs.Turn.{Holds}
use Rattle.judge.specs.Says.{InForce}
use Prim.Native.Nat.{◌+◌, ◌-◌}
use Rattle.judge.proofs.items.+read_element_read_items.Given as goal

abbrev pub decreases-read_element : goal.decreases-read_element
decreases-read_element l = l.left + l.left

abbrev pub decreases-read_items : goal.decreases-read_items
decreases-read_items l = l.left + l.left + 1

abbrev pub invariant-read_items-loop-at : goal.invariant-read_items-loop-at
invariant-read_items-loop-at l =
    Holds l.part l.base l.parent l.left l.initial.counts l.table-2 l.at l.progress l.counts l.table × InForce l.table l.marks l.shows

abbrev pub decreases-read_items-loop-at : goal.decreases-read_items-loop-at
decreases-read_items-loop-at l =
    length l.part - l.at
