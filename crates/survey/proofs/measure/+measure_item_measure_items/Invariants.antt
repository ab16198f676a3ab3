use Prim.Native.Nat.{◌+◌, ◌-◌}
use lib.ListN.{length}
use Rattle.text.specs.Tokens.{entries}
use Rattle.survey.proofs.Measuring.{Sums}
use Rattle.survey.proofs.measure.+measure_item_measure_items.Given as goal

abbrev pub decreases-measure_item : goal.decreases-measure_item
decreases-measure_item l = l.left + l.left

abbrev pub decreases-measure_items : goal.decreases-measure_items
decreases-measure_items l = l.left + l.left + 1

abbrev pub invariant-measure_items-loop-at : goal.invariant-measure_items-loop-at
invariant-measure_items-loop-at l = Sums (entries l.table) l.parent l.left l.part l.store l.octets l.at

abbrev pub decreases-measure_items-loop-at : goal.decreases-measure_items-loop-at
decreases-measure_items-loop-at l = length l.part - l.at
