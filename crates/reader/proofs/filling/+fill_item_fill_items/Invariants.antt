use Prim.Native.Nat.{◌+◌, ◌-◌}
use lib.ListN.{length}
use Rattle.format.specs.Lent.{lent_lists, Stay}
use Rattle.reader.proofs.Turns.{Turns}
use Rattle.reader.proofs.filling.+fill_item_fill_items.Given as goal

abbrev pub decreases-fill_item : goal.decreases-fill_item
decreases-fill_item l = (17 - l.place.depth) + (17 - l.place.depth)

abbrev pub decreases-fill_items : goal.decreases-fill_items
decreases-fill_items l = (17 - l.place.depth) + (17 - l.place.depth) + 1

abbrev pub invariant-fill_items-loop-at : goal.invariant-fill_items-loop-at
invariant-fill_items-loop-at l =
    Turns l.place l.part (lent_lists l.initial.records) l.next l.at (lent_lists l.records) × Stay l.initial.records l.records

abbrev pub decreases-fill_items-loop-at : goal.decreases-fill_items-loop-at
decreases-fill_items-loop-at l =
    length l.part - l.at
