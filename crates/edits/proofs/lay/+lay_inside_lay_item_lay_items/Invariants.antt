use Prim.Native.Nat.{◌+◌, ◌-◌, ◌*◌}
use lib.ListN.{length}
use Rattle.text.specs.Tokens.{entries}
use Rattle.format.specs.Lent.{six}
use Rattle.edits.proofs.Laying.{Walks}
use Rattle.edits.proofs.lay.+lay_inside_lay_item_lay_items.Given as goal

abbrev pub decreases-lay_inside : goal.decreases-lay_inside
decreases-lay_inside l = 3 * (17 - l.level.depth)

abbrev pub decreases-lay_item : goal.decreases-lay_item
decreases-lay_item l = 3 * (17 - l.level.depth) + 1

abbrev pub decreases-lay_items : goal.decreases-lay_items
decreases-lay_items l = 3 * (17 - l.level.depth) + 2

abbrev pub invariant-lay_items-loop-at : goal.invariant-lay_items-loop-at
invariant-lay_items-loop-at l =
    Walks (entries l.table) l.level l.initial.done l.part (record { lists = six l.initial.tags l.initial.kinds l.initial.depths l.initial.parents l.initial.starts l.initial.sizes; bodies = l.initial.bodies; store = l.initial.store }) l.done l.at (record { lists = six l.tags l.kinds l.depths l.parents l.starts l.sizes; bodies = l.bodies; store = l.store })

abbrev pub decreases-lay_items-loop-at : goal.decreases-lay_items-loop-at
decreases-lay_items-loop-at l =
    length l.part - l.at
