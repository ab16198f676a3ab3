use Rattle.xml.proofs.Elements.{Goes}
use Rattle.text.specs.Tokens.{entries}
use Prim.Native.Nat.{◌+◌, ◌*◌, ◌-◌}
use lib.ListN.{length}
use Rattle.xml.proofs.walk.+put_element_put_item_put_items_put_rest.Given as goal

abbrev pub decreases-put_element : goal.decreases-put_element
decreases-put_element l = 4 * l.left

abbrev pub decreases-put_item : goal.decreases-put_item
decreases-put_item l = 4 * l.left + 1

abbrev pub decreases-put_items : goal.decreases-put_items
decreases-put_items l = 4 * l.left + 2

abbrev pub decreases-put_rest : goal.decreases-put_rest
decreases-put_rest l = 4 * l.left + 3

abbrev pub invariant-put_items-loop-i : goal.invariant-put_items-loop-i
invariant-put_items-loop-i l = Goes l.emit l.left (entries l.table) l.part l.at l.initial.out l.out l.to l.i

abbrev pub decreases-put_items-loop-i : goal.decreases-put_items-loop-i
decreases-put_items-loop-i l = length l.part - l.i
