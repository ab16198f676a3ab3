use borrow.Author.Rules.{rules}
use borrow.Author.Tests.{not-true, not-false}
use Rattle.compare.proofs.Comparing.{same-child-ways, abreast-again, abreast-ways, found-ways}
use Rattle.compare.proofs.items.+same_child_same_children.Goals as goal

pub same_child-returns-then-levels-eq0 : goal.same_child-returns-then-levels-eq0
same_child-returns-then-levels-eq0 t c = search (same-child-ways, rules)

pub same_child-returns-then-not-same_attributes : goal.same_child-returns-then-not-same_attributes
same_child-returns-then-not-same_attributes t c = search (same-child-ways, not-true, not-false, rules)

pub same_child-returns-then-not-same_cdata : goal.same_child-returns-then-not-same_cdata
same_child-returns-then-not-same_cdata t c = search (same-child-ways, not-true, not-false, rules)

pub same_child-returns-in-Octets : goal.same_child-returns-in-Octets
same_child-returns-in-Octets t c = search (same-child-ways, rules)

pub same_child-returns-in-Text : goal.same_child-returns-in-Text
same_child-returns-in-Text t c = search (same-child-ways, rules)

pub same_child-returns-else-not-same_cdata : goal.same_child-returns-else-not-same_cdata
same_child-returns-else-not-same_cdata t c = search (same-child-ways, not-false, rules)

pub same_children-loop-child_a-init : goal.same_children-loop-child_a-init
same_children-loop-child_a-init t c = search (abreast-ways, found-ways, rules)

pub same_children-returns-in_default : goal.same_children-returns-in_default
same_children-returns-in_default t c = search (abreast-ways, found-ways, rules)

pub same_children-returns-in_default-next_child : goal.same_children-returns-in_default-next_child
same_children-returns-in_default-next_child t c = search (abreast-ways, found-ways, rules)

pub same_children-bounds-a-child_a : goal.same_children-bounds-a-child_a
same_children-bounds-a-child_a t c = search (abreast-ways, found-ways, not-true, not-false, rules)

pub same_children-bounds-b-child_b : goal.same_children-bounds-b-child_b
same_children-bounds-b-child_b t c = search (abreast-ways, found-ways, not-true, not-false, rules)

pub same_children-returns-then-tag-b : goal.same_children-returns-then-tag-b
same_children-returns-then-tag-b t c = search (abreast-ways, found-ways, rules)

pub same_children-slice_bounds-same_child-count : goal.same_children-slice_bounds-same_child-count
same_children-slice_bounds-same_child-count t c = search (abreast-ways, found-ways, not-true, not-false, rules)

pub same_children-slice_bounds-same_child-start : goal.same_children-slice_bounds-same_child-start
same_children-slice_bounds-same_child-start t c = search (abreast-ways, found-ways, not-true, not-false, rules)

pub same_children-slice_bounds-same_child-end : goal.same_children-slice_bounds-same_child-end
same_children-slice_bounds-same_child-end t c = search (abreast-ways, found-ways, not-true, not-false, rules)

pub same_children-slice_bounds-same_child-count-in-loop-child_a : goal.same_children-slice_bounds-same_child-count-in-loop-child_a
same_children-slice_bounds-same_child-count-in-loop-child_a t c = search (abreast-ways, found-ways, not-true, not-false, rules)

pub same_children-slice_bounds-same_child-start-in-loop-child_a : goal.same_children-slice_bounds-same_child-start-in-loop-child_a
same_children-slice_bounds-same_child-start-in-loop-child_a t c = search (abreast-ways, found-ways, not-true, not-false, rules)

pub same_children-slice_bounds-same_child-end-in-loop-child_a : goal.same_children-slice_bounds-same_child-end-in-loop-child_a
same_children-slice_bounds-same_child-end-in-loop-child_a t c = search (abreast-ways, found-ways, not-true, not-false, rules)

pub same_children-returns-then-not-same_child : goal.same_children-returns-then-not-same_child
same_children-returns-then-not-same_child t c = search (abreast-ways, found-ways, not-true, rules)

pub same_children-loop-child_a-smaller : goal.same_children-loop-child_a-smaller
same_children-loop-child_a-smaller t c = search (abreast-ways, found-ways, not-true, not-false, rules)

pub same_children-loop-child_a-preserved : goal.same_children-loop-child_a-preserved
same_children-loop-child_a-preserved t c =
    abreast-again _ _ _ _ _ _ _ c.loop-child_a.invariant _ c.next_child.ensures.tells _ c.next_child-in-loop-child_a.ensures.tells _ _ _ c.in-Some.is _ _ _ c.in-Some-next_child.is c.if-tag-b.false _ c.same_child.ensures (not-false _ c.if-not-same_child.false-raw)
