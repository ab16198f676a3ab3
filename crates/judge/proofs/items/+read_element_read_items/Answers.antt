use Rattle.std.proofs.lemmas.Result.{err_from_is_err_and}
use native.Mathlib.Omega.{arith}
use lib.ListN.{length-take, length-drop}
use borrow.Author.Rules.{rules}
use Rattle.judge.proofs.Turn.{at-start, end-in, end-all, end-most, is-bad, item-fits, record-fits, item_in, item_from, item-to, item-less, item-few, past_skip, past-leaf, past-table, element-levels, element-bad, past-element, part-most}
use Rattle.judge.proofs.items.+read_element_read_items.Goals as goal

pub read_element-overflow_add-counts : goal.read_element-overflow_add-counts
read_element-overflow_add-counts t c =
    omega (arith, c.requires.from_le_to, c.requires.from_le_to.3.records)

pub read_element-read_items-requires : goal.read_element-read_items-requires
read_element-read_items-requires t c =
    (omega (arith, c.decreases, c.requires.from_le_to), ((simp (length-take, length-drop) (omega (arith, c.requires.from_le_to)), c.requires.from_le_to.3, omega (arith, c.requires.from_le_to)), c.requires.in_force))

pub read_element-returns : goal.read_element-returns
read_element-returns t c = search (part-most, rules)

pub read_items-loop-at-init : goal.read_items-loop-at-init
read_items-loop-at-init t c = search (at-start, rules)

pub read_items-read_item-requires : goal.read_items-read_item-requires
read_items-read_item-requires t c =
    record { part_bound = (c.requires.part_bound.0, c.loop-at-test.true); in_force = c.loop-at.invariant.1 }

pub read_items-bounds-part-at : goal.read_items-bounds-part-at
read_items-bounds-part-at t c =
    c.loop-at-test.true

pub read_items-overflow_add-from : goal.read_items-overflow_add-from
read_items-overflow_add-from t c =
    item_from _ _ _ _ _ _ _ _ _ _ c.loop-at.invariant.0 c.loop-at-test.true _ c.read_item.ensures _ c.in_ok-item.was c.requires.part_bound.0

pub read_items-overflow_add-at : goal.read_items-overflow_add-at
read_items-overflow_add-at t c =
    item-to _ _ _ _ _ _ _ _ _ _ c.loop-at.invariant.0 c.loop-at-test.true _ c.read_item.ensures _ c.in_ok-item.was c.requires.part_bound.0

pub read_items-overflow_add-counts : goal.read_items-overflow_add-counts
read_items-overflow_add-counts t c =
    item-fits _ _ _ _ _ _ _ _ _ _ c.loop-at.invariant.0 c.loop-at-test.true _ c.read_item.ensures c.requires.part_bound.0

pub read_items-loop-at-smaller-in-Skip : goal.read_items-loop-at-smaller-in-Skip
read_items-loop-at-smaller-in-Skip t c =
    item-less _ _ _ _ _ _ _ _ _ _ c.loop-at.invariant.0 c.loop-at-test.true _ c.read_item.ensures _ c.in_ok-item.was

pub read_items-loop-at-preserved-in-Skip : goal.read_items-loop-at-preserved-in-Skip
read_items-loop-at-preserved-in-Skip t c =
    (past_skip _ _ _ _ _ _ _ _ _ _ c.loop-at.invariant.0 c.loop-at-test.true _ c.read_item.ensures _ c.in_ok-item.was c.in-Skip.is, c.loop-at.invariant.1)

pub read_items-overflow_add-counts-in-Leaf : goal.read_items-overflow_add-counts-in-Leaf
read_items-overflow_add-counts-in-Leaf t c =
    record-fits _ _ _ _ _ _ _ _ _ _ c.loop-at.invariant.0 c.loop-at-test.true _ c.read_item.ensures c.requires.part_bound.0

pub read_items-loop-at-smaller-in-Leaf : goal.read_items-loop-at-smaller-in-Leaf
read_items-loop-at-smaller-in-Leaf t c =
    item-less _ _ _ _ _ _ _ _ _ _ c.loop-at.invariant.0 c.loop-at-test.true _ c.read_item.ensures _ c.in_ok-item.was

pub read_items-loop-at-preserved-in-Leaf : goal.read_items-loop-at-preserved-in-Leaf
read_items-loop-at-preserved-in-Leaf t c =
    (past-leaf _ _ _ _ _ _ _ _ _ _ c.loop-at.invariant.0 c.loop-at-test.true _ c.read_item.ensures _ c.in_ok-item.was c.in-Leaf.is, c.loop-at.invariant.1)

pub read_items-slice_bounds-table-end : goal.read_items-slice_bounds-table-end
read_items-slice_bounds-table-end t c =
    item_in _ _ _ _ _ _ _ _ _ _ c.loop-at.invariant.0 c.loop-at-test.true _ c.read_item.ensures _ c.in_ok-item.was

pub read_items-loop-at-smaller-in-Table : goal.read_items-loop-at-smaller-in-Table
read_items-loop-at-smaller-in-Table t c =
    item-less _ _ _ _ _ _ _ _ _ _ c.loop-at.invariant.0 c.loop-at-test.true _ c.read_item.ensures _ c.in_ok-item.was

pub read_items-loop-at-preserved-in-Table : goal.read_items-loop-at-preserved-in-Table
read_items-loop-at-preserved-in-Table t c =
    (past-table _ _ _ _ _ _ _ _ _ _ c.loop-at.invariant.0 c.loop-at-test.true _ c.read_item.ensures _ c.in_ok-item.was c.in-Table.is, record { marking = c.tokens_of-marks.ensures; showing = c.characters_of-shows.ensures })

pub read_items-read_element-requires : goal.read_items-read_element-requires
read_items-read_element-requires t c =
    (omega (arith, c.decreases), ((omega arith, item_in _ _ _ _ _ _ _ _ _ _ c.loop-at.invariant.0 c.loop-at-test.true _ c.read_item.ensures _ c.in_ok-item.was, c.requires.part_bound.0, item-few _ _ _ _ _ _ _ _ _ _ c.loop-at.invariant.0 c.loop-at-test.true _ c.read_item.ensures _ c.in_ok-item.was, element-levels _ _ _ _ _ _ _ _ _ _ c.loop-at.invariant.0 c.loop-at-test.true _ c.read_item.ensures _ c.in_ok-item.was c.in-Element.is, c.loop-at.invariant.0.levels), c.loop-at.invariant.1))

pub read_items-loop-at-smaller : goal.read_items-loop-at-smaller
read_items-loop-at-smaller t c =
    item-less _ _ _ _ _ _ _ _ _ _ c.loop-at.invariant.0 c.loop-at-test.true _ c.read_item.ensures _ c.in_ok-item.was

pub read_items-loop-at-preserved : goal.read_items-loop-at-preserved
read_items-loop-at-preserved t c =
    (past-element _ _ _ _ _ _ _ _ _ _ c.loop-at.invariant.0 c.loop-at-test.true _ c.read_item.ensures _ c.in_ok-item.was c.in-Element.is _ c.read_element.ensures.value _ c.in_ok-counts-in-Element.was c.read_element.ensures.counts_at_most, c.loop-at.invariant.1)

pub read_items-end_items-requires : goal.read_items-end_items-requires
read_items-end_items-requires t c =
    (c.requires.part_bound.0, end-in _ _ _ _ _ _ _ _ _ _ c.loop-at.invariant.0)

pub read_items-returns : goal.read_items-returns
read_items-returns t c =
    record { value = end-all _ _ _ _ _ _ _ _ _ _ c.loop-at.invariant.0 c.loop-at-test.false _ c.end_items.ensures.end_says; counts_at_most = end-most _ _ _ _ _ _ _ _ _ _ c.loop-at.invariant.0 c.end_items.result c.end_items.ensures.counts_as }

pub read_items-returns-in_err-item : goal.read_items-returns-in_err-item
read_items-returns-in_err-item t c =
    let p = err_from_is_err_and c.from_residual.result c.from_residual.ensures.1 in
    record { value = rw (p.1, p.2) (is-bad _ _ _ _ _ _ _ _ _ _ c.loop-at.invariant.0 c.loop-at-test.true _ c.read_item.ensures _ c.in_err-item.was); counts_at_most = rw p.1 tt }

pub read_items-returns-in_err-counts-in-Element : goal.read_items-returns-in_err-counts-in-Element
read_items-returns-in_err-counts-in-Element t c =
    let p = err_from_is_err_and c.from_residual-in_err-counts-in-Element.result c.from_residual-in_err-counts-in-Element.ensures.1 in
    record {
      value = rw (p.1, p.2) (element-bad _ _ _ _ _ _ _ _ _ _ c.loop-at.invariant.0 c.loop-at-test.true _ c.read_item.ensures _ c.in_ok-item.was c.in-Element.is _ c.read_element.ensures.value _ c.in_err-counts-in-Element.was);
      counts_at_most = rw p.1 tt;
    }
