use native.Mathlib.Omega.{arith}
use Rattle.octets.proofs.Places.{to_inside, ordered, nearer}
use Rattle.packer.proofs.Sized.{item-nothing, item-plain, text-few, item-text, item-deep, item-inside}
use Rattle.packer.proofs.Sized.{begin, ended, no_item, here, body-few, size_fits, again}
use Rattle.packer.proofs.sizing.+size_item_size_items.Goals as goal

pub size_item-returns-then-left-eq0 : goal.size_item-returns-then-left-eq0
size_item-returns-then-left-eq0 t c = item-deep _ _ _ _ _ c.requires _ c.sort_of.ensures c.in-Items.is c.if-left-eq0.true

pub size_item-framed_size-requires-in-Text : goal.size_item-framed_size-requires-in-Text
size_item-framed_size-requires-in-Text t c = text-few _ _ _ c.args.left _ c.requires _ c.sort_of.ensures _ c.folded_size.ensures

pub size_item-returns-in-Nothing : goal.size_item-returns-in-Nothing
size_item-returns-in-Nothing t c = item-nothing _ _ _ _ _ c.requires _ c.sort_of.ensures c.in-Nothing.is

pub size_item-returns-else-left-eq0 : goal.size_item-returns-else-left-eq0
size_item-returns-else-left-eq0 t c =
    item-inside _ _ _ _ _ c.requires _ c.sort_of.ensures c.in-Items.is c.if-left-eq0.false _ c.size_items.ensures _ c.framed_size.ensures

pub size_item-returns-in-Text : goal.size_item-returns-in-Text
size_item-returns-in-Text t c = item-text _ _ _ _ _ c.requires _ c.sort_of.ensures _ c.folded_size.ensures c.in-Text.is _ c.framed_size-in-Text.ensures

pub size_item-returns-in-Plain : goal.size_item-returns-in-Plain
size_item-returns-in-Plain t c = item-plain _ _ _ _ _ c.requires _ c.sort_of.ensures c.in-Plain.is _ c.framed_size-in-Plain.ensures

pub size_items-loop-at-init : goal.size_items-loop-at-init
size_items-loop-at-init t c = begin _ _ _ _

pub size_items-returns-in_default : goal.size_items-returns-in_default
size_items-returns-in_default t c = no_item _ _ _ _ _ _ c.loop-at.invariant c.requires c.loop-at-test.true _ c.item_at.ensures c.in_default.is

pub size_items-slice_bounds-size_item-count : goal.size_items-slice_bounds-size_item-count
size_items-slice_bounds-size_item-count t c =
    ordered (here _ _ _ _ _ _ c.loop-at.invariant c.requires c.loop-at-test.true _ c.item_at.ensures _ _ c.in-Some.is) c.loop-at.invariant.inside

pub size_items-slice_bounds-size_item-start : goal.size_items-slice_bounds-size_item-start
size_items-slice_bounds-size_item-start t c =
    ordered (here _ _ _ _ _ _ c.loop-at.invariant c.requires c.loop-at-test.true _ c.item_at.ensures _ _ c.in-Some.is) c.loop-at.invariant.inside

pub size_items-slice_bounds-size_item-end : goal.size_items-slice_bounds-size_item-end
size_items-slice_bounds-size_item-end t c =
    to_inside (here _ _ _ _ _ _ c.loop-at.invariant c.requires c.loop-at-test.true _ c.item_at.ensures _ _ c.in-Some.is) c.loop-at.invariant.inside

pub size_items-size_item-size-requires : goal.size_items-size_item-size-requires
size_items-size_item-size-requires t c =
    (omega (arith, c.decreases), body-few _ _ _ _ _ _ c.loop-at.invariant c.requires c.loop-at-test.true _ c.item_at.ensures _ _ c.in-Some.is)

pub size_items-overflow_add-size : goal.size_items-overflow_add-size
size_items-overflow_add-size t c =
    size_fits _ _ _ _ _ _ c.loop-at.invariant c.requires c.loop-at-test.true _ c.item_at.ensures _ _ c.in-Some.is _ c.size_item-size.ensures

pub size_items-loop-at-smaller : goal.size_items-loop-at-smaller
size_items-loop-at-smaller t c =
    nearer (here _ _ _ _ _ _ c.loop-at.invariant c.requires c.loop-at-test.true _ c.item_at.ensures _ _ c.in-Some.is) c.loop-at.invariant.inside

pub size_items-loop-at-preserved : goal.size_items-loop-at-preserved
size_items-loop-at-preserved t c =
    again _ _ _ _ _ _ c.loop-at.invariant c.requires c.loop-at-test.true _ c.item_at.ensures _ _ c.in-Some.is _ c.size_item-size.ensures

pub size_items-returns : goal.size_items-returns
size_items-returns t c = ended _ _ _ _ _ _ c.loop-at.invariant c.requires c.loop-at-test.false
