use native.Mathlib.Omega.{arith}
use Rattle.octets.proofs.Places.{to_inside, ordered, nearer}
use Rattle.packer.proofs.Emitted.{emit-nothing, emit-plain, emit-text, emit-inside, emit-deep, emit-size}
use Rattle.packer.proofs.Emitted.{begin, ended, no_item, here, body-few, again}
use Rattle.packer.proofs.emitting.+emit_item_emit_items.Goals as goal

pub emit_item-returns-then-left-eq0 : goal.emit_item-returns-then-left-eq0
emit_item-returns-then-left-eq0 t c = emit-deep _ _ _ c.args.left _ c.requires c.args.out.now _ _ c.sort_of.ensures c.in-Items.is c.if-left-eq0.true

pub emit_item-put_header-from-requires-in-Text : goal.emit_item-put_header-from-requires-in-Text
emit_item-put_header-from-requires-in-Text t c =
    emit-size _ _ _ c.args.left _ c.requires c.args.out.now c.args.at _ c.sort_of.ensures _ c.folded_size-size.ensures

pub emit_item-returns-in-Nothing : goal.emit_item-returns-in-Nothing
emit_item-returns-in-Nothing t c = emit-nothing _ _ _ c.args.left _ c.requires c.args.out.now _ _ c.sort_of.ensures c.in-Nothing.is

pub emit_item-returns-else-left-eq0 : goal.emit_item-returns-else-left-eq0
emit_item-returns-else-left-eq0 t c =
    emit-inside _ _ _ c.args.left _ c.requires c.args.out.now _ _ c.sort_of.ensures _ _ _ _ _ c.in-Items.is c.if-left-eq0.false c.size_items-size.ensures
    c.put_header-from.ensures c.emit_items.ensures

pub emit_item-returns-in-Text : goal.emit_item-returns-in-Text
emit_item-returns-in-Text t c =
    emit-text _ _ _ c.args.left _ c.requires c.args.out.now _ _ c.sort_of.ensures _ _ _ _ _ c.in-Text.is c.folded_size-size.ensures
    c.put_header-from-in-Text.ensures c.put_text.ensures

pub emit_item-returns-in-Plain : goal.emit_item-returns-in-Plain
emit_item-returns-in-Plain t c =
    emit-plain _ _ _ c.args.left _ c.requires c.args.out.now _ _ c.sort_of.ensures _ _ _ _ c.in-Plain.is c.put_header-from-in-Plain.ensures c.put_octets.ensures

pub emit_items-loop-i-init : goal.emit_items-loop-i-init
emit_items-loop-i-init t c = begin _ _ _ _ _ _

pub emit_items-returns-in_default : goal.emit_items-returns-in_default
emit_items-returns-in_default t c = no_item _ _ _ _ c.args.out.now _ c.args.at _ _ c.loop-i.invariant c.loop-i-test.true _ c.item_at.ensures c.in_default.is

pub emit_items-slice_bounds-emit_item-count : goal.emit_items-slice_bounds-emit_item-count
emit_items-slice_bounds-emit_item-count t c =
    ordered (here _ _ _ _ c.args.out.now _ c.args.at _ _ c.loop-i.invariant c.loop-i-test.true _ c.item_at.ensures _ _ c.in-Some.is)
    c.loop-i.invariant.inside

pub emit_items-slice_bounds-emit_item-start : goal.emit_items-slice_bounds-emit_item-start
emit_items-slice_bounds-emit_item-start t c =
    ordered (here _ _ _ _ c.args.out.now _ c.args.at _ _ c.loop-i.invariant c.loop-i-test.true _ c.item_at.ensures _ _ c.in-Some.is)
    c.loop-i.invariant.inside

pub emit_items-slice_bounds-emit_item-end : goal.emit_items-slice_bounds-emit_item-end
emit_items-slice_bounds-emit_item-end t c =
    to_inside (here _ _ _ _ c.args.out.now _ c.args.at _ _ c.loop-i.invariant c.loop-i-test.true _ c.item_at.ensures _ _ c.in-Some.is)
    c.loop-i.invariant.inside

pub emit_items-emit_item-end-requires : goal.emit_items-emit_item-end-requires
emit_items-emit_item-end-requires t c = (
  omega (arith, c.decreases),
  body-few _ _ _ _ c.args.out.now _ c.args.at _ _ c.loop-i.invariant c.loop-i-test.true _ c.item_at.ensures _ _ c.in-Some.is
      c.requires,
)

pub emit_items-loop-i-smaller : goal.emit_items-loop-i-smaller
emit_items-loop-i-smaller t c =
    nearer (here _ _ _ _ c.args.out.now _ c.args.at _ _ c.loop-i.invariant c.loop-i-test.true _ c.item_at.ensures _ _ c.in-Some.is) c.loop-i.invariant.inside

pub emit_items-loop-i-preserved : goal.emit_items-loop-i-preserved
emit_items-loop-i-preserved t c =
    again _ _ _ _ c.args.out.now _ c.args.at _ _ c.loop-i.invariant c.loop-i-test.true _ c.item_at.ensures _ _ c.in-Some.is _ _ c.emit_item-end.ensures

pub emit_items-returns : goal.emit_items-returns
emit_items-returns t c = ended _ _ _ _ c.args.out.now _ c.args.at _ _ c.loop-i.invariant c.loop-i-test.false
