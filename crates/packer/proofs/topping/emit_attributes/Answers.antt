use Rattle.octets.proofs.Places.{to_inside, ordered, nearer}
use Rattle.packer.proofs.Topped.{begin, ended, no_item, here, body-few, stopped, again}
use Rattle.packer.proofs.topping.emit_attributes.Goals as goal

pub loop-i-init : goal.loop-i-init
loop-i-init c = begin _ _ _ _ _ _

pub returns-in_default : goal.returns-in_default
returns-in_default c = no_item _ _ _ _ c.args.out.now _ c.args.at _ _ c.loop-i.invariant c.loop-i-test.true _ c.item_at.ensures c.in_default.is

pub returns-then-is_behind : goal.returns-then-is_behind
returns-then-is_behind c =
    stopped _ _ _ _ c.args.out.now _ c.args.at _ _ c.loop-i.invariant c.loop-i-test.true _ c.item_at.ensures _ _ c.in-Some.is _ c.is_behind.ensures
    c.if-is_behind.true

pub slice_bounds-emit_item-count : goal.slice_bounds-emit_item-count
slice_bounds-emit_item-count c =
    ordered (here _ _ _ _ c.args.out.now _ c.args.at _ _ c.loop-i.invariant c.loop-i-test.true _ c.item_at.ensures _ _ c.in-Some.is)
    c.loop-i.invariant.inside

pub slice_bounds-emit_item-start : goal.slice_bounds-emit_item-start
slice_bounds-emit_item-start c =
    ordered (here _ _ _ _ c.args.out.now _ c.args.at _ _ c.loop-i.invariant c.loop-i-test.true _ c.item_at.ensures _ _ c.in-Some.is)
    c.loop-i.invariant.inside

pub slice_bounds-emit_item-end : goal.slice_bounds-emit_item-end
slice_bounds-emit_item-end c =
    to_inside (here _ _ _ _ c.args.out.now _ c.args.at _ _ c.loop-i.invariant c.loop-i-test.true _ c.item_at.ensures _ _ c.in-Some.is)
    c.loop-i.invariant.inside

pub emit_item-end-requires : goal.emit_item-end-requires
emit_item-end-requires c =
    body-few _ _ _ _ c.args.out.now _ c.args.at _ _ c.loop-i.invariant c.loop-i-test.true _ c.item_at.ensures _ _ c.in-Some.is c.requires

pub loop-i-smaller : goal.loop-i-smaller
loop-i-smaller c =
    nearer (here _ _ _ _ c.args.out.now _ c.args.at _ _ c.loop-i.invariant c.loop-i-test.true _ c.item_at.ensures _ _ c.in-Some.is) c.loop-i.invariant.inside

pub loop-i-preserved : goal.loop-i-preserved
loop-i-preserved c =
    again _ _ _ _ c.args.out.now _ c.args.at _ _ c.loop-i.invariant c.loop-i-test.true _ c.item_at.ensures _ _ c.in-Some.is _ c.is_behind.ensures
    c.if-is_behind.false _ _ c.emit_item-end.ensures

pub returns : goal.returns
returns c = ended _ _ _ _ c.args.out.now _ c.args.at _ _ c.loop-i.invariant c.loop-i-test.false
