use native.Mathlib.Omega.{arith}
use Rattle.format.proofs.Stays.{stay-same, stay-on}
use Rattle.octets.proofs.Places.{to_inside, ordered, nearer}
use Rattle.reader.proofs.Turns.{narrow, item-nothing, alone-fits, item-alone, both-fits, both-deep, both-deeper, both-can, item-both, item-same}
use Rattle.reader.proofs.Turns.{begin, kept, ended, no_item, here, offset-fits, item-can, again}
use Rattle.reader.proofs.filling.+fill_item_fill_items.Goals as goal

pub fill_item-record_of-record-requires : goal.fill_item-record_of-record-requires
fill_item-record_of-record-requires t c =
    narrow _ _ _ _ c.requires

pub fill_item-overflow_add-result : goal.fill_item-overflow_add-result
fill_item-overflow_add-result t c =
    alone-fits _ _ _ _ c.requires _ c.listed_as.ensures _ c.in-Value.is

pub fill_item-record_of-record-requires-in-Inside : goal.fill_item-record_of-record-requires-in-Inside
fill_item-record_of-record-requires-in-Inside t c =
    narrow _ _ _ _ c.requires

pub fill_item-overflow_add-inner : goal.fill_item-overflow_add-inner
fill_item-overflow_add-inner t c =
    both-deeper _ _ _ _ c.requires _ c.listed_as.ensures c.in-Inside.is

pub fill_item-overflow_add-inner-in-Inside : goal.fill_item-overflow_add-inner-in-Inside
fill_item-overflow_add-inner-in-Inside t c =
    both-fits _ _ _ _ c.requires _ c.listed_as.ensures c.in-Inside.is

pub fill_item-fill_items-requires : goal.fill_item-fill_items-requires
fill_item-fill_items-requires t c =
    (omega (arith, c.decreases, both-deep _ _ _ _ c.requires _ c.listed_as.ensures c.in-Inside.is), both-can _ _ _ _ c.requires _ c.listed_as.ensures c.in-Inside.is _ c.record_of-record-in-Inside.ensures _ c.put-in-Inside.ensures.lists)

pub fill_item-returns-in-Nothing : goal.fill_item-returns-in-Nothing
fill_item-returns-in-Nothing t c =
    record { fills = item-nothing _ _ _ _ c.requires _ c.listed_as.ensures c.in-Nothing.is; stay = stay-same _ }

pub fill_item-returns-in-Value : goal.fill_item-returns-in-Value
fill_item-returns-in-Value t c =
    record {
      fills = item-alone _ _ _ _ c.requires _ c.listed_as.ensures _ c.in-Value.is _ c.record_of-record.ensures _ c.put.ensures.lists;
      stay = c.put.ensures.stay;
    }

pub fill_item-returns-in-Inside : goal.fill_item-returns-in-Inside
fill_item-returns-in-Inside t c =
    record {
      fills =
          item-both _ _ _ _ c.requires _ c.listed_as.ensures c.in-Inside.is _ c.record_of-record-in-Inside.ensures _ c.put-in-Inside.ensures.lists _ _
          c.fill_items.ensures.fills;
      stay = stay-on _ _ _ c.put-in-Inside.ensures.stay c.fill_items.ensures.stay;
    }

pub fill_items-loop-at-init : goal.fill_items-loop-at-init
fill_items-loop-at-init t c =
    (begin _ _ _ c.requires, stay-same _)

pub fill_items-returns-in_default : goal.fill_items-returns-in_default
fill_items-returns-in_default t c =
    record { fills = no_item _ _ _ _ _ _ c.loop-at.invariant.0 c.loop-at-test.true _ c.item_at.ensures c.in_default.is; stay = c.loop-at.invariant.1 }

pub fill_items-overflow_add-item : goal.fill_items-overflow_add-item
fill_items-overflow_add-item t c =
    offset-fits _ _ _ _ _ _ c.loop-at.invariant.0 c.loop-at-test.true _ c.item_at.ensures _ _ c.in-Some.is

pub fill_items-bounds-part-at : goal.fill_items-bounds-part-at
fill_items-bounds-part-at t c =
    c.loop-at-test.true

pub fill_items-slice_bounds-body-count : goal.fill_items-slice_bounds-body-count
fill_items-slice_bounds-body-count t c =
    ordered (here _ _ _ _ _ _ c.loop-at.invariant.0 c.loop-at-test.true _ c.item_at.ensures _ _ c.in-Some.is) c.loop-at.invariant.0.inside

pub fill_items-slice_bounds-body-start : goal.fill_items-slice_bounds-body-start
fill_items-slice_bounds-body-start t c =
    ordered (here _ _ _ _ _ _ c.loop-at.invariant.0 c.loop-at-test.true _ c.item_at.ensures _ _ c.in-Some.is) c.loop-at.invariant.0.inside

pub fill_items-slice_bounds-body-end : goal.fill_items-slice_bounds-body-end
fill_items-slice_bounds-body-end t c =
    to_inside (here _ _ _ _ _ _ c.loop-at.invariant.0 c.loop-at-test.true _ c.item_at.ensures _ _ c.in-Some.is) c.loop-at.invariant.0.inside

pub fill_items-fill_item-next-requires : goal.fill_items-fill_item-next-requires
fill_items-fill_item-next-requires t c =
    (omega (arith, c.decreases), item-can _ _ _ _ _ _ c.loop-at.invariant.0 c.loop-at-test.true _ c.item_at.ensures _ _ c.in-Some.is)

pub fill_items-loop-at-smaller : goal.fill_items-loop-at-smaller
fill_items-loop-at-smaller t c =
    omega (arith, nearer (here _ _ _ _ _ _ c.loop-at.invariant.0 c.loop-at-test.true _ c.item_at.ensures _ _ c.in-Some.is) c.loop-at.invariant.0.inside)

pub fill_items-loop-at-preserved : goal.fill_items-loop-at-preserved
fill_items-loop-at-preserved t c = (
  again _ _ _ _ _ _ c.loop-at.invariant.0 c.loop-at-test.true _ c.item_at.ensures _ _ c.in-Some.is _ _ c.fill_item-next.ensures.fills,
  stay-on _ _ _ c.loop-at.invariant.1 c.fill_item-next.ensures.stay,
)

pub fill_items-returns : goal.fill_items-returns
fill_items-returns t c =
    record { fills = ended _ _ _ _ _ _ c.loop-at.invariant.0 c.loop-at-test.false; stay = c.loop-at.invariant.1 }
