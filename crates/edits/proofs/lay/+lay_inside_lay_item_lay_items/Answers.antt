use mathlib.Core.Path.{◌∙◌}
use native.Mathlib.Omega.{arith}
use Rattle.octets.proofs.Places.{to_inside, ordered, nearer}
use Rattle.edits.proofs.Laying.{inside-deep, inside-deeper, inside-next, inside-narrow, inside-can, inside-countable, inside-laid}
use Rattle.edits.proofs.Laying.{item-nothing, item-value-can, item-value, item-inside-can, begin, kept, kept-bodies, kept_store, ended, no_item, here, item-can, again}
use Rattle.edits.proofs.lay.+lay_inside_lay_item_lay_items.Goals as goal

pub lay_inside-record_of-record-requires : goal.lay_inside-record_of-record-requires
lay_inside-record_of-record-requires t c =
    inside-narrow _ _ _ _ _ _ c.requires.inside_layable

pub lay_inside-overflow_add-inner : goal.lay_inside-overflow_add-inner
lay_inside-overflow_add-inner t c =
    inside-deeper _ _ _ _ _ _ c.requires.inside_layable

pub lay_inside-overflow_add-begun : goal.lay_inside-overflow_add-begun
lay_inside-overflow_add-begun t c =
    inside-next _ _ _ _ _ _ c.requires.inside_layable

pub lay_inside-lay_items-inside-requires : goal.lay_inside-lay_items-inside-requires
lay_inside-lay_items-inside-requires t c =
    (omega (arith, c.decreases, inside-deep _ _ _ _ _ _ c.requires.inside_layable), (inside-can _ _ _ _ _ _ c.requires.inside_layable _ c.record_of-record.ensures _ c.put_record.ensures, c.requires.indexes))

pub lay_inside-count_inside-requires : goal.lay_inside-count_inside-requires
lay_inside-count_inside-requires t c =
    inside-countable _ _ _ _ _ _ c.requires.inside_layable _ c.record_of-record.ensures _ c.put_record.ensures _ _ c.lay_items-inside.ensures

pub lay_inside-shape_of-tags : goal.lay_inside-shape_of-tags
lay_inside-shape_of-tags t c =
    c.tags-2-1.given ∙ c.tags-1.given

pub lay_inside-shape_of-kinds : goal.lay_inside-shape_of-kinds
lay_inside-shape_of-kinds t c =
    c.kinds-2-1.given ∙ c.kinds-1.given

pub lay_inside-shape_of-depths : goal.lay_inside-shape_of-depths
lay_inside-shape_of-depths t c =
    c.depths-2-1.given ∙ c.depths-1.given

pub lay_inside-shape_of-parents : goal.lay_inside-shape_of-parents
lay_inside-shape_of-parents t c =
    c.parents-2-1.given ∙ c.parents-1.given

pub lay_inside-shape_of-starts : goal.lay_inside-shape_of-starts
lay_inside-shape_of-starts t c =
    c.starts-2-1.given ∙ c.starts-1.given

pub lay_inside-shape_of-sizes : goal.lay_inside-shape_of-sizes
lay_inside-shape_of-sizes t c =
    c.sizes-2-1.given ∙ c.sizes-1.given

pub lay_inside-shape_of-bodies : goal.lay_inside-shape_of-bodies
lay_inside-shape_of-bodies t c =
    c.bodies-2-1.given ∙ c.bodies-1.given

pub lay_inside-shape_of-store : goal.lay_inside-shape_of-store
lay_inside-shape_of-store t c =
    c.store-1.given

pub lay_inside-returns : goal.lay_inside-returns
lay_inside-returns t c =
    inside-laid _ _ _ _ _ _ c.requires.inside_layable _ c.record_of-record.ensures _ c.put_record.ensures _ _ c.lay_items-inside.ensures _ _ c.count_inside.ensures

pub lay_item-lay_inside-requires : goal.lay_item-lay_inside-requires
lay_item-lay_inside-requires t c =
    (omega (arith, c.decreases), (item-inside-can _ _ _ _ _ _ c.requires.item_layable _ c.listed_as.ensures c.in-Inside.is, c.requires.indexes))

pub lay_item-lay_value-requires : goal.lay_item-lay_value-requires
lay_item-lay_value-requires t c =
    record { value_layable = item-value-can _ _ _ _ _ _ c.requires.item_layable _ c.listed_as.ensures _ c.in-Value.is; indexes = c.requires.indexes }

pub lay_item-returns-in-Nothing : goal.lay_item-returns-in-Nothing
lay_item-returns-in-Nothing t c =
    item-nothing _ _ _ _ _ _ c.requires.item_layable _ c.listed_as.ensures c.in-Nothing.is

pub lay_item-shape_of-tags-in-Inside : goal.lay_item-shape_of-tags-in-Inside
lay_item-shape_of-tags-in-Inside t c =
    c.tags-1.given

pub lay_item-shape_of-kinds-in-Inside : goal.lay_item-shape_of-kinds-in-Inside
lay_item-shape_of-kinds-in-Inside t c =
    c.kinds-1.given

pub lay_item-shape_of-depths-in-Inside : goal.lay_item-shape_of-depths-in-Inside
lay_item-shape_of-depths-in-Inside t c =
    c.depths-1.given

pub lay_item-shape_of-parents-in-Inside : goal.lay_item-shape_of-parents-in-Inside
lay_item-shape_of-parents-in-Inside t c =
    c.parents-1.given

pub lay_item-shape_of-starts-in-Inside : goal.lay_item-shape_of-starts-in-Inside
lay_item-shape_of-starts-in-Inside t c =
    c.starts-1.given

pub lay_item-shape_of-sizes-in-Inside : goal.lay_item-shape_of-sizes-in-Inside
lay_item-shape_of-sizes-in-Inside t c =
    c.sizes-1.given

pub lay_item-shape_of-bodies-in-Inside : goal.lay_item-shape_of-bodies-in-Inside
lay_item-shape_of-bodies-in-Inside t c =
    c.bodies-1.given

pub lay_item-shape_of-store-in-Inside : goal.lay_item-shape_of-store-in-Inside
lay_item-shape_of-store-in-Inside t c =
    c.store-1.given

pub lay_item-returns-in-Inside : goal.lay_item-returns-in-Inside
lay_item-returns-in-Inside t c =
    c.lay_inside.ensures

pub lay_item-shape_of-tags-in-Value : goal.lay_item-shape_of-tags-in-Value
lay_item-shape_of-tags-in-Value t c =
    c.tags-in-Value-1.given

pub lay_item-shape_of-kinds-in-Value : goal.lay_item-shape_of-kinds-in-Value
lay_item-shape_of-kinds-in-Value t c =
    c.kinds-in-Value-1.given

pub lay_item-shape_of-depths-in-Value : goal.lay_item-shape_of-depths-in-Value
lay_item-shape_of-depths-in-Value t c =
    c.depths-in-Value-1.given

pub lay_item-shape_of-parents-in-Value : goal.lay_item-shape_of-parents-in-Value
lay_item-shape_of-parents-in-Value t c =
    c.parents-in-Value-1.given

pub lay_item-shape_of-starts-in-Value : goal.lay_item-shape_of-starts-in-Value
lay_item-shape_of-starts-in-Value t c =
    c.starts-in-Value-1.given

pub lay_item-shape_of-sizes-in-Value : goal.lay_item-shape_of-sizes-in-Value
lay_item-shape_of-sizes-in-Value t c =
    c.sizes-in-Value-1.given

pub lay_item-shape_of-bodies-in-Value : goal.lay_item-shape_of-bodies-in-Value
lay_item-shape_of-bodies-in-Value t c =
    c.bodies-in-Value-1.given

pub lay_item-shape_of-store-in-Value : goal.lay_item-shape_of-store-in-Value
lay_item-shape_of-store-in-Value t c =
    c.store-in-Value-1.given

pub lay_item-returns-in-Value : goal.lay_item-returns-in-Value
lay_item-returns-in-Value t c =
    item-value _ _ _ _ _ _ c.requires.item_layable _ c.listed_as.ensures _ c.in-Value.is _ _ c.lay_value.ensures

pub lay_items-loop-at-init : goal.lay_items-loop-at-init
lay_items-loop-at-init t c =
    begin _ _ _ _ _ c.requires.items_layable

pub lay_items-shape_of-tags-in_default : goal.lay_items-shape_of-tags-in_default
lay_items-shape_of-tags-in_default t c =
    (kept _ _ _ _ _ _ _ _ c.loop-at.invariant).tags

pub lay_items-shape_of-kinds-in_default : goal.lay_items-shape_of-kinds-in_default
lay_items-shape_of-kinds-in_default t c =
    (kept _ _ _ _ _ _ _ _ c.loop-at.invariant).kinds

pub lay_items-shape_of-depths-in_default : goal.lay_items-shape_of-depths-in_default
lay_items-shape_of-depths-in_default t c =
    (kept _ _ _ _ _ _ _ _ c.loop-at.invariant).depths

pub lay_items-shape_of-parents-in_default : goal.lay_items-shape_of-parents-in_default
lay_items-shape_of-parents-in_default t c =
    (kept _ _ _ _ _ _ _ _ c.loop-at.invariant).parents

pub lay_items-shape_of-starts-in_default : goal.lay_items-shape_of-starts-in_default
lay_items-shape_of-starts-in_default t c =
    (kept _ _ _ _ _ _ _ _ c.loop-at.invariant).starts

pub lay_items-shape_of-sizes-in_default : goal.lay_items-shape_of-sizes-in_default
lay_items-shape_of-sizes-in_default t c =
    (kept _ _ _ _ _ _ _ _ c.loop-at.invariant).sizes

pub lay_items-shape_of-bodies-in_default : goal.lay_items-shape_of-bodies-in_default
lay_items-shape_of-bodies-in_default t c =
    kept-bodies _ _ _ _ _ _ _ _ c.loop-at.invariant

pub lay_items-shape_of-store-in_default : goal.lay_items-shape_of-store-in_default
lay_items-shape_of-store-in_default t c =
    kept_store _ _ _ _ _ _ _ _ c.loop-at.invariant

pub lay_items-returns-in_default : goal.lay_items-returns-in_default
lay_items-returns-in_default t c =
    no_item _ _ _ _ _ _ _ _ c.loop-at.invariant c.loop-at-test.true _ c.item_at.ensures c.in_default.is

pub lay_items-bounds-part-at : goal.lay_items-bounds-part-at
lay_items-bounds-part-at t c =
    c.loop-at-test.true

pub lay_items-slice_bounds-body-count : goal.lay_items-slice_bounds-body-count
lay_items-slice_bounds-body-count t c =
    ordered (here _ _ _ _ _ _ _ _ c.loop-at.invariant c.loop-at-test.true _ c.item_at.ensures _ _ c.in-Some.is) c.loop-at.invariant.inside

pub lay_items-slice_bounds-body-start : goal.lay_items-slice_bounds-body-start
lay_items-slice_bounds-body-start t c =
    ordered (here _ _ _ _ _ _ _ _ c.loop-at.invariant c.loop-at-test.true _ c.item_at.ensures _ _ c.in-Some.is) c.loop-at.invariant.inside

pub lay_items-slice_bounds-body-end : goal.lay_items-slice_bounds-body-end
lay_items-slice_bounds-body-end t c =
    to_inside (here _ _ _ _ _ _ _ _ c.loop-at.invariant c.loop-at-test.true _ c.item_at.ensures _ _ c.in-Some.is) c.loop-at.invariant.inside

pub lay_items-lay_item-done-requires : goal.lay_items-lay_item-done-requires
lay_items-lay_item-done-requires t c =
    (omega (arith, c.decreases), (item-can _ _ _ _ _ _ _ _ c.loop-at.invariant c.loop-at-test.true _ c.item_at.ensures _ _ c.in-Some.is, c.requires.indexes))

pub lay_items-loop-at-smaller : goal.lay_items-loop-at-smaller
lay_items-loop-at-smaller t c =
    nearer (here _ _ _ _ _ _ _ _ c.loop-at.invariant c.loop-at-test.true _ c.item_at.ensures _ _ c.in-Some.is) c.loop-at.invariant.inside

pub lay_items-loop-at-preserved : goal.lay_items-loop-at-preserved
lay_items-loop-at-preserved t c =
    again _ _ _ _ _ _ _ _ c.loop-at.invariant c.loop-at-test.true _ c.item_at.ensures _ _ c.in-Some.is _ _ c.lay_item-done.ensures

pub lay_items-shape_of-tags : goal.lay_items-shape_of-tags
lay_items-shape_of-tags t c =
    (kept _ _ _ _ _ _ _ _ c.loop-at.invariant).tags

pub lay_items-shape_of-kinds : goal.lay_items-shape_of-kinds
lay_items-shape_of-kinds t c =
    (kept _ _ _ _ _ _ _ _ c.loop-at.invariant).kinds

pub lay_items-shape_of-depths : goal.lay_items-shape_of-depths
lay_items-shape_of-depths t c =
    (kept _ _ _ _ _ _ _ _ c.loop-at.invariant).depths

pub lay_items-shape_of-parents : goal.lay_items-shape_of-parents
lay_items-shape_of-parents t c =
    (kept _ _ _ _ _ _ _ _ c.loop-at.invariant).parents

pub lay_items-shape_of-starts : goal.lay_items-shape_of-starts
lay_items-shape_of-starts t c =
    (kept _ _ _ _ _ _ _ _ c.loop-at.invariant).starts

pub lay_items-shape_of-sizes : goal.lay_items-shape_of-sizes
lay_items-shape_of-sizes t c =
    (kept _ _ _ _ _ _ _ _ c.loop-at.invariant).sizes

pub lay_items-shape_of-bodies : goal.lay_items-shape_of-bodies
lay_items-shape_of-bodies t c =
    kept-bodies _ _ _ _ _ _ _ _ c.loop-at.invariant

pub lay_items-shape_of-store : goal.lay_items-shape_of-store
lay_items-shape_of-store t c =
    kept_store _ _ _ _ _ _ _ _ c.loop-at.invariant

pub lay_items-returns : goal.lay_items-returns
lay_items-returns t c =
    ended _ _ _ _ _ _ _ _ c.loop-at.invariant c.loop-at-test.false
