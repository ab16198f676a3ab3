use Rattle.edits.proofs.Laying.{value-storable, value-behind, value-narrow, value-countable, value-lays}
use Rattle.edits.proofs.lay.lay_value.Goals as goal

pub store_body-end-requires : goal.store_body-end-requires
store_body-end-requires c =
    record { body_storable = value-storable _ _ _ _ _ _ c.requires.value_layable; indexes = c.requires.indexes }

pub overflow_sub-end : goal.overflow_sub-end
overflow_sub-end c =
    value-behind _ _ _ _ _ _ c.requires.value_layable _ _ c.store_body-end.ensures

pub record_of-record-requires : goal.record_of-record-requires
record_of-record-requires c =
    value-narrow _ _ _ _ _ _ c.requires.value_layable _ _ c.store_body-end.ensures

pub count_value-requires : goal.count_value-requires
count_value-requires c =
    value-countable _ _ _ _ _ _ c.requires.value_layable _ _ c.store_body-end.ensures

pub shape_of-tags : goal.shape_of-tags
shape_of-tags c =
    c.tags-1.given

pub shape_of-kinds : goal.shape_of-kinds
shape_of-kinds c =
    c.kinds-1.given

pub shape_of-depths : goal.shape_of-depths
shape_of-depths c =
    c.depths-1.given

pub shape_of-parents : goal.shape_of-parents
shape_of-parents c =
    c.parents-1.given

pub shape_of-starts : goal.shape_of-starts
shape_of-starts c =
    c.starts-1.given

pub shape_of-sizes : goal.shape_of-sizes
shape_of-sizes c =
    c.sizes-1.given

pub shape_of-bodies : goal.shape_of-bodies
shape_of-bodies c =
    c.bodies-1.given

pub shape_of-store : goal.shape_of-store
shape_of-store c =
    c.store-1.given

pub returns : goal.returns
returns c =
    value-lays _ _ _ _ _ _ c.requires.value_layable _ _ c.store_body-end.ensures _ _ c.record_of-record.ensures _ c.put_record.ensures _ _ c.count_value.ensures
