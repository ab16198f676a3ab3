use Rattle.packer.proofs.Crowned.{nothing-emitted, top-ordered, top-inside, top-few, rest-few, top-emitted}
use Rattle.packer.proofs.topping.emit_top.Goals as goal

pub returns-in_default : goal.returns-in_default
returns-in_default c =
    nothing-emitted c.args.object.now c.args.table.now c.requires.object_nonzero c.requires.object_len_bound c.requires.table_len_bound _ c.item_at.ensures _ _
    c.in_default.is

pub slice_bounds-body-count : goal.slice_bounds-body-count
slice_bounds-body-count c =
    top-ordered c.args.object.now c.args.table.now c.requires.object_nonzero c.requires.object_len_bound c.requires.table_len_bound _ c.item_at.ensures _ _
    c.in-Some.is

pub slice_bounds-body-start : goal.slice_bounds-body-start
slice_bounds-body-start c =
    top-ordered c.args.object.now c.args.table.now c.requires.object_nonzero c.requires.object_len_bound c.requires.table_len_bound _ c.item_at.ensures _ _
    c.in-Some.is

pub slice_bounds-body-end : goal.slice_bounds-body-end
slice_bounds-body-end c =
    top-inside c.args.object.now c.args.table.now c.requires.object_nonzero c.requires.object_len_bound c.requires.table_len_bound _ c.item_at.ensures _ _
    c.in-Some.is

pub put_header-begun-requires : goal.put_header-begun-requires
put_header-begun-requires c = c.requires.size_bound

pub emit_attributes-reached-requires : goal.emit_attributes-reached-requires
emit_attributes-reached-requires c =
    top-few c.args.object.now c.args.table.now c.requires.object_nonzero c.requires.object_len_bound c.requires.table_len_bound _ c.item_at.ensures _ _
    c.in-Some.is

pub emit_items-requires : goal.emit_items-requires
emit_items-requires c =
    rest-few c.args.object.now c.args.table.now c.requires.object_nonzero c.requires.object_len_bound c.requires.table_len_bound _ c.item_at.ensures _ _
    c.in-Some.is _

pub returns : goal.returns
returns c =
    top-emitted c.args.object.now c.args.table.now c.requires.object_nonzero c.requires.object_len_bound c.requires.table_len_bound _ c.item_at.ensures _ _
    c.in-Some.is _ c.args.out.now _ _ _ _ _ _ _ _ _ _ c.put_header-begun.ensures c.emit_attributes-reached.ensures c.put_header-tabled.ensures
    c.put_octets-behind.ensures c.emit_items.ensures
