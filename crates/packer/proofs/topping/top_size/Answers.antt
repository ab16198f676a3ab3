use Rattle.packer.proofs.Crowned.{nothing-sized, top-ordered, top-inside, top-few, inner-fits, top-sized}
use Rattle.packer.proofs.topping.top_size.Goals as goal

pub returns-in_default : goal.returns-in_default
returns-in_default c =
    nothing-sized c.args.object.now c.args.table.now c.requires.object_nonzero c.requires.object_len_bound c.requires.table_len_bound _ c.item_at.ensures
    c.in_default.is

pub slice_bounds-size_items-count : goal.slice_bounds-size_items-count
slice_bounds-size_items-count c =
    top-ordered c.args.object.now c.args.table.now c.requires.object_nonzero c.requires.object_len_bound c.requires.table_len_bound _ c.item_at.ensures _ _
    c.in-Some.is

pub slice_bounds-size_items-start : goal.slice_bounds-size_items-start
slice_bounds-size_items-start c =
    top-ordered c.args.object.now c.args.table.now c.requires.object_nonzero c.requires.object_len_bound c.requires.table_len_bound _ c.item_at.ensures _ _
    c.in-Some.is

pub slice_bounds-size_items-end : goal.slice_bounds-size_items-end
slice_bounds-size_items-end c =
    top-inside c.args.object.now c.args.table.now c.requires.object_nonzero c.requires.object_len_bound c.requires.table_len_bound _ c.item_at.ensures _ _
    c.in-Some.is

pub size_items-inner-requires : goal.size_items-inner-requires
size_items-inner-requires c =
    top-few c.args.object.now c.args.table.now c.requires.object_nonzero c.requires.object_len_bound c.requires.table_len_bound _ c.item_at.ensures _ _
    c.in-Some.is

pub overflow_add-result : goal.overflow_add-result
overflow_add-result c =
    inner-fits c.args.object.now c.args.table.now c.requires.object_nonzero c.requires.object_len_bound c.requires.table_len_bound _ c.item_at.ensures _ _
    c.in-Some.is _ c.size_items-inner.ensures _ c.framed_size.ensures

pub returns : goal.returns
returns c =
    top-sized c.args.object.now c.args.table.now c.requires.object_nonzero c.requires.object_len_bound c.requires.table_len_bound _ c.item_at.ensures _ _
    c.in-Some.is _ c.size_items-inner.ensures _ c.framed_size.ensures
