use native.Mathlib.Omega.{arith}
use Rattle.octets.proofs.Places.{to_inside, ordered}
use Rattle.survey.proofs.Tables.{no_top, top-here, top-table}
use Rattle.survey.proofs.table.table_of.Goals as goal

pub returns-in_default : goal.returns-in_default
returns-in_default c =
    no_top _ _ c.item_at.ensures c.in_default.is

pub slice_bounds-table_in-count : goal.slice_bounds-table_in-count
slice_bounds-table_in-count c =
    ordered (top-here _ _ c.item_at.ensures _ _ c.in-Some.is) (omega arith)

pub slice_bounds-table_in-start : goal.slice_bounds-table_in-start
slice_bounds-table_in-start c =
    ordered (top-here _ _ c.item_at.ensures _ _ c.in-Some.is) (omega arith)

pub slice_bounds-table_in-end : goal.slice_bounds-table_in-end
slice_bounds-table_in-end c =
    to_inside (top-here _ _ c.item_at.ensures _ _ c.in-Some.is) (omega arith)

pub returns : goal.returns
returns c =
    top-table _ _ c.item_at.ensures _ _ c.in-Some.is _ c.table_in.ensures
