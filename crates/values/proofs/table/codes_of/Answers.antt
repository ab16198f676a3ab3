use mathlib.Core.Path.{refl}
use Rattle.values.specs.Table.{rows}
use Rattle.values.specs.Index.{code_of, packed_row, packed_rows}
use Rattle.values.proofs.table.codes_of.Goals as goal

pub row_in-requires : goal.row_in-requires
unfolding packed_rows packed_row code_of rows
row_in-requires c = refl
