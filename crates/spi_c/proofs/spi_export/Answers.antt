use Rattle.spi_c.proofs.Calls.{export-small, export-says}
use Rattle.spi_c.proofs.spi_export.Goals as goal

pub packed_outcome-requires : goal.packed_outcome-requires
packed_outcome-requires c = export-small _ _ _ c.at_most-most.ensures _ _ c.export-answer.ensures _ c.from.ensures

pub returns : goal.returns
returns c = export-says _ _ _ c.at_most-most.ensures _ _ c.export-answer.ensures _ c.from.ensures _ c.packed_outcome.ensures
