use Rattle.spi_c.proofs.Calls.{write-small, write-says}
use Rattle.spi_c.proofs.spi_write.Goals as goal

pub packed_outcome-requires : goal.packed_outcome-requires
packed_outcome-requires c = write-small _ _ _ _ _ _ c.write-answer.ensures _ c.from.ensures

pub returns : goal.returns
returns c = write-says _ _ _ _ _ _ c.write-answer.ensures _ c.from.ensures _ c.packed_outcome.ensures
