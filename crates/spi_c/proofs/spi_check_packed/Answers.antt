use Rattle.spi_c.proofs.Calls.{check-small, check-says}
use Rattle.spi_c.proofs.spi_check_packed.Goals as goal

pub packed_outcome-requires : goal.packed_outcome-requires
packed_outcome-requires c = check-small _ _ _ c.check-answer.ensures _ c.from.ensures

pub returns : goal.returns
returns c = check-says _ _ _ c.check-answer.ensures _ c.from.ensures _ c.packed_outcome.ensures
