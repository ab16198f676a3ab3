use Rattle.spi_c.proofs.Calls.{normal-small, normal-says}
use Rattle.spi_c.proofs.spi_normalise.Goals as goal

pub packed_outcome-requires : goal.packed_outcome-requires
packed_outcome-requires c = normal-small _ _ _ _ _ _ c.normalise-answer.ensures _ c.from.ensures

pub returns : goal.returns
returns c = normal-says _ _ _ _ _ _ c.normalise-answer.ensures _ c.from.ensures _ c.packed_outcome.ensures
