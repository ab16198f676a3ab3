use Rattle.spi_c.proofs.Calls.{pack-small, pack-says}
use Rattle.spi_c.proofs.spi_pack.Goals as goal

pub packed_outcome-requires : goal.packed_outcome-requires
packed_outcome-requires c = pack-small _ _ _ _ c.pack-answer.ensures _ c.from.ensures

pub returns : goal.returns
returns c = pack-says _ _ _ _ c.pack-answer.ensures _ c.from.ensures _ c.packed_outcome.ensures
