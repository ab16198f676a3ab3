use Rattle.spi_c.proofs.Calls.{same-small, same-says}
use Rattle.spi_c.proofs.spi_same.Goals as goal

pub packed_same-requires : goal.packed_same-requires
packed_same-requires c = same-small _ _ _ c.same-answer.ensures _ c.from.ensures

pub returns : goal.returns
returns c = same-says _ _ _ c.same-answer.ensures _ c.from.ensures _ c.packed_same.ensures
