use Rattle.spi_c.proofs.Calls.{gate-small, gate-says}
use Rattle.spi_c.proofs.spi_gate.Goals as goal

pub packed_outcome-requires : goal.packed_outcome-requires
packed_outcome-requires c = gate-small _ _ _ c.data_type.ensures _ c.gate-answer.ensures _ c.from.ensures

pub returns : goal.returns
returns c = gate-says _ _ _ c.data_type.ensures _ c.gate-answer.ensures _ c.from.ensures _ c.packed_outcome.ensures
