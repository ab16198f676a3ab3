use Rattle.spi_c.proofs.Calls.{scan-small, scan-says}
use Rattle.spi_c.proofs.spi_scan.Goals as goal

pub packed_outcome-requires : goal.packed_outcome-requires
packed_outcome-requires c = scan-small c.args.object.now _ c.scan-answer.ensures _ c.from.ensures

pub returns : goal.returns
returns c = scan-says c.args.object.now _ c.scan-answer.ensures _ c.from.ensures _ c.packed_outcome.ensures
