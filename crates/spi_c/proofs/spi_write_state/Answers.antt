use mathlib.Core.Path.{subst}
use Rattle.state.specs.Taking.{WriteStateClaim}
use Rattle.spi_c.proofs.Calls.{write-state-small, write-state-says}
use Rattle.spi_c.proofs.spi_write_state.Goals as goal

pub packed_outcome-requires : goal.packed_outcome-requires
packed_outcome-requires c =
    write-state-small _ _ _ _ _
    (subst (λ m. WriteStateClaim c.args.count m c.args.room.now c.write_state-answer.new.room c.write_state-answer.result) c.of-memory.ensures
    c.write_state-answer.ensures)
    _ c.from.ensures

pub returns : goal.returns
returns c =
    write-state-says _ _ _ _ _
    (subst (λ m. WriteStateClaim c.args.count m c.args.room.now c.write_state-answer.new.room c.write_state-answer.result) c.of-memory.ensures
    c.write_state-answer.ensures)
    _ c.from.ensures _ c.packed_outcome.ensures
