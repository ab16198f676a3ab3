use native.Mathlib.Omega.{arith}
use Rattle.spi_c.proofs.Told.{taken-told}
use Rattle.spi_c.proofs.Calls.{leaves-small, leaves-says}
use Rattle.spi_c.proofs.spi_take_in.Goals as goal

pub packed_outcome-requires : goal.packed_outcome-requires
packed_outcome-requires c = leaves-small _ _ _ _ c.take_in-answer.ensures (taken-told _ _ _ (λ i. omega (arith, c.type_inv.object i))) _ c.from.ensures

pub returns : goal.returns
returns c =
    leaves-says _ _ _ _ c.take_in-answer.ensures (taken-told _ _ _ (λ i. omega (arith, c.type_inv.object i))) _ c.from.ensures _ c.packed_outcome.ensures
