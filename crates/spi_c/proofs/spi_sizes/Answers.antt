use native.Mathlib.Omega.{arith}
use borrow.Author.Rules.{rules}
use Rattle.spi_c.proofs.Calls.{needs-none, needs-small, needs-told}
use Rattle.spi_c.proofs.spi_sizes.Goals as goal

pub packed_sizes-requires : goal.packed_sizes-requires
packed_sizes-requires c =
    needs-small _ _ c.needs_of.ensures _ c.in-Ok.is
    (λ i. omega (arith, c.type_inv.object i))

pub returns-in-Err : goal.returns-in-Err
returns-in-Err c = search (needs-none, rules)

pub returns-in-Ok : goal.returns-in-Ok
returns-in-Ok c = needs-told _ _ c.needs_of.ensures _ c.in-Ok.is _ c.packed_sizes.ensures
