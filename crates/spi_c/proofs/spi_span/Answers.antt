use Rattle.spi_c.specs.Packed.{packed_span}
use mathlib.Core.Path.{ap, ◌∙◌}
use native.Mathlib.Omega.{arith}
use Rattle.spi_c.proofs.Calls.{span_small}
use Rattle.spi_c.proofs.spi_span.Goals as goal

pub packed_span-requires : goal.packed_span-requires
packed_span-requires c = span_small _ _ _ _ (omega (arith, c.type_inv.starts c.args.number)) (omega (arith, c.type_inv.sizes c.args.number)) _ c.span.ensures

pub returns : goal.returns
returns c = record { answers = c.packed_span.ensures ∙ ap packed_span c.span.ensures }
