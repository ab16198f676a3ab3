use native.Mathlib.Omega.{arith}
use Rattle.survey.proofs.WholeSizes.{measures}
use Rattle.survey.proofs.measure.measure.Goals as goal

pub returns : goal.returns
returns c =
    measures _ _ _ (λ i. omega (arith, c.type_inv.object i)) c.table_of-table.ensures c.measure_items.ensures
