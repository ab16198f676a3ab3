use native.Mathlib.Omega.{arith}
use mathlib.Core.Path.{◌∙◌}
use Rattle.text.proofs.Widths.{width_low, width-high}
use Rattle.text.proofs.expanding.width_by.Goals as goal
use Rattle.text.proofs.expanding.width_by.Goals.{then-b-lt20, else-b-lt20}

pub returns-then-b-lt20-2 : goal.returns-then-b-lt20-2
returns-then-b-lt20-2 c =
    record {
      result_value = elim c.if-b-lt20.branch [ then-b-lt20 w ↦ c.wide-width.ensures.value ∙ width_low c.args.widths.now c.args.b c.if-b-lt20-2.true _ w.k-is | else-b-lt20 w ↦ absurd (omega arith) ];
      result_bound = c.wide-width.ensures.upper_bound;
    }

pub returns-else-b-lt20-2 : goal.returns-else-b-lt20-2
returns-else-b-lt20-2 c = record { result_value = width-high c.args.widths.now c.args.b c.if-b-lt20-2.false; result_bound = omega arith }
