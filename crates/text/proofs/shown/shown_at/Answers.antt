use mathlib.Core.Path.{◌∙◌}
use Rattle.text.proofs.ShownLaws.{shown-low, shown-high}
use borrow.Author.Rules.{rules}
use Rattle.text.proofs.shown.shown_at.Goals as goal

pub returns-then-b-lt20 : goal.returns-then-b-lt20
returns-then-b-lt20 c =
    record { result_value = c.wide.ensures.value ∙ shown-low _ _ c.if-b-lt20.true; result_bound = c.wide.ensures.upper_bound }

pub returns : goal.returns
returns c = search (shown-high, rules)
