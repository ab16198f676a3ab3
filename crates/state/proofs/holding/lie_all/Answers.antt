use mathlib.Core.Path.{◌∙◌}
use Rattle.state.proofs.Checks.{lying-next, lying-ill, lying-ways}
use borrow.Author.Rules.{rules}
use Rattle.state.proofs.holding.lie_all.Goals as goal

pub loop-i-init : goal.loop-i-init
loop-i-init c = search (lying-ways, rules)

pub returns-in_err-at : goal.returns-in_err-at
returns-in_err-at c =
    c.from_residual.ensures ∙ lying-ill _ _ _ _ _ c.loop-i.invariant c.loop-i-test.true _ c.at_or-element.ensures _ c.lies_to.ensures c.in_err-at.was

pub loop-i-preserved : goal.loop-i-preserved
loop-i-preserved c = lying-next _ _ _ _ _ c.loop-i.invariant c.loop-i-test.true _ c.at_or-element.ensures _ c.lies_to.ensures _ c.in_ok-at.was

pub returns : goal.returns
returns c = search (lying-ways, rules)
