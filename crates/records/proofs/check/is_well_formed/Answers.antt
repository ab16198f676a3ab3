use mathlib.Core.Path.{◌∙◌}
use Rattle.records.proofs.Given.{given-end, given-ways}
use native.Mathlib.Omega.{arith}
use borrow.Author.Rules.{rules}
use Rattle.records.proofs.check.is_well_formed.Goals as goal

pub returns-then-count-eq0 : goal.returns-then-count-eq0
returns-then-count-eq0 c = search (given-ways, rules)

pub returns-then-count-places : goal.returns-then-count-places
returns-then-count-places c = search (given-ways, rules)

pub check_items-requires : goal.check_items-requires
check_items-requires c =
    (omega (arith, c.places.ensures), omega arith, omega arith)

pub returns : goal.returns
returns c = c.eq.ensures ∙ given-end _ _ _ _ c.places.ensures c.if-count-places.false _ c.check_items.ensures c.if-count-eq0.false
