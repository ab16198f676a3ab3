use Rattle.judge.proofs.ItemWays.{text-uncovered, text-ways}
use borrow.Author.Tests.{not-true, not-false}
use borrow.Author.Rules.{rules}
use Rattle.judge.proofs.rules.check_text.Goals as goal

pub returns-then-not-is_held : goal.returns-then-not-is_held
returns-then-not-is_held c = text-uncovered _ _ _ _ _ _ _ c.requires _ c.weigh.ensures _ _ c.in-Some.is _ c.is_held.ensures c.if-not-is_held.true _ c.refuse-then-not-is_held.ensures

pub returns-then-not-is_short : goal.returns-then-not-is_short
returns-then-not-is_short c = search (text-ways, not-true, not-false, rules)

pub returns-in_default : goal.returns-in_default
returns-in_default c = search (text-ways, rules)

pub returns : goal.returns
returns c = search (text-ways, not-false, rules)
