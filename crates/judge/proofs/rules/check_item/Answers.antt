use Rattle.judge.proofs.ItemWays.{item-ways}
use borrow.Author.Rules.{rules}
use Rattle.judge.proofs.rules.check_item.Goals as goal

pub returns-then-latest_of-progress : goal.returns-then-latest_of-progress
returns-then-latest_of-progress c = search (item-ways, rules)

pub returns-then-not-has_level : goal.returns-then-not-has_level
returns-then-not-has_level c = search (item-ways, rules)

pub returns-then-is_twice : goal.returns-then-is_twice
returns-then-is_twice c = search (item-ways, rules)

pub returns : goal.returns
returns c = search (item-ways, rules)
