use Rattle.compare.proofs.Expansions.{stand-ways}
use borrow.Author.Tests.{not-true, not-false}
use borrow.Author.Rules.{rules}
use Rattle.compare.proofs.texts.entry_of.Goals as goal

pub returns-then-not-is_token : goal.returns-then-not-is_token
returns-then-not-is_token c = search (stand-ways, not-true, not-false, rules)

pub bounds-index-b : goal.bounds-index-b
bounds-index-b c = search (stand-ways, not-true, not-false, rules)

pub returns-then-from-eq0 : goal.returns-then-from-eq0
returns-then-from-eq0 c = search (stand-ways, not-true, not-false, rules)

pub returns-then-from-table : goal.returns-then-from-table
returns-then-from-table c = search (stand-ways, not-true, not-false, rules)

pub returns-then-size-table : goal.returns-then-size-table
returns-then-size-table c = search (stand-ways, not-true, not-false, rules)

pub returns-then-size-index : goal.returns-then-size-index
returns-then-size-index c = search (stand-ways, not-true, not-false, rules)

pub returns : goal.returns
returns c = search (stand-ways, not-false, rules)
