use Rattle.merging.proofs.KeyWays.{same-key-ways}
use borrow.Author.Rules.{rules}
use Rattle.merging.proofs.keys.same_key.Goals as goal

pub returns-then-is_top : goal.returns-then-is_top
returns-then-is_top c = search (same-key-ways, rules)

pub returns-then-tag-eq40 : goal.returns-then-tag-eq40
returns-then-tag-eq40 c = search (same-key-ways, rules)

pub returns : goal.returns
returns c = search (same-key-ways, rules)
