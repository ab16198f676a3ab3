use Rattle.merging.proofs.Settling.{settle-ways}
use borrow.Author.Rules.{rules}
use Rattle.merging.proofs.settle.Goals as goal

pub returns-then-at_or : goal.returns-then-at_or
returns-then-at_or c = search (settle-ways, rules)

pub returns-then-has_clash : goal.returns-then-has_clash
returns-then-has_clash c = search (settle-ways, rules)

pub returns-then-has_key_twice : goal.returns-then-has_key_twice
returns-then-has_key_twice c = search (settle-ways, rules)

pub returns-then-has_key_twice-2 : goal.returns-then-has_key_twice-2
returns-then-has_key_twice-2 c = search (settle-ways, rules)

pub returns : goal.returns
returns c = search (settle-ways, rules)
