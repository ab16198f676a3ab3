use Rattle.judge.proofs.Inside.{judge-ways}
use borrow.Author.Rules.{rules}
use Rattle.judge.proofs.judge.Goals as goal

pub returns-then-object-eq0 : goal.returns-then-object-eq0
returns-then-object-eq0 c = search (judge-ways, rules)

pub returns : goal.returns
returns c = search (judge-ways, rules)
