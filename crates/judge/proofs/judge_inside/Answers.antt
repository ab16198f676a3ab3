use Rattle.judge.proofs.Inside.{inside-ways}
use borrow.Author.Rules.{rules}
use Rattle.judge.proofs.judge_inside.Goals as goal

pub returns-then-octets-gt32768 : goal.returns-then-octets-gt32768
returns-then-octets-gt32768 c = search (inside-ways, rules)

pub returns : goal.returns
returns c = search (inside-ways, rules)
