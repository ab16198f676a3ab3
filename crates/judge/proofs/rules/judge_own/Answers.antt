use Rattle.judge.proofs.OwnWays.{own-ways}
use borrow.Author.Rules.{rules}
use Rattle.judge.proofs.rules.judge_own.Goals as goal

pub judge_framed-requires : goal.judge_framed-requires
judge_framed-requires c = search (own-ways, rules)

pub returns-in_default : goal.returns-in_default
returns-in_default c = search (own-ways, rules)
