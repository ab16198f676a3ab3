use Rattle.values.proofs.DefaultValues.{flag_one, flag-other}
use borrow.Author.Rules.{rules}
use Rattle.values.proofs.defaults.is_flag.Goals as goal

pub returns-then-tag-eq131 : goal.returns-then-tag-eq131
returns-then-tag-eq131 c = search (flag_one, rules)

pub returns : goal.returns
returns c = search (flag-other, rules)
