use Rattle.xml.proofs.Valuing.{count_long, count-put}
use borrow.Author.Rules.{rules}
use Rattle.xml.proofs.value.put_count.Goals as goal

pub returns-in_default : goal.returns-in_default
returns-in_default c = search (count_long, count-put, rules)

pub returns : goal.returns
returns c = search (count_long, count-put, rules)
