use Rattle.xml.proofs.Valuing.{duration-put}
use borrow.Author.Rules.{rules}
use Rattle.xml.proofs.value.put_duration.Goals as goal

pub returns : goal.returns
returns c = search (duration-put, rules)
