use Rattle.xml.proofs.Valuing.{ensemble-put}
use borrow.Author.Rules.{rules}
use Rattle.xml.proofs.value.put_ensemble.Goals as goal

pub returns : goal.returns
returns c = search (ensemble-put, rules)
