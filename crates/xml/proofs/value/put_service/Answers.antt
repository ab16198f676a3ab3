use Rattle.xml.proofs.Valuing.{service-put}
use borrow.Author.Rules.{rules}
use Rattle.xml.proofs.value.put_service.Goals as goal

pub returns : goal.returns
returns c = search (service-put, rules)
