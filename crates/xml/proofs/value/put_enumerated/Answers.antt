use Rattle.xml.proofs.Valuing.{enumerated-none, enumerated-put}
use borrow.Author.Rules.{rules}
use Rattle.xml.proofs.value.put_enumerated.Goals as goal

pub returns-then-body-eq0 : goal.returns-then-body-eq0
returns-then-body-eq0 c = search (enumerated-none, enumerated-put, rules)

pub returns : goal.returns
returns c = search (enumerated-none, enumerated-put, rules)
