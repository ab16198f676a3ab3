use Rattle.values.proofs.BearerForm.{first-octet}
use borrow.Author.Rules.{rules}
use Rattle.values.proofs.bearer_form.first_octet.Goals as goal

pub returns : goal.returns
returns c = search (first-octet, rules)
