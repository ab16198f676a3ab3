use Rattle.octets.proofs.Writing.{form-ways}
use borrow.Author.Rules.{rules}
use Rattle.octets.proofs.length_form.Goals as goal

pub returns-then-n-le253 : goal.returns-then-n-le253
returns-then-n-le253 c = search (form-ways, rules)

pub returns : goal.returns
returns c = search (form-ways, rules)
