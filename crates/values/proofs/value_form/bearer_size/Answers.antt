use Rattle.values.proofs.ValueForm.{bearer-ways}
use borrow.Author.Rules.{rules}
use Rattle.values.proofs.value_form.bearer_size.Goals as goal

pub returns-in-Some : goal.returns-in-Some
returns-in-Some c = search (bearer-ways, rules)

pub returns-in-None : goal.returns-in-None
returns-in-None c = search (bearer-ways, rules)
