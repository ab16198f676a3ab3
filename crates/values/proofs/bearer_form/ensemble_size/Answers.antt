use Rattle.values.proofs.BearerForm.{absent-size, present-size}
use borrow.Author.Rules.{rules}
use Rattle.values.proofs.bearer_form.ensemble_size.Goals as goal

pub returns-in-None : goal.returns-in-None
returns-in-None c = search (absent-size, present-size, rules)

pub returns-in-Some : goal.returns-in-Some
returns-in-Some c = search (absent-size, present-size, rules)
