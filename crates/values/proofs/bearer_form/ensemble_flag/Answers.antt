use Rattle.values.proofs.BearerForm.{absent-bit, present-bit}
use borrow.Author.Rules.{rules}
use Rattle.values.proofs.bearer_form.ensemble_flag.Goals as goal

pub returns-in-None : goal.returns-in-None
returns-in-None c = search (absent-bit, present-bit, rules)

pub returns-in-Some : goal.returns-in-Some
returns-in-Some c = search (absent-bit, present-bit, rules)
