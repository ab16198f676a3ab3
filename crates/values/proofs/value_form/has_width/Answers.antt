use Rattle.values.proofs.ValueForm.{number-ways}
use borrow.Author.Rules.{rules}
use Rattle.values.proofs.value_form.has_width.Goals as goal

pub returns : goal.returns
returns c = search (number-ways, rules)
