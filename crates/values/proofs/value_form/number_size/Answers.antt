use Rattle.values.proofs.ValueForm.{number-ways}
use borrow.Author.Rules.{rules}
use Rattle.values.proofs.value_form.number_size.Goals as goal

pub returns-then-has_width : goal.returns-then-has_width
returns-then-has_width c = search (number-ways, rules)

pub returns : goal.returns
returns c = search (number-ways, rules)
