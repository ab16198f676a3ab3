use Rattle.values.proofs.ValueForm.{width_is}
use Rattle.values.specs.Values.{width}
use borrow.Author.Rules.{rules}
use Rattle.values.proofs.value_form.width_of.Goals as goal

pub returns-in-Duration : goal.returns-in-Duration
unfolding width
returns-in-Duration c = search (width_is, rules)

pub returns-in-ShortId : goal.returns-in-ShortId
unfolding width
returns-in-ShortId c = search (width_is, rules)

pub returns-in-Enumerated : goal.returns-in-Enumerated
unfolding width
returns-in-Enumerated c = search (width_is, rules)

pub returns-in-Integer : goal.returns-in-Integer
unfolding width
returns-in-Integer c = search (width_is, rules)
