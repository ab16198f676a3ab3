use Rattle.values.proofs.ValueForm.{time-ways}
use borrow.Author.Rules.{rules}
use Rattle.values.proofs.value_form.time_field.Goals as goal

pub returns-in-Ok : goal.returns-in-Ok
returns-in-Ok c = search (time-ways, rules)

pub returns-in-Err : goal.returns-in-Err
returns-in-Err c = search (time-ways, rules)
