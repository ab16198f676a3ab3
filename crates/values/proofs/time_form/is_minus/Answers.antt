use borrow.Author.Rules.{rules}
use Rattle.values.proofs.TimeForm.{sense-ways}
use Rattle.values.proofs.time_form.is_minus.Goals as goal

pub returns-then-offset-eq0 : goal.returns-then-offset-eq0
returns-then-offset-eq0 c = search (sense-ways, rules)

pub returns-then-offset-eq0-2 : goal.returns-then-offset-eq0-2
returns-then-offset-eq0-2 c = search (sense-ways, rules)

pub returns : goal.returns
returns c = search (sense-ways, rules)
