use borrow.Author.Rules.{rules}
use Rattle.values.proofs.TimeForm.{sign_zero, sign-some}
use Rattle.values.proofs.time_form.flag_of.Goals as goal

pub returns-then-n-eq0 : goal.returns-then-n-eq0
returns-then-n-eq0 c = search (sign_zero, sign-some, rules)

pub returns : goal.returns
returns c = search (sign_zero, sign-some, rules)
