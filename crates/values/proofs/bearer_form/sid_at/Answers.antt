use Rattle.values.proofs.BearerForm.{sid-two, sid-four}
use borrow.Author.Rules.{rules}
use Rattle.values.proofs.bearer_form.sid_at.Goals as goal

pub returns-then-long-eq0 : goal.returns-then-long-eq0
returns-then-long-eq0 c = search (sid-two, sid-four, rules)

pub returns : goal.returns
returns c = search (sid-two, sid-four, rules)
