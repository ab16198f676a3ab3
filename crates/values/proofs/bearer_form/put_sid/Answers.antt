use Rattle.values.proofs.BearerForm.{sid-puts}
use borrow.Author.Rules.{rules}
use Rattle.values.proofs.bearer_form.put_sid.Goals as goal

pub put_four-requires : goal.put_four-requires
put_four-requires c = search (sid-puts, rules)

pub returns-then-long : goal.returns-then-long
returns-then-long c = search (sid-puts, rules)

pub put_two-requires : goal.put_two-requires
put_two-requires c = search (sid-puts, rules)

pub returns : goal.returns
returns c = search (sid-puts, rules)
