use Rattle.values.proofs.BearerForm.{no-ensemble, some-ensemble}
use borrow.Author.Rules.{rules}
use Rattle.values.proofs.bearer_form.ensemble_at.Goals as goal

pub returns-then-present-eq0 : goal.returns-then-present-eq0
returns-then-present-eq0 c = search (no-ensemble, some-ensemble, rules)

pub returns : goal.returns
returns c = search (no-ensemble, some-ensemble, rules)
