use Rattle.text.proofs.Replaced.{covered-ways}
use borrow.Author.Rules.{rules}
use Rattle.text.proofs.expanding.is_covered.Goals as goal

pub returns-then-used-eq0 : goal.returns-then-used-eq0
returns-then-used-eq0 c = search (covered-ways, rules)

pub returns : goal.returns
returns c = search (covered-ways, rules)
