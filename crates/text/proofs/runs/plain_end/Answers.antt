use Rattle.text.proofs.RunLaws.{run-begin}
use borrow.Author.Rules.{rules}
use Rattle.text.proofs.runs.plain_end.Goals as goal

pub returns-then-not-is_within : goal.returns-then-not-is_within
returns-then-not-is_within c = search (run-begin, rules)
