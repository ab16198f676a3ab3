use borrow.Author.Rules.{rules}
use Rattle.packer.proofs.Ranked.{move-done}
use Rattle.packer.proofs.ranking.put_in.Goals as goal

pub returns-then-place-lt16 : goal.returns-then-place-lt16
returns-then-place-lt16 c = search (move-done, rules)
