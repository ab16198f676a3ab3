use borrow.Author.Rules.{rules}
use Rattle.packer.proofs.Ranked.{saved-is}
use Rattle.packer.proofs.ranking.saved_by.Goals as goal

pub returns : goal.returns
returns c = search (saved-is, rules)
