use Rattle.merging.proofs.ClashSays.{clash-told}
use borrow.Author.Rules.{rules}
use Rattle.merging.proofs.has_clash.Goals as goal

pub returns : goal.returns
returns c = search (clash-told, rules)
