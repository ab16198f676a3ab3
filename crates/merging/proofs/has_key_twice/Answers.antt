use Rattle.merging.proofs.KeySays.{twice-told}
use borrow.Author.Rules.{rules}
use Rattle.merging.proofs.has_key_twice.Goals as goal

pub returns : goal.returns
returns c = search (twice-told, rules)
