use Rattle.values.proofs.Lookup.{look}
use borrow.Author.Rules.{rules}
use Rattle.values.proofs.table.known_kind.Goals as goal

pub returns : goal.returns
returns c = search (look, rules)
