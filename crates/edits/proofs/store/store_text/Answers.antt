use Rattle.edits.proofs.Storing.{storing-ways}
use borrow.Author.Rules.{rules}
use Rattle.edits.proofs.store.store_text.Goals as goal

pub returns : goal.returns
returns c = search (storing-ways, rules)
