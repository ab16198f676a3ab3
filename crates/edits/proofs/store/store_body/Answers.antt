use Rattle.edits.proofs.Storing.{storing-ways}
use borrow.Author.Rules.{rules}
use Rattle.edits.proofs.store.store_body.Goals as goal

pub store_text-requires : goal.store_text-requires
store_text-requires c = search (storing-ways, rules)

pub returns-then-is_text : goal.returns-then-is_text
returns-then-is_text c = search (storing-ways, rules)

pub store_value-requires : goal.store_value-requires
store_value-requires c = search (storing-ways, rules)

pub returns : goal.returns
returns c = search (storing-ways, rules)
