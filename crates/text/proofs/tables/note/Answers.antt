use borrow.Author.Tests.{not-true, not-false}
use Rattle.text.proofs.Index.{note-ways}
use borrow.Author.Rules.{rules}
use Rattle.text.proofs.tables.note.Goals as goal

pub returns-then-not-is_token : goal.returns-then-not-is_token
returns-then-not-is_token c = search (note-ways, not-true, not-false, rules)

pub bounds-index-k : goal.bounds-index-k
bounds-index-k c = search (note-ways, not-true, not-false, rules)

pub returns-then-index-k-gt0 : goal.returns-then-index-k-gt0
returns-then-index-k-gt0 c = search (note-ways, not-true, not-false, rules)

pub bounds-index-k-2 : goal.bounds-index-k-2
bounds-index-k-2 c = search (note-ways, not-true, not-false, rules)

pub returns : goal.returns
returns c = search (note-ways, not-true, not-false, rules)
