use Rattle.packer.proofs.Noting.{note-ways}
use borrow.Author.Rules.{rules}
use Rattle.packer.proofs.collecting.note_one.Goals as goal

pub returns-then-not-is_word_size : goal.returns-then-not-is_word_size
returns-then-not-is_word_size c = search (note-ways, rules)

pub returns : goal.returns
returns c = search (note-ways, rules)
