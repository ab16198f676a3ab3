use borrow.Author.Rules.{rules}
use Rattle.packer.proofs.Laid.{piece-ways}
use borrow.Author.Rules.{rules}
use Rattle.packer.proofs.texts.put_piece.Goals as goal

pub returns-then-not-is_word_size : goal.returns-then-not-is_word_size
returns-then-not-is_word_size c = search (piece-ways, rules)

pub returns-in-None : goal.returns-in-None
returns-in-None c = search (piece-ways, rules)

pub returns-in-Some : goal.returns-in-Some
returns-in-Some c = search (piece-ways, rules)
