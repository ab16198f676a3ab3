use Rattle.text.proofs.Sequences.{character-ways}
use borrow.Author.Rules.{rules}
use Rattle.text.proofs.characters.character_ok.Goals as goal

pub returns-then-c-least : goal.returns-then-c-least
returns-then-c-least c = search (character-ways, rules)

pub returns-then-c-gt1114111 : goal.returns-then-c-gt1114111
returns-then-c-gt1114111 c = search (character-ways, rules)

pub returns-then-c-lt55296 : goal.returns-then-c-lt55296
returns-then-c-lt55296 c = search (character-ways, rules)

pub returns : goal.returns
returns c = search (character-ways, rules)
