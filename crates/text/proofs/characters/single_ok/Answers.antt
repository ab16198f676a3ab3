use Rattle.text.proofs.Sequences.{single-ways}
use borrow.Author.Rules.{rules}
use Rattle.text.proofs.characters.single_ok.Goals as goal

pub returns-then-b-ge32 : goal.returns-then-b-ge32
returns-then-b-ge32 c = search (single-ways, rules)

pub returns-then-is_layout : goal.returns-then-is_layout
returns-then-is_layout c = search (single-ways, rules)

pub returns-then-is_token : goal.returns-then-is_token
returns-then-is_token c = search (single-ways, rules)

pub returns : goal.returns
returns c = search (single-ways, rules)
