use borrow.Author.Tests.{not-true, not-false}
use Rattle.text.proofs.Sequences.{token-bit}
use Rattle.text.proofs.Widths.{place-ways}
use borrow.Author.Rules.{rules}
use Rattle.text.proofs.tables.place_of.Goals as goal

pub returns-then-not-is_token : goal.returns-then-not-is_token
returns-then-not-is_token c = search (place-ways, not-true, rules)

pub overflow_shr-seen : goal.overflow_shr-seen
overflow_shr-seen c = search (token-bit, not-false, rules)

pub returns-then-seen-tag-eq1 : goal.returns-then-seen-tag-eq1
returns-then-seen-tag-eq1 c = search (place-ways, not-true, not-false, rules)

pub returns : goal.returns
returns c = search (place-ways, not-false, rules)
