use borrow.Author.Rules.{rules}
use borrow.Author.Tests.{not-true, not-false}
use Rattle.text.proofs.Sequences.{token-bit}
use Rattle.text.proofs.Entries.{good-ways, good-room, good-fits}
use Rattle.text.proofs.tables.good_entry.Goals as goal

pub returns-in_err-entry : goal.returns-in_err-entry
returns-in_err-entry c = search (good-ways, rules)

pub returns-then-not-is_token : goal.returns-then-not-is_token
returns-then-not-is_token c = search (good-ways, not-true, rules)

pub overflow_shr-seen : goal.overflow_shr-seen
overflow_shr-seen c = search (token-bit, not-false, rules)

pub returns-then-seen-entry-eq1 : goal.returns-then-seen-entry-eq1
returns-then-seen-entry-eq1 c = search (good-ways, not-true, not-false, rules)

pub overflow_add-end : goal.overflow_add-end
overflow_add-end c = good-fits _ _ c.first_entry.ensures _ c.in_ok-entry.was (search rules)

pub slice_bounds-check-end : goal.slice_bounds-check-end
slice_bounds-check-end c = search (good-room _ _ c.first_entry.ensures _ c.in_ok-entry.was, rules)

pub returns-then-not-check : goal.returns-then-not-check
returns-then-not-check c = search (good-ways, not-true, not-false, rules)

pub returns : goal.returns
returns c = search (good-ways, not-false, rules)
