use native.Mathlib.Omega.{arith}
use Rattle.edits.proofs.Followed.{parent-ways, parent-fits}
use borrow.Author.Rules.{rules}
use Rattle.edits.proofs.shifting.next_parent.Goals as goal

pub returns-then-number-from : goal.returns-then-number-from
returns-then-number-from c = search (parent-ways, rules)

pub overflow_add-result : goal.overflow_add-result
overflow_add-result c = omega (arith, parent-fits _ _ _ c.requires c.if-number-from.false)

pub overflow_cast-result : goal.overflow_cast-result
overflow_cast-result c = omega (arith, parent-fits _ _ _ c.requires c.if-number-from.false)

pub returns : goal.returns
returns c = search (parent-ways, rules)
