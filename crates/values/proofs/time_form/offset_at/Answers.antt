use native.Mathlib.Omega.{arith}
use Rattle.values.proofs.TimeForm.{offset-ways}
use borrow.Author.Rules.{rules}
use Rattle.values.proofs.time_form.offset_at.Goals as goal

pub returns-then-moved-eq0 : goal.returns-then-moved-eq0
returns-then-moved-eq0 c = search (offset-ways, rules)

pub overflow_cast-result : goal.overflow_cast-result
overflow_cast-result c =
    omega (arith, c.type_inv.s 4)

pub returns-then-long-eq0 : goal.returns-then-long-eq0
returns-then-long-eq0 c = search (offset-ways, rules)

pub overflow_cast-result-2 : goal.overflow_cast-result-2
overflow_cast-result-2 c =
    omega (arith, c.type_inv.s 6)

pub returns : goal.returns
returns c = search (offset-ways, rules)
