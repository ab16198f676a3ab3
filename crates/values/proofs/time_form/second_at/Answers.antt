use native.Mathlib.Omega.{arith}
use Rattle.values.proofs.TimeForm.{second-ways}
use borrow.Author.Rules.{rules}
use Rattle.values.proofs.time_form.second_at.Goals as goal

pub returns-then-long-eq0 : goal.returns-then-long-eq0
returns-then-long-eq0 c = search (second-ways, rules)

pub overflow_cast-result : goal.overflow_cast-result
overflow_cast-result c =
    omega (arith, c.type_inv.s 4)

pub returns : goal.returns
returns c = search (second-ways, rules)
