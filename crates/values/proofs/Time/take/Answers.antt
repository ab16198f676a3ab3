use Rattle.values.proofs.TimeForm.{take-ways, flag-less}
use native.Mathlib.Omega.{arith}
use borrow.Author.Rules.{rules}
use Rattle.values.proofs.Time.take.Goals as goal

pub returns-then-s-lt4 : goal.returns-then-s-lt4
returns-then-s-lt4 c = search (take-ways, rules)

pub overflow_mul-size : goal.overflow_mul-size
overflow_mul-size c = record { fits = omega (arith, flag-less c.four_at-w.result 11) }

pub overflow_add-size : goal.overflow_add-size
overflow_add-size c = record { fits = omega (arith, flag-less c.four_at-w.result 11) }

pub overflow_add-size-2 : goal.overflow_add-size-2
overflow_add-size-2 c = record { fits = omega (arith, flag-less c.four_at-w.result 11, flag-less c.four_at-w.result 12) }

pub overflow_cast-size : goal.overflow_cast-size
overflow_cast-size c = record { fits = omega (arith, flag-less c.four_at-w.result 11, flag-less c.four_at-w.result 12) }

pub returns-then-s-size : goal.returns-then-s-size
returns-then-s-size c = search (take-ways, rules)

pub second_at-second-requires : goal.second_at-second-requires
second_at-second-requires c = record { long_bound = flag-less c.four_at-w.result 11; long_in_bounds = omega arith }

pub offset_at-offset-requires : goal.offset_at-offset-requires
offset_at-offset-requires c = record { long_bound = (flag-less c.four_at-w.result 11, flag-less c.four_at-w.result 12); moved_in_bounds = omega arith }

pub returns : goal.returns
returns c = search (take-ways, rules)
