use Rattle.values.proofs.BearerForm.{take-ways}
use Rattle.values.proofs.TimeForm.{flag-less}
use lib.ListN.{get_or}
use native.Mathlib.Omega.{arith}
use borrow.Author.Rules.{rules}
use Rattle.values.proofs.Bearer.take.Goals as goal

pub returns-then-s-lt3 : goal.returns-then-s-lt3
returns-then-s-lt3 c = search (take-ways, rules)

pub overflow_cast-first : goal.overflow_cast-first
overflow_cast-first c =
    omega (arith, c.type_inv.s 0)

pub overflow_mul-size : goal.overflow_mul-size
overflow_mul-size c =
    record { fits = omega (arith, flag-less (get_or c.args.s.now 0 0) 6, flag-less (get_or c.args.s.now 0 0) 4) }

pub overflow_add-size : goal.overflow_add-size
overflow_add-size c =
    record { fits = omega (arith, flag-less (get_or c.args.s.now 0 0) 6, flag-less (get_or c.args.s.now 0 0) 4) }

pub overflow_mul-size-2 : goal.overflow_mul-size-2
overflow_mul-size-2 c =
    record { fits = omega (arith, flag-less (get_or c.args.s.now 0 0) 6, flag-less (get_or c.args.s.now 0 0) 4) }

pub overflow_add-size-2 : goal.overflow_add-size-2
overflow_add-size-2 c =
    record { fits = omega (arith, flag-less (get_or c.args.s.now 0 0) 6, flag-less (get_or c.args.s.now 0 0) 4) }

pub overflow_cast-size : goal.overflow_cast-size
overflow_cast-size c =
    record { fits = omega (arith, flag-less (get_or c.args.s.now 0 0) 6, flag-less (get_or c.args.s.now 0 0) 4) }

pub returns-then-s-size : goal.returns-then-s-size
returns-then-s-size c = search (take-ways, rules)

pub ensemble_at-ensemble-requires : goal.ensemble_at-ensemble-requires
ensemble_at-ensemble-requires c =
    record { present_bound = flag-less (get_or c.args.s.now 0 0) 6; present_in_bounds = omega arith }

pub sid_at-sid-requires : goal.sid_at-sid-requires
sid_at-sid-requires c =
    record { present_bound = (flag-less (get_or c.args.s.now 0 0) 6, flag-less (get_or c.args.s.now 0 0) 4); s_len = omega arith }

pub returns : goal.returns
returns c = search (take-ways, rules)
