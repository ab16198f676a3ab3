use native.Mathlib.Omega.{arith}
use Prim.Native.Nat.{◌+◌, ◌<◌}
use lib.ListN.{get_or}
use Rattle.values.proofs.Shifts.{two-value, two-small}
use Rattle.values.proofs.numbers.two_at.Goals as goal

pub overflow_cast-high : goal.overflow_cast-high
overflow_cast-high c =
    omega (arith, c.type_inv.s c.args.at)

pub overflow_cast-low : goal.overflow_cast-low
overflow_cast-low c =
    omega (arith, c.type_inv.s (c.args.at + 1))

pub returns : goal.returns
returns c =
    let args = c.args in
    let known = c.type_inv.s in
    let a : get_or args.s.now args.at 0 < 256 = omega (arith, known args.at) in
    let b : get_or args.s.now (args.at + 1) 0 < 256 = omega (arith, known (args.at + 1)) in
    record { value = two-value args.s.now args.at c.requires a b; upper_bound = two-small args.s.now args.at c.requires a b }
