use native.Mathlib.Omega.{arith}
use Rattle.octets.specs.Numbers.{Octets}
use Rattle.fold.proofs.Checking.{check-ways}
use borrow.Author.Rules.{rules}
use Rattle.fold.proofs.check.Goals as goal

pub returns-then-packed-normal : goal.returns-then-packed-normal
returns-then-packed-normal c = search (check-ways, rules)

pub returns-then-not-is_normal : goal.returns-then-not-is_normal
returns-then-not-is_normal c = search (check-ways, rules)

pub returns-in-Ok-true : goal.returns-in-Ok-true
returns-in-Ok-true c =
    let os : Octets c.args.normal.now = λ i. omega (arith, c.type_inv.normal i) in
    let ps : Octets c.args.packed.now = λ i. omega (arith, c.type_inv.packed i) in
    search (check-ways, rules)

pub returns-in-Ok-false : goal.returns-in-Ok-false
returns-in-Ok-false c =
    let os : Octets c.args.normal.now = λ i. omega (arith, c.type_inv.normal i) in
    let ps : Octets c.args.packed.now = λ i. omega (arith, c.type_inv.packed i) in
    search (check-ways, rules)

pub returns-in-Err : goal.returns-in-Err
returns-in-Err c =
    let os : Octets c.args.normal.now = λ i. omega (arith, c.type_inv.normal i) in
    let ps : Octets c.args.packed.now = λ i. omega (arith, c.type_inv.packed i) in
    search (check-ways, rules)
