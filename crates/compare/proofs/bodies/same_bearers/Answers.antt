use native.Mathlib.Omega.{arith}
use Rattle.octets.specs.Numbers.{Octets}
use Rattle.compare.proofs.Telling.{taken-bearers}
use borrow.Author.Rules.{rules}
use Rattle.compare.proofs.bodies.same_bearers.Goals as goal

pub returns-in_default : goal.returns-in_default
returns-in_default c = search (taken-bearers, rules)

pub returns-in_default-take : goal.returns-in_default-take
returns-in_default-take c = search (taken-bearers, rules)

pub returns : goal.returns
returns c =
    let oa : Octets c.args.a.now = λ i. omega (arith, c.type_inv.a i) in
    let ob : Octets c.args.b.now = λ i. omega (arith, c.type_inv.b i) in
    search (taken-bearers, rules)
