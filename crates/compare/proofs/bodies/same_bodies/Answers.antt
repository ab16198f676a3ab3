use native.Mathlib.Omega.{arith}
use Rattle.octets.specs.Numbers.{Octets}
use Rattle.compare.proofs.Telling.{body-ways}
use borrow.Author.Rules.{rules}
use Rattle.compare.proofs.bodies.same_bodies.Goals as goal

pub returns-in-HoldsText : goal.returns-in-HoldsText
returns-in-HoldsText c = search (body-ways, rules)

pub returns-in-HoldsTime : goal.returns-in-HoldsTime
returns-in-HoldsTime c = search (body-ways, rules)

pub returns-in-HoldsBearer : goal.returns-in-HoldsBearer
returns-in-HoldsBearer c = search (body-ways, rules)

pub returns-in-HoldsItems : goal.returns-in-HoldsItems
returns-in-HoldsItems c = search (body-ways, rules)

pub returns-in-HoldsTokens : goal.returns-in-HoldsTokens
returns-in-HoldsTokens c = search (body-ways, rules)

pub returns-in-HoldsPlain : goal.returns-in-HoldsPlain
returns-in-HoldsPlain c = search (body-ways, rules)

pub returns-in-HoldsNumber : goal.returns-in-HoldsNumber
returns-in-HoldsNumber c =
    let oa : Octets c.args.a.now = λ i. omega (arith, c.type_inv.a i) in
    let ob : Octets c.args.b.now = λ i. omega (arith, c.type_inv.b i) in
    search (body-ways, rules)
