use native.Mathlib.Omega.{arith}
use Rattle.octets.specs.Numbers.{Octets}
use Rattle.compare.proofs.Shaping.{own-number, own-ways}
use borrow.Author.Rules.{rules}
use Rattle.compare.proofs.normal.is_own.Goals as goal

pub returns-in-HoldsItems : goal.returns-in-HoldsItems
returns-in-HoldsItems c = search (own-ways, rules)

pub returns-in-HoldsTokens : goal.returns-in-HoldsTokens
returns-in-HoldsTokens c = search (own-ways, rules)

pub returns-in-HoldsText : goal.returns-in-HoldsText
returns-in-HoldsText c = search (own-ways, rules)

pub returns-in-HoldsPlain : goal.returns-in-HoldsPlain
returns-in-HoldsPlain c = search (own-ways, rules)

pub returns-in-HoldsTime : goal.returns-in-HoldsTime
returns-in-HoldsTime c = search (own-ways, rules)

pub returns-in-HoldsBearer : goal.returns-in-HoldsBearer
returns-in-HoldsBearer c = search (own-ways, rules)

pub returns-in-HoldsNumber : goal.returns-in-HoldsNumber
returns-in-HoldsNumber c = let os : Octets c.args.body.now = λ i. omega (arith, c.type_inv.body i) in search (own-number, rules)
