use native.Mathlib.Omega.{arith}
use Rattle.octets.specs.Numbers.{Octets}
use Rattle.xml.proofs.Singled.{value_none, value-done}
use borrow.Author.Rules.{rules}
use Rattle.xml.proofs.single.put_item_value.Goals as goal

pub returns-then-end-out : goal.returns-then-end-out
returns-then-end-out c = let os : Octets c.args.body.now = λ i. omega (arith, c.type_inv.body i) in search (value_none, rules)

pub returns : goal.returns
returns c = let os : Octets c.args.body.now = λ i. omega (arith, c.type_inv.body i) in search (value-done, rules)
