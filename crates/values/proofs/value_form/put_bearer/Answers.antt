use native.Mathlib.Omega.{arith}
use Rattle.octets.specs.Numbers.{Octets}
use Rattle.values.proofs.ValueForm.{bearer-ways}
use borrow.Author.Rules.{rules}
use Rattle.values.proofs.value_form.put_bearer.Goals as goal

pub returns-in-Some : goal.returns-in-Some
returns-in-Some c = let os : Octets c.args.s.now = λ i. omega (arith, c.type_inv.s i) in search (bearer-ways, rules)

pub returns-in-None : goal.returns-in-None
returns-in-None c = search (bearer-ways, rules)
