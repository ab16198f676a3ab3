use native.Mathlib.Omega.{arith}
use Rattle.octets.specs.Numbers.{Octets}
use Rattle.values.proofs.ValueForm.{number-ways}
use borrow.Author.Rules.{rules}
use Rattle.values.proofs.value_form.put_number.Goals as goal

pub returns-then-has_width : goal.returns-then-has_width
returns-then-has_width c = let os : Octets c.args.s.now = λ i. omega (arith, c.type_inv.s i) in search (number-ways, rules)

pub returns : goal.returns
returns c = search (number-ways, rules)
