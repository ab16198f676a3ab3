use native.Mathlib.Omega.{arith}
use Rattle.octets.specs.Numbers.{Octets}
use Rattle.compare.proofs.Answering.{same-ways}
use borrow.Author.Rules.{rules}
use Rattle.compare.proofs.same.Goals as goal

pub returns-then-same_octets : goal.returns-then-same_octets
returns-then-same_octets c =
    let oa : Octets c.args.a.now = λ i. omega (arith, c.type_inv.a i) in
    search (same-ways, rules)

pub returns-in-Err : goal.returns-in-Err
returns-in-Err c = search (same-ways, rules)

pub returns-in-Err-judge : goal.returns-in-Err-judge
returns-in-Err-judge c = search (same-ways, rules)

pub returns-in-Ok-judge : goal.returns-in-Ok-judge
returns-in-Ok-judge c = search (same-ways, rules)
