use native.Mathlib.Omega.{arith}
use Rattle.octets.specs.Numbers.{Octets}
use Rattle.compare.proofs.Answering.{normal-ways}
use borrow.Author.Rules.{rules}
use Rattle.compare.proofs.is_normal.Goals as goal

pub returns-in-Err : goal.returns-in-Err
returns-in-Err c = search (normal-ways, rules)

pub returns-in-Ok : goal.returns-in-Ok
returns-in-Ok c =
    let os : Octets c.args.object.now = λ i. omega (arith, c.type_inv.object i) in
    search (normal-ways, rules)
