use native.Mathlib.Omega.{arith}
use Rattle.octets.specs.Numbers.{Octets}
use Rattle.packer.proofs.Proposing.{normal-ways}
use borrow.Author.Rules.{rules}
use Rattle.packer.proofs.pack.Goals as goal

pub pack_normal-requires : goal.pack_normal-requires
pack_normal-requires c =
    let os : Octets c.args.object.now = λ i. omega (arith, c.type_inv.object i) in
    search (normal-ways, rules)

pub returns-then-not-is_normal : goal.returns-then-not-is_normal
returns-then-not-is_normal c = search (normal-ways, rules)
