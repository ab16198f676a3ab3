use Rattle.std.proofs.Common.{◌≡◌, rules}
use borrow.Author.Tests.{tests}
use Rattle.std.proofs.lemmas.Iterator.{YieldsList-from_slice, IsFirst-from_position}
use Rattle.packer.proofs.Counted.{looked, pass-found, pass-none}
use Rattle.packer.proofs.counting.next_keyed.Goals as goal

pub returns-in-Some : goal.returns-in-Some
returns-in-Some c =
    let looks = YieldsList-from_slice (looked c.args.keys.now c.args.key c.args.at c.args.n) c.iter.ensures.rest in
    let told = IsFirst-from_position _ _ c.position.result (λ x. x ≡ c.args.key) (λ x. x ≡ c.args.key → ⊥) c.position.ensures.ran looks
    (λ x q k. search (rules, tests)) (λ x q k. search (rules, tests)) in
    pass-found _ _ _ _ c.requires.at_le_n c.requires.n_in_bounds _ told _ c.in-Some.is

pub returns-in-None : goal.returns-in-None
returns-in-None c =
    let looks = YieldsList-from_slice (looked c.args.keys.now c.args.key c.args.at c.args.n) c.iter.ensures.rest in
    let told = IsFirst-from_position _ _ c.position.result (λ x. x ≡ c.args.key) (λ x. x ≡ c.args.key → ⊥) c.position.ensures.ran looks
    (λ x q k. search (rules, tests)) (λ x q k. search (rules, tests)) in
    pass-none _ _ _ _ c.requires.at_le_n c.requires.n_in_bounds _ told c.in-None.is
