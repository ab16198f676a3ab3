use mathlib.Core.Path.{ap, ◌∙◌, sym, subst}
use native.Mathlib.Omega.{arith}
use Rattle.std.specs.Prelude.{Err}
use Rattle.std.proofs.lemmas.Result.{err_from_is_err_and}
use Rattle.octets.specs.Numbers.{Octets}
use Rattle.edits.specs.Removal.{removal_of}
use Rattle.edits.proofs.Removed.{refused-leaves, closes-asks, closes-order, closes-leaves}
use Rattle.edits.proofs.removing.remove.Goals as goal

pub plan_removal-requires : goal.plan_removal-requires
plan_removal-requires c = subst Octets (sym (ap (λ m. m.store) c.of-memory.ensures)) (λ i. omega (arith, c.slice_known-8-1.given i))

pub resite-requires : goal.resite-requires
resite-requires c =
    let e = c.plan_removal.ensures ∙ ap (removal_of _ _) c.of-memory.ensures in
    closes-asks _ _ _ _ e (λ i. omega (arith, c.slice_known-8-1.given i)) _ c.in_ok-gap.was (λ i. omega (arith, c.slice_known-4-1.given i))

pub overflow_sub-gone : goal.overflow_sub-gone
overflow_sub-gone c =
    let e = c.plan_removal.ensures ∙ ap (removal_of _ _) c.of-memory.ensures in
    omega (arith, closes-order _ _ _ _ e (λ i. omega (arith, c.slice_known-8-1.given i)) _ c.in_ok-gap.was)

pub overflow_sub-result : goal.overflow_sub-result
overflow_sub-result c =
    let e = c.plan_removal.ensures ∙ ap (removal_of _ _) c.of-memory.ensures in
    omega (arith, closes-order _ _ _ _ e (λ i. omega (arith, c.slice_known-8-1.given i)) _ c.in_ok-gap.was)

pub returns-in_err-gap : goal.returns-in_err-gap
returns-in_err-gap c =
    let p = err_from_is_err_and c.from_residual.result c.from_residual.ensures.1 in
    refused-leaves _ _ _ _ (c.plan_removal.ensures ∙ ap (removal_of _ _) c.of-memory.ensures) _ c.in_err-gap.was _ (p.1 ∙ ap (λ z. Err z) p.2)

pub returns : goal.returns
returns c =
    let e = c.plan_removal.ensures ∙ ap (removal_of _ _) c.of-memory.ensures in
    closes-leaves _ _ _ _ e (λ i. omega (arith, c.slice_known-8-1.given i)) _ c.in_ok-gap.was _ c.resite.ensures
