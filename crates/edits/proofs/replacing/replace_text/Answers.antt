use mathlib.Core.Path.{ap, ◌∙◌, sym, subst}
use native.Mathlib.Omega.{arith}
use Rattle.std.specs.Prelude.{Err}
use Rattle.std.proofs.lemmas.Result.{err_from_is_err_and}
use Rattle.octets.specs.Numbers.{Octets}
use Rattle.edits.specs.Texts.{replacement_of}
use Rattle.edits.proofs.Replaced.{refused-leaves, fits-asks, fits-leaves}
use Rattle.edits.proofs.replacing.replace_text.Goals as goal

pub plan_text-requires : goal.plan_text-requires
plan_text-requires c = subst Octets (sym (ap (λ m. m.store) c.of-memory.ensures)) (λ i. omega (arith, c.slice_known-4-1.given i))

pub set_text-requires : goal.set_text-requires
set_text-requires c =
    let e = c.plan_text.ensures ∙ ap (replacement_of _ _ _) c.of-memory.ensures in
    fits-asks _ _ _ _ _ e _ c.in_ok-used.was (λ j. omega (arith, c.slice_known-4-1.given j))
    (λ j. omega (arith, c.type_inv.text j))

pub returns-in_err-used : goal.returns-in_err-used
returns-in_err-used c =
    let p = err_from_is_err_and c.from_residual.result c.from_residual.ensures.1 in
    refused-leaves _ _ _ _ _ (c.plan_text.ensures ∙ ap (replacement_of _ _ _) c.of-memory.ensures) _ c.in_err-used.was _ (p.1 ∙ ap (λ z. Err z) p.2)

pub returns : goal.returns
returns c =
    let e = c.plan_text.ensures ∙ ap (replacement_of _ _ _) c.of-memory.ensures in
    fits-leaves _ _ _ _ _ e _ c.in_ok-used.was (λ j. omega (arith, c.slice_known-4-1.given j))
    (λ j. omega (arith, c.type_inv.text j)) _ _ _ _ c.set_text.ensures
