use mathlib.Core.Path.{ap, ◌∙◌, sym, subst}
use native.Mathlib.Omega.{arith}
use Rattle.std.specs.Prelude.{Err}
use Rattle.std.proofs.lemmas.Result.{err_from_is_err_and}
use Rattle.octets.specs.Numbers.{Octets}
use Rattle.edits.specs.Insertion.{insertion_of}
use Rattle.edits.proofs.InsertWays.{refused-leaves, opens-few, opens-asks, opens-leaves}
use Rattle.edits.proofs.inserting.insert.Goals as goal

pub plan_insertion-requires : goal.plan_insertion-requires
plan_insertion-requires c = subst Octets (sym (ap (λ m. m.store) c.of-memory.ensures)) (λ i. omega (arith, c.slice_known-8-1.given i))

pub put_in-requires : goal.put_in-requires
put_in-requires c = opens-asks _ _ _ _ _ (λ i. omega (arith, c.slice_known-8-1.given i)) (λ i. omega (arith, c.type_inv.element i)) _
    (c.plan_insertion.ensures ∙ ap (insertion_of _ _ _ _) c.of-memory.ensures) _ c.in_ok-gap.was

pub overflow_sub-more : goal.overflow_sub-more
overflow_sub-more c = (opens-few _ _ _ _ _ (λ i. omega (arith, c.slice_known-8-1.given i)) (λ i. omega (arith, c.type_inv.element i)) _
    (c.plan_insertion.ensures ∙ ap (insertion_of _ _ _ _) c.of-memory.ensures) _ c.in_ok-gap.was).0

pub overflow_add-result : goal.overflow_add-result
overflow_add-result c = omega (
  arith,
  (opens-few _ _ _ _ _ (λ i. omega (arith, c.slice_known-8-1.given i)) (λ i. omega (arith, c.type_inv.element i)) _
      (c.plan_insertion.ensures ∙ ap (insertion_of _ _ _ _) c.of-memory.ensures) _ c.in_ok-gap.was).1,
)

pub returns-in_err-gap : goal.returns-in_err-gap
returns-in_err-gap c =
    let p = err_from_is_err_and c.from_residual.result c.from_residual.ensures.1 in
    refused-leaves _ _ _ _ _ (λ i. omega (arith, c.slice_known-8-1.given i)) (λ i. omega (arith, c.type_inv.element i)) _
    (c.plan_insertion.ensures ∙ ap (insertion_of _ _ _ _) c.of-memory.ensures) _ c.in_err-gap.was _ (p.1 ∙ ap (λ z. Err z) p.2)

pub returns : goal.returns
returns c = opens-leaves _ _ _ _ _ (λ i. omega (arith, c.slice_known-8-1.given i)) (λ i. omega (arith, c.type_inv.element i)) _
    (c.plan_insertion.ensures ∙ ap (insertion_of _ _ _ _) c.of-memory.ensures) _ c.in_ok-gap.was _ c.put_in.ensures
