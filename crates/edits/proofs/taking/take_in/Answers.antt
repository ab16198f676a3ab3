use mathlib.Core.Path.{ap, ◌∙◌}
use native.Mathlib.Omega.{arith}
use Rattle.std.specs.Prelude.{Err}
use Prim.Native.Nat.{min}
use lib.ListN.{length}
use Rattle.format.specs.Calls.{places}
use Rattle.edits.proofs.Surveyed.{counted, take-bad, take-misfit, take-can, take-laid}
use Rattle.edits.proofs.taking.take_in.Goals as goal

pub lay-requires : goal.lay-requires
lay-requires c =
    let there = c.places_in-there.ensures ∙ ap (λ m. min (places m.lists) (length m.bodies)) c.of-memory.ensures in
    take-can _ (λ i. omega (arith, c.type_inv.object i)) _ _ _ (counted _ _ _ _ _ there c.survey.ensures) c.in-Ok.is

pub returns-in-Err-Bad : goal.returns-in-Err-Bad
returns-in-Err-Bad c =
    let there = c.places_in-there.ensures ∙ ap (λ m. min (places m.lists) (length m.bodies)) c.of-memory.ensures in
    take-bad _ (λ i. omega (arith, c.type_inv.object i)) _ _ _ (counted _ _ _ _ _ there c.survey.ensures) _ (c.in-Err-Bad.is ∙ ap Err c.in-Err-Bad.field-0-is)

pub returns-in-Err-Misfit : goal.returns-in-Err-Misfit
returns-in-Err-Misfit c =
    let there = c.places_in-there.ensures ∙ ap (λ m. min (places m.lists) (length m.bodies)) c.of-memory.ensures in
    take-misfit _ (λ i. omega (arith, c.type_inv.object i)) _ _ _ (counted _ _ _ _ _ there c.survey.ensures) _ (c.in-Err-Misfit.is ∙ ap Err c.in-Err-Misfit.field-0-is)

pub shape_of-tags-in-Ok : goal.shape_of-tags-in-Ok
shape_of-tags-in-Ok c =
    c.tags-1.given

pub shape_of-kinds-in-Ok : goal.shape_of-kinds-in-Ok
shape_of-kinds-in-Ok c =
    c.kinds-1.given

pub shape_of-depths-in-Ok : goal.shape_of-depths-in-Ok
shape_of-depths-in-Ok c =
    c.depths-1.given

pub shape_of-parents-in-Ok : goal.shape_of-parents-in-Ok
shape_of-parents-in-Ok c =
    c.parents-1.given

pub shape_of-starts-in-Ok : goal.shape_of-starts-in-Ok
shape_of-starts-in-Ok c =
    c.starts-1.given

pub shape_of-sizes-in-Ok : goal.shape_of-sizes-in-Ok
shape_of-sizes-in-Ok c =
    c.sizes-1.given

pub shape_of-bodies-in-Ok : goal.shape_of-bodies-in-Ok
shape_of-bodies-in-Ok c =
    c.bodies-1.given

pub returns-in-Ok : goal.returns-in-Ok
returns-in-Ok c =
    let there = c.places_in-there.ensures ∙ ap (λ m. min (places m.lists) (length m.bodies)) c.of-memory.ensures in
    take-laid _ (λ i. omega (arith, c.type_inv.object i)) _ _ _ (counted _ _ _ _ _ there c.survey.ensures) c.in-Ok.is _ _ c.lay.ensures
