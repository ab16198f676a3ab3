use native.Mathlib.Omega.{arith}
use Rattle.std.proofs.lemmas.Result.{err_from_is_err_and}
use Rattle.octets.specs.Numbers.{Octets}
use Rattle.state.specs.Taking.{memory}
use Rattle.merging.proofs.Deciding.{merge-size, merge-refused, merge-done}
use Rattle.merging.proofs.merged.merge.Goals as goal

pub fill-requires : goal.fill-requires
fill-requires c = merge-size _ _ _ _ _ _ _ _ c.decide.ensures _ _ c.in_ok-merged.was

pub returns-in_err-merged : goal.returns-in_err-merged
returns-in_err-merged c =
    let p = err_from_is_err_and c.from_residual.result c.from_residual.ensures.1 in
    let a = c.args in
    let m = memory a.tags.now a.kinds.now a.depths.now a.parents.now a.starts.now a.sizes.now a.bodies.now a.store.now in
    rw (p.1, p.2) (merge-refused _ _ _ m _ _ _ c.places_in-places.ensures _ c.decide.ensures _ c.in_err-merged.was)

pub returns : goal.returns
returns c =
    let ob : Octets c.args.basic.now = λ i. omega (arith, c.type_inv.basic i) in
    let oa : Octets c.args.advanced.now = λ i. omega (arith, c.type_inv.advanced i) in
    let a = c.args in
    let m = memory a.tags.now a.kinds.now a.depths.now a.parents.now a.starts.now a.sizes.now a.bodies.now a.store.now in
    merge-done _ _ _ m _ _ _ c.places_in-places.ensures _ c.decide.ensures _ _ c.in_ok-merged.was ob oa _ _ c.fill.ensures
