use mathlib.Core.Path.{refl}
use native.Mathlib.Omega.{arith}
use Rattle.std.proofs.lemmas.Result.{err_from_is_err_and}
use Rattle.octets.specs.Numbers.{Octets}
use Rattle.writer.proofs.HeldWritten.{state-ready, ready-as, emits-as, state-written}
use Rattle.writer.proofs.Normalised.{normal-refused, normal-told, normal-room, normal-written}
use Rattle.writer.proofs.normalise.Goals as goal

pub emit_items-reached-requires : goal.emit_items-reached-requires
emit_items-reached-requires c =
    let os : Octets c.args.object.now = λ i. omega (arith, c.type_inv.object i) in
    let told = normal-told c.args.object.now os _ c.args.room.now _ _ c.take_in.ensures _ c.in_ok-count.was in
    let short = normal-room c.args.object.now os _ c.args.room.now _ _ c.take_in.ensures _ c.in_ok-count.was in
    let r = ready-as c.of-memory.ensures (state-ready _ _ _ refl _ told c.args.room.now short) in
    record { holding = (r.holding, r.ordered, omega arith, omega arith); as_laid = λ q. r.laid; sizes_stand = r.sizes; fitting = r.fits }

pub returns-in_err-count : goal.returns-in_err-count
returns-in_err-count c =
    let os : Octets c.args.object.now = λ i. omega (arith, c.type_inv.object i) in
    let p = err_from_is_err_and c.from_residual.result c.from_residual.ensures.1 in
    rw (p.1, p.2) (normal-refused c.args.object.now os _ c.args.room.now _ _ c.take_in.ensures _ c.in_err-count.was)

pub returns : goal.returns
returns c =
    let os : Octets c.args.object.now = λ i. omega (arith, c.type_inv.object i) in
    let told = normal-told c.args.object.now os _ c.args.room.now _ _ c.take_in.ensures _ c.in_ok-count.was in
    let short = normal-room c.args.object.now os _ c.args.room.now _ _ c.take_in.ensures _ c.in_ok-count.was in
    let emits = emits-as _ _ _ _ c.of-memory.ensures c.emit_items-reached.ensures in
    normal-written c.args.object.now os _ c.args.room.now _ _ c.take_in.ensures _ c.in_ok-count.was _ _ (state-written _ _ _ refl _ told c.args.room.now short _ _ emits)
