use Rattle.std.specs.Prelude.{Err}
use mathlib.Core.Path.{ap}
use native.Mathlib.Omega.{arith}
use Rattle.state.specs.Taking.{shared_memory}
use Rattle.writer.proofs.HeldWritten.{has_first, state-none, state-more, state-ready, state-written}
use Rattle.writer.proofs.write_state.Goals as goal

pub bounds-memory-0 : goal.bounds-memory-0
bounds-memory-0 c =
    let m = shared_memory c.args.memory.now in
    has_first _ m _ c.held.ensures _ c.in-Some.is

pub returns-then-framed_size-room : goal.returns-then-framed_size-room
returns-then-framed_size-room c =
    let m = shared_memory c.args.memory.now in
    state-more _ m _ c.held.ensures _ c.in-Some.is _ (omega (arith, c.if-framed_size-room.true, c.framed_size.ensures)) _ (ap Err c.refuse-then-framed_size-room.ensures)

pub emit_items-reached-requires : goal.emit_items-reached-requires
emit_items-reached-requires c =
    let m = shared_memory c.args.memory.now in
    let r = state-ready _ m _ c.held.ensures _ c.in-Some.is c.args.room.now (omega (arith, c.if-framed_size-room.false, c.framed_size.ensures)) in
    record { holding = (r.holding, r.ordered, omega arith, omega arith); as_laid = λ q. r.laid; sizes_stand = r.sizes; fitting = r.fits }

pub returns-in_default : goal.returns-in_default
returns-in_default c =
    let m = shared_memory c.args.memory.now in
    state-none _ m _ c.held.ensures c.in_default.is _ _ (ap Err c.refuse.ensures)

pub returns : goal.returns
returns c =
    let m = shared_memory c.args.memory.now in
    state-written _ m _ c.held.ensures _ c.in-Some.is c.args.room.now (omega (arith, c.if-framed_size-room.false, c.framed_size.ensures)) _ _ c.emit_items-reached.ensures
