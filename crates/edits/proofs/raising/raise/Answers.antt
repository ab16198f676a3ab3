use native.Mathlib.Omega.{arith}
use Rattle.edits.proofs.Climbing.{raises-start, raises-body, raises-parent, raises-less, raises-asks, raises-small, raises-next, raises-first, raises-asks-top, raises-small-top, raises-end, raises-length}
use Rattle.edits.proofs.raising.raise.Goals as goal

pub loop-g-init : goal.loop-g-init
loop-g-init c = raises-start _ _ _ _ _ (c.requires.0) (c.requires.1) (c.requires.2)

pub offset_bounds-bodies-g : goal.offset_bounds-bodies-g
offset_bounds-bodies-g c = omega (arith, raises-body _ _ _ _ _ _ _ _ _ c.loop-g.invariant)

pub bounds-bodies-g : goal.bounds-bodies-g
bounds-bodies-g c = omega (arith, raises-body _ _ _ _ _ _ _ _ _ c.loop-g.invariant)

pub regrown-grown-requires : goal.regrown-grown-requires
regrown-grown-requires c = raises-asks _ _ _ _ _ _ _ _ _ c.loop-g.invariant

pub overflow_cast-grown : goal.overflow_cast-grown
overflow_cast-grown c = omega (arith, raises-small _ _ _ _ _ _ _ _ _ c.loop-g.invariant _ c.regrown-grown.ensures)

pub offset_bounds-bodies-g-in-loop-g : goal.offset_bounds-bodies-g-in-loop-g
offset_bounds-bodies-g-in-loop-g c = omega (arith, raises-body _ _ _ _ _ _ _ _ _ c.loop-g.invariant)

pub bounds-bodies-g-in-loop-g : goal.bounds-bodies-g-in-loop-g
bounds-bodies-g-in-loop-g c = omega (arith, raises-body _ _ _ _ _ _ _ _ _ c.loop-g.invariant)

pub offset_bounds-parents-g : goal.offset_bounds-parents-g
offset_bounds-parents-g c = omega (arith, raises-parent _ _ _ _ _ _ _ _ _ c.loop-g.invariant c.loop-g-test.true)

pub bounds-parents-g : goal.bounds-parents-g
bounds-parents-g c = omega (arith, raises-parent _ _ _ _ _ _ _ _ _ c.loop-g.invariant c.loop-g-test.true)

pub loop-g-smaller : goal.loop-g-smaller
loop-g-smaller c = raises-less _ _ _ _ _ _ _ _ _ c.loop-g.invariant c.loop-g-test.true

pub loop-g-preserved : goal.loop-g-preserved
loop-g-preserved c = raises-next _ _ _ _ _ _ _ _ _ c.loop-g.invariant c.loop-g-test.true _ _ _ c.regrown-grown.ensures c.framed_size-old.ensures c.framed_size-new.ensures

pub bounds-bodies-0 : goal.bounds-bodies-0
bounds-bodies-0 c = omega (arith, raises-first _ _ _ _ _ _ _ _ _ c.loop-g.invariant c.loop-g-test.false)

pub regrown-all-requires : goal.regrown-all-requires
regrown-all-requires c = raises-asks-top _ _ _ _ _ _ _ _ _ c.loop-g.invariant c.loop-g-test.false

pub overflow_cast-bodies : goal.overflow_cast-bodies
overflow_cast-bodies c = omega (arith, raises-small-top _ _ _ _ _ _ _ _ _ c.loop-g.invariant c.loop-g-test.false _ c.regrown-all.ensures)

pub bounds-bodies-0-2 : goal.bounds-bodies-0-2
bounds-bodies-0-2 c = omega (arith, raises-first _ _ _ _ _ _ _ _ _ c.loop-g.invariant c.loop-g-test.false)

pub shape_of-bodies : goal.shape_of-bodies
shape_of-bodies c = raises-length _ _ _ _ _ _ _ _ _ c.loop-g.invariant _

pub returns : goal.returns
returns c = raises-end _ _ _ _ _ _ _ _ _ c.loop-g.invariant c.loop-g-test.false _ c.regrown-all.ensures
