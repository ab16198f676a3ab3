use native.Mathlib.Omega.{arith}
use Rattle.edits.proofs.Climbing.{tops_start, tops-body, tops-parent, tops-less, tops-asks, tops-over, tops_next, tops_first, tops-asks-top, tops-over-top, tops-end}
use Rattle.edits.proofs.raising.top_fits.Goals as goal

pub loop-g-init : goal.loop-g-init
loop-g-init c = tops_start _ _ _ _ _ (c.requires.0) (c.requires.1)

pub offset_bounds-bodies-g : goal.offset_bounds-bodies-g
offset_bounds-bodies-g c = omega (arith, tops-body _ _ _ _ _ _ _ _ c.loop-g.invariant)

pub bounds-bodies-g : goal.bounds-bodies-g
bounds-bodies-g c = omega (arith, tops-body _ _ _ _ _ _ _ _ c.loop-g.invariant)

pub regrown-grown-requires : goal.regrown-grown-requires
regrown-grown-requires c = tops-asks _ _ _ _ _ _ _ _ c.loop-g.invariant

pub returns-then-grown-gt32768 : goal.returns-then-grown-gt32768
returns-then-grown-gt32768 c = tops-over _ _ _ _ _ _ _ _ c.loop-g.invariant _ c.regrown-grown.ensures c.if-grown-gt32768.true

pub offset_bounds-parents-g : goal.offset_bounds-parents-g
offset_bounds-parents-g c = omega (arith, tops-parent _ _ _ _ _ _ _ _ c.loop-g.invariant c.loop-g-test.true)

pub bounds-parents-g : goal.bounds-parents-g
bounds-parents-g c = omega (arith, tops-parent _ _ _ _ _ _ _ _ c.loop-g.invariant c.loop-g-test.true)

pub loop-g-smaller : goal.loop-g-smaller
loop-g-smaller c = tops-less _ _ _ _ _ _ _ _ c.loop-g.invariant c.loop-g-test.true

pub loop-g-preserved : goal.loop-g-preserved
loop-g-preserved c = tops_next _ _ _ _ _ _ _ _ c.loop-g.invariant c.loop-g-test.true _ _ _ c.regrown-grown.ensures c.if-grown-gt32768.false c.framed_size-old.ensures c.framed_size-new.ensures

pub bounds-bodies-0 : goal.bounds-bodies-0
bounds-bodies-0 c = omega (arith, tops_first _ _ _ _ _ _ _ _ c.loop-g.invariant c.loop-g-test.false)

pub regrown-all-requires : goal.regrown-all-requires
regrown-all-requires c = tops-asks-top _ _ _ _ _ _ _ _ c.loop-g.invariant c.loop-g-test.false

pub returns-then-all-gt32768 : goal.returns-then-all-gt32768
returns-then-all-gt32768 c = tops-over-top _ _ _ _ _ _ _ _ c.loop-g.invariant c.loop-g-test.false _ c.regrown-all.ensures c.if-all-gt32768.true

pub returns : goal.returns
returns c = tops-end _ _ _ _ _ _ _ _ c.loop-g.invariant c.loop-g-test.false _ c.regrown-all.ensures _ c.framed_size.ensures
