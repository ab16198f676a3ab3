use Rattle.writer.proofs.Emitting.{written-gone, written-end, attribute-next, other_fits, other-next, element-ordered, element-stands, header-ready}
use Rattle.writer.proofs.Emitting.{attributes-ready, later-ready, headed-less, headed-next}
use Rattle.writer.proofs.Summing.{falls-within, deeper}
use native.Mathlib.Omega.{arith}
use Rattle.writer.proofs.emit.+emit_items.Goals as goal

pub returns-in-Gone : goal.returns-in-Gone
returns-in-Gone t c =
    written-gone _ _ _ _ _ _ _ _ _ _ _ _ c.loop-i.invariant c.loop-i-test.true _ c.role_at.ensures c.in-Gone.is

pub loop-i-preserved-in-Attribute : goal.loop-i-preserved-in-Attribute
loop-i-preserved-in-Attribute t c =
    attribute-next _ _ _ _ _ _ _ _ _ _ _ _ c.loop-i.invariant c.loop-i-test.true _ c.role_at.ensures c.in-Attribute.is

pub put_body-end-requires : goal.put_body-end-requires
put_body-end-requires t c =
    let fits = other_fits _ _ _ _ _ _ _ _ c.args.room.now c.loop-i.room _ _ c.loop-i.invariant c.loop-i-test.true _ c.role_at.ensures _ c.in-Other.is c.requires.holding.0 c.requires.fitting in
    record { body_at = fits.0; standing = fits.1.0; fitting = fits.1.1 }

pub loop-i-preserved-in-Other : goal.loop-i-preserved-in-Other
loop-i-preserved-in-Other t c =
    other-next _ _ _ _ _ _ _ _ _ _ _ _ c.loop-i.invariant c.loop-i-test.true _ c.role_at.ensures _ c.in-Other.is _ _ c.put_body-end.ensures

pub put_header-from-requires : goal.put_header-from-requires
put_header-from-requires t c =
    let h = header-ready _ _ _ _ _ _ _ _ c.args.room.now c.loop-i.room _ _ c.loop-i.invariant c.loop-i-test.true _ c.role_at.ensures _ c.in-Element.is _ c.requires.sizes_stand c.requires.fitting in record { n_bound = h.1; fitting = h.2 }

pub emit_attributes-behind-requires : goal.emit_attributes-behind-requires
emit_attributes-behind-requires t c =
    record { holding = (c.requires.holding.0, element-ordered _ _ _ _ _ _ _ _ c.args.room.now c.loop-i.room _ _ c.loop-i.invariant c.loop-i-test.true _ c.role_at.ensures _ c.in-Element.is); as_laid = element-stands _ _ _ _ _ _ _ _ c.args.room.now c.loop-i.room _ _ c.loop-i.invariant c.loop-i-test.true _ c.role_at.ensures _ c.in-Element.is; fitting = attributes-ready _ _ _ _ _ _ _ _ c.args.room.now c.loop-i.room _ _ c.loop-i.invariant c.loop-i-test.true _ c.role_at.ensures _ c.in-Element.is _ c.requires.sizes_stand c.requires.fitting _ _ c.put_header-from.ensures }

pub emit_items-inner-requires : goal.emit_items-inner-requires
emit_items-inner-requires t c =
    let inv = c.loop-i.invariant in (falls-within _ _ _ t c.decreases inv.low c.loop-i-test.true, ((c.requires.holding.0, element-ordered _ _ _ _ _ _ _ _ c.args.room.now c.loop-i.room _ _ c.loop-i.invariant c.loop-i-test.true _ c.role_at.ensures _ c.in-Element.is, omega (arith, c.loop-i-test), deeper _ _ _ c.requires.holding.3 inv.low), (element-stands _ _ _ _ _ _ _ _ c.args.room.now c.loop-i.room _ _ c.loop-i.invariant c.loop-i-test.true _ c.role_at.ensures _ c.in-Element.is, (c.requires.sizes_stand, later-ready _ _ _ _ _ _ _ _ c.args.room.now c.loop-i.room _ _ c.loop-i.invariant c.loop-i-test.true _ c.role_at.ensures _ c.in-Element.is _ c.requires.sizes_stand c.requires.fitting _ _ c.put_header-from.ensures _ _ c.emit_attributes-behind.ensures))))

pub loop-i-smaller : goal.loop-i-smaller
loop-i-smaller t c =
    headed-less _ _ _ _ _ _ _ _ c.args.room.now c.loop-i.room _ _ c.loop-i.invariant c.loop-i-test.true _ c.role_at.ensures _ c.in-Element.is _ c.requires.sizes_stand c.requires.fitting _ _ c.put_header-from.ensures _ _ c.emit_attributes-behind.ensures _ _ c.emit_items-inner.ensures

pub loop-i-preserved : goal.loop-i-preserved
loop-i-preserved t c =
    headed-next _ _ _ _ _ _ _ _ c.args.room.now c.loop-i.room _ _ c.loop-i.invariant c.loop-i-test.true _ c.role_at.ensures _ c.in-Element.is _ c.requires.sizes_stand c.requires.fitting _ _ c.put_header-from.ensures _ _ c.emit_attributes-behind.ensures _ _ c.emit_items-inner.ensures

pub returns : goal.returns
returns t c =
    written-end _ _ _ _ _ _ _ _ _ _ _ _ c.loop-i.invariant c.loop-i-test.false
