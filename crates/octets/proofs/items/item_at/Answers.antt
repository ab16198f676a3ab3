use native.Mathlib.Omega.{arith}
use Rattle.octets.proofs.Places.{lies-behind, lies-past, from-inside, lies-outside, lies-between}
use Rattle.octets.proofs.items.item_at.Goals as goal

pub returns-then-at-part : goal.returns-then-at-part
returns-then-at-part c =
    lies-behind _ _ c.if-at-part.true

pub returns-in_default : goal.returns-in_default
returns-in_default c =
    lies-past _ _ c.if-at-part.false _ c.read_header.ensures c.in_default.is

pub overflow_add-from : goal.overflow_add-from
overflow_add-from c =
    omega (arith, from-inside c.args.part.now c.args.at c.if-at-part.false c.read_header.result c.read_header.ensures c.in-Some.body.start c.in-Some.body.size c.in-Some.is)

pub overflow_sub-part : goal.overflow_sub-part
overflow_sub-part c =
    from-inside c.args.part.now c.args.at c.if-at-part.false c.read_header.result c.read_header.ensures c.in-Some.body.start c.in-Some.body.size c.in-Some.is

pub returns-then-body-part : goal.returns-then-body-part
returns-then-body-part c =
    lies-outside _ _ c.if-at-part.false _ c.read_header.ensures _ _ c.in-Some.is c.if-body-part.true

pub overflow_add-result : goal.overflow_add-result
overflow_add-result c =
    omega (arith, from-inside c.args.part.now c.args.at c.if-at-part.false c.read_header.result c.read_header.ensures c.in-Some.body.start c.in-Some.body.size c.in-Some.is, c.if-body-part.false)

pub returns : goal.returns
returns c =
    lies-between _ _ c.if-at-part.false _ c.read_header.ensures _ _ c.in-Some.is c.if-body-part.false
