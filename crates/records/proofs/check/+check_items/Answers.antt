use mathlib.Core.Path.{refl, ap, ◌∙◌}
use Rattle.std.specs.Prelude.{Some}
use native.Mathlib.Omega.{arith}
use borrow.Author.Rules.{rules}
use Rattle.records.proofs.Records.{listed-within}
use Rattle.records.proofs.Turns.{at_first, turns-end, turn-past, turn-bad, turn-single, turn-ill, turn-nested, nested-less, nested-shallow}
use Rattle.records.proofs.check.+check_items.Goals as goal

pub loop-i-init : goal.loop-i-init
loop-i-init t c =
    at_first _ _ _ _ _ c.requires.1

pub returns-in_err-check_record : goal.returns-in_err-check_record
returns-in_err-check_record t c =
    c.from_residual.ensures ∙ turn-bad _ _ _ _ _ _ _ c.loop-i.invariant c.loop-i-test.true _ refl _ c.check_record.ensures c.in_err-check_record.was

pub returns-in-Past : goal.returns-in-Past
returns-in-Past t c =
    turn-past _ _ _ _ _ _ _ c.loop-i.invariant c.loop-i-test.true _ refl _ c.check_record.ensures (c.in_ok-check_record.was ∙ ap Some c.in-Past.is)

pub loop-i-preserved-in-Single : goal.loop-i-preserved-in-Single
loop-i-preserved-in-Single t c =
    turn-single _ _ _ _ _ _ _ c.loop-i.invariant c.loop-i-test.true _ refl _ c.check_record.ensures _ (c.in_ok-check_record.was ∙ ap Some c.in-Single.is)

pub parent_at-requires : goal.parent_at-requires
parent_at-requires t c =
    nested-shallow _ _ _ _ _ _ _ c.loop-i.invariant c.loop-i-test.true _ refl _ c.check_record.ensures _ _ (c.in_ok-check_record.was ∙ ap Some c.in-Nested.is)

pub check_items-requires : goal.check_items-requires
check_items-requires t c =
    let deep = nested-shallow _ _ _ _ _ _ _ c.loop-i.invariant c.loop-i-test.true _ refl _ c.check_record.ensures _ _
    (c.in_ok-check_record.was ∙ ap Some c.in-Nested.is) in
    let inv = c.loop-i.invariant in
    let low = inv.low in
    let start = c.requires.0 in
    let less = c.loop-i-test.true in
    let below = ap (λ q. q.depth) c.parent_at.ensures in
    (omega arith, (c.requires.0, omega arith, omega arith))

pub returns-in_err-i-in-Nested : goal.returns-in_err-i-in-Nested
returns-in_err-i-in-Nested t c =
    c.from_residual-in_err-i-in-Nested.ensures
    ∙ turn-ill _ _ _ _ _ _ _ c.loop-i.invariant c.loop-i-test.true _ refl _ c.check_record.ensures _ _
    (c.in_ok-check_record.was ∙ ap Some c.in-Nested.is) _ c.parent_at.ensures _ c.check_items.ensures c.in_err-i-in-Nested.was

pub loop-i-smaller : goal.loop-i-smaller
loop-i-smaller t c =
    nested-less _ _ _ _ _ _ _ c.loop-i.invariant c.loop-i-test.true _ refl _ c.check_record.ensures _ _
    (c.in_ok-check_record.was ∙ ap Some c.in-Nested.is) _ c.parent_at.ensures _ c.check_items.ensures _ c.in_ok-i-in-Nested.was

pub loop-i-preserved : goal.loop-i-preserved
loop-i-preserved t c =
    turn-nested _ _ _ _ _ _ _ c.loop-i.invariant c.loop-i-test.true _ refl _ c.check_record.ensures _ _
    (c.in_ok-check_record.was ∙ ap Some c.in-Nested.is) _ c.parent_at.ensures _ c.check_items.ensures _ c.in_ok-i-in-Nested.was

pub returns : goal.returns
returns t c =
    turns-end _ _ _ _ _ _ _ c.loop-i.invariant c.loop-i-test.false

pub bounds-records-i : goal.bounds-records-i
bounds-records-i t c =
    (listed-within _ _ _ c.loop-i-test.true c.requires.0).tags

pub bounds-records-i-in-loop-i : goal.bounds-records-i-in-loop-i
bounds-records-i-in-loop-i t c =
    (listed-within _ _ _ c.loop-i-test.true c.requires.0).kinds

pub bounds-records-i-in-loop-i-2 : goal.bounds-records-i-in-loop-i-2
bounds-records-i-in-loop-i-2 t c =
    (listed-within _ _ _ c.loop-i-test.true c.requires.0).depths

pub offset_bounds-records-i : goal.offset_bounds-records-i
offset_bounds-records-i t c =
    let within = listed-within _ _ _ c.loop-i-test.true c.requires.0 in search (within, rules)

pub bounds-records-i-in-loop-i-3 : goal.bounds-records-i-in-loop-i-3
bounds-records-i-in-loop-i-3 t c =
    (listed-within _ _ _ c.loop-i-test.true c.requires.0).parents

pub offset_bounds-records-i-in-loop-i : goal.offset_bounds-records-i-in-loop-i
offset_bounds-records-i-in-loop-i t c =
    let within = listed-within _ _ _ c.loop-i-test.true c.requires.0 in search (within, rules)

pub bounds-records-i-in-loop-i-4 : goal.bounds-records-i-in-loop-i-4
bounds-records-i-in-loop-i-4 t c =
    (listed-within _ _ _ c.loop-i-test.true c.requires.0).starts

pub offset_bounds-records-i-in-loop-i-2 : goal.offset_bounds-records-i-in-loop-i-2
offset_bounds-records-i-in-loop-i-2 t c =
    let within = listed-within _ _ _ c.loop-i-test.true c.requires.0 in search (within, rules)

pub bounds-records-i-in-loop-i-5 : goal.bounds-records-i-in-loop-i-5
bounds-records-i-in-loop-i-5 t c =
    (listed-within _ _ _ c.loop-i-test.true c.requires.0).sizes
