-- Request 2026-07: how the gate ends, from its equation. That it refuses in order is a theorem of the crate pocket.
use mathlib.Core.Path.{◌≡◌, refl, sym, subst}
use mathlib.Core.Option.{Option, none, some}
use Prim.Native.Nat.{ℕ}
use Rattle.format.specs.Judge.{Judged, judge}
use Rattle.format.specs.Judge.Judged.{refused, accepted}
use Rattle.format.specs.Answers.{check_outcome}
use Rattle.survey.specs.First.{place_at, sought_as, sought_in}
use Rattle.survey.proofs.First.{place_inside}
use Rattle.pocket.specs.Gate.{offends, gate_answer, gate_of}
use Rattle.pocket.specs.Order.{GateInOrder}
use Rattle.pocket.proofs.Passing.{gate-in-order}
use Rattle.demands.specs.One.{Ends}
use Rattle.demands.specs.One.Ends.{answered, refused_at}
use Rattle.demands.specs.Gate.{GateRefuses, GateEnds}
use Rattle.demands.specs.Gate.GateRefuses.{for_object, for_offender}
use Rattle.demands.proofs.Laws.{of-object}

pub gate-ends : GateEnds
unfolding gate_of gate_answer sought_in sought_as
gate-ends d object answer e =
    subst (λ a. Ends (GateRefuses object) (Unit {0}) (check_outcome a)) (sym e) (go (judge object) refl (place_at (offends d) object) refl)
  where
    go : (j : Judged) → judge object ≡ j → (p : Option ℕ) → place_at (offends d) object ≡ p
        → Ends (GateRefuses object) (Unit {0}) (check_outcome (gate_answer (sought_as j p)))
    go (refused r) h p q = refused_at r.number r.place r.field (for_object r.number r.place r.field (of-object object r h)) tt
    go (accepted t) h none q = answered 0 0
    go (accepted t) h (some place) q = refused_at 19 place 0 (for_offender place (place_inside (offends d) object place q)) tt

pub gates-in-order : GateInOrder
gates-in-order = gate-in-order
