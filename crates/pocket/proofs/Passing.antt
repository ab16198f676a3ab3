-- The answers of the gate: yes exactly of objects all of whose known items are allowed where they stand, 19 exactly of other objects of the grammar.
use Rattle.std.specs.Prelude.{Result, Ok, Err}
use mathlib.Core.Path.{◌≡◌, refl, sym, ap, ◌∙◌}
use mathlib.Core.Bool.{Bool, true, false, cond}
use mathlib.Core.Logic.{◌↔◌, inl, inr}
use mathlib.Core.Option.{Option, none, some, some-ne-none, some-injective}
use mathlib.Core.List.{List, [], ◌∷◌}
use Prim.Native.Nat.{ℕ, ◌≤◌}
use native.Mathlib.Omega.{arith}
use lib.ListN.{length}
use Rattle.octets.specs.Numbers.{Octets}
use Rattle.octets.proofs.Tests.{never}
use Rattle.format.specs.declared.Refusal.{Refusal}
use Rattle.format.specs.Answers.{refusal}
use Rattle.format.specs.Tree.{Items}
use Rattle.format.specs.Tree.Items.{end, item}
use Rattle.format.specs.Judge.{Judged, judge, rule, unless}
use Rattle.format.specs.Judge.Judged.{refused, accepted}
use Rattle.format.proofs.Rules.{same-tree}
use Rattle.format.proofs.Refusals.{refusal-inside}
use Rattle.grammar.specs.Grammar.{Accepts}
use Rattle.grammar.proofs.Sound.{sound}
use Rattle.grammar.proofs.Complete.{complete}
use Rattle.survey.specs.First.{or_else, first_in, place_at, item_at, as_item, sought_by, sought_as, sought_in}
use Rattle.survey.proofs.First.{first-told, place_inside, or_else_none}
use Rattle.survey.proofs.Once.{first-place}
use Rattle.pocket.specs.declared.DataType.{DataType}
use Rattle.pocket.specs.Table.{allowed_in}
use Rattle.pocket.specs.Gate.{Allowed, offends, gate_answer, gate_of}
use Rattle.pocket.specs.Order.{GateOrder, GateInOrder}

-- ---- all items of a tree are allowed exactly where none is the first that isn't

allowed-none : (d : DataType) (parent : ℕ) (t : Items) → Allowed d parent t → first_in (offends d) parent t ≡ none
unfolding first_in or_else offends sought_by allowed_in
allowed-none d parent end a = refl
allowed-none d parent (item tag at body inside after) a = rw (a.0, allowed-none d tag inside a.1) (allowed-none d parent after a.2)

none_allowed : (d : DataType) (parent : ℕ) (t : Items) → first_in (offends d) parent t ≡ none → Allowed d parent t
unfolding first_in offends sought_by allowed_in
none_allowed d parent end e = tt
none_allowed d parent (item tag at body inside after) e = go (allowed_in d parent tag) refl (none_allowed d tag inside) (none_allowed d parent after) e
  where
    go : (b : Bool) → allowed_in d parent tag ≡ b → (first_in (offends d) tag inside ≡ none → Allowed d tag inside) → (first_in (offends d) parent after ≡ none → Allowed d parent after)
        → cond (cond b false true) (some (tag, at, length body)) (or_else (first_in (offends d) tag inside) (first_in (offends d) parent after)) ≡ none → (allowed_in d parent tag ≡ true) × Allowed d tag inside × Allowed d parent after
    go false q f g h = absurd (some-ne-none (tag, at, length body) h)
    go true q f g h = let p = or_else_none (first_in (offends d) tag inside) (first_in (offends d) parent after) h in (q, f p.0, g p.1)

pub allowed-exactly : (d : DataType) (parent : ℕ) (t : Items) → Allowed d parent t ↔ (first_in (offends d) parent t ≡ none)
allowed-exactly d parent t = (allowed-none d parent t, none_allowed d parent t)

-- ---- the answer

-- the judgement has no number above 13
low : (o : List ℕ) (r : Refusal) → judge o ≡ refused r → r.number ≤ 13
unfolding judge rule unless
low [] r h = let e : refusal 1 0 ≡ r = cc in omega (arith, ap (λ x. x.number) e)
low (x ∷ o) r h = (refusal-inside (x ∷ o) r (omega arith) h).most

module _ (d : DataType) (o : List ℕ) (answer : Result (Unit {0}) Refusal) (os : Octets o) where
  only : (t : Items) → judge o ≡ accepted t → (u : Items) → Accepts o u → u ≡ t
  only t h u a = same-tree u t (sym (sound o u a) ∙ h)

  when-refused : (s : Refusal) → judge o ≡ refused s → answer ≡ Err s → GateOrder d o answer
  when-refused s h e = record {
    of_object = λ r l. ((λ q. cc), (λ q. cc));
    nineteen = λ n. ((λ q. above n q), (λ q. never (let z = sound o q.0 q.1 in cc)));
    inside = λ n q. above n q;
    yes = ((λ q. never (cc)), (λ q. never (let z = sound o q.0 q.1 in cc)));
    others = λ r q. inl (let z : r ≡ s = cc in omega (arith, low o s h, ap (λ x. x.number) z));
  }
    where
      above : {C : Type 0} (p : ℕ) → answer ≡ Err (refusal 19 p) → C
      above p q = let z : s ≡ refusal 19 p = cc in absurd (omega (arith, low o s h, ap (λ x. x.number) z))

  when-fine : (t : Items) → judge o ≡ accepted t → first_in (offends d) 0 t ≡ none → answer ≡ Ok tt → GateOrder d o answer
  when-fine t h f e = record {
    of_object = λ r l. ((λ q. never (cc)), (λ q. never (cc)));
    nineteen = λ n. ((λ q. never (cc)), (λ q. absurd (some-ne-none (item_at o n) (sym q.2 ∙ ap (first_in (offends d) 0) (only t h q.0 q.1) ∙ f))));
    inside = λ n q. never (cc);
    yes = ((λ q. (t, complete o t os h, none_allowed d 0 t f)), (λ q. e));
    others = λ r q. never (cc);
  }

  when-offends : (t : Items) → judge o ≡ accepted t → (p : ℕ) → place_at (offends d) o ≡ some p → answer ≡ Err (refusal 19 p) → GateOrder d o answer
  when-offends t h p f e = record {
    of_object = λ r m. ((λ q. let z : r ≡ refusal 19 p = cc in absurd (omega (arith, m, ap (λ x. x.number) z))), (λ q. never (cc)));
    nineteen = λ n. (
      (λ q. (t, complete o t os h, (there n).0 (f ∙ ap some (placed n q)))),
      (λ q. e ∙ ap (λ m. Err (refusal 19 m)) (some-injective p n (sym f ∙ (there n).1 (ap (first_in (offends d) 0) (sym (only t h q.0 q.1)) ∙ q.2)))),
    );
    inside = λ n q. omega (arith, place_inside (offends d) o p f, placed n q);
    yes = ((λ q. never (cc)), (λ q. absurd (some-ne-none (item_at o p) (sym ((there p).0 f) ∙ ap (first_in (offends d) 0) (sym (only t h q.0 q.1)) ∙ allowed-none d 0 q.0 q.2))));
    others = λ r q. inr (let z : r ≡ refusal 19 p = cc in ap (λ x. x.number) z);
  }
    where
      placed : (n : ℕ) → answer ≡ Err (refusal 19 n) → p ≡ n
      placed n q = let z : refusal 19 p ≡ refusal 19 n = cc in ap (λ x. x.place) z

      there : (n : ℕ) → place_at (offends d) o ≡ some n ↔ first_in (offends d) 0 t ≡ some (item_at o n)
      there = first-place (offends d) o os t h

  by_place : (j : Judged) → judge o ≡ j → (x : Option ℕ) → place_at (offends d) o ≡ x → answer ≡ gate_answer (sought_as j x) → GateOrder d o answer
  unfolding sought_as gate_answer as_item
  by_place (refused s) h x q e = when-refused s h e
  by_place (accepted t) h none q e = when-fine t h (first-told (offends d) o t h ∙ ap (as_item o) q) e
  by_place (accepted t) h (some p) q e = when-offends t h p q e

pub gate-in-order : GateInOrder
unfolding gate_of sought_in
gate-in-order d o answer os e = by_place d o answer os (judge o) refl (place_at (offends d) o) refl e
