-- Request 2026-06: from the claims of taking in and editing, and from the theorems about runs of them.
use Rattle.std.specs.Prelude.{Result, Ok, Err}
use mathlib.Core.Path.{◌≡◌, refl, sym, ap, ◌∙◌, subst}
use mathlib.Core.Bool.{Bool, true, false, cond, false≢true}
use mathlib.Core.Option.{Option, none, some, some-injective, none-ne-some}
use mathlib.Core.List.{List, [], ◌∷◌}
use Prim.Native.Nat.{ℕ, ◌≤◌, ◌<◌, min}
use native.Mathlib.Omega.{arith}
use native.Mathlib.Nat.{le-min}
use lib.Dec.{leb}
use lib.ListN.{length}
use lib.Seq.{sets}
use borrow.Author.Tests.{leb-true, leb-false}
use Rattle.octets.specs.declared.counts.Octets.{Octets as OctetCount}
use Rattle.octets.specs.Counts.{as_octets, size_of}
use Rattle.octets.specs.Numbers.{among}
use Rattle.octets.proofs.Tests.{never}
use Rattle.format.specs.declared.Refusal.{Refusal}
use Rattle.format.specs.Answers.{refusal, edit_outcome}
use Rattle.format.specs.Tree.{Items, count}
use Rattle.format.specs.Judge.{Judged, judge}
use Rattle.format.specs.Judge.Judged.{refused, accepted}
use Rattle.format.specs.Calls.{edit_answer, roomy, write_answer, write_octets}
use Rattle.format.specs.Meaning.{means, encode}
use Rattle.format.specs.Loaded.{loaded_of}
use Rattle.format.specs.State.{Memory, tree_held}
use Rattle.state.specs.Taking.{taken_in, left, Leaves}
use Rattle.state.proofs.HeldTree.{held}
use Rattle.state.proofs.Taken.{Fitting, taken-ends}
use Rattle.state.proofs.Taken.Fitting.{crowded, overfull, fits}
use Rattle.edits.specs.Tree.{Edit, is_there}
use Rattle.edits.specs.Tree.Edit.{remove}
use Rattle.edits.specs.Calls.{edited, edited_in}
use Rattle.edits.proofs.Only as only
use Rattle.edits.proofs.Only.Ends.{nowhere, unruled, ruled}
use Rattle.edits.proofs.Shrinks.{remove-leaves}
use Rattle.edits.proofs.Runs.{reached-held, reached-sizes, reached-means, taken-content as loaded-content}
use Rattle.demands.specs.One.{OfCall, Refuses, Ends}
use Rattle.demands.specs.One.OfCall.{of_call}
use Rattle.demands.specs.One.Refuses.{for_object, for_call}
use Rattle.demands.specs.One.Ends.{answered, refused_at}
use Rattle.demands.specs.Edits.{TakeInEnds, EditEnds, RemoveEnds, WriteStateEnds, Holds, Overflows, TakeInOrder, TakeInInOrder, EditOrder, EditInOrder, WriteStateOrder, WriteStateInOrder, RunHolds, RunMeans, WritesAfresh, TakenContent}
use Rattle.demands.specs.Edits.Overflows.{fourteen, fifteen}
use Rattle.demands.proofs.Laws.{of-object}
use Rattle.demands.proofs.One.{written-ends, none-set}

-- ---- an outcome of a call that leaves a tree in memory
leaves-ends : (Reason : ℕ → ℕ → ℕ → Type 0) (j : Judged) (m m' : Memory) (answer : Result ℕ Refusal) → Leaves j m m' answer
    → ((r : Refusal) → j ≡ refused r → Reason r.number r.place r.field) → Ends Reason (m' ≡ m) (edit_outcome answer)
unfolding edit_answer left
leaves-ends Reason (refused r) m m' answer c why =
    subst (λ x. Ends Reason (m' ≡ m) (edit_outcome x)) (sym c.answers) (refused_at r.number r.place r.field (why r refl) c.leaves)
leaves-ends Reason (accepted t) m m' answer c why = subst (λ x. Ends Reason (m' ≡ m) (edit_outcome x)) (sym c.answers) (answered (count t) 0)

-- an answer is a refusal exactly where the outcome is, and else tells how many records there are
module _ (j : Judged) (m m' : Memory) (answer : Result ℕ Refusal) (c : Leaves j m m' answer) where
  refused-so : (r : Refusal) → answer ≡ Err r → j ≡ refused r
  unfolding edit_answer
  refused-so r q = go j (sym c.answers ∙ q)
    where
      go : (i : Judged) → edit_answer i ≡ Err r → i ≡ refused r
      go (refused s) e = let p : s ≡ r = cc in ap refused p
      go (accepted t) e = never (cc)

  so-refused : (r : Refusal) → j ≡ refused r → answer ≡ Err r
  unfolding edit_answer
  so-refused r h = c.answers ∙ ap edit_answer h

  counted-so : (k : ℕ) → answer ≡ Ok k → (t : Items) × (j ≡ accepted t) × (k ≡ count t)
  unfolding edit_answer
  counted-so k q = go j (sym c.answers ∙ q)
    where
      go : (i : Judged) → edit_answer i ≡ Ok k → (t : Items) × (i ≡ accepted t) × (k ≡ count t)
      go (refused s) e = never (cc)
      go (accepted t) e = (t, refl, sym (ap (λ a. (edit_outcome a).count) e))

  so-counted : (t : Items) → j ≡ accepted t → answer ≡ Ok (count t)
  unfolding edit_answer
  so-counted t h = c.answers ∙ ap edit_answer h

-- ---- a tree that memory is to hold
module _ (most : OctetCount) (m : Memory) (u : Items) where
  overflow-number : (r : Refusal) → Overflows most m u r → OfCall (14 ∷ 15 ∷ []) r.number r.place r.field
  unfolding among
  overflow-number r (fourteen l) = of_call 14 refl
  overflow-number r (fifteen l f) = of_call 15 refl

  overflow-between : (r : Refusal) → Overflows most m u r → (14 ≤ r.number) × (r.number ≤ 15)
  overflow-between r (fourteen l) = (omega arith, omega arith)
  overflow-between r (fifteen l f) = (omega arith, omega arith)

  overflows-one : (r s : Refusal) → Overflows most m u r → Overflows most m u s → r ≡ s
  overflows-one r s (fourteen l) (fourteen k) = refl
  overflows-one r s (fourteen l) (fifteen k f) = absurd (omega arith)
  overflows-one r s (fifteen l f) (fourteen k) = absurd (omega arith)
  overflows-one r s (fifteen l f) (fifteen k g) = refl

  overflows-not : (r : Refusal) → Overflows most m u r → Holds most m u → ⊥
  overflows-not r (fourteen l) h = omega (arith, h.records)
  overflows-not r (fifteen l f) h = f h

  -- it is refused, and then it overflows, or it is held, and then memory suffices
  refused-overflows : {j : Judged} → Fitting most m u j → (r : Refusal) → j ≡ refused r → Overflows most m u r
  refused-overflows (crowded a) r q = let p : refusal 14 0 ≡ r = cc in subst (Overflows most m u) p (fourteen a)
  refused-overflows (overfull a f) r q =
      let p : refusal 15 0 ≡ r = cc in
      subst (Overflows most m u) p (fifteen a (λ h. f h.store (le-min h.room h.object)))
  refused-overflows (fits f l) r q = never (cc)

  accepted-holds : {j : Judged} → Fitting most m u j → (t : Items) → j ≡ accepted t → (u ≡ t) × Holds most m u
  accepted-holds (crowded a) t q = never (cc)
  accepted-holds (overfull a f) t q = never (cc)
  accepted-holds (fits f l) t q = let e : u ≡ t = cc in (e, record { records = f.records; store = f.store; room = l; object = f.small })

  -- and the other way round, since only one of the two is so
  fitting-either : {j : Judged} → Fitting most m u j → (C : Type 0) → ((r : Refusal) → j ≡ refused r → C) → (j ≡ accepted u → C) → C
  fitting-either (crowded a) C f g = f (refusal 14 0) refl
  fitting-either (overfull a b) C f g = f (refusal 15 0) refl
  fitting-either (fits a l) C f g = g refl

  overflows-refused : {j : Judged} → Fitting most m u j → (r : Refusal) → Overflows most m u r → j ≡ refused r
  overflows-refused {j = j} k r o =
      fitting-either k (j ≡ refused r) (λ s h. h ∙ ap refused (overflows-one s r (refused-overflows k s h) o)) (λ h. absurd (overflows-not r o (accepted-holds k u h).1))

  holds-accepted : {j : Judged} → Fitting most m u j → Holds most m u → j ≡ accepted u
  holds-accepted {j = j} k h = fitting-either k (j ≡ accepted u) (λ s q. absurd (overflows-not s (refused-overflows k s q) h)) (λ q. q)

-- ---- take_in
taken-why : (object : List ℕ) (most : OctetCount) (m : Memory) (i : Judged) → judge object ≡ i → (r : Refusal) → taken_in most m i ≡ refused r
    → Refuses object (14 ∷ 15 ∷ []) r.number r.place r.field
unfolding taken_in
taken-why object most m (refused s) h r q = let p : s ≡ r = cc in for_object r.number r.place r.field (of-object object r (h ∙ ap refused p))
taken-why object most m (accepted t) h r q =
    for_call r.number r.place r.field (overflow-number most m (loaded_of t) r (refused-overflows most m (loaded_of t) (taken-ends most m t) r q))

pub take-in-ends : TakeInEnds
take-in-ends object most m m' answer c =
    leaves-ends (Refuses object (14 ∷ 15 ∷ [])) (taken_in most m (judge object)) m m' answer c (taken-why object most m (judge object) refl)

module _ (object : List ℕ) (most : OctetCount) (m : Memory) (answer : Result ℕ Refusal) where
  take-in-order : (i : Judged) → judge object ≡ i → (m' : Memory) → Leaves (taken_in most m i) m m' answer → TakeInOrder i most m answer
  unfolding taken_in
  take-in-order (refused s) h m' c =
      let low = (of-object object s h).most in
      record {
        of_object = λ r l. ((λ q. refused-so (refused s) m m' answer c r q), (λ q. so-refused (refused s) m m' answer c r q));
        lacking = λ r l. (
          (λ q. let p : s ≡ r = (let z = refused-so (refused s) m m' answer c r q in cc) in absurd (omega (arith, low, l, ap (λ x. x.number) p))),
          (λ q. never (let z = q.1 in cc)),
        );
        records = λ k. ((λ q. never (let z = (counted-so (refused s) m m' answer c k q).1 in cc)), (λ q. never (let z = q.1 in cc)));
      }
  take-in-order (accepted t) h m' c =
      let u = loaded_of t in
      let ends = taken-ends most m t in
      let over : (r : Refusal) → answer ≡ Err r
      → Overflows most m u r = λ r q. refused-overflows most m u ends r (refused-so (taken_in most m (accepted t)) m m' answer c r q) in
      record {
        of_object = λ r l. ((λ q. absurd (omega (arith, l, (overflow-between most m u r (over r q)).0))), (λ q. never (cc)));
        lacking = λ r l. (
          (λ q. (t, refl, over r q)),
          (λ q.
              let p : q.0 ≡ t = (let z = q.1 in cc) in
              so-refused (taken_in most m (accepted t)) m m' answer c r (overflows-refused most m u ends r (subst (λ x. Overflows most m (loaded_of x) r) p q.2))),
        );
        records = λ k. (
          (λ q.
              let a = counted-so (taken_in most m (accepted t)) m m' answer c k q in
              let b = accepted-holds most m u ends a.0 a.1 in
              (t, refl, a.2 ∙ ap count (sym b.0), b.1)),
          (λ q.
              let p : q.0 ≡ t = (let z = q.1 in cc) in
              let b = so-counted (taken_in most m (accepted t)) m m' answer c u (holds-accepted most m u ends (subst (λ x. Holds most m (loaded_of x)) p q.3)) in
              b ∙ ap Ok (ap (λ x. count (loaded_of x)) (sym p) ∙ sym q.2)),
        );
      }

pub take-in-in-order : TakeInInOrder
take-in-in-order object most m m' answer c = take-in-order object most m answer (judge object) refl m' c

-- ---- edits
overflow-edit : (m : Memory) (u : Items) (r : Refusal) → Overflows (as_octets 32_768) m u r → OfCall (14 ∷ 15 ∷ 16 ∷ 18 ∷ []) r.number r.place r.field
unfolding among
overflow-edit m u r (fourteen l) = of_call 14 refl
overflow-edit m u r (fifteen l f) = of_call 15 refl

edit-why : (e : Edit) (t : Items) (m : Memory) {j : Judged} → only.Ends m e t j → (r : Refusal) → j ≡ refused r
    → OfCall (14 ∷ 15 ∷ 16 ∷ 18 ∷ []) r.number r.place r.field
unfolding among
edit-why e t m (nowhere p) r q = let z : refusal 18 0 ≡ r = cc in subst (λ x. OfCall (14 ∷ 15 ∷ 16 ∷ 18 ∷ []) x.number x.place x.field) z (of_call 18 refl)
edit-why e t m (unruled p o) r q = let z : refusal 16 0 ≡ r = cc in subst (λ x. OfCall (14 ∷ 15 ∷ 16 ∷ 18 ∷ []) x.number x.place x.field) z (of_call 16 refl)
edit-why e t m (ruled u j p o k) r q = overflow-edit m u r (refused-overflows (as_octets 32_768) m u k r q)

pub edit-ends : EditEnds
unfolding edited_in among
edit-ends e n m m' answer c =
    leaves-ends (OfCall (14 ∷ 15 ∷ 16 ∷ 18 ∷ [])) (edited_in m e (tree_held n m)) m m' answer c (go (tree_held n m))
  where
    go : (o : Option Items) (r : Refusal) → edited_in m e o ≡ refused r → OfCall (14 ∷ 15 ∷ 16 ∷ 18 ∷ []) r.number r.place r.field
    go none r q = let z : refusal 16 0 ≡ r = cc in subst (λ x. OfCall (14 ∷ 15 ∷ 16 ∷ 18 ∷ []) x.number x.place x.field) z (of_call 16 refl)
    go (some t) r q = edit-why e t m (only.edit-ends m e t) r q

pub remove-ends : RemoveEnds
unfolding edited_in among
remove-ends i n m m' answer os c = leaves-ends (OfCall (16 ∷ 18 ∷ [])) (edited_in m (remove i) (tree_held n m)) m m' answer c (go (tree_held n m) refl)
  where
    so : (s r : Refusal) → s ≡ r → OfCall (16 ∷ 18 ∷ []) s.number s.place s.field → OfCall (16 ∷ 18 ∷ []) r.number r.place r.field
    so s r e o = subst (λ x. OfCall (16 ∷ 18 ∷ []) x.number x.place x.field) e o

    one : (t : Items) → tree_held n m ≡ some t → {j : Judged} → only.Ends m (remove i) t j → edited_in m (remove i) (some t) ≡ j → (r : Refusal) → j ≡ refused r
        → OfCall (16 ∷ 18 ∷ []) r.number r.place r.field
    one t h (nowhere p) d r q = so (refusal 18 0) r (cc) (of_call 18 refl)
    one t h (unruled p o) d r q = so (refusal 16 0) r (cc) (of_call 16 refl)
    one t h (ruled u j p o k) d r q = never (let z = remove-leaves n m t h os i p in cc)

    go : (o : Option Items) → tree_held n m ≡ o → (r : Refusal) → edited_in m (remove i) o ≡ refused r → OfCall (16 ∷ 18 ∷ []) r.number r.place r.field
    go none h r q = so (refusal 16 0) r (cc) (of_call 16 refl)
    go (some t) h r q = one t h (only.edit-ends m (remove i) t) refl r q

module _ (answer : Result ℕ Refusal) where
  apart : (i k : ℕ) → (i ≡ k → ⊥) → answer ≡ Err (refusal i 0) → answer ≡ Err (refusal k 0) → ⊥
  apart i k f x y = let z : refusal i 0 ≡ refusal k 0 = cc in f (ap (λ w. w.number) z)

  apart_low : (i : ℕ) (r : Refusal) → answer ≡ Err (refusal i 0) → answer ≡ Err r → r.number ≤ 15 → 15 < i → ⊥
  apart_low i r x y l k = let z : refusal i 0 ≡ r = cc in omega (arith, ap (λ w. w.number) z)

module _ (e : Edit) (t : Items) (m m' : Memory) (answer : Result ℕ Refusal) (c : Leaves (edited_in m e (some t)) m m' answer) where
  abbrev whole : Judged
  whole = edited_in m e (some t)

  abbrev most : OctetCount
  most = as_octets 32_768

  edit-nowhere : is_there e t ≡ false → whole ≡ refused (refusal 18 0) → EditOrder e t m answer
  edit-nowhere p d =
      let a = so-refused whole m m' answer c (refusal 18 0) d in
      record {
        eighteen = ((λ q. p), (λ q. a));
        sixteen = ((λ q. absurd (apart answer 18 16 (λ z. omega arith) a q)), (λ q. absurd (false≢true (sym p ∙ q.0))));
        lacking = λ r l. ((λ q. absurd (apart_low answer 18 r a q l (omega arith))), (λ q. absurd (false≢true (sym p ∙ q.1))));
        records = λ k. ((λ q. never (cc)), (λ q. absurd (false≢true (sym p ∙ q.1))));
      }

  edit-unruled : is_there e t ≡ true → edited e t ≡ none → whole ≡ refused (refusal 16 0) → EditOrder e t m answer
  edit-unruled p o d =
      let a = so-refused whole m m' answer c (refusal 16 0) d in
      record {
        eighteen = ((λ q. absurd (apart answer 16 18 (λ z. omega arith) a q)), (λ q. absurd (false≢true (sym q ∙ p))));
        sixteen = ((λ q. (p, o)), (λ q. a));
        lacking = λ r l. ((λ q. absurd (apart_low answer 16 r a q l (omega arith))), (λ q. absurd (none-ne-some q.0 (sym o ∙ q.2))));
        records = λ k. ((λ q. never (cc)), (λ q. absurd (none-ne-some q.0 (sym o ∙ q.2))));
      }

  edit-ruled : (u : Items) → is_there e t ≡ true → edited e t ≡ some u → Fitting most m u whole → EditOrder e t m answer
  edit-ruled u p o k =
      let over : (r : Refusal) → answer ≡ Err r → Overflows most m u r = λ r q. refused-overflows most m u k r (refused-so whole m m' answer c r q) in
      let same : (w : Items) → edited e t ≡ some w → w ≡ u = λ w q. some-injective w u (sym q ∙ o) in
      record {
        eighteen = (
          (λ q. absurd (omega (arith, (overflow-between most m u (refusal 18 0) (over (refusal 18 0) q)).1))),
          (λ q. absurd (false≢true (sym q ∙ p))),
        );
        sixteen = (
          (λ q. absurd (omega (arith, (overflow-between most m u (refusal 16 0) (over (refusal 16 0) q)).1))),
          (λ q. absurd (none-ne-some u (sym q.1 ∙ o))),
        );
        lacking = λ r l. (
          (λ q. (u, p, o, over r q)),
          (λ q. so-refused whole m m' answer c r (overflows-refused most m u k r (subst (λ x. Overflows most m x r) (same q.0 q.2) q.3))),
        );
        records = λ n. (
          (λ q.
              let a = counted-so whole m m' answer c n q in
              let b = accepted-holds most m u k a.0 a.1 in
              (u, p, o, a.2 ∙ ap count (sym b.0), b.1)),
          (λ q.
              let b = so-counted whole m m' answer c u (holds-accepted most m u k (subst (Holds most m) (same q.0 q.2) q.4)) in
              b ∙ ap Ok (ap count (sym (same q.0 q.2)) ∙ sym q.3)),
        );
      }

  edit-order : {j : Judged} → only.Ends m e t j → whole ≡ j → EditOrder e t m answer
  edit-order (nowhere p) d = edit-nowhere p d
  edit-order (unruled p o) d = edit-unruled p o d
  edit-order (ruled u j p o k) d = edit-ruled u p o (subst (Fitting most m u) (sym d) k)

pub edit-in-order : EditInOrder
unfolding edited_in
edit-in-order = record {
  no_tree = λ e n m m' answer c h. so-refused (edited_in m e (tree_held n m)) m m' answer c (refusal 16 0) (ap (edited_in m e) h);
  tree = λ e n m m' answer c t h. edit-order e t m m' answer (subst (λ o. Leaves (edited_in m e o) m m' answer) h c) (only.edit-ends m e t) refl;
}

-- ---- write_state
pub write-state-ends : WriteStateEnds
write-state-ends n m before after answer c = written-ends _ (size_of before) (tree_held n m) answer c.answers (λ p q. none-set before _ after c.leaves p)

module _ (n : ℕ) (m : Memory) (room : OctetCount) (answer : Result OctetCount Refusal) where
  abbrev size : Items → ℕ
  size t = length (encode (means [] t))

  same-tree : (t u : Items) → tree_held n m ≡ some t → tree_held n m ≡ some u → t ≡ u
  same-tree t u h g = some-injective t u (sym h ∙ g)

  no-tree : tree_held n m ≡ none → answer ≡ Err (refusal 16 0) → WriteStateOrder n m room answer
  no-tree h e = record {
    sixteen = ((λ q. h), (λ q. e));
    fifteen = (
      (λ q. let p : refusal 16 0 ≡ refusal 15 0 = cc in absurd (omega (arith, ap (λ x. x.number) p))),
      (λ q. absurd (none-ne-some q.0 (sym h ∙ q.1))),
    );
    octets = λ k. ((λ q. never (cc)), (λ q. absurd (none-ne-some q.0 (sym h ∙ q.1))));
  }

  no_room : (t : Items) → tree_held n m ≡ some t → room.0 < size t → answer ≡ Err (refusal 15 0) → WriteStateOrder n m room answer
  no_room t h l e = record {
    sixteen = (
      (λ q. let p : refusal 15 0 ≡ refusal 16 0 = cc in absurd (omega (arith, ap (λ x. x.number) p))),
      (λ q. absurd (none-ne-some t (sym q ∙ h))),
    );
    fifteen = ((λ q. (t, h, l)), (λ q. e));
    octets = λ k. ((λ q. never (cc)), (λ q. absurd (omega (arith, l, ap (λ x. x.0) q.2, q.3, ap size (same-tree t q.0 h q.1)))));
  }

  written : (t : Items) → tree_held n m ≡ some t → size t ≤ room.0 → answer ≡ Ok (as_octets (size t)) → WriteStateOrder n m room answer
  written t h l e = record {
    sixteen = ((λ q. never (cc)), (λ q. absurd (none-ne-some t (sym q ∙ h))));
    fifteen = ((λ q. never (cc)), (λ q. absurd (omega (arith, l, q.2, ap size (same-tree t q.0 h q.1)))));
    octets = λ k. (
      (λ q. let p : k.0 ≡ size t = cc in (t, h, ap as_octets p, omega arith)),
      (λ q. e ∙ ap Ok (ap (λ u. as_octets (size u)) (same-tree t q.0 h q.1) ∙ sym q.2)),
    );
  }

  write-state-order : answer ≡ write_answer room (tree_held n m) → WriteStateOrder n m room answer
  unfolding write_answer roomy
  write-state-order e = go (tree_held n m) refl e
    where
      one : (t : Items) → tree_held n m ≡ some t → (b : Bool) → leb (size t) (min room.0 32_768) ≡ b
          → answer ≡ cond b (Ok (as_octets (size t))) (Err (refusal 15 0)) → WriteStateOrder n m room answer
      one t h true q e = written t h (omega (arith, leb-true (size t) (min room.0 32_768) q)) e
      one t h false q e = no_room t h (omega (arith, leb-false (size t) (min room.0 32_768) q, (held n m t h).small)) e

      go : (o : Option Items) → tree_held n m ≡ o → answer ≡ write_answer room o → WriteStateOrder n m room answer
      go none h e = no-tree h e
      go (some t) h e = one t h (leb (size t) (min room.0 32_768)) refl e

pub write-state-in-order : WriteStateInOrder
write-state-in-order n m before after answer c = write-state-order n m (size_of before) answer c.answers

-- ---- runs
pub run_holds : RunHolds
run_holds n m t r = (reached-held r, reached-sizes r)

pub run-means : RunMeans
run-means n m t r os = reached-means r os

pub writes-afresh : WritesAfresh
unfolding write_answer write_octets
writes-afresh n k m w t u r q e room one two a b c d =
    let h = reached-held r in
    let g = reached-held q in
    let f : write_answer (size_of room) (some t) ≡ write_answer (size_of room) (some u) = rw e in
    let o : write_octets (size_of room) (some t) ≡ write_octets (size_of room) (some u) = rw e in (
      c.answers ∙ (ap (write_answer (size_of room)) h ∙ (f ∙ (ap (write_answer (size_of room)) (sym g) ∙ sym d.answers))),
      c.leaves ∙ ap (sets room 0) (ap (write_octets (size_of room)) h ∙ (o ∙ ap (write_octets (size_of room)) (sym g))) ∙ sym d.leaves,
    )

pub taken-content : TakenContent
taken-content = loaded-content
