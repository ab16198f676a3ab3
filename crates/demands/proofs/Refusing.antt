-- Demand 1 for the other calls that refuse, from each call's equation.
use Rattle.std.specs.Prelude.{Some, None, Result, Ok, Err, Option as Optional}
use mathlib.Core.Path.{◌≡◌, refl, sym, ap, ◌∙◌, subst}
use mathlib.Core.Bool.{Bool, true, false, cond, not, ◌&&◌, ◌||◌, false≢true}
use mathlib.Core.Option.{Option, none, some, some-injective, none-ne-some}
use mathlib.Core.List.{List, [], ◌∷◌}
use Prim.Native.Nat.{ℕ, ◌+◌, ◌≤◌, ◌<◌}
use native.Mathlib.Omega.{arith}
use lib.Dec.{eqb, leb, ltb}
use lib.ListN.{length, take, drop}
use borrow.Author.Tests.{leb-true, leb-false, ltb-true, ltb-false, eqb-true, eqb-false}
use Rattle.octets.specs.Counts.{size_of}
use Rattle.octets.specs.Numbers.{Octets, among}
use Rattle.octets.proofs.Tests.{never, and_right}
use Rattle.octets.specs.declared.PutError.{PutError}
use Rattle.format.specs.declared.Refusal.{Refusal}
use Rattle.format.specs.Answers.{refusal}
use Rattle.format.specs.Tree.{Items, count}
use Rattle.format.specs.Judge.{Judged, judge, rule, first}
use Rattle.format.specs.Judge.Judged.{refused, accepted}
use Rattle.format.specs.Meaning.{Meaning, meaning_of, normal_of}
use Rattle.format.specs.Loaded.{store_of}
use Rattle.format.specs.Same.{same_octets}
use Rattle.format.specs.Calls.{Lent, stored_within, fits_lent}
use Rattle.format.proofs.Rules.{same-tree}
use Rattle.format.proofs.Same.{same-octets, octets-same}
use Rattle.state.specs.Taking.{lent_by}
use Rattle.survey.specs.Measure.{measured_of}
use Rattle.survey.specs.Survey.{surveyed, needed_of, records_sizes}
use Rattle.survey.specs.First.{first_in, place_at, item_at, as_item, sought_by, sought_as, sought_in}
use Rattle.survey.proofs.First.{first-told, place_inside}
use Rattle.survey.proofs.Once.{first-place}
use Rattle.survey.specs.declared.Needs.{Needs}
use Rattle.survey.specs.declared.Unfit.{Unfit}
use Rattle.survey.specs.declared.Unfit.TheVariants.{Bad, Misfit}
use Rattle.survey.specs.Makers.{store_octets}
use Rattle.recording.specs.declared.Next.{Next}
use Rattle.recording.specs.Recording.{mark, announced, whole}
use Rattle.recording.specs.Calls.{open_of, short_of, step_of}
use Rattle.merge.specs.declared.Services.{Services}
use Rattle.merge.specs.Merged.{clash, same_top, twice}
use Rattle.merge.specs.Kept.{Mergeable}
use Rattle.merge.specs.Calls.{conflict}
use Rattle.merge.specs.declared.MergeRefusal.{MergeRefusal}
use Rattle.merge.specs.declared.MergeRefusal.TheVariants.{Neither}
use Rattle.merging.specs.Calls.{as_conflict, conflict_answer}
use Rattle.demands.specs.One.{OfObject, OfCall, Refuses, Ends, Suffices, Lacks, PutEnds}
use Rattle.demands.specs.One.OfCall.{of_call}
use Rattle.demands.specs.One.Refuses.{for_object, for_call}
use Rattle.demands.specs.One.Ends.{answered, refused_at}
use Rattle.demands.specs.One.Lacks.{fourteen, fifteen}
use Rattle.demands.specs.One.PutEnds.{put, lacks_room, not_valid}
use Rattle.demands.specs.Outcomes.{standing_outcome, needed_outcome, sought_outcome, conflict_outcome, opened_outcome, next_outcome, put_outcome}
use Rattle.demands.specs.Refusing.{SurveyEnds, SurveyOrder, SurveyInOrder, NeedsEnds, NeedsOrder, NeedsInOrder, NeedsSufficeCalls, OverNeverCalls, FoundEnds, FindFirstEnds, FoundOrder, FindFirstInOrder, ConflictEnded, ConflictEnds, Conflicts, ConflictOrder, ConflictInOrder, OpenEnds, OpenOrder, OpenInOrder, StepRefuses, StepEnds, StepOrder, StepInOrder, PutOutcomeEnds}
use Rattle.demands.specs.Refusing.FoundEnds.{refused_at as found-refused, nowhere as found_nowhere, found_at as found_at}
use Rattle.demands.specs.Refusing.ConflictEnded.{free as ended-free, of_basic as ended-basic, of_advanced as ended-advanced, of_both as ended-both}
use Rattle.demands.specs.Refusing.Conflicts.{twenty, twenty_one}
use Rattle.demands.specs.Refusing.StepRefuses.{is_cut}
use Rattle.demands.proofs.Laws.{of-object, suffices-fits, fits-suffices}
use Rattle.demands.proofs.One.{put-call-ends}
use Rattle.demands.proofs.Needs.{same-needs, same-sizes, needs-suffice, over-never}

-- ---- survey
data Surveyed (lent : Lent) : Judged → Result (Unit {0}) Unfit → Type 0 where
  bad : (r : Refusal) → Surveyed lent (refused r) (Err (Bad r))
  few : (t : Items) → lent.records < count t → Surveyed lent (accepted t) (Err (Misfit (refusal 14 0)))
  small : (t : Items) → count t ≤ lent.records → (Suffices lent t → ⊥) → Surveyed lent (accepted t) (Err (Misfit (refusal 15 0)))
  enough : (t : Items) → Suffices lent t → Surveyed lent (accepted t) (Ok tt)

fits_all : (lent : Lent) (t : Items) → leb (count t) lent.records ≡ true → stored_within lent t ≡ true → fits_lent lent t ≡ true
unfolding fits_lent
fits_all lent t p q = rw (p, q)

fits-stored : (lent : Lent) (t : Items) → leb (count t) lent.records ≡ true → fits_lent lent t ≡ true → stored_within lent t ≡ true
unfolding fits_lent
fits-stored lent t p f = and_right (leb (count t) lent.records) (stored_within lent t) f

survey-ways : (lent : Lent) (j : Judged) → Surveyed lent j (surveyed lent j)
unfolding surveyed
survey-ways lent (refused r) = bad r
survey-ways lent (accepted t) = go (leb (count t) lent.records) refl (stored_within lent t) refl
  where
    go : (a : Bool) → leb (count t) lent.records ≡ a → (b : Bool) → stored_within lent t ≡ b
        → Surveyed lent (accepted t) (cond a (cond b (Ok tt) (Err (Misfit (refusal 15 0)))) (Err (Misfit (refusal 14 0))))
    go false p b q = few t (leb-false (count t) lent.records p)
    go true p true q = enough t (fits-suffices lent t (fits_all lent t p q))
    go true p false q = small t (leb-true (count t) lent.records p) (λ s. false≢true (sym q ∙ fits-stored lent t p (suffices-fits lent t s)))

pub survey-ends : SurveyEnds
unfolding among
survey-ends object lent answer e = subst (λ a. Ends (Refuses object (14 ∷ 15 ∷ [])) (Unit {0}) (standing_outcome a)) (sym e) (go (judge object) refl _ (survey-ways lent (judge object)))
  where
    go : (j : Judged) → judge object ≡ j → (a : Result (Unit {0}) Unfit) → Surveyed lent j a
        → Ends (Refuses object (14 ∷ 15 ∷ [])) (Unit {0}) (standing_outcome a)
    go j h a (bad r) = refused_at r.number r.place r.field (for_object r.number r.place r.field (of-object object r h)) tt
    go j h a (few t l) = refused_at 14 0 0 (for_call 14 0 0 (of_call 14 refl)) tt
    go j h a (small t l f) = refused_at 15 0 0 (for_call 15 0 0 (of_call 15 refl)) tt
    go j h a (enough t s) = answered 0 0

lacks-one : (lent : Lent) (t : Items) (r s : Refusal) → Lacks lent t r → Lacks lent t s → r ≡ s
lacks-one lent t r s (fourteen l) (fourteen k) = refl
lacks-one lent t r s (fourteen l) (fifteen k f) = absurd (omega arith)
lacks-one lent t r s (fifteen l f) (fourteen k) = absurd (omega arith)
lacks-one lent t r s (fifteen l f) (fifteen k g) = refl

lacks-not : (lent : Lent) (t : Items) (r : Refusal) → Lacks lent t r → Suffices lent t → ⊥
lacks-not lent t r (fourteen l) s = omega (arith, s.records)
lacks-not lent t r (fifteen l f) s = f s

module _ (lent : Lent) (answer : Result (Unit {0}) Unfit) where
  misfitting : (t : Items) (r : Refusal) → Lacks lent t r → answer ≡ Err (Misfit r) → SurveyOrder (accepted t) lent answer
  misfitting t r k e = record {
    of_object = λ s. ((λ q. never (cc)), (λ q. never (cc)));
    lacking = λ s. (
      (λ q. let p : r ≡ s = cc in (t, refl, subst (Lacks lent t) p k)),
      (λ q. e ∙ ap (λ x. Err (Misfit x)) (lacks-one lent t r s k (subst (λ x. Lacks lent x s) (same-tree q.0 t (sym q.1)) q.2))),
    );
    fits = ((λ q. never (cc)), (λ q. absurd (lacks-not lent t r k (subst (Suffices lent) (same-tree q.0 t (sym q.1)) q.2))));
  }

  survey-order : (j : Judged) (a : Result (Unit {0}) Unfit) → Surveyed lent j a → answer ≡ a → SurveyOrder j lent answer
  survey-order j a (bad r) e = record {
    of_object = λ s. ((λ q. cc), (λ q. cc));
    lacking = λ s. ((λ q. never (cc)), (λ q. never (let z = q.1 in cc)));
    fits = ((λ q. never (cc)), (λ q. never (let z = q.1 in cc)));
  }
  survey-order j a (few t l) e = misfitting t (refusal 14 0) (fourteen l) e
  survey-order j a (small t l f) e = misfitting t (refusal 15 0) (fifteen l f) e
  survey-order j a (enough t s) e = record {
    of_object = λ r. ((λ q. never (cc)), (λ q. never (cc)));
    lacking = λ r. ((λ q. never (cc)), (λ q. absurd (lacks-not lent t r (subst (λ x. Lacks lent x r) (same-tree q.0 t (sym q.1)) q.2) s)));
    fits = ((λ q. (t, refl, s)), (λ q. e));
  }

pub survey-in-order : SurveyInOrder
survey-in-order object lent answer e = survey-order lent answer (judge object) (surveyed lent (judge object)) (survey-ways lent (judge object)) e

-- ---- needs_of
pub needs-ends : NeedsEnds
unfolding needed_of
needs-ends object answer e = subst (λ a. Ends (OfObject object) (Unit {0}) (needed_outcome a)) (sym e) (go (judge object) refl)
  where
    go : (j : Judged) → judge object ≡ j → Ends (OfObject object) (Unit {0}) (needed_outcome (needed_of j))
    go (refused r) h = refused_at r.number r.place r.field (of-object object r h) tt
    go (accepted t) h = answered (count t) 0

needs-order : (answer : Result Needs Refusal) (j : Judged) → answer ≡ needed_of j → NeedsOrder j answer
unfolding needed_of measured_of
needs-order answer (refused r) e = record {
  of_object = λ s. ((λ q. cc), (λ q. cc));
  sizes = λ n store octets. ((λ q. never (cc)), (λ q. never (let z = q.1 in cc)));
  over = λ n. ((λ q. never (cc)), (λ q. never (let z = q.1 in cc)));
}
needs-order answer (accepted t) e = go (leb (length (normal_of t)) 32_768) refl e
  where
    go : (b : Bool) → leb (length (normal_of t)) 32_768 ≡ b
        → answer ≡ Ok (records_sizes (count t) (cond b (Some (store_octets (size_of (store_of t)) (size_of (normal_of t)))) None))
        → NeedsOrder (accepted t) answer
    go true p a = let l = leb-true (length (normal_of t)) 32_768 p in record {
      of_object = λ s. ((λ q. never (cc)), (λ q. never (cc)));
      sizes = λ n store octets. (
        (λ q.
            let told = Some (store_octets (size_of (store_of t)) (size_of (normal_of t))) in
            let x = same-needs n (count t) (Some (store_octets store octets)) told (sym q ∙ a) in
            let y = same-sizes store octets (size_of (store_of t)) (size_of (normal_of t)) x.1 in
            (t, refl, x.0, y.0, y.1, l)),
        (λ q. let z = same-tree q.0 t (sym q.1) in
            let x : n ≡ count t = q.2 ∙ ap count z in
            let y : store ≡ size_of (store_of t) = q.3 ∙ ap (λ u. size_of (store_of u)) z in
            let w : octets ≡ size_of (normal_of t) = q.4 ∙ ap (λ u. size_of (normal_of u)) z in
            rw (x, y, w) a),
      );
      over = λ n. (
        (λ q. let x = (same-needs n (count t) None (Some (store_octets (size_of (store_of t)) (size_of (normal_of t)))) (sym q ∙ a)).1 in never (cc)),
        (λ q. absurd (omega (arith, l, q.3, ap (λ u. length (normal_of u)) (same-tree q.0 t (sym q.1))))),
      );
    }
    go false p a = let l = leb-false (length (normal_of t)) 32_768 p in record {
      of_object = λ s. ((λ q. never (cc)), (λ q. never (cc)));
      sizes = λ n store octets. (
        (λ q. let x = (same-needs n (count t) (Some (store_octets store octets)) None (sym q ∙ a)).1 in never (cc)),
        (λ q. absurd (omega (arith, l, q.5, ap (λ u. length (normal_of u)) (same-tree q.0 t (sym q.1))))),
      );
      over = λ n. (
        (λ q. (t, refl, (same-needs n (count t) None None (sym q ∙ a)).0, l)),
        (λ q. let z : n ≡ count t = q.2 ∙ ap count (same-tree q.0 t (sym q.1)) in rw z a),
      );
    }

pub needs-in-order : NeedsInOrder
needs-in-order object answer e = needs-order answer (judge object) e

pub needs-suffice-calls : NeedsSufficeCalls
needs-suffice-calls object n store octets e m m' room room' answer c =
    let k = needs-suffice object n store octets e (lent_by m room) in
    ((λ q. k.0 (sym c.answers ∙ q)), (λ q. c.answers ∙ k.1 q))

pub over-never-calls : OverNeverCalls
over-never-calls object n e m m' room room' octets c = over-never object n e (lent_by m room) octets (sym c.answers)

-- ---- find_first
pub find-first-ends : FindFirstEnds
unfolding sought_in sought_as
find-first-ends object rows anywhere listed answer e = subst (λ a. FoundEnds object (sought_outcome a)) (sym e) (go (judge object) refl (place_at (sought_by listed rows anywhere) object) refl)
  where
    go : (j : Judged) → judge object ≡ j → (p : Option ℕ) → place_at (sought_by listed rows anywhere) object ≡ p → FoundEnds object (sought_outcome (sought_as j p))
    go (refused r) h p q = found-refused r.number r.place r.field (of-object object r h)
    go (accepted t) h none q = found_nowhere
    go (accepted t) h (some place) q = found_at place (place_inside (sought_by listed rows anywhere) object place q)

module _ (object : List ℕ) (os : Octets object) (P : ℕ → ℕ → Bool) (answer : Result (Optional ℕ) Refusal) where
  found-order : (j : Judged) → judge object ≡ j → (p : Option ℕ) → place_at P object ≡ p → answer ≡ sought_as j p → FoundOrder object P j answer
  unfolding sought_as as_item
  found-order (refused r) h p f e = record {
    of_object = λ s. ((λ q. cc), (λ q. cc));
    there = λ place. ((λ q. never (cc)), (λ q. never (let z = q.1 in cc)));
    nowhere = ((λ q. never (cc)), (λ q. never (let z = q.1 in cc)));
  }
  found-order (accepted t) h none f e =
      let no : first_in P 0 t ≡ none = first-told P object t h ∙ ap (as_item object) f in
      record {
        of_object = λ s. ((λ q. never (cc)), (λ q. never (cc)));
        there = λ place. (
          (λ q. never (cc)),
          (λ q. absurd (none-ne-some (item_at object place) (sym no ∙ (ap (first_in P 0) (same-tree t q.0 q.1) ∙ q.2)))),
        );
        nowhere = ((λ q. (t, refl, no)), (λ q. e));
      }
  found-order (accepted t) h (some at) f e =
      let yes : first_in P 0 t ≡ some (item_at object at) = (first-place P object os t h at).0 f in
      record {
        of_object = λ s. ((λ q. never (cc)), (λ q. never (cc)));
        there = λ place. (
          (λ q. let z : at ≡ place = cc in (t, refl, yes ∙ ap (λ x. some (item_at object x)) z)),
          (λ q.
              e ∙ ap (λ x. Ok (Some x)) (some-injective at place (sym f ∙ (first-place P object os t h place).1 (ap (first_in P 0) (same-tree t q.0 q.1) ∙ q.2)))),
        );
        nowhere = (
          (λ q. never (cc)),
          (λ q. absurd (none-ne-some (item_at object at) (sym q.2 ∙ (ap (first_in P 0) (sym (same-tree t q.0 q.1)) ∙ yes)))),
        );
      }

pub find-first-in-order : FindFirstInOrder
unfolding sought_in
find-first-in-order object rows anywhere listed answer os e =
    found-order object os (sought_by listed rows anywhere) answer (judge object) refl (place_at (sought_by listed rows anywhere) object) refl e

-- ---- find_conflict
data Settled (by : Services) (m n : Meaning) : Option Refusal → Type 0 where
  blocked : (r : Refusal) → Conflicts by m n r → Settled by m n (some r)
  clear : Mergeable by m n → Settled by m n none

settle-ways : (by : Services) (m n : Meaning) → Settled by m n (conflict by m n)
unfolding conflict first rule
settle-ways by m n = go (same_top m n) (clash by m n) (twice by m) (twice by n) refl refl refl refl
  where
    go : (a b c d : Bool) → same_top m n ≡ a → clash by m n ≡ b → twice by m ≡ c → twice by n ≡ d
        → Settled by m n (first (rule 20 0 (a && not b) ∷ rule 21 0 (not (c || d)) ∷ []))
    go false b c d p q r s = blocked (refusal 20 0) (twenty (λ x y. false≢true (sym p ∙ x)))
    go true true c d p q r s = blocked (refusal 20 0) (twenty (λ x y. false≢true (sym y ∙ q)))
    go true false true d p q r s = blocked (refusal 21 0) (twenty_one p q (λ x y. false≢true (sym x ∙ r)))
    go true false false true p q r s = blocked (refusal 21 0) (twenty_one p q (λ x y. false≢true (sym y ∙ s)))
    go true false false false p q r s = clear (record { tops = p; quiet = q; basic_once = r; advanced_once = s })

conflicts-one : (by : Services) (m n : Meaning) (r s : Refusal) → Conflicts by m n r → Conflicts by m n s → r ≡ s
conflicts-one by m n r s (twenty f) (twenty g) = refl
conflicts-one by m n r s (twenty f) (twenty_one p q g) = absurd (f p q)
conflicts-one by m n r s (twenty_one p q f) (twenty g) = absurd (g p q)
conflicts-one by m n r s (twenty_one p q f) (twenty_one x y g) = refl

conflicts-not : (by : Services) (m n : Meaning) (r : Refusal) → Conflicts by m n r → Mergeable by m n → ⊥
conflicts-not by m n r (twenty f) k = f k.tops k.quiet
conflicts-not by m n r (twenty_one p q f) k = f k.basic_once k.advanced_once

conflicts-number : (by : Services) (m n : Meaning) (r : Refusal) → Conflicts by m n r → OfCall (20 ∷ 21 ∷ []) r.number r.place r.field
unfolding among
conflicts-number by m n r (twenty f) = of_call 20 refl
conflicts-number by m n r (twenty_one p q f) = of_call 21 refl

pub conflict-ends : ConflictEnds
unfolding conflict_answer as_conflict
conflict-ends by basic advanced answer e = subst (λ a. ConflictEnded basic advanced (conflict_outcome a)) (sym e) (go (judge basic) (judge advanced) refl refl)
  where
    both : (m n : Meaning) (o : Option Refusal) → Settled by m n o → ConflictEnded basic advanced (conflict_outcome (as_conflict o))
    both m n o (blocked r k) = ended-both r (conflicts-number by m n r k)
    both m n o (clear k) = ended-free

    go : (b a : Judged) → judge basic ≡ b → judge advanced ≡ a → ConflictEnded basic advanced (conflict_outcome (conflict_answer by b a))
    go (refused r) a h g = ended-basic r (of-object basic r h)
    go (accepted t) (refused r) h g = ended-advanced r (of-object advanced r g)
    go (accepted t) (accepted u) h g = both (meaning_of t) (meaning_of u) (conflict by (meaning_of t) (meaning_of u)) (settle-ways by (meaning_of t) (meaning_of u))

module _ (by : Services) (answer : Result (Unit {0}) MergeRefusal) where
  both-order : (t u : Items) (o : Option Refusal) → Settled by (meaning_of t) (meaning_of u) o → answer ≡ as_conflict o → ConflictOrder by (accepted t) (accepted u) answer
  unfolding as_conflict
  both-order t u o (blocked r k) e = record {
    of_basic = λ s. ((λ q. never (cc)), (λ q. never (cc)));
    of_advanced = λ s. ((λ q. never (cc)), (λ q. never (let z = q.2 in cc)));
    of_both = λ s. (
      (λ q. let z : r ≡ s = cc in (t, u, refl, refl, subst (Conflicts by (meaning_of t) (meaning_of u)) z k)),
      (λ q.
          let x = same-tree q.0 t (sym q.2) in
          let y = same-tree q.1 u (sym q.3) in
          e
          ∙ ap (λ x. Err (Neither x))
          (conflicts-one by (meaning_of t) (meaning_of u) r s k (subst (λ v. Conflicts by (meaning_of t) (meaning_of v) s) y (subst (λ v. Conflicts by (meaning_of v) (meaning_of q.1) s) x q.4)))),
    );
    free = (
      (λ q. never (cc)),
      (λ q.
          let x = same-tree q.0 t (sym q.2) in
          let y = same-tree q.1 u (sym q.3) in
          absurd (conflicts-not by (meaning_of t) (meaning_of u) r k (subst (λ v. Mergeable by (meaning_of t) (meaning_of v)) y (subst (λ v. Mergeable by (meaning_of v) (meaning_of q.1)) x q.4)))),
    );
  }
  both-order t u o (clear k) e = record {
    of_basic = λ s. ((λ q. never (cc)), (λ q. never (cc)));
    of_advanced = λ s. ((λ q. never (cc)), (λ q. never (let z = q.2 in cc)));
    of_both = λ s. (
      (λ q. never (cc)),
      (λ q.
          let x = same-tree q.0 t (sym q.2) in
          let y = same-tree q.1 u (sym q.3) in
          absurd (conflicts-not by (meaning_of t) (meaning_of u) s (subst (λ v. Conflicts by (meaning_of t) (meaning_of v) s) y (subst (λ v. Conflicts by (meaning_of v) (meaning_of q.1) s) x q.4)) k)),
    );
    free = ((λ q. (t, u, refl, refl, k)), (λ q. e));
  }

  conflict-order : (b a : Judged) → answer ≡ conflict_answer by b a → ConflictOrder by b a answer
  unfolding conflict_answer
  conflict-order (refused r) a e = record {
    of_basic = λ s. ((λ q. cc), (λ q. cc));
    of_advanced = λ s. ((λ q. never (cc)), (λ q. never (let z = q.1 in cc)));
    of_both = λ s. ((λ q. never (cc)), (λ q. never (let z = q.2 in cc)));
    free = ((λ q. never (cc)), (λ q. never (let z = q.2 in cc)));
  }
  conflict-order (accepted t) (refused r) e = record {
    of_basic = λ s. ((λ q. never (cc)), (λ q. never (cc)));
    of_advanced = λ s. ((λ q. (t, refl, (cc))), (λ q. let z = q.2 in cc));
    of_both = λ s. ((λ q. never (cc)), (λ q. never (let z = q.3 in cc)));
    free = ((λ q. never (cc)), (λ q. never (let z = q.3 in cc)));
  }
  conflict-order (accepted t) (accepted u) e = both-order t u (conflict by (meaning_of t) (meaning_of u)) (settle-ways by (meaning_of t) (meaning_of u)) e

pub conflict-in-order : ConflictInOrder
conflict-in-order by basic advanced answer e = conflict-order by answer (judge basic) (judge advanced) e

-- ---- open
data Opens (octets : List ℕ) : Result ℕ Refusal → Type 0 where
  short : length octets < 5 → Opens octets (Err (refusal 24 0))
  other : 5 ≤ length octets → (take 5 octets ≡ mark → ⊥) → Opens octets (Err (refusal 23 0))
  fine : 5 ≤ length octets → take 5 octets ≡ mark → Opens octets (Ok 5)

open-ways : (octets : List ℕ) → Opens octets (open_of octets)
unfolding open_of
open-ways octets = go (ltb (length octets) 5) refl (same_octets (take 5 octets) mark) refl
  where
    go : (a : Bool) → ltb (length octets) 5 ≡ a → (b : Bool) → same_octets (take 5 octets) mark ≡ b
        → Opens octets (cond a (Err (refusal 24 0)) (cond b (Ok 5) (Err (refusal 23 0))))
    go true p b q = short (ltb-true (length octets) 5 p)
    go false p true q = fine (ltb-false (length octets) 5 p) (same-octets (take 5 octets) mark q)
    go false p false q = other (ltb-false (length octets) 5 p) (λ e. false≢true (sym q ∙ (ap (λ o. same_octets o mark) e ∙ octets-same mark)))

pub open-ends : OpenEnds
unfolding among
open-ends octets answer e = subst (λ a. Ends (OfCall (23 ∷ 24 ∷ [])) (Unit {0}) (opened_outcome a)) (sym e) (go _ (open-ways octets))
  where
    go : (a : Result ℕ Refusal) → Opens octets a → Ends (OfCall (23 ∷ 24 ∷ [])) (Unit {0}) (opened_outcome a)
    go a (short l) = refused_at 24 0 0 (of_call 24 refl) tt
    go a (other l f) = refused_at 23 0 0 (of_call 23 refl) tt
    go a (fine l f) = answered 5 0

open_order : (octets : List ℕ) (answer a : Result ℕ Refusal) → Opens octets a → answer ≡ a → OpenOrder octets answer
open_order octets answer a (short l) e = record {
  twenty_four = ((λ q. l), (λ q. e));
  twenty_three = ((λ q. let z : refusal 24 0 ≡ refusal 23 0 = cc in absurd (omega (arith, ap (λ x. x.number) z))), (λ q. absurd (omega (arith, l, q.0))));
  begins = λ at. ((λ q. never (cc)), (λ q. absurd (omega (arith, l, q.1))));
}
open_order octets answer a (other l f) e = record {
  twenty_four = ((λ q. let z : refusal 23 0 ≡ refusal 24 0 = cc in absurd (omega (arith, ap (λ x. x.number) z))), (λ q. absurd (omega (arith, l, q))));
  twenty_three = ((λ q. (l, f)), (λ q. e));
  begins = λ at. ((λ q. never (cc)), (λ q. absurd (f q.2)));
}
open_order octets answer a (fine l f) e = record {
  twenty_four = ((λ q. never (cc)), (λ q. absurd (omega (arith, l, q))));
  twenty_three = ((λ q. never (cc)), (λ q. absurd (q.1 f)));
  begins = λ at. ((λ q. ((cc), l, f)), (λ q. e ∙ ap Ok (sym q.0)));
}

pub open-in-order : OpenInOrder
open-in-order octets answer e = open_order octets answer (open_of octets) (open-ways octets) e

-- ---- step
data Steps (window : List ℕ) (at : ℕ) : Bool → Next → Type 0 where
  one : (last : Bool) → 2 + announced (drop at window) ≤ length (drop at window) → Steps window at last (Next.Object (at + 2) (announced (drop at window)))
  more : length (drop at window) < 2 + announced (drop at window) → Steps window at false Next.More
  none_left : length (drop at window) < 2 + announced (drop at window) → length (drop at window) ≡ 0 → Steps window at true Next.End
  some_left : length (drop at window) < 2 + announced (drop at window) → 0 < length (drop at window) → Steps window at true Next.Cut

step-ways : (window : List ℕ) (at : ℕ) (last : Bool) → Steps window at last (step_of window at last)
unfolding step_of short_of whole
step-ways window at last = go (leb (2 + announced (drop at window)) (length (drop at window))) refl last (eqb (length (drop at window)) 0) refl
  where
    go : (a : Bool) → leb (2 + announced (drop at window)) (length (drop at window)) ≡ a → (l : Bool) (b : Bool) → eqb (length (drop at window)) 0 ≡ b
        → Steps window at l (cond a (Next.Object (at + 2) (announced (drop at window))) (cond l (cond b Next.End Next.Cut) Next.More))
    go true p l b q = one l (leb-true (2 + announced (drop at window)) (length (drop at window)) p)
    go false p false b q = more (leb-false (2 + announced (drop at window)) (length (drop at window)) p)
    go false p true true q = none_left (leb-false (2 + announced (drop at window)) (length (drop at window)) p) (eqb-true (length (drop at window)) 0 q)
    go false p true false q =
        let f = eqb-false (length (drop at window)) 0 q in
        some_left (leb-false (2 + announced (drop at window)) (length (drop at window)) p) (omega arith)

pub step-ends : StepEnds
step-ends window at in_file last answer e = subst (λ a. Ends (StepRefuses in_file) (Unit {0}) (next_outcome in_file a)) (sym e) (go last _ (step-ways window at last))
  where
    go : (l : Bool) (a : Next) → Steps window at l a → Ends (StepRefuses in_file) (Unit {0}) (next_outcome in_file a)
    go l a (one last h) = answered (announced (drop at window)) 0
    go l a (more h) = answered 0 0
    go l a (none_left h k) = answered 0 0
    go l a (some_left h k) = refused_at 24 in_file 0 is_cut tt

step-order : (window : List ℕ) (at : ℕ) (answer : Next) (l : Bool) (a : Next) → Steps window at l a → answer ≡ a → StepOrder window at l answer
step-order window at answer l a (one last h) e = record {
  object = λ start size. ((λ q. ((cc), (cc), h)), (λ q. let x = q.0 in let y = q.1 in cc));
  more = ((λ q. never (cc)), (λ q. absurd (omega (arith, h, q.0))));
  end = ((λ q. never (cc)), (λ q. absurd (omega (arith, h, q.0))));
  is_cut = ((λ q. never (cc)), (λ q. absurd (omega (arith, h, q.0))));
}
step-order window at answer l a (more h) e = record {
  object = λ start size. ((λ q. never (cc)), (λ q. absurd (omega (arith, h, q.2))));
  more = ((λ q. (h, refl)), (λ q. e));
  end = ((λ q. never (cc)), (λ q. absurd (false≢true q.1)));
  is_cut = ((λ q. never (cc)), (λ q. absurd (false≢true q.1)));
}
step-order window at answer l a (none_left h k) e = record {
  object = λ start size. ((λ q. never (cc)), (λ q. absurd (omega (arith, h, q.2))));
  more = ((λ q. never (cc)), (λ q. absurd (false≢true (sym q.1))));
  end = ((λ q. (h, refl, k)), (λ q. e));
  is_cut = ((λ q. never (cc)), (λ q. absurd (omega (arith, k, q.2))));
}
step-order window at answer l a (some_left h k) e = record {
  object = λ start size. ((λ q. never (cc)), (λ q. absurd (omega (arith, h, q.2))));
  more = ((λ q. never (cc)), (λ q. absurd (false≢true (sym q.1))));
  end = ((λ q. never (cc)), (λ q. absurd (omega (arith, k, q.2))));
  is_cut = ((λ q. (h, refl, k)), (λ q. e));
}

pub step-in-order : StepInOrder
step-in-order window at last answer e = step-order window at answer last (step_of window at last) (step-ways window at last) e

-- ---- the leaves
pub put-outcome-ends : PutOutcomeEnds
unfolding among
put-outcome-ends valid octets at before after answer c = go answer (put-call-ends valid octets at before after answer c)
  where
    go : (a : Result ℕ PutError) → PutEnds valid octets at before after a → Ends (OfCall (15 ∷ 9 ∷ [])) (after ≡ before) (put_outcome a)
    go a (put v l e) = answered (at + length octets) 0
    go a (lacks_room v l e) = refused_at 15 0 0 (of_call 15 refl) e
    go a (not_valid v e) = refused_at 9 0 0 (of_call 9 refl) e
