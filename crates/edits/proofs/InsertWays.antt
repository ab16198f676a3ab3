-- The ways through measuring whether an element fits, through the plan of inserting, and through the call.
use mathlib.Core.Path.{◌≡◌, refl, sym, ap, ◌∙◌, subst}
use mathlib.Core.Bool.{Bool, true, false, not, and-false}
use mathlib.Core.Option.{Option, none, some}
use mathlib.Core.List.{List}
use Prim.Native.Nat.{ℕ, ◌+◌, ◌-◌, ◌≤◌, ◌<◌, min}
use native.Mathlib.Omega.{arith}
use lib.Dec.{leb}
use lib.ListN.{length, take, drop, get_or}
use borrow.Author.Tests.{le-leb, lt-leb, not-true}
use Rattle.octets.specs.declared.counts.Octets.{Octets as OctetCount}
use Rattle.octets.specs.Counts.{as_octets}
use Rattle.octets.specs.Numbers.{Octets}
use Rattle.octets.specs.Places.{between}
use Rattle.text.specs.Tokens.{entries}
use Rattle.judge.proofs.AllWays.{no-entries}
use Rattle.format.specs.Tree.{Items}
use Rattle.format.specs.Judge.{rule, unless}
use Rattle.format.specs.Judge.Judged.{refused, accepted}
use Rattle.format.specs.Calls.{places, edit_answer}
use Rattle.format.specs.State.{Memory, places_in, packed_store, tree_held}
use Rattle.format.specs.declared.Refusal.{Refusal}
use Rattle.survey.specs.Normal.{framed_size}
use Rattle.survey.specs.declared.measure.Sizes.{Sizes}
use Rattle.survey.specs.Makers.{store_octets}
use Rattle.state.specs.Order.{held_as}
use Rattle.state.specs.Taking.{left}
use Rattle.edits.specs.declared.resite.Gap.{Gap}
use Rattle.std.specs.Prelude.{Option as Optional, Some, None, Result, Ok, Err}
use Rattle.edits.specs.declared.inserting.Admitted.{Admitted}
use Rattle.edits.specs.declared.EditError.{EditError}
use Rattle.edits.specs.declared.EditError.TheVariants.{NoTree, NoPlace, BreaksRule, NoRecords, NoRoom}
use Rattle.edits.specs.Errors.{refusal_of}
use Rattle.edits.specs.Tree.Edit.{insert}
use Rattle.edits.specs.Calls.{edited_in, EditClaim}
use Rattle.edits.specs.Extents.{sum_of}
use Rattle.edits.specs.Sizes.{Climbs}
use Rattle.edits.specs.Insertion.{child_of, tag_there, admitted, admitted_at, admitted_by, admission, top_then, gap_for, opened_by}
use Rattle.edits.specs.Insertion.{fitted_by, insertion_in, insertion_of, SmallSizes, Fittable, level_of, begun, PutsIn, PutIn}
use Rattle.edits.specs.Resites.{Resited}
use Rattle.edits.specs.declared.lay.Laid.{Laid}
use Rattle.edits.specs.Lay.{ItemsLayable, ItemsLay}
use Rattle.edits.proofs.Inserted.{there-nowhere, Verdict, verdict, Ready}
use Rattle.edits.proofs.Inserted.Verdict.{breaks, stands}
use Rattle.octets.proofs.Tests.{never}
use Rattle.state.proofs.HeldTree.{held}
use Rattle.edits.proofs.CutLists.{enough}
use Rattle.edits.proofs.Stores.{held-as}
use Rattle.edits.proofs.Opened.{Fit, fits, can-fit, Room, all-few, put-asks, count-then, leaves-tree}
use Rattle.edits.proofs.Opened.Fit.{refuses, goes_in}

sizes-long : (m : Memory) → places_in m ≤ length m.lists.sizes
unfolding places_in places
sizes-long m = omega arith

-- ---- fit
module _ (n used i : ℕ) (it : Admitted) (m : Memory) (f : Fittable n used i it m) (there : ℕ)
    (te : there ≡ min (places m.lists) (length m.bodies)) where
  abbrev j : ℕ
  j = it.next

  abbrev c : ℕ
  c = it.records

  there-is : there ≡ places_in m
  unfolding places_in
  there-is = te

  pub fit-order : n ≤ there
  fit-order = omega (arith, there-is, f.all)

  pub fit-full : there - n < c → Err NoRecords ≡ fitted_by n used i m (Ok it)
  unfolding fitted_by
  fit-full h = rw (lt-leb (n + c) (places_in m) (omega (arith, there-is, f.all)))

  module _ (h : c ≤ there - n) where
    by-sizes : opened_by n used i j c m it.sizes ≡ fitted_by n used i m (Ok it)
    unfolding fitted_by
    by-sizes = rw (le-leb (n + c) (places_in m) (omega (arith, there-is, f.all)))

    pub fit_next : j + c ≤ there
    fit_next = omega (arith, fit-order, f.low)

    pub fit-over : it.sizes ≡ None → Err NoRoom ≡ fitted_by n used i m (Ok it)
    unfolding opened_by
    fit-over q = sym (ap (opened_by n used i j c m) q) ∙ by-sizes

    module _ (s a : OctetCount) (q : it.sizes ≡ Some (store_octets s a)) where
      pub fit-store-order : used ≤ length m.store
      fit-store-order = f.filled

      pub fit-store : length m.store - used < s.0 → Err NoRoom ≡ fitted_by n used i m (Ok it)
      unfolding opened_by
      fit-store l = rw (← by-sizes, q, lt-leb (used + s.0) (length m.store) (omega (arith, f.filled)))

      pub fit-asks : Climbs m.lists.parents m.bodies i 0 × (a.0 < 65_536)
      fit-asks = let w : (a.0 ≤ 32_768) × (s.0 ≤ 32_770) = subst SmallSizes q f.small in (f.climbs, omega (arith, w.0))

      module _ (l : s.0 ≤ length m.store - used) (r : Bool) (re : r ≡ leb (framed_size (top_then i a.0 m)) 32_768) where
        pub fit-large : not r ≡ true → Err NoRoom ≡ fitted_by n used i m (Ok it)
        unfolding opened_by
        fit-large z =
            let w : leb (framed_size (top_then i a.0 m)) 32_768 ≡ false = sym re ∙ not-true r z in
            rw (← by-sizes, q, w, and-false (leb (used + s.0) (length m.store)))

        module _ (z : r ≡ true) where
          pub fit-sum : (0 ≤ j) × (j ≤ length m.lists.sizes) × (sum_of (between m.lists.sizes 0 j) ≤ 65_535)
          fit-sum = (omega arith, long f.low f.all (sizes-long m), f.place)
            where
              long : j ≤ n → n ≤ places_in m → places_in m ≤ length m.lists.sizes → j ≤ length m.lists.sizes
              long a b d = omega arith

          pub fit-place : (place : OctetCount) → place.0 ≡ sum_of (between m.lists.sizes 0 j) → place.0 + s.0 ≤ 98_305
          fit-place place e = let w : (a.0 ≤ 32_768) × (s.0 ≤ 32_770) = subst SmallSizes q f.small in omega (arith, f.place, w.1)

          pub fit-opens : (place : OctetCount) → place.0 ≡ sum_of (between m.lists.sizes 0 j)
              → Ok (record {
                records = record { from = j; end = n; to = j + c };
                octets = record { from = place.0; end = used; to = place.0 + s.0 };
                element = i;
                was = as_octets 0;
                is = a;
              }) ≡ fitted_by n used i m (Ok it)
          unfolding opened_by gap_for
          fit-opens place e =
              let u : leb (used + s.0) (length m.store) ≡ true = le-leb (used + s.0) (length m.store) (omega (arith, f.filled)) in
              let v : leb (framed_size (top_then i a.0 m)) 32_768 ≡ true = sym re ∙ z in
              rw (← by-sizes, q, u, v)
              (λ y. Ok (record {
                records = record { from = j; end = n; to = j + c };
                octets = record { from = e y; end = used; to = e y + s.0 };
                element = i;
                was = as_octets 0;
                is = a;
              }))

pub ruleset fit-ways = (fit-order, fit-full, fit-over, fit-store-order, fit-store, fit-asks, fit-large, fit-sum, fit-opens)

-- ---- how putting in ends
module _ (n i k : ℕ) (o : List ℕ) (m : Memory) where
  abbrev Found : ℕ → Type 0
  Found j = child_of n i k m.lists.tags m.lists.depths ≡ Some j

  -- what is said of the octets, in a tree that memory holds
  data Says (t : Items) (holds : tree_held n m ≡ some t) : Result Admitted EditError → Type 0 where
    denies : (z : EditError) → edited_in m (insert i k o) (some t) ≡ refused (refusal_of z) → Says t holds (Err z)
    admits : (j : ℕ) (found : Found j) (c : ℕ) (sizes : Optional Sizes) → Ready n i k m t holds o j found c sizes → Says t holds (Ok (admitted j c sizes))

  says : (t : Items) (holds : tree_held n m ≡ some t) → Octets o → Says t holds (admission n i k o m.lists.tags m.lists.depths)
  unfolding admitted_by edited_in rule unless
  says t holds bo = go (child_of n i k m.lists.tags m.lists.depths) refl
    where
      by : (j : ℕ) (found : Found j) (a : Result Admitted EditError) → Verdict n i k m t holds o j found a → Says t holds a
      by j found a (breaks e) = denies BreaksRule e
      by j found a (stands c sizes r) = admits j found c sizes r

      go : (x : Optional ℕ) → child_of n i k m.lists.tags m.lists.depths ≡ x → Says t holds (admitted_by n i k o m.lists.tags m.lists.depths x)
      go None e = denies NoPlace (rw (there-nowhere n i k m t holds o e))
      go (Some j) e = by j e (admitted_at j k (tag_there n j (get_or m.lists.depths i 0) m.lists.tags m.lists.depths) (get_or m.lists.tags i 0)
          (get_or m.lists.depths i 0) o) (verdict n i k m t holds o j e bo)

  -- an element that goes in
  pub record Going (os : Octets m.store) (bo : Octets o) (g : Gap) : Type 0 where
    pub tree : Items
    pub holds : tree_held n m ≡ some tree
    pub next : ℕ
    pub found : Found next
    pub records : ℕ
    pub sizes : Optional Sizes
    pub ready : Ready n i k m tree holds o next found records sizes
    pub stored : ℕ
    pub octets : ℕ
    pub room : Room n i k m tree holds os o bo next found records sizes ready stored octets
    pub is : g ≡ gap_for n (length (packed_store tree)) i next records stored octets m.lists.sizes

  pub data Ends (os : Octets m.store) (bo : Octets o) : Result Gap EditError → Type 0 where
    refused-so : (z : EditError) → edited_in m (insert i k o) (tree_held n m) ≡ refused (refusal_of z) → Ends os bo (Err z)
    going : (g : Gap) → Going os bo g → Ends os bo (Ok g)

  pub insertion-ends : (os : Octets m.store) (bo : Octets o) → Ends os bo (insertion_of n i k o m)
  unfolding insertion_in held_as fitted_by edited_in
  insertion-ends os bo = go (tree_held n m) refl
    where
      fit-ends : (t : Items) (holds : tree_held n m ≡ some t) (j : ℕ) (found : Found j) (c : ℕ) (sizes : Optional Sizes) (ready : Ready n i k m t holds o j found c sizes)
          → (x : Result Gap EditError) → Fit n i k m t holds os o bo j found c sizes ready x → Ends os bo x
      fit-ends t holds j found c sizes ready x (refuses z e) = refused-so z (ap (edited_in m (insert i k o)) holds ∙ e)
      fit-ends t holds j found c sizes ready x (goes_in s a r) = going (gap_for n (length (packed_store t)) i j c s a m.lists.sizes) (record {
        tree = t;
        holds = holds;
        next = j;
        found = found;
        records = c;
        sizes = sizes;
        ready = ready;
        stored = s;
        octets = a;
        room = r;
        is = refl;
      })

      by : (t : Items) (holds : tree_held n m ≡ some t) (a : Result Admitted EditError) → Says t holds a
          → Ends os bo (fitted_by n (length (packed_store t)) i m a)
      by t holds a (denies z e) = refused-so z (ap (edited_in m (insert i k o)) holds ∙ e)
      by t holds a (admits j found c sizes ready) =
          fit-ends t holds j found c sizes ready (fitted_by n (length (packed_store t)) i m (Ok (admitted j c sizes)))
          (fits n i k m t holds os o bo j found c sizes ready)

      go : (x : Option Items) → tree_held n m ≡ x → Ends os bo (insertion_in n i k o m (held_as x))
      go none e = refused-so NoTree (ap (edited_in m (insert i k o)) e)
      go (some t) e = by t e (admission n i k o m.lists.tags m.lists.depths) (says t e bo)

-- ---- plan
pub plan-asks : (n : ℕ) (m : Memory) (x : Optional ℕ) → x ≡ held_as (tree_held n m) → (used : ℕ) → x ≡ Some used → (n ≤ length m.lists.tags) × (n ≤ length m.lists.depths)
plan-asks n m x e used q =
    let w = held-as (tree_held n m) used (sym e ∙ q) in
    let k = enough n m w.0 (held n m w.0 w.1) in
    (k.tags, k.depths)

module _ (n i k : ℕ) (o : List ℕ) (m : Memory) (x : Optional ℕ) (e : x ≡ held_as (tree_held n m)) where
  pub plan-none : x ≡ None → Err NoTree ≡ insertion_of n i k o m
  unfolding insertion_in
  plan-none q = sym (ap (insertion_in n i k o m) (sym e ∙ q))

  module _ (used : ℕ) (q : x ≡ Some used) where
    in_memory : (t : Items) × (tree_held n m ≡ some t) × (length (packed_store t) ≡ used)
    in_memory = held-as (tree_held n m) used (sym e ∙ q)

    module _ (a : Result Admitted EditError) (ae : a ≡ admission n i k o m.lists.tags m.lists.depths) where
      pub plan-denied : (z : EditError) → a ≡ Err z → Err z ≡ insertion_of n i k o m
      unfolding insertion_in fitted_by
      plan-denied z d = sym (ap (insertion_in n i k o m) (sym e ∙ q) ∙ ap (fitted_by n used i m) (sym ae ∙ d))

      module _ (it : Admitted) (d : a ≡ Ok it) where
        pub plan-fit-asks : Octets m.store → Octets o → Fittable n used i it m
        plan-fit-asks os bo = by (admission n i k o m.lists.tags m.lists.depths) (says n i k o m in_memory.0 in_memory.1 bo) (sym ae ∙ d)
          where
            by : (z : Result Admitted EditError) → Says n i k o m in_memory.0 in_memory.1 z → z ≡ Ok it → Fittable n used i it m
            by z (denies w f) g = never (cc)
            by z (admits j found c sizes ready) g =
                let same : admitted j c sizes ≡ it = cc in
                let f = can-fit n i k m in_memory.0 in_memory.1 os o bo j found c sizes ready in
                subst (λ u. Fittable n u i it m) in_memory.2 (subst (λ z. Fittable n (length (packed_store in_memory.0)) i z m) same f)

        pub plan-fits : (r : Result Gap EditError) → r ≡ fitted_by n used i m (Ok it) → r ≡ insertion_of n i k o m
        unfolding insertion_in
        plan-fits r f = f ∙ sym (ap (insertion_in n i k o m) (sym e ∙ q) ∙ ap (fitted_by n used i m) (sym ae ∙ d))

-- ---- put_in: there is no token table
module _ (g : Gap) (i : ℕ) (o : List ℕ) (m : Memory) where
  pub put-lays : PutsIn g i o m → (m₁ : Memory) → Resited g m m₁ → ItemsLayable (entries (take (0 - 0) (drop 0 o))) (level_of i m) (begun g) o m₁
  put-lays p m₁ r = rw (no-entries o) (p.lays m₁ r)

  pub put-leaves : (m₁ m' : Memory) (r : Laid) → Resited g m m₁ → ItemsLay (entries (take (0 - 0) (drop 0 o))) (level_of i m) (begun g) o m₁ m' r → PutIn g i o m m'
  put-leaves m₁ m' r a b = record { between-both = m₁; opened = a; end = r; laid = rw (no-entries o) at b }

-- ---- insert
module _ (n i k : ℕ) (o : List ℕ) (m : Memory) (os : Octets m.store) (bo : Octets o) (r : Result Gap EditError) (e : r ≡ insertion_of n i k o m) where
  pub refused-leaves : (z : EditError) → r ≡ Err z → (answer : Result ℕ Refusal) → answer ≡ Err (refusal_of z) → EditClaim (insert i k o) n m m answer
  unfolding left edit_answer
  refused-leaves z q answer f = by (insertion_of n i k o m) (insertion-ends n i k o m os bo) (sym e ∙ q)
    where
      by : (y : Result Gap EditError) → Ends n i k o m os bo y → y ≡ Err z → EditClaim (insert i k o) n m m answer
      by y (going g w) d = never (cc)
      by y (refused-so u w) d =
          let v : u ≡ z = cc in
          record { answers = f ∙ (ap (λ j. Err (refusal_of j)) (sym v) ∙ sym (ap edit_answer w)); leaves = sym (ap (λ j. left j m) w) }

  module _ (g : Gap) (q : r ≡ Ok g) where
    goes : Going n i k o m os bo g
    goes = by (insertion_of n i k o m) (insertion-ends n i k o m os bo) (sym e ∙ q)
      where
        by : (y : Result Gap EditError) → Ends n i k o m os bo y → y ≡ Ok g → Going n i k o m os bo g
        by y (refused-so u w) d = never (cc)
        by y (going g₁ w) d = subst (Going n i k o m os bo) (cc) w

    pub opens-few : (g.records.from ≤ g.records.to) × (n + (g.records.to - g.records.from) ≤ 49_152)
    unfolding gap_for
    opens-few =
        let w = goes in
        let a : g.records.from ≡ w.next = ap (λ z. z.records.from) w.is in
        let b : g.records.to ≡ w.next + w.records = ap (λ z. z.records.to) w.is in
        let few = all-few n i k m w.tree w.holds os o bo w.next w.found w.records w.sizes w.ready w.stored w.octets w.room in
        (omega arith, omega arith)

    pub opens-asks : PutsIn g i o m
    opens-asks =
        let w = goes in
        let asked : PutsIn (gap_for n (length (packed_store w.tree)) i w.next w.records w.stored w.octets m.lists.sizes) i o m =
        put-asks n i k m w.tree w.holds os o bo w.next w.found w.records w.sizes w.ready w.stored w.octets w.room in
        subst (λ z. PutsIn z i o m) (sym w.is) asked

    pub opens-leaves : (m' : Memory) → PutIn g i o m m' → EditClaim (insert i k o) n m m' (Ok (n + (g.records.to - g.records.from)))
    unfolding gap_for left edit_answer
    opens-leaves m' p =
        let w = goes in
        let put = subst (λ z. PutIn z i o m m') w.is p in
        let tree = leaves-tree n i k m w.tree w.holds os o bo w.next w.found w.records w.sizes w.ready w.stored w.octets w.room put.between-both put.opened m' put.end put.laid in
        let ends : edited_in m (insert i k o) (tree_held n m) ≡ accepted _ = ap (edited_in m (insert i k o)) w.holds ∙ w.room.is in
        let c : g.records.to - g.records.from ≡ w.records = ap (λ z. z.records.to - z.records.from) w.is ∙ omega arith in
        let many = count-then n i k m w.tree w.holds os o bo w.next w.found w.records w.sizes w.ready in
        let all : n + (g.records.to - g.records.from) ≡ _ = ap (λ z. n + z) c ∙ sym many in
        record { answers = ap Ok all ∙ sym (ap edit_answer ends); leaves = tree ∙ sym (ap (λ z. left z m) ends) }
