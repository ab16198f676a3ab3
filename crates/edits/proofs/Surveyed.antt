-- The ways through take_in: what the survey of an object says is how taking it in ends, and what is laid is what memory is left with.
use Rattle.std.specs.Prelude.{Result, Ok, Err}
use mathlib.Core.Path.{◌≡◌, refl, sym, ap, ◌∙◌, subst}
use mathlib.Core.Bool.{Bool, true, false, cond}
use mathlib.Core.List.{List, [], ◌∷◌}
use Prim.Native.Nat.{ℕ, ◌≤◌, min}
use native.Mathlib.Omega.{arith}
use lib.Dec.{leb}
use lib.ListN.{length}
use borrow.Author.Tests.{leb-true}
use Rattle.octets.specs.declared.counts.Octets.{Octets as OctetCount}
use Rattle.octets.specs.Counts.{size_of}
use Rattle.octets.specs.Numbers.{Octets}
use Rattle.octets.proofs.Tests.{and_left, and_right, never}
use Rattle.format.specs.declared.Refusal.{Refusal}
use Rattle.format.specs.Answers.{refusal}
use Rattle.format.specs.Tree.{Items, count}
use Rattle.format.specs.Judge.{Judged, first, rule, unless, judge}
use Rattle.format.specs.Judge.Judged.{refused, accepted}
use Rattle.format.specs.Meaning.{normal_of}
use Rattle.format.specs.Loaded.{store_of, loaded_of}
use Rattle.format.specs.Calls.{places, Lent, roomy, stored_within, edit_answer}
use Rattle.format.specs.State.{Memory, places_in}
use Rattle.format.proofs.Loading.{loaded-means, loaded-count}
use Rattle.survey.specs.Survey.{surveyed}
use Rattle.survey.specs.declared.Unfit.{Unfit}
use Rattle.survey.specs.declared.Unfit.TheVariants.{Bad, Misfit}
use Rattle.state.specs.Taking.{overflow, settled, taken_in, left, TakeInClaim}
use Rattle.edits.specs.Lay.{Layable, LaysTree}
use Rattle.state.proofs.Packed.{accepted-store}

-- what taking in holds an object against
abbrev pub lent_for : OctetCount → Memory → Lent
lent_for most m = record { records = places_in m; store = size_of m.store; room = most }

-- the places, counted in the code
pub counted : (o : List ℕ) (most : OctetCount) (m : Memory) (n : ℕ) (v : Result (Unit {0}) Unfit) → n ≡ min (places m.lists) (length m.bodies)
    → v ≡ surveyed (record { records = n; store = size_of m.store; room = most }) (judge o) → v ≡ surveyed (lent_for most m) (judge o)
unfolding places_in
counted o most m n v e h = h ∙ ap (λ x. surveyed (record { records = x; store = size_of m.store; room = most }) (judge o)) e

-- an object that fits
record Suits (o : List ℕ) (most : OctetCount) (m : Memory) (t : Items) : Type 0 where
  judged : judge o ≡ accepted t
  few : count t ≤ places_in m
  within : stored_within (lent_for most m) t ≡ true

-- how an object stands, and how taking it in then ends
data Ends (o : List ℕ) (most : OctetCount) (m : Memory) : Result (Unit {0}) Unfit → Judged → Type 0 where
  bad : (r : Refusal) → Ends o most m (Err (Bad r)) (refused r)
  misfit : (r : Refusal) → Ends o most m (Err (Misfit r)) (refused r)
  fits : (t : Items) → Suits o most m t → Ends o most m (Ok tt) (accepted (loaded_of t))

-- read back
record Fitted (o : List ℕ) (most : OctetCount) (m : Memory) (j : Judged) : Type 0 where
  tree : Items
  suits : Suits o most m tree
  taken : j ≡ accepted (loaded_of tree)

is-bad : {o : List ℕ} {most : OctetCount} {m : Memory} {v : (Result (Unit {0}) Unfit)} {j : Judged} → Ends o most m v j → (r : Refusal) → v ≡ Err (Bad r) → j ≡ refused r
is-bad (bad x) r q = cc
is-bad (misfit x) r q = never (cc)
is-bad (fits t s) r q = never (cc)

is-misfit : {o : List ℕ} {most : OctetCount} {m : Memory} {v : (Result (Unit {0}) Unfit)} {j : Judged} → Ends o most m v j → (r : Refusal) → v ≡ Err (Misfit r) → j ≡ refused r
is-misfit (bad x) r q = never (cc)
is-misfit (misfit x) r q = cc
is-misfit (fits t s) r q = never (cc)

does-fit : {o : List ℕ} {most : OctetCount} {m : Memory} {v : (Result (Unit {0}) Unfit)} {j : Judged} → Ends o most m v j → v ≡ Ok tt → Fitted o most m j
does-fit (bad x) q = never (cc)
does-fit (misfit x) q = never (cc)
does-fit (fits t s) q = record { tree = t; suits = s; taken = refl }

module _ (o : List ℕ) (os : Octets o) (most : OctetCount) (m : Memory) where
  abbrev lent : Lent
  lent = lent_for most m

  -- the loaded tree takes as much as the object does
  pub same-overflow : (t : Items) → judge o ≡ accepted t → overflow most m (loaded_of t) ≡ first (rule 14 0 (leb (count t) (places_in m)) ∷ rule 15 0 (stored_within lent t) ∷ [])
  unfolding overflow stored_within
  same-overflow t h = rw (loaded-count o t os h, accepted-store o t os h, loaded-means o t os h)

  ends : Ends o most m (surveyed lent (judge o)) (taken_in most m (judge o))
  unfolding surveyed taken_in settled first rule unless
  ends = go (judge o) refl
    where
      on : (t : Items) → judge o ≡ accepted t → (a : Bool) → leb (count t) (places_in m) ≡ a → (b : Bool) → stored_within lent t ≡ b
          → Ends o most m (cond a (cond b (Ok tt) (Err (Misfit (refusal 15 0)))) (Err (Misfit (refusal 14 0)))) (unless (first (rule 14 0 a ∷ rule 15 0 b ∷ [])) (accepted (loaded_of t)))
      on t j true p true q = fits t (record { judged = j; few = leb-true (count t) (places_in m) p; within = q })
      on t j true p false q = misfit (refusal 15 0)
      on t j false p b q = misfit (refusal 14 0)

      go : (k : Judged) → judge o ≡ k → Ends o most m (surveyed lent k) (taken_in most m k)
      go (refused r) j = bad r
      go (accepted t) j =
          subst (λ z. Ends o most m (surveyed lent (accepted t)) (unless z (accepted (loaded_of t)))) (sym (same-overflow t j)) (on t j (leb (count t) (places_in m)) refl (stored_within lent t) refl)

  module _ (v : Result (Unit {0}) Unfit) (e : v ≡ surveyed lent (judge o)) where
    ends_so : Ends o most m v (taken_in most m (judge o))
    ends_so = subst (λ z. Ends o most m z (taken_in most m (judge o))) (sym e) ends

    -- nothing is touched on a refusal
    untouched : (r : Refusal) → taken_in most m (judge o) ≡ refused r → TakeInClaim o most m m (Err r)
    unfolding edit_answer left
    untouched r q = record { answers = rw q; leaves = rw q }

    pub take-bad : (r : Refusal) → v ≡ Err (Bad r) → TakeInClaim o most m m (Err r)
    take-bad r q = untouched r (is-bad ends_so r q)

    pub take-misfit : (r : Refusal) → v ≡ Err (Misfit r) → TakeInClaim o most m m (Err r)
    take-misfit r q = untouched r (is-misfit ends_so r q)

    module _ (q : v ≡ Ok tt) where
      pub take-can : Layable o m
      unfolding stored_within roomy
      take-can =
          let f = does-fit ends_so q in
          let t = f.tree in
          let a = leb (length (store_of t)) (length m.store) in
          let b = leb (length (normal_of t)) (min most.0 32_768) in
          let w = f.suits.within in
          record {
            tree = t;
            accepts = f.suits.judged;
            few = f.suits.few;
            room = leb-true (length (store_of t)) (length m.store) (and_left a b w);
            small = omega (arith, leb-true (length (normal_of t)) (min most.0 32_768) (and_right a b w));
          }

      pub take-laid : (m' : Memory) (n : ℕ) → LaysTree o m m' n → TakeInClaim o most m m' (Ok n)
      unfolding edit_answer left LaysTree
      take-laid m' n l =
          let f = does-fit ends_so q in
          let k = l f.tree f.suits.judged in
          record { answers = rw f.taken (ap Ok k.many); leaves = rw f.taken k.leaves }
