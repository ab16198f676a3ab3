-- The ways through normalise: an object that is taken in is written at once, since memory holds its loaded tree then and the room has places for it.
use Rattle.std.specs.Prelude.{Some, Result, Ok, Err}
use mathlib.Core.Path.{◌≡◌, refl, sym, ap, ◌∙◌, subst}
use mathlib.Core.Bool.{Bool, true, false, cond, ◌&&◌}
use mathlib.Core.Option.{some, some-injective}
use mathlib.Core.List.{List, [], ◌∷◌}
use Prim.Native.Nat.{ℕ, ◌≤◌, min}
use native.Mathlib.Omega.{arith}
use native.Mathlib.Nat.{le-min}
use lib.Dec.{leb}
use lib.ListN.{length, get_or}
use lib.Seq.{sets, length-sets}
use borrow.Author.Tests.{leb-true, le-leb}
use Rattle.octets.specs.Numbers.{Octets}
use Rattle.octets.specs.declared.counts.Octets.{Octets as OctetCount}
use Rattle.octets.specs.Counts.{size_of}
use Rattle.octets.proofs.Lists.{sets-none}
use Rattle.octets.proofs.Tests.{and_right, never}
use Rattle.format.specs.declared.Refusal.{Refusal}
use Rattle.format.specs.Answers.{refusal, edit_outcome}
use Rattle.format.specs.Tree.{Items, count}
use Rattle.format.specs.Judge.{Judged, first, rule, unless, judge}
use Rattle.format.specs.Judge.Judged.{refused, accepted}
use Rattle.format.specs.Meaning.{means, encode, normal_of}
use Rattle.format.specs.Loaded.{store_of, loaded_of}
use Rattle.format.specs.Calls.{Lent, roomy, stored_within, fits_lent, misfit, edit_answer, normal_answer, handed, write_answer, write_octets}
use Rattle.format.specs.State.{Memory, places_in, packed_store, lay_tree, tree_held}
use Rattle.format.proofs.Loading.{loaded-means, loaded-count}
use Rattle.survey.specs.Normal.{framed_size}
use Rattle.state.specs.Order.{held_as}
use Rattle.state.specs.Taking.{settled, taken_in, left, TakeInClaim, lent_by, loaded_into, NormaliseClaim, WriteStateClaim}
use Rattle.state.proofs.HeldTree.{Fits, accepted-held}
use Rattle.state.proofs.Taken.{taken-ends, fitting-tree, fitting-room}
use Rattle.edits.proofs.Surveyed.{same-overflow}
use Rattle.writer.proofs.HeldWritten.{tree, size_is}

-- what taking in comes to, and what is answered, written and left then
data Comes (o : List ℕ) (m : Memory) (room : List ℕ) : Judged → Result OctetCount Refusal → List ℕ → Memory → Type 0 where
  ill : (r : Refusal) → Comes o m room (refused r) (Err r) [] m
  well : (t : Items) → judge o ≡ accepted t → Comes o m room (accepted (loaded_of t)) (Ok (size_of (normal_of t))) (normal_of t) (lay_tree (loaded_of t) m)

module _ (o : List ℕ) (os : Octets o) (m : Memory) (room : List ℕ) where
  abbrev lent : Lent
  lent = lent_by m room

  comes : Comes o m room (taken_in (size_of room) m (judge o)) (normal_answer lent (judge o)) (handed lent normal_of (judge o)) (loaded_into lent (judge o) m)
  unfolding taken_in settled first rule unless normal_answer handed loaded_into fits_lent misfit
  comes = go (judge o) refl
    where
      on : (t : Items) → judge o ≡ accepted t → (a b : Bool)
          → Comes o m room (unless (first (rule 14 0 a ∷ rule 15 0 b ∷ [])) (accepted (loaded_of t)))
          (cond (a && b) (Ok (size_of (normal_of t))) (cond a (Err (refusal 15 0)) (Err (refusal 14 0)))) (cond (a && b) (normal_of t) []) (cond (a && b) (lay_tree (loaded_of t) m) m)
      on t j true true = well t j
      on t j true false = ill (refusal 15 0)
      on t j false b = ill (refusal 14 0)

      go : (k : Judged) → judge o ≡ k → Comes o m room (taken_in (size_of room) m k) (normal_answer lent k) (handed lent normal_of k) (loaded_into lent k m)
      go (refused r) j = ill r
      go (accepted t) j =
          subst (λ z. Comes o m room (unless z (accepted (loaded_of t))) (normal_answer lent (accepted t)) (handed lent normal_of (accepted t)) (loaded_into lent (accepted t) m))
          (sym (same-overflow o os (size_of room) m t j)) (on t j (leb (count t) (places_in m)) (stored_within lent t))

  is-taken : {j : Judged} {a : Result OctetCount Refusal} {octets : List ℕ} {after : Memory} → Comes o m room j a octets after → left j m ≡ after
  unfolding left
  is-taken (ill r) = refl
  is-taken (well t j) = refl

  -- read back by the answer of taking in
  ill-told : {j : Judged} {a : Result OctetCount Refusal} {octets : List ℕ} {after : Memory} → Comes o m room j a octets after → (r : Refusal) → Err r ≡ edit_answer j → (Err r ≡ a) × (octets ≡ [])
  unfolding edit_answer
  ill-told (ill x) r q = let e : r ≡ x = cc in (ap Err e, refl)
  ill-told (well t j) r q = never cc

  pub record Told (n : ℕ) (j : Judged) (a : Result OctetCount Refusal) (octets : List ℕ) : Type 0 where
    pub item : Items
    pub judged : judge o ≡ accepted item
    pub taken : j ≡ accepted (loaded_of item)
    pub many : n ≡ count (loaded_of item)
    pub answered : a ≡ Ok (size_of (normal_of item))
    pub given : octets ≡ normal_of item

  well-told : {j : Judged} {a : Result OctetCount Refusal} {octets : List ℕ} {after : Memory} → Comes o m room j a octets after → (n : ℕ) → Ok n ≡ edit_answer j → Told n j a octets
  unfolding edit_answer
  well-told (ill x) n q = never cc
  well-told (well t j) n q = record { item = t; judged = j; taken = refl; many = ap (λ a. (edit_outcome a).count) q; answered = refl; given = refl }

  module _ (m' : Memory) (answer : Result ℕ Refusal) (c : TakeInClaim o (size_of room) m m' answer) where
    pub normal-refused : (r : Refusal) → answer ≡ Err r → NormaliseClaim o m m' room room (Err r)
    normal-refused r q =
        let t = ill-told comes r (sym q ∙ c.answers) in
        record { answers = t.0; leaves = c.leaves ∙ is-taken comes; writes = sym (ap (sets room 0) t.1 ∙ sets-none room 0) }

    module _ (n : ℕ) (q : answer ≡ Ok n) where
      pub told : Told n (taken_in (size_of room) m (judge o)) (normal_answer lent (judge o)) (handed lent normal_of (judge o))
      told = well-told comes n (sym q ∙ c.answers)

      abbrev pub t : Items
      t = told.item

      ends : (loaded_of t ≡ loaded_of t) × Fits m (loaded_of t)
      unfolding taken_in
      ends = fitting-tree (taken-ends (size_of room) m t) (loaded_of t) (ap (taken_in (size_of room) m) (sym told.judged) ∙ told.taken)

      is-left : m' ≡ lay_tree (loaded_of t) m
      unfolding left
      is-left = c.leaves ∙ ap (λ j. left j m) told.taken

      pub normal-held : tree_held n m' ≡ some (loaded_of t)
      normal-held =
          let e : n ≡ count t = told.many ∙ loaded-count o t os told.judged in
          ap (tree_held n) is-left ∙ (ap (λ k. tree_held k (lay_tree (loaded_of t) m)) e ∙ accepted-held o t os told.judged m ends.1)

      pub normal-told : held_as (tree_held n m') ≡ Some (length (packed_store (loaded_of t)))
      unfolding held_as
      normal-told = ap held_as normal-held

      same-means : encode (means [] (loaded_of t)) ≡ normal_of t
      same-means = ap encode (loaded-means o t os told.judged)

      short : length (encode (means [] (loaded_of t))) ≤ length room
      short = fitting-room (taken-ends (size_of room) m t) (loaded_of t) (ap (taken_in (size_of room) m) (sym told.judged) ∙ told.taken)

      pub normal-room : framed_size (get_or m'.bodies 0 0) ≤ length room
      normal-room =
          let x = tree n m' (held_as (tree_held n m')) refl _ normal-told in
          let same = some-injective x.0 (loaded_of t) (sym x.1 ∙ normal-held) in
          omega (arith, size_is n m' (held_as (tree_held n m')) refl _ normal-told, ap (λ u. length (encode (means [] u))) same, short)

      fit : roomy (size_of room) (encode (means [] (loaded_of t))) ≡ true
      unfolding roomy
      fit = le-leb (length (encode (means [] (loaded_of t)))) (min (length room) 32_768) (le-min short ends.1.small)

      pub normal-written : (after : List ℕ) (a : Result OctetCount Refusal) → WriteStateClaim n m' room after a → NormaliseClaim o m m' room after a
      unfolding write_answer write_octets
      normal-written after a w =
          let x : a ≡ Ok (size_of (encode (means [] (loaded_of t)))) = w.answers ∙ rw (normal-held, fit) in
          let y : after ≡ sets room 0 (encode (means [] (loaded_of t))) = w.leaves ∙ rw (normal-held, fit) in
          record {
            answers = x ∙ (ap (λ z. Ok (size_of z)) same-means ∙ sym told.answered);
            leaves = c.leaves ∙ is-taken comes;
            writes = y ∙ ap (sets room 0) (same-means ∙ sym told.given);
          }

-- ---- what was written lies in the room

room-enough : (lent : Lent) (t : Items) → fits_lent lent t ≡ true → length (normal_of t) ≤ lent.room.0
unfolding fits_lent stored_within roomy
room-enough lent t h =
    let a = leb (count t) lent.records in
    let b = leb (length (store_of t)) lent.store.0 in
    let c = leb (length (normal_of t)) (min lent.room.0 32_768) in
    omega (arith, leb-true (length (normal_of t)) (min lent.room.0 32_768) (and_right b c (and_right a (b && c) h)))

module _ (o : List ℕ) (m m' : Memory) (room room' : List ℕ) (n : OctetCount) (c : NormaliseClaim o m m' room room' (Ok n)) where
  within : n.0 ≤ length room
  unfolding normal_answer misfit
  within = go (judge o) c.answers
    where
      by : (t : Items) (f : Bool) → fits_lent (lent_by m room) t ≡ f → (k : Bool) → Ok n ≡ cond f (Ok (size_of (normal_of t))) (cond k (Err (refusal 15 0)) (Err (refusal 14 0)))
          → n.0 ≤ length room
      by t true f k e = let z : n ≡ size_of (normal_of t) = cc in omega (arith, ap (λ s. s.0) z, room-enough (lent_by m room) t f)
      by t false f true e = never cc
      by t false f false e = never cc

      go : (k : Judged) → Ok n ≡ normal_answer (lent_by m room) k → n.0 ≤ length room
      go (refused r) e = never cc
      go (accepted t) e = by t (fits_lent (lent_by m room) t) refl (leb (count t) (places_in m)) e

  pub written-inside : n.0 ≤ length room'
  written-inside = omega (arith, within, ap length c.writes, length-sets room 0 (handed (lent_by m room) normal_of (judge o)))
