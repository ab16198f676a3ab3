-- Request 2026-06: edit a day in place. An object is taken into lent memory, edited there, and written. Beside a call's claim a statement has at most the premise that
-- what is given and the store are octets, which lent slices of octets always are.
use Rattle.std.specs.Prelude.{◌≡◌, true, false, ◌↔◌, List, [], ◌∷◌, ℕ, ◌≤◌, ◌<◌, length, take, Result, Ok, Err}
use Rattle.std.proofs.Math.Option.{none, some}
use Rattle.octets.specs.declared.counts.Octets.{Octets as OctetCount}
use Rattle.octets.specs.Counts.{as_octets, size_of}
use Rattle.octets.specs.Numbers.{Octets}
use Rattle.format.specs.declared.Refusal.{Refusal}
use Rattle.format.specs.Answers.{refusal, edit_outcome, write_outcome}
use Rattle.format.specs.Tree.{Items, count}
use Rattle.format.specs.Judge.{Judged, judge}
use Rattle.format.specs.Judge.Judged.{refused, accepted}
use Rattle.format.specs.Meaning.{means, encode, meaning, meaning_of}
use Rattle.format.specs.Loaded.{loaded_of}
use Rattle.format.specs.State.{Memory, places_in, body_sizes, packed_store, tree_held}
use Rattle.state.specs.Taking.{TakeInClaim, WriteStateClaim}
use Rattle.edits.specs.Tree.{Edit, is_there}
use Rattle.edits.specs.Tree.Edit.{remove}
use Rattle.edits.specs.Calls.{edited, EditClaim}
use Rattle.edits.specs.Runs.{Reached}
use Rattle.demands.specs.One.{OfCall, Refuses, Ends}

-- ---- how the calls end: an answer, or one numbered refusal at a place, and then all lent memory is as it was

-- take_in gives 1 to 13, 14 and 15
abbrev pub TakeInEnds : Type 0
TakeInEnds =
    (object : List ℕ) (most : OctetCount) (m m' : Memory) (answer : Result ℕ Refusal) → TakeInClaim object most m m' answer
    → Ends (Refuses object (14 ∷ 15 ∷ [])) (m' ≡ m) (edit_outcome answer)

-- an edit gives 14 to 16 and 18, whatever memory holds; "The place is zero"
abbrev pub EditEnds : Type 0
EditEnds =
    (e : Edit) (n : ℕ) (m m' : Memory) (answer : Result ℕ Refusal) → EditClaim e n m m' answer
    → Ends (OfCall (14 ∷ 15 ∷ 16 ∷ 18 ∷ [])) (m' ≡ m) (edit_outcome answer)

-- removing needs no more of what is lent, and breaks no rule: 18, and 16 only where memory holds no tree
abbrev pub RemoveEnds : Type 0
RemoveEnds =
    (i n : ℕ) (m m' : Memory) (answer : Result ℕ Refusal) → Octets m.store → EditClaim (remove i) n m m' answer
    → Ends (OfCall (16 ∷ 18 ∷ [])) (m' ≡ m) (edit_outcome answer)

-- write_state gives 16 and 15
abbrev pub WriteStateEnds : Type 0
WriteStateEnds =
    (n : ℕ) (m : Memory) (before after : List ℕ) (answer : Result OctetCount Refusal) → WriteStateClaim n m before after answer
    → Ends (OfCall (15 ∷ 16 ∷ [])) (after ≡ before) (write_outcome answer)

-- ---- and in which order: "18 ..; then 16 ..; then 14 if its records don't fit; then 15 exactly when its texts and values together exceed the store or its normal form
-- 32,768 octets, also for the tree first taken in"

-- memory suffices for a tree: places for its records, a store for its texts and values; and its normal form is no longer than the caller has room for, nor than 32,768
pub record Holds (most : OctetCount) (m : Memory) (u : Items) : Type 0 where
  pub records : count u ≤ places_in m
  pub store : length (packed_store u) ≤ length m.store
  pub room : length (encode (means [] u)) ≤ most.0
  pub object : length (encode (means [] u)) ≤ 32_768

pub data Overflows (most : OctetCount) (m : Memory) (u : Items) : Refusal → Type 0 where
  fourteen : places_in m < count u → Overflows most m u (refusal 14 0)
  fifteen : count u ≤ places_in m → (Holds most m u → ⊥) → Overflows most m u (refusal 15 0)

-- take_in: 1 to 13 exactly when the object is refused so; 14 and 15 exactly when it is accepted and its loaded tree doesn't fit; else the number of its records
pub record TakeInOrder (judged : Judged) (most : OctetCount) (m : Memory) (answer : Result ℕ Refusal) : Type 0 where
  pub of_object : (r : Refusal) → r.number ≤ 13 → (answer ≡ Err r) ↔ (judged ≡ refused r)
  pub lacking : (r : Refusal) → 14 ≤ r.number → (answer ≡ Err r) ↔ ((t : Items) × (judged ≡ accepted t) × Overflows most m (loaded_of t) r)
  pub records : (k : ℕ) → (answer ≡ Ok k) ↔ ((t : Items) × (judged ≡ accepted t) × (k ≡ count (loaded_of t)) × Holds most m (loaded_of t))

abbrev pub TakeInInOrder : Type 0
TakeInInOrder =
    (object : List ℕ) (most : OctetCount) (m m' : Memory) (answer : Result ℕ Refusal) → TakeInClaim object most m m' answer
    → TakeInOrder (judge object) most m answer

-- an edit of a tree: 18 exactly when record or place isn't there; 16 exactly when it is and the result would break a rule; 14 and 15 exactly when neither holds and the
-- result doesn't fit; else how many records there are then
pub record EditOrder (e : Edit) (t : Items) (m : Memory) (answer : Result ℕ Refusal) : Type 0 where
  pub eighteen : (answer ≡ Err (refusal 18 0)) ↔ (is_there e t ≡ false)
  pub sixteen : (answer ≡ Err (refusal 16 0)) ↔ ((is_there e t ≡ true) × (edited e t ≡ none))
  pub lacking :
      (r : Refusal) → r.number ≤ 15
      → (answer ≡ Err r) ↔ ((u : Items) × (is_there e t ≡ true) × (edited e t ≡ some u) × Overflows (as_octets 32_768) m u r)
  pub records :
      (k : ℕ)
      → (answer ≡ Ok k) ↔ ((u : Items) × (is_there e t ≡ true) × (edited e t ≡ some u) × (k ≡ count u) × Holds (as_octets 32_768) m u)

-- where memory holds no tree there is nothing to edit, and 16 is given
pub record EditInOrder : Type 0 where
  pub no_tree : (e : Edit) (n : ℕ) (m m' : Memory) (answer : Result ℕ Refusal) → EditClaim e n m m' answer → tree_held n m ≡ none → answer ≡ Err (refusal 16 0)
  pub tree : (e : Edit) (n : ℕ) (m m' : Memory) (answer : Result ℕ Refusal) → EditClaim e n m m' answer → (t : Items) → tree_held n m ≡ some t
      → EditOrder e t m answer

-- write_state: 16 exactly when memory holds no tree; 15 exactly when it does and the normal form of that is above the room; else its octets
pub record WriteStateOrder (n : ℕ) (m : Memory) (room : OctetCount) (answer : Result OctetCount Refusal) : Type 0 where
  pub sixteen : (answer ≡ Err (refusal 16 0)) ↔ (tree_held n m ≡ none)
  pub fifteen : (answer ≡ Err (refusal 15 0)) ↔ ((t : Items) × (tree_held n m ≡ some t) × (room.0 < length (encode (means [] t))))
  pub octets : (k : OctetCount) → (answer ≡ Ok k) ↔ ((t : Items) × (tree_held n m ≡ some t) × (k ≡ size_of (encode (means [] t))) × (k.0 ≤ room.0))

abbrev pub WriteStateInOrder : Type 0
WriteStateInOrder =
    (n : ℕ) (m : Memory) (before after : List ℕ) (answer : Result OctetCount Refusal) → WriteStateClaim n m before after answer
    → WriteStateOrder n m (size_of before) answer

-- ---- any run of calls

-- memory holds the tree that the edits made, and "every edit keeps all stored sizes right"
abbrev pub RunHolds : Type 0
RunHolds = (n : ℕ) (m : Memory) (t : Items) → Reached n m t → (tree_held n m ≡ some t) × (take n m.bodies ≡ body_sizes 0 t)

-- "demand 2 reads the same": the normal form of the tree is an object that is accepted and means the very tree
abbrev pub RunMeans : Type 0
RunMeans = (n : ℕ) (m : Memory) (t : Items) → Reached n m t → Octets m.store → meaning (encode (means [] t)) ≡ some (means [] t)

-- "After any run of edits the tree writes the same octets as one built afresh with that content": two runs to the same content write the same, whatever came before,
-- and one of them may be an object that is taken in and never edited, whose content is its meaning
abbrev pub WritesAfresh : Type 0
WritesAfresh =
    (n k : ℕ) (m w : Memory) (t u : Items) → Reached n m t → Reached k w u → means [] t ≡ means [] u
    → (room one two : List ℕ) (a b : Result OctetCount Refusal) → WriteStateClaim n m room one a → WriteStateClaim k w room two b → (a ≡ b) × (one ≡ two)

abbrev pub TakenContent : Type 0
TakenContent = (object : List ℕ) → Octets object → (t : Items) → judge object ≡ accepted t → means [] (loaded_of t) ≡ meaning_of t
