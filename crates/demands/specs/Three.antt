-- Demand 3. Normal forms of two accepted objects are the same octets exactly when the objects mean the same, meaning being defined without the writer. A normal
-- form is accepted, means what its source meant, takes no more memory than its source, and normalises to itself.
--
-- `meaning` (format/specs/Meaning) is defined by `judge`, `means` and the values alone; the normal form `encode` stands below it in that file, and the records for
-- the writer in another. The premise `Octets` is as in Two. That normalise answers with octets says that the object is accepted and fits what is lent
-- (One, NormaliseOrder); each call may be lent other memory.
use Rattle.std.specs.Prelude.{◌≡◌, Bool, true, ◌↔◌, List, ℕ, ◌≤◌, length, take, drop, Result, Ok, false}
use Rattle.std.proofs.Math.Option.{some}
use Rattle.octets.specs.declared.counts.Octets.{Octets as OctetCount}
use Rattle.octets.specs.Numbers.{Octets}
use Rattle.format.specs.Tree.{Items, count}
use Rattle.format.specs.Judge.{judge}
use Rattle.format.specs.Judge.Judged.{accepted}
use Rattle.format.specs.Meaning.{meaning, normal_of, normal}
use Rattle.format.specs.Loaded.{store_of}
use Rattle.format.specs.Same.{same_answer, is_normal}
use Rattle.format.specs.State.{Memory, places_in}
use Rattle.format.specs.declared.Refusal.{Refusal}
use Rattle.format.specs.declared.SameRefusal.{SameRefusal}
use Rattle.state.specs.Taking.{NormaliseClaim}
use Rattle.grammar.specs.Grammar.{Accepts}

-- the normal forms of two accepted objects are the same octets exactly when the objects mean the same
abbrev pub SameNormalForms : Type 0
SameNormalForms =
    (a b : List ℕ) → Octets a → Octets b
    → (memory_a memory_a' : Memory) (room_a room_a' : List ℕ) (n : OctetCount) → NormaliseClaim a memory_a memory_a' room_a room_a' (Ok n)
    → (memory_b memory_b' : Memory) (room_b room_b' : List ℕ) (m : OctetCount) → NormaliseClaim b memory_b memory_b' room_b room_b' (Ok m)
    → (take n.0 room_a' ≡ take m.0 room_b') ↔ (meaning a ≡ meaning b)

-- a normal form is accepted and means what its source meant; behind it the room is as before
pub record NormalForm (object room room' : List ℕ) (n : OctetCount) : Type 0 where
  pub again : Items
  pub accepts : Accepts (take n.0 room') again
  pub means-same : meaning (take n.0 room') ≡ meaning object
  pub behind : drop n.0 room' ≡ drop n.0 room

abbrev pub NormalAccepted : Type 0
NormalAccepted =
    (object : List ℕ) → Octets object → (memory memory' : Memory) (room room' : List ℕ) (n : OctetCount)
    → NormaliseClaim object memory memory' room room' (Ok n) → NormalForm object room room' n

-- the normal form of an accepted object with a tree, taken as an object: it is accepted, takes no more places and no more of a store than its source, and is its
-- own normal form
pub record NoMore (t : Items) : Type 0 where
  pub again : Items
  pub accepts : judge (normal_of t) ≡ accepted again
  pub records : count again ≤ count t
  pub store : length (store_of again) ≤ length (store_of t)
  pub octets : normal_of again ≡ normal_of t

abbrev pub NormalTakesNoMore : Type 0
NormalTakesNoMore = (object : List ℕ) → Octets object → (t : Items) → judge object ≡ accepted t → length (normal_of t) ≤ 32_768 → NoMore t

-- so a normal form normalises to itself: a second call that is lent at least as many places and as large a store as the first, and a room for these octets, gives
-- them again
abbrev pub NormalAgain : Type 0
NormalAgain =
    (object : List ℕ) → Octets object
    → (memory memory' : Memory) (room room' : List ℕ) (n : OctetCount) → NormaliseClaim object memory memory' room room' (Ok n)
    → (again again' : Memory) (room₂ room₂' : List ℕ) (answer : Result OctetCount Refusal) → NormaliseClaim (take n.0 room') again again' room₂ room₂' answer
    → places_in memory ≤ places_in again → length memory.store ≤ length again.store → n.0 ≤ length room₂
    → (answer ≡ Ok n) × (take n.0 room₂' ≡ take n.0 room')

-- and whatever is lent to the second call, its octets are the same wherever it gives any
abbrev pub NormalAgainIfAny : Type 0
NormalAgainIfAny =
    (object : List ℕ) → Octets object
    → (memory memory' : Memory) (room room' : List ℕ) (n : OctetCount) → NormaliseClaim object memory memory' room room' (Ok n)
    → (again again' : Memory) (room₂ room₂' : List ℕ) (m : OctetCount) → NormaliseClaim (take n.0 room') again again' room₂ room₂' (Ok m)
    → (m ≡ n) × (take m.0 room₂' ≡ take n.0 room')

-- two accepted objects
pub record BothAccepted (a b : List ℕ) : Type 0 where
  pub tree_a : Items
  pub tree_b : Items
  pub accepted_a : judge a ≡ accepted tree_a
  pub accepted_b : judge b ≡ accepted tree_b

-- same answers `Ok true` exactly when both objects are accepted and mean the same, and `Ok false` exactly when they are and do not, however long their normal forms
pub record Comparison (a b : List ℕ) (answer : Result Bool SameRefusal) : Type 0 where
  pub same : (answer ≡ Ok true) ↔ (BothAccepted a b × (meaning a ≡ meaning b))
  pub different : (answer ≡ Ok false) ↔ (BothAccepted a b × (meaning a ≡ meaning b → ⊥))

abbrev pub SameExactly : Type 0
SameExactly = (a b : List ℕ) → Octets a → Octets b → (answer : Result Bool SameRefusal) → answer ≡ same_answer (judge a) (judge b) → Comparison a b answer

-- is_normal says yes exactly when the object is accepted and is its own normal form
abbrev pub IsNormalExactly : Type 0
IsNormalExactly = (object : List ℕ) (answer : Bool) → answer ≡ is_normal object → (answer ≡ true) ↔ (normal object ≡ some object)
