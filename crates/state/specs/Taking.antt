-- How a tree comes into lent memory: it fits what is lent, or the call is refused (change request 2026-06). The place of 14 to 16 is zero.
use Rattle.std.specs.Prelude.{◌≡◌, cond, ◌&&◌, List, [], ◌∷◌, ℕ, leb, Result}
use Rattle.std.proofs.Math.Option.{Option, none, some}
use Rattle.std.proofs.lemmas.List.Edits.{sets}
use Rattle.octets.specs.declared.counts.Octets.{Octets as OctetCount}
use Rattle.octets.specs.Counts.{size_of, octets_within}
use Rattle.format.specs.declared.Refusal.{Refusal}
use Rattle.format.specs.Answers.{refusal}
use Rattle.format.specs.Tree.{Items, count}
use Rattle.format.specs.Judge.{Judged, first, rule, unless, judge}
use Rattle.format.specs.Judge.Judged.{refused, accepted}
use Rattle.format.specs.Meaning.{means, encode, normal_of}
use Rattle.format.specs.Loaded.{loaded_of}
use Rattle.format.specs.Calls.{Lent, roomy, fits_lent, edit_answer, write_answer, write_octets, normal_answer, handed}
use Rattle.format.specs.Lent.{six, shared_lists}
use Rattle.format.specs.State.{Memory, places_in, body_sizes, packed_store, lay_tree, tree_in, tree_held}
use Rattle.state.specs.declared.lent.Memory.{Memory as MemoryShared}

-- the memory that eight lent slices are
abbrev pub memory : (tags kinds depths parents starts sizes bodies store : List ℕ) → Memory
memory tags kinds depths parents starts sizes bodies store =
    record { lists = six tags kinds depths parents starts sizes; bodies = bodies; store = store }

-- and that of a struct of references to them
abbrev pub shared_memory : MemoryShared → Memory
shared_memory m = record { lists = shared_lists m.records; bodies = m.bodies.now; store = m.store.now }

-- "14 if its records don't fit; then 15 exactly when its texts and values together exceed the store or its normal form 32,768 octets", or so many octets as the caller
-- has room for
unfoldable pub overflow : OctetCount → Memory → Items → Option Refusal
overflow most m t =
    let stored = octets_within (size_of (packed_store t)) (size_of m.store) in
    first (rule 14 0 (leb (count t) (places_in m)) ∷ rule 15 0 (stored && roomy most (encode (means [] t))) ∷ [])

-- what a call comes to is a refusal, or the tree that memory then holds: 16 where there is none that keeps the rules, else 14 and 15
unfoldable pub settled : OctetCount → Memory → Option Items → Judged
settled most m none = refused (refusal 16 0)
settled most m (some t) = unless (overflow most m t) (accepted t)

-- an object that is taken in: 1 to 13, then 14 and 15 for its loaded tree ("also for the tree first taken in")
unfoldable pub taken_in : OctetCount → Memory → Judged → Judged
taken_in most m (refused r) = refused r
taken_in most m (accepted t) = settled most m (some (loaded_of t))

-- "A refused edit changes nothing"; on success memory is what laying the new tree leaves, with all sizes of bodies ("every edit keeps all stored sizes right")
unfoldable pub left : Judged → Memory → Memory
left (refused r) m = m
left (accepted t) m = lay_tree t m

-- the answer is how many records there are then, or the refusal
pub record Leaves (outcome : Judged) (m m' : Memory) (answer : Result ℕ Refusal) : Type 0 where
  pub answers : answer ≡ edit_answer outcome
  pub leaves : m' ≡ left outcome m

abbrev pub TakeInClaim : (object : List ℕ) (most : OctetCount) (m m' : Memory) (answer : Result ℕ Refusal) → Type 0
TakeInClaim object most m m' answer = Leaves (taken_in most m (judge object)) m m' answer

-- what is lent to normalise
abbrev pub lent_by : Memory → List ℕ → Lent
lent_by m room = record { records = places_in m; store = size_of m.store; room = size_of room }

-- the loaded tree of an accepted object that fits what is lent, laid over what memory holds
unfoldable pub loaded_into : Lent → Judged → Memory → Memory
loaded_into lent (refused r) m = m
loaded_into lent (accepted t) m = cond (fits_lent lent t) (lay_tree (loaded_of t) m) m

-- normalise, an object taken in and written: memory holds its loaded tree then, and the room its normal form
pub record NormaliseClaim (object : List ℕ) (m m' : Memory) (room room' : List ℕ) (answer : Result OctetCount Refusal) : Type 0 where
  pub answers : answer ≡ normal_answer (lent_by m room) (judge object)
  pub leaves : m' ≡ loaded_into (lent_by m room) (judge object) m
  pub writes : room' ≡ sets room 0 (handed (lent_by m room) normal_of (judge object))

-- the sizes of bodies that writing a tree leaves: those of all its records, or none where it is refused
unfoldable pub write_sizes : OctetCount → Option Items → List ℕ
write_sizes room none = []
write_sizes room (some t) = cond (roomy room (encode (means [] t))) (body_sizes 0 t) []

-- records over octets that a caller lends are written: 16 where they are no tree, else 15, else the octets of its normal form. The size of each record's body stands in
-- the seventh list then, for that of an element comes before its header; what the list held before doesn't matter
pub record WriteClaim (n : ℕ) (m : Memory) (bodies' before after : List ℕ) (answer : Result OctetCount Refusal) : Type 0 where
  pub answers : answer ≡ write_answer (size_of before) (tree_in n m)
  pub sizes : bodies' ≡ sets m.bodies 0 (write_sizes (size_of before) (tree_in n m))
  pub leaves : after ≡ sets before 0 (write_octets (size_of before) (tree_in n m))

-- what memory holds is written likewise, and its sizes stand as they are
pub record WriteStateClaim (n : ℕ) (m : Memory) (before after : List ℕ) (answer : Result OctetCount Refusal) : Type 0 where
  pub answers : answer ≡ write_answer (size_of before) (tree_held n m)
  pub leaves : after ≡ sets before 0 (write_octets (size_of before) (tree_held n m))
