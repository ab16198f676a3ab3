-- Request 2026-06 of any memory that holds a tree (`tree_held n m ≡ some t`, format/specs/State), however it came there: by taking in, editing, normalising or merging.
-- `tree_held` is a test that the calls make themselves, so no caller is asked for anything.
use Rattle.std.specs.Prelude.{◌≡◌, true, cond, List, [], ◌∷◌, ◌++◌, ℕ, ◌≤◌, ◌<◌, eqb, length, take, get_or, Result, Ok, Err}
use Rattle.std.proofs.Math.Option.{some}
use Rattle.octets.specs.declared.counts.Octets.{Octets as OctetCount}
use Rattle.octets.specs.Numbers.{Octets}
use Rattle.text.specs.Tokens.{Entries}
use Rattle.values.specs.Table.{known}
use Rattle.format.specs.declared.Refusal.{Refusal}
use Rattle.format.specs.Tree.{Items, count, records_of, bodies_of}
use Rattle.format.specs.Tree.Items.{end, item}
use Rattle.format.specs.Judge.{judge}
use Rattle.format.specs.Judge.Judged.{accepted}
use Rattle.format.specs.Meaning.{opens, means, encode, meaning, meaning_of, table_of}
use Rattle.format.specs.Writer.{tabled}
use Rattle.format.specs.Loaded.{stored, loaded_of}
use Rattle.format.specs.Calls.{row, span_of, body_at}
use Rattle.format.specs.State.{Memory, places_in, body_sizes, tree_held}
use Rattle.format.specs.Bodies.{Bodies}
use Rattle.state.specs.Taking.{TakeInClaim, WriteStateClaim, NormaliseClaim}
use Rattle.edits.specs.Tree.{Edit, is_there}
use Rattle.edits.specs.Calls.{edited, EditClaim}
use Rattle.edits.specs.Runs.{BringsOctets}
use Rattle.merge.specs.declared.Services.{Services}
use Rattle.merge.specs.Calls.{MergeClaim, records_size}
use Rattle.demands.specs.One.{LiesIn}
use Rattle.demands.specs.Two.{BodiesFound, ReadsBack}

-- ---- "demand 2 reads the same on them"

-- what write_state writes of a tree that memory holds is accepted and means the tree, wherever the room is as long as its normal form
abbrev pub StateReadsBack : Type 0
StateReadsBack =
    (n : ℕ) (m : Memory) (before after : List ℕ) (answer : Result OctetCount Refusal) → Octets m.store → Octets after → WriteStateClaim n m before after answer
    → (t : Items) → tree_held n m ≡ some t → length (encode (means [] t)) ≤ length before
    → (k : OctetCount) × (answer ≡ Ok k) × ReadsBack t before after k

-- what the store has of each record, in the order of the records, of a tree whose texts have this token table: of an element that holds items nothing, of any other
-- item its expanded text, its value in normal form or its plain octets (`stored`, format/specs/Loaded)
unfoldable pub stored_bodies : Entries → ℕ → Items → List (List ℕ)
stored_bodies table parent end = []
stored_bodies table parent (item tag at body inside after) =
    cond (eqb tag 4) [] (cond (opens tag) ([] ∷ stored_bodies table tag inside) (stored table (known parent tag) body ∷ [])) ++ stored_bodies table parent after

-- the first n records of memory are those of the tree, in reading order; each body lies in the store, and is found there by its record's number; it is in expanded and
-- normal form already; and the seventh list has the size of each body in normal form
pub record HeldOut (n : ℕ) (m : Memory) (t : Items) : Type 0 where
  pub many : n ≡ count t
  pub stand : tabled (row m.lists) n 0 ≡ records_of t
  pub lies : LiesIn m.store t
  pub found : BodiesFound m.store t m.lists n
  pub normal : bodies_of t ≡ stored_bodies [] 0 t
  pub sizes : take n m.bodies ≡ body_sizes 0 t

abbrev pub StateHandedOut : Type 0
StateHandedOut = (n : ℕ) (m : Memory) (t : Items) → tree_held n m ≡ some t → HeldOut n m t

-- "Expanded texts and normal-form values lie in a lent store": of an object that was taken in, `span` and `body` of the store, asked for a record's number, give the
-- expanded text or the normal value of the object's own record of that number
abbrev pub TakenStored : Type 0
TakenStored =
    (object : List ℕ) (most : OctetCount) (m m' : Memory) (n : ℕ) → Octets object → TakeInClaim object most m m' (Ok n) → (t : Items)
    → judge object ≡ accepted t
    → (i : ℕ) → i < n → body_at m'.store (span_of m'.store m'.lists.starts m'.lists.sizes i) ≡ get_or (stored_bodies (table_of t) 0 t) i []

-- ---- runs of edits that begin at any memory that holds a tree

-- from n records of memory that hold a tree to those after some edits, of which some may have been refused
pub data Run (n₀ : ℕ) (m₀ : Memory) (t₀ : Items) : ℕ → Memory → Items → Type 0 where
  begun : Run n₀ m₀ t₀ n₀ m₀ t₀
  changed : (e : Edit) (m m' : Memory) (n n' : ℕ) (t u : Items) → Run n₀ m₀ t₀ n m t → Octets m.store → BringsOctets e
      → EditClaim e n m m' (Ok n') → edited e t ≡ some u → Run n₀ m₀ t₀ n' m' u
  stayed : (e : Edit) (m m' : Memory) (n : ℕ) (r : Refusal) (t : Items) → Run n₀ m₀ t₀ n m t → EditClaim e n m m' (Err r) → Run n₀ m₀ t₀ n m' t

-- memory then holds the tree that the edits made, all stored sizes are right, and what is written of it means the very tree
pub record RunEnds (n : ℕ) (m : Memory) (t : Items) : Type 0 where
  pub holds : tree_held n m ≡ some t
  pub sizes : take n m.bodies ≡ body_sizes 0 t
  pub means-it : Octets m.store → meaning (encode (means [] t)) ≡ some (means [] t)

abbrev pub RunFromHeld : Type 0
RunFromHeld =
    (n₀ : ℕ) (m₀ : Memory) (t₀ : Items) → tree_held n₀ m₀ ≡ some t₀ → (n : ℕ) (m : Memory) (t : Items) → Run n₀ m₀ t₀ n m t → RunEnds n m t

-- such memory is left by take_in, by normalise and by merge: it holds the loaded tree of the object, with as many records as it is told
pub record HoldsAfter : Type 0 where
  pub taken :
      (object : List ℕ) (most : OctetCount) (m m' : Memory) (n : ℕ) → Octets object → TakeInClaim object most m m' (Ok n)
      → (t : Items) × (judge object ≡ accepted t) × (tree_held n m' ≡ some (loaded_of t))
  pub normalised :
      (object : List ℕ) (m m' : Memory) (room room' : List ℕ) (k : OctetCount) → Octets object → NormaliseClaim object m m' room room' (Ok k)
      → (t : Items) × (judge object ≡ accepted t) × (tree_held (count t) m' ≡ some (loaded_of t))
  pub merges :
      (by : Services) (basic advanced : List ℕ) (m m' : Memory) (room room' : List ℕ) (n : ℕ) (size : OctetCount) → Octets basic → Octets advanced → Octets room'
      → MergeClaim by basic advanced m m' room room' (Ok (records_size n size))
      → (t : Items) × (judge (take size.0 room') ≡ accepted t) × (tree_held n m' ≡ some (loaded_of t))

-- "After any run of edits the tree writes the same octets as one built afresh with that content": two memories that hold trees of one content write the same
abbrev pub HeldWritesAfresh : Type 0
HeldWritesAfresh =
    (n k : ℕ) (m w : Memory) (t u : Items) → tree_held n m ≡ some t → tree_held k w ≡ some u → means [] t ≡ means [] u
    → (room one two : List ℕ) (a b : Result OctetCount Refusal) → WriteStateClaim n m room one a → WriteStateClaim k w room two b → (a ≡ b) × (one ≡ two)

-- ---- "Room freed by an edit is used again"

-- two memories that hold the same tree and were lent as many places and as long a store answer the same edit alike, whatever came before in either; so one that was
-- edited often has no less room than one into which the tree was just taken in
abbrev pub RoomUsedAgain : Type 0
RoomUsedAgain =
    (e : Edit) (n k : ℕ) (m w : Memory) (t : Items) → tree_held n m ≡ some t → tree_held k w ≡ some t → places_in m ≡ places_in w → length m.store ≡ length w.store
    → (m' w' : Memory) (a b : Result ℕ Refusal) → EditClaim e n m m' a → EditClaim e k w w' b → a ≡ b

-- an edit takes nothing away from what is lent: places and store are as many and as long after any edit
abbrev pub RoomStays : Type 0
RoomStays =
    (e : Edit) (n : ℕ) (m m' : Memory) (answer : Result ℕ Refusal) → EditClaim e n m m' answer
    → (places_in m' ≡ places_in m) × (length m'.store ≡ length m.store)

-- with 49,152 places and 32,768 octets of store an edit that names a record or place of the tree and whose result keeps the rules is refused only where the result's
-- normal form has more than 32,768 octets
abbrev pub EditAlways : Type 0
EditAlways =
    (e : Edit) (n : ℕ) (m m' : Memory) (answer : Result ℕ Refusal) → Octets m.store → BringsOctets e → EditClaim e n m m' answer → (t u : Items)
    → tree_held n m ≡ some t
    → is_there e t ≡ true → edited e t ≡ some u → 49_152 ≤ places_in m → 32_768 ≤ length m.store → length (encode (means [] u)) ≤ 32_768 → answer ≡ Ok (count u)

-- and with 16,384 places and 32,768 octets of store an object is taken in wherever its normal form is no longer than the caller says, and than 32,768 octets
abbrev pub TakeInAlways : Type 0
TakeInAlways =
    (object : List ℕ) (most : OctetCount) (m m' : Memory) (answer : Result ℕ Refusal) → Octets object → TakeInClaim object most m m' answer → (t : Items)
    → judge object ≡ accepted t
    → 16_384 ≤ places_in m → 32_768 ≤ length m.store → length (encode (meaning_of t)) ≤ most.0 → length (encode (meaning_of t)) ≤ 32_768 → answer ≡ Ok (count t)

-- ---- request 2026-08, "for any tree that isn't refused, edited ones too": of every tree that memory holds, written or not, no body has more than 32,768 octets
abbrev pub HeldBodies : Type 0
HeldBodies = (n : ℕ) (m : Memory) (t : Items) → tree_held n m ≡ some t → Bodies 32_768 (means [] t)
