-- What the walk asks and leaves that lays the loaded tree of an object, with the size of each record's body in normal form (change request 2026-06). It follows items
-- that are accepted, but carries neither their offsets nor the tags seen so far; so what it says holds of every tree that the octets have in some context with the
-- element's tag and depth.
use Rattle.std.specs.Prelude.{◌≡◌, true, cond, List, [], ◌∷◌, ◌++◌, ℕ, ◌+◌, ◌-◌, ◌^◌, ◌≤◌, ◌<◌, eqb, length, set}
use Rattle.std.proofs.Math.Option.{some}
use Rattle.std.proofs.lemmas.List.Edits.{sets}
use Rattle.text.specs.Tokens.{Entries}
use Rattle.values.specs.declared.Kind.{Kind}
use Rattle.values.specs.Table.{known}
use Rattle.values.specs.Values.{fits}
use Rattle.format.specs.declared.Record.{Record}
use Rattle.format.specs.Tree.{Items, count, kind_of, records}
use Rattle.format.specs.Tree.Items.{end, item}
use Rattle.format.specs.Judge.{is_items, is_value, judge}
use Rattle.format.specs.Judge.Judged.{accepted}
use Rattle.format.specs.Meaning.{opens, normal_of}
use Rattle.format.specs.Loaded.{stored, store_in, loaded_in, store_of, loaded_of}
use Rattle.format.specs.Calls.{put, lay}
use Rattle.format.specs.State.{Memory, places_in, lay_tree}
use Rattle.reader.specs.Filling.{Accepts, share}
use Rattle.tags.specs.declared.Listed.TheVariants.{Inside}
use Rattle.tags.specs.Listed.{listed_as}
use Rattle.survey.specs.Normal.{framed_size}
use Rattle.edits.specs.declared.lay.Level.{Level}
use Rattle.edits.specs.declared.lay.Laid.{Laid}
use Rattle.state.specs.Order.{item_adds, added_by}

-- ---- sizes of bodies, over a store, as the walk sums them up. That they are `body_sizes` of format for a tree that keeps the rules is proved (proofs/Summed)

-- what items of an element add to its body: each but a default its own body with a header, and the body of one that holds items is what these add
unfoldable pub added_in : ℕ → Items → ℕ
added_in parent end = 0
added_in parent (item tag at body inside after) =
    item_adds parent tag body (cond (opens tag) (added_in tag inside) (length body)) + added_in parent after

-- the sizes of the bodies, one for each record
unfoldable pub own_sizes : ℕ → Items → List ℕ
own_sizes parent end = []
own_sizes parent (item tag at body inside after) =
    cond (eqb tag 4) [] (cond (opens tag) (added_in tag inside) (length body) ∷ own_sizes tag inside) ++ own_sizes parent after

-- ---- the record of an item with a span of the store
abbrev pub record_at : (level : Level) (tag start size : ℕ) → Record
record_at level tag start size = record { tag = tag; kind = kind_of tag; depth = level.depth; parent = level.number; start = start; size = size }

-- numbers that its fields can hold
pub record Narrow (number start size : ℕ) : Type 0 where
  pub parent : number < 2 ^ 16
  pub first : start < 2 ^ 16
  pub long : size < 2 ^ 16

-- ---- what is counted once an item is laid

-- a value that takes the store from where the walk stood up to an end
pub record ValueCountable (done : Laid) (to : ℕ) (bodies : List ℕ) : Type 0 where
  pub within : done.next < length bodies
  pub behind : done.end ≤ to
  pub low : to ≤ 32_768
  pub few : done.next ≤ 65_535
  pub sum : done.body.0 ≤ 32_768

pub record ValueCounts (element tag : ℕ) (done : Laid) (to : ℕ) (store bodies bodies' : List ℕ) (r : Laid) : Type 0 where
  pub sizes : bodies' ≡ set bodies done.next (to - done.end)
  pub many : r.next ≡ done.next + 1
  pub ends : r.end ≡ to
  pub adds : r.body.0 ≡ done.body.0 + added_by element tag done.end (to - done.end) store (to - done.end)

-- an element, behind the items inside it
pub record InsideCountable (done inner : Laid) (bodies : List ℕ) : Type 0 where
  pub within : done.next < length bodies
  pub size : inner.body.0 ≤ 32_768
  pub sum : done.body.0 ≤ 32_768

pub record InsideCounts (done inner : Laid) (bodies bodies' : List ℕ) (r : Laid) : Type 0 where
  pub sizes : bodies' ≡ set bodies done.next inner.body.0
  pub many : r.next ≡ inner.next
  pub ends : r.end ≡ inner.end
  pub adds : r.body.0 ≡ done.body.0 + framed_size inner.body.0

-- ---- loaded items

-- places for so many records, room for so many octets of the store and of a body, which no object may pass, and numbers that the records' fields can hold
pub record Space (level : Level) (done : Laid) (many size octets : ℕ) (m : Memory) : Type 0 where
  pub above : level.number ≤ done.next
  pub few : done.next + many ≤ 65_535
  pub holds : done.next + many ≤ places_in m
  pub low : done.end + size ≤ 32_768
  pub room : done.end + size ≤ length m.store
  pub sum : done.body.0 + octets ≤ 32_768

-- items of a tree as they are loaded where the walk stands
abbrev pub loaded_at : (table : Entries) (level : Level) (done : Laid) (t : Items) → Items
loaded_at table level done t = loaded_in table level.element done.end t

abbrev pub SpaceFor : (table : Entries) (level : Level) (done : Laid) (t : Items) (m : Memory) → Type 0
SpaceFor table level done t m =
    Space level done (count (loaded_at table level done t)) (length (store_in table level.element t)) (added_in level.element (loaded_at table level done t)) m

-- the loaded items of a tree: their records and sizes laid from the next number on, what they take laid in the store, and how far that comes
pub record ItemsLeft (table : Entries) (level : Level) (done : Laid) (t : Items) (m m' : Memory) (r : Laid) : Type 0 where
  pub lists : m'.lists ≡ lay done.next (records level.depth level.number done.next (loaded_at table level done t)) m.lists
  pub sizes : m'.bodies ≡ sets m.bodies done.next (own_sizes level.element (loaded_at table level done t))
  pub holds : m'.store ≡ sets m.store done.end (store_in table level.element t)
  pub many : r.next ≡ done.next + count (loaded_at table level done t)
  pub ends : r.end ≡ done.end + length (store_in table level.element t)
  pub adds : r.body.0 ≡ done.body.0 + added_in level.element (loaded_at table level done t)

-- ---- a value

pub record ValueLayable (table : Entries) (kind : Kind) (level : Level) (done : Laid) (body : List ℕ) (m : Memory) : Type 0 where
  pub fit : fits kind body ≡ true
  pub space : Space level done 1 (length (stored table (some kind) body)) 0 m

pub record ValueLays (table : Entries) (kind : Kind) (tag : ℕ) (level : Level) (done : Laid) (body : List ℕ) (m m' : Memory) (r : Laid) : Type 0 where
  pub lists : m'.lists ≡ put done.next (record_at level tag done.end (length (stored table (some kind) body))) m.lists
  pub sizes : m'.bodies ≡ set m.bodies done.next (length (stored table (some kind) body))
  pub holds : m'.store ≡ sets m.store done.end (stored table (some kind) body)
  pub many : r.next ≡ done.next + 1
  pub ends : r.end ≡ done.end + length (stored table (some kind) body)
  pub adds : r.body.0 ≡ done.body.0 + item_adds level.element tag (stored table (some kind) body) (length (stored table (some kind) body))

-- ---- an item

-- the items inside an item, where it holds items
abbrev pub Holds : (level : Level) (tag offset : ℕ) (body : List ℕ) (inside : Items) → Type 0
Holds level tag offset body inside = is_items (known level.element tag) ≡ true → Accepts tag (level.depth + 1) offset body inside

-- its share of a tree
abbrev pub share_at : (level : Level) (tag offset : ℕ) (body : List ℕ) (inside : Items) → Items
share_at level tag offset body inside = share (known level.element tag) tag offset body inside end

pub record ItemLayable (table : Entries) (level : Level) (done : Laid) (tag : ℕ) (body : List ℕ) (m : Memory) : Type 0 where
  pub offset : ℕ
  pub inside : Items
  pub value : is_value (known level.element tag) body ≡ true
  pub deep : is_items (known level.element tag) ≡ true → level.depth ≤ 16
  pub accepts : Holds level tag offset body inside
  pub space : SpaceFor table level done (share_at level tag offset body inside) m

-- one that holds items
pub record InsideLayable (table : Entries) (level : Level) (done : Laid) (tag : ℕ) (body : List ℕ) (m : Memory) : Type 0 where
  pub holds : Inside ≡ listed_as (known level.element tag)
  pub item : ItemLayable table level done tag body m

unfoldable pub ItemLays : (table : Entries) (level : Level) (done : Laid) (tag : ℕ) (body : List ℕ) (m m' : Memory) (r : Laid) → Type 0
ItemLays table level done tag body m m' r =
    (offset : ℕ) (inside : Items) → Holds level tag offset body inside → ItemsLeft table level done (share_at level tag offset body inside) m m' r

-- ---- the items of an element

pub record ItemsLayable (table : Entries) (level : Level) (done : Laid) (part : List ℕ) (m : Memory) : Type 0 where
  pub offset : ℕ
  pub tree : Items
  pub accepts : Accepts level.element level.depth offset part tree
  pub space : SpaceFor table level done tree m

unfoldable pub ItemsLay : (table : Entries) (level : Level) (done : Laid) (part : List ℕ) (m m' : Memory) (r : Laid) → Type 0
ItemsLay table level done part m m' r =
    (offset : ℕ) (t : Items) → Accepts level.element level.depth offset part t → ItemsLeft table level done t m m' r

-- ---- an object

-- it is accepted, there are places for its records and room in the store for its texts and values, and its normal form is no longer than an object may be
pub record Layable (object : List ℕ) (m : Memory) : Type 0 where
  pub tree : Items
  pub accepts : judge object ≡ accepted tree
  pub few : count tree ≤ places_in m
  pub room : length (store_of tree) ≤ length m.store
  pub small : length (normal_of tree) ≤ 32_768

pub record LaidTree (t : Items) (m m' : Memory) (r : ℕ) : Type 0 where
  pub many : r ≡ count (loaded_of t)
  pub leaves : m' ≡ lay_tree (loaded_of t) m

unfoldable pub LaysTree : (object : List ℕ) (m m' : Memory) (r : ℕ) → Type 0
LaysTree object m m' r = (t : Items) → judge object ≡ accepted t → LaidTree t m m' r
