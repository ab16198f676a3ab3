-- What a part of the result takes, and what the functions say that count it and, where they are told to, put it into the room.
use Rattle.std.specs.Prelude.{◌≡◌, Bool, false, cond, List, [], ◌∷◌, ◌++◌, ℕ, suc, ◌+◌, ◌≤◌, min, length}
use Rattle.std.proofs.Math.Option.{Option, none, some, map}
use Rattle.std.proofs.lemmas.List.Edits.{sets}
use Rattle.octets.specs.Counts.{as_octets}
use Rattle.octets.specs.Header.{length_field, framed}
use Rattle.text.specs.Tokens.{Entries, entries}
use Rattle.text.specs.Index.{Indexes, entries_by}
use Rattle.values.specs.declared.Kind.{Kind}
use Rattle.values.specs.Table.{known}
use Rattle.values.specs.Values.{Value, octets_of}
use Rattle.format.specs.Tree.{Items}
use Rattle.format.specs.Meaning.{Meaning, attributes_in, rising, encode}
use Rattle.reader.specs.Filling.{Accepts}
use Rattle.survey.specs.Sizes.{taken}
use Rattle.compare.specs.Items.{counted_of_tag}
use Rattle.merge.specs.Merged.{either, united}
use Rattle.merge.specs.Sizes.{taken_by, records_in, stored_in}
use Rattle.merging.specs.declared.counting.Needs.{Needs}

-- no count goes above this; no slice is as long
abbrev pub most : ℕ
most = 9_223_372_036_854_775_808

unfoldable pub plus : Needs → (records store octets : ℕ) → Needs
plus n records store octets =
    record { records = min most (n.records + records); store = as_octets (min most (n.store.0 + store)); octets = as_octets (min most (n.octets.0 + octets)) }

-- ---- parts of a result

-- records, octets of a store, and the octets in normal form
pub record Piece : Type 0 where
  pub records : ℕ
  pub store : ℕ
  pub octets : List ℕ

unfoldable pub empty : Piece
empty = record { records = 0; store = 0; octets = [] }

unfoldable pub with : Piece → Piece → Piece
with p q = record { records = p.records + q.records; store = p.store + q.store; octets = p.octets ++ q.octets }

-- an item that holds no items, by its octets in normal form
unfoldable pub single : ℕ → List ℕ → Piece
single tag o = record { records = 1; store = length o; octets = framed tag o }

-- an element with what it holds
unfoldable pub held : ℕ → Piece → Piece
held tag p = record { records = suc p.records; store = p.store; octets = framed tag p.octets }

unfoldable pub if_there : ℕ → Option (List ℕ) → Piece
if_there tag none = empty
if_there tag (some o) = single tag o

-- elements
unfoldable pub piece_of : Meaning → Piece
piece_of m = record { records = records_in m; store = stored_in m; octets = encode m }

-- attributes, as a set
unfoldable pub attributes_of : (ℕ → Option Value) → Piece
attributes_of f = record { records = taken_by (λ v. 1) 128 0x80 f; store = taken_by (λ v. length (octets_of v)) 128 0x80 f; octets = rising 128 0x80 f }

-- ---- what is counted and put

-- behind what was counted before; where a result has more octets than an object may have, nothing is said of the room
pub record Adds (emit : Bool) (p : Piece) (n : Needs) (before after : List ℕ) (r : Needs) : Type 0 where
  pub records : r.records ≡ min most (n.records + p.records)
  pub store : r.store.0 ≡ min most (n.store.0 + p.store)
  pub octets : r.octets.0 ≡ min most (n.octets.0 + length p.octets)
  pub holds : n.octets.0 + length p.octets ≤ min (length before) 32_768 → after ≡ cond emit (sets before n.octets.0 p.octets) before
  pub quiet : emit ≡ false → after ≡ before
  pub long : length after ≡ length before

-- the header of a body of so many octets, which comes behind it
pub record HeaderPut (emit : Bool) (tag size : ℕ) (n : Needs) (before after : List ℕ) (r : Needs) : Type 0 where
  pub records : r.records ≡ min most (n.records + 1)
  pub store : r.store.0 ≡ min most (n.store.0 + 0)
  pub octets : r.octets.0 ≡ min most (n.octets.0 + suc (length (length_field size)))
  pub holds : n.octets.0 + suc (length (length_field size)) + size ≤ min (length before) 32_768 → after ≡ cond emit (sets before n.octets.0 (tag ∷ length_field size)) before
  pub quiet : emit ≡ false → after ≡ before
  pub long : length after ≡ length before

-- the header of an element that was begun as if it had two octets, the fewest, once the body behind these is put
unfoldable pub ElementClosed : (emit : Bool) (tag : ℕ) (n begun inside : Needs) (before after : List ℕ) (r : Needs) → Type 0
ElementClosed emit tag n begun inside before after r =
    (p : Piece) (first : List ℕ) → begun ≡ plus n 1 0 2 → Adds emit p begun first before inside → Adds emit (held tag p) n first after r

-- the octets of a value in normal form, from a place on
pub record ValueLaid (kind : Kind) (index table body : List ℕ) (at : ℕ) (before after : List ℕ) : Type 0 where
  pub holds : at + length (taken (entries_by index table) (some kind) body) ≤ length before → after ≡ sets before at (taken (entries_by index table) (some kind) body)
  pub long : length after ≡ length before

unfoldable pub ValuePut : (emit : Bool) (kind : Kind) (index table body : List ℕ) (size : ℕ) (n : Needs) (before after : List ℕ) (r : Needs) → Type 0
ValuePut emit kind index table body size n before after r =
    let o = taken (entries_by index table) (some kind) body in
    size ≡ min most (length o) → Adds emit (record { records = 0; store = length o; octets = o }) n before after r

unfoldable pub SinglePut : (emit : Bool) (kind : Kind) (tag : ℕ) (index table body : List ℕ) (n : Needs) (before after : List ℕ) (r : Needs) → Type 0
SinglePut emit kind tag index table body n before after r =
    Indexes (entries table) index → Adds emit (single tag (taken (entries_by index table) (some kind) body)) n before after r

-- the octets in normal form of the item of a tag in a part, where it is there and counts
unfoldable pub octets_by : Entries → Option Kind → Option (List ℕ) → Option (List ℕ)
octets_by es none o = none
octets_by es (some k) o = map (taken es (some k)) o

unfoldable pub octets_in : Entries → (parent tag : ℕ) → List ℕ → Option (List ℕ)
octets_in es parent tag part = octets_by es (known parent tag) (counted_of_tag parent tag part)

-- of two partners
unfoldable pub either_in : Entries → Entries → (parent tag : ℕ) → List ℕ → List ℕ → Option (List ℕ)
either_in es fs parent tag a b = either (octets_in es parent tag a) (octets_in fs parent tag b)

unfoldable pub EitherPut : (emit : Bool) (parent tag : ℕ) (index table a index' table' b : List ℕ) (n : Needs) (before after : List ℕ) (r : Needs) → Type 0
EitherPut emit parent tag index table a index' table' b n before after r =
    Indexes (entries table) index → Indexes (entries table') index' → Adds emit (if_there tag (either_in (entries_by index table) (entries_by index' table') parent tag a b)) n before after r

unfoldable pub AttributesPut : (emit : Bool) (parent : ℕ) (index table a index' table' b : List ℕ) (n : Needs) (before after : List ℕ) (r : Needs) → Type 0
AttributesPut emit parent index table a index' table' b n before after r =
    (d e i j : ℕ) (t u : Items) → Indexes (entries table) index → Indexes (entries table') index' → Accepts parent d i a t → Accepts parent e j b u
    → Adds emit (attributes_of (united (attributes_in (entries_by index table) parent t) (attributes_in (entries_by index' table') parent u))) n before after r
