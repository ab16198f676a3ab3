-- What the parts of measuring answer: what is measured of an item, and the sizes of items in the order in which they are read. That these are the
-- sizes of document 01's normal form and of the store is proved (proofs/WholeSizes), so nobody who reads document 01 has to believe them.
use Rattle.std.specs.Prelude.{◌≡◌, true, cond, not, ◌&&◌, ◌||◌, List, [], ℕ, ◌+◌, ◌≤◌, min, eqb, leb, length, Some, None, Option as Optional}
use Rattle.std.proofs.Math.Option.{Option, none, some}
use Rattle.octets.specs.Counts.{as_octets}
use Rattle.text.specs.Tokens.{Entries}
use Rattle.values.specs.declared.Kind.{Kind}
use Rattle.values.specs.Table.{known}
use Rattle.values.specs.Values.{fits, meant, octets_of}
use Rattle.values.specs.Calls.{default_octets}
use Rattle.format.specs.Tree.{Items}
use Rattle.format.specs.Tree.Items.{end, item}
use Rattle.format.specs.Judge.{is_known, is_items, is_tokens}
use Rattle.format.specs.Meaning.{opens}
use Rattle.reader.specs.Filling.{Accepts, share}
use Rattle.survey.specs.Normal.{framed_size}
use Rattle.survey.specs.Makers.{store_octets}
use Rattle.survey.specs.declared.measure.Part.{Part}
use Rattle.survey.specs.declared.measure.Part.TheVariants.{Nothing, Kept, Inside, Octets}
use Rattle.survey.specs.declared.measure.Sizes.{Sizes}

-- the normal octets of a known item that holds no items; none where it is no value of its kind, which no accepted item is
unfoldable pub taken : Entries → Option Kind → List ℕ → List ℕ
taken table none o = []
taken table (some k) o = cond (fits k o) (octets_of (meant table k o)) []

-- what is measured of an item of a kind
unfoldable pub part_of : Entries → Option Kind → List ℕ → Part
part_of table k o = cond (is_items k) Inside (cond (is_known k && not (is_tokens k)) (Octets (as_octets (min 32_769 (length (taken table k o))))) Nothing)

-- what is measured of an item: a default has its octet in the store and none in the normal form (change request 2026-05)
unfoldable pub part_in : Entries → (parent tag : ℕ) → List ℕ → Part
part_in table parent tag o = cond (default_octets parent tag o) Kept (part_of table (known parent tag) o)

-- how much of a store the items of an element take
unfoldable pub room_in : Entries → ℕ → Items → ℕ
room_in table parent end = 0
room_in table parent (item tag at body inside after) =
    cond (eqb tag 4) 0 (cond (opens tag) (room_in table tag inside) (length (taken table (known parent tag) body))) + room_in table parent after

-- and how many octets they have in normal form
unfoldable pub size_in : Entries → ℕ → Items → ℕ
size_in table parent end = 0
size_in table parent (item tag at body inside after) =
    cond (eqb tag 4 || default_octets parent tag body) 0 (framed_size (cond (opens tag) (size_in table tag inside) (length (taken table (known parent tag) body))))
    + size_in table parent after

-- both as an answer, which has none where the normal form has more octets than an object may have
unfoldable pub sizes_of : (store octets : ℕ) → Optional Sizes
sizes_of store octets = cond (leb octets 32_768) (Some (store_octets (as_octets store) (as_octets octets))) None

abbrev pub sizes_in : Entries → ℕ → Items → Optional Sizes
sizes_in table parent t = sizes_of (room_in table parent t) (size_in table parent t)

-- no answer for so many octets tells more in normal form than an object may have, nor more of a store than those and these: a default stands among these alone
abbrev pub Small : ℕ → Optional Sizes → Type 0
Small n None = Unit {0}
Small n (Some sizes) = (sizes.store.0 ≤ sizes.octets.0 + n) × (sizes.octets.0 ≤ 32_768)

-- the answer for the items in a part, of every tree that it has in some context whose depth leaves so many levels (rule 7)
pub record ItemsMeasured (table : Entries) (parent left : ℕ) (part : List ℕ) (r : Optional Sizes) : Type 0 where
  pub small : Small (length part) r
  pub told : (depth offset : ℕ) (t : Items) → depth + left ≡ 17 → Accepts parent depth offset part t → r ≡ sizes_in table parent t

-- the items inside an item, where it holds items
abbrev pub Opens : (parent tag depth offset : ℕ) → List ℕ → Items → Type 0
Opens parent tag depth offset body inside = is_items (known parent tag) ≡ true → (depth ≤ 16) × Accepts tag (depth + 1) offset body inside

-- the answer for one item: its share of a tree
pub record ItemMeasured (table : Entries) (parent tag left : ℕ) (body : List ℕ) (r : Optional Sizes) : Type 0 where
  pub small : Small (length body) r
  pub told : (depth offset : ℕ) (inside : Items) → depth + left ≡ 17 → Opens parent tag depth offset body inside
      → r ≡ sizes_in table parent (share (known parent tag) tag offset body inside end)
