-- What the functions that fill the lent lists ask and leave. They follow items that are accepted, but carry neither the token table nor the tags seen so far;
-- so what they say holds of every tree that the octets have in some context with the element's tag and depth.
use Rattle.std.specs.Prelude.{◌≡◌, true, cond, List, ℕ, ◌+◌, ◌^◌, ◌≤◌, ◌<◌, length}
use Rattle.std.proofs.Math.Option.{Option}
use Rattle.values.specs.declared.Kind.{Kind}
use Rattle.values.specs.Table.{known}
use Rattle.format.specs.Tree.{Items, count, records}
use Rattle.format.specs.Tree.Items.{end, item}
use Rattle.format.specs.Judge.{Context, is_known, is_items, read}
use Rattle.format.specs.Judge.Judged.{accepted}
use Rattle.format.specs.Calls.{Lists, places, lay}
use Rattle.reader.specs.declared.filling.Place.{Place}

-- the fields of a record have room for these numbers
pub record Narrow (place : Place) (body : List ℕ) : Type 0 where
  pub parent : place.number < 2 ^ 16
  pub start : place.offset < 2 ^ 16
  pub size : length body < 2 ^ 16

-- a part at an offset is accepted as the items of an element, and these are its tree
pub record Accepts (element depth offset : ℕ) (part : List ℕ) (t : Items) : Type 0 where
  pub context : Context
  pub is_element : context.parent ≡ element
  pub is_depth : context.depth ≡ depth
  pub reads : read context offset part ≡ accepted t

-- places for so many records, and numbers that their fields can hold
pub record Room (place : Place) (many size : ℕ) (l : Lists) : Type 0 where
  pub above : place.number ≤ place.next
  pub few : place.next + many ≤ 32_768
  pub low : place.offset + size ≤ 32_768
  pub holds : place.next + many ≤ places l

pub record Fillable (place : Place) (part : List ℕ) (l : Lists) : Type 0 where
  pub tree : Items
  pub accepts : Accepts place.element place.depth place.offset part tree
  pub room : Room place (count tree) (length part) l

-- the records of a tree laid from the place's next number on, and the number behind them
pub record Filled (place : Place) (t : Items) (l l' : Lists) (behind : ℕ) : Type 0 where
  pub laid : l' ≡ lay place.next (records place.depth place.number place.next t) l
  pub many : behind ≡ place.next + count t

unfoldable pub Fills : (place : Place) (part : List ℕ) (l l' : Lists) (behind : ℕ) → Type 0
Fills place part l l' behind = (t : Items) → Accepts place.element place.depth place.offset part t → Filled place t l l' behind

-- an item's share of a tree, by its kind, with the items after it (as byKind of format has it)
unfoldable pub share : Option Kind → (tag start : ℕ) (body : List ℕ) (inside after : Items) → Items
share k tag start body inside after = cond (is_items k) (item tag start body inside after) (cond (is_known k) (item tag start body end after) after)

-- the items inside an item, where it holds items
abbrev pub Inside : (place : Place) (tag : ℕ) (body : List ℕ) (inside : Items) → Type 0
Inside place tag body inside = is_items (known place.element tag) ≡ true → Accepts tag (place.depth + 1) place.offset body inside

-- an item's share alone
abbrev pub share_of : (place : Place) (tag : ℕ) (body : List ℕ) (inside : Items) → Items
share_of place tag body inside = share (known place.element tag) tag place.offset body inside end

pub record ItemFillable (place : Place) (tag : ℕ) (body : List ℕ) (l : Lists) : Type 0 where
  pub inside : Items
  pub accepts : Inside place tag body inside
  pub deep : is_items (known place.element tag) ≡ true → place.depth ≤ 16
  pub room : Room place (count (share_of place tag body inside)) (length body) l

unfoldable pub ItemFills : (place : Place) (tag : ℕ) (body : List ℕ) (l l' : Lists) (behind : ℕ) → Type 0
ItemFills place tag body l l' behind = (inside : Items) → Inside place tag body inside → Filled place (share_of place tag body inside) l l' behind
