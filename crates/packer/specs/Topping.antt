-- The attributes of the top, laid into a room, up to the place where the token table comes.
use Rattle.std.specs.Prelude.{◌≡◌, List, [], ◌++◌, ℕ, ◌+◌, ◌≤◌, length, drop}
use Rattle.octets.specs.Numbers.{Octets}
use Rattle.octets.specs.Header.{framed}
use Rattle.text.specs.Tokens.{Entries, entries}
use Rattle.format.specs.Tree.{Items}
use Rattle.format.specs.Tree.Items.{end, item}
use Rattle.format.specs.Judge.{judge}
use Rattle.format.specs.Judge.Judged.{accepted}
use Rattle.reader.specs.Filling.{Accepts}
use Rattle.fold.specs.Packed.{refolded}
use Rattle.packer.specs.declared.topping.Reached.{Reached}
use Rattle.packer.specs.Laying.{Placed}

pub record Parted (es : Entries) (p depth offset : ℕ) (part : List ℕ) (whole : Items) (before out : List ℕ) (at stop i : ℕ) : Type 0 where
  pub rest : Items
  pub done : List ℕ
  pub accepts : Accepts p depth (offset + i) (drop i part) rest
  pub octets : (table : List ℕ) → refolded es table p whole ≡ done ++ refolded es table p rest
  pub lays : Placed done before out at stop

-- what is left begins with the table
pub record Fronted (es : Entries) (p depth offset : ℕ) (part : List ℕ) (whole : Items) (before out : List ℕ) (at stop i : ℕ) : Type 0 where
  pub parted : Parted es p depth offset part whole before out at stop i
  pub front : (table : List ℕ) → refolded es table p parted.rest ≡ table ++ refolded es [] p parted.rest

pub record AttributesEmitted (es : Entries) (p left : ℕ) (part before after : List ℕ) (at : ℕ) (r : Reached) : Type 0 where
  pub inside : r.place ≤ length part
  pub long : length after ≡ length before
  pub told : (depth offset : ℕ) (t : Items) → depth + left ≡ 17 → Accepts p depth offset part t → Fronted es p depth offset part t before after at r.end r.place

-- what the top of an object holds, folded by a token table, which stands right behind its attributes; and the whole object
unfoldable pub held_with : List ℕ → Items → List ℕ
held_with table end = []
held_with table (item tag at body inside after) = refolded (entries table) (framed 4 table) tag inside

unfoldable pub folded_with : List ℕ → Items → List ℕ
folded_with table end = []
folded_with table (item tag at body inside after) = framed tag (held_with table (item tag at body inside after))

pub record TopSized (object table : List ℕ) (r : ℕ) : Type 0 where
  pub small : r ≤ 69_648
  pub told : (t : Items) → Octets object → judge object ≡ accepted t → r ≡ length (held_with table t)

pub record TopEmitted (object table : List ℕ) (size : ℕ) (before after : List ℕ) (r : ℕ) : Type 0 where
  pub long : length after ≡ length before
  pub told : (t : Items) → Octets object → judge object ≡ accepted t → size ≡ length (held_with table t) → Placed (folded_with table t) before after 0 r
