-- The items of an object with folded texts, laid into a room where they fit.
use Rattle.std.specs.Prelude.{◌≡◌, List, [], ℕ, ◌+◌, length}
use Rattle.text.specs.Tokens.{Entries}
use Rattle.values.specs.Table.{known}
use Rattle.format.specs.Tree.{Items}
use Rattle.format.specs.Tree.Items.{end}
use Rattle.reader.specs.Filling.{Accepts, share}
use Rattle.fold.specs.Packed.{refolded}
use Rattle.packer.specs.Sizing.{Opens}
use Rattle.packer.specs.Laying.{Placed}

-- the items in a part, of every tree that it has
pub record ItemsEmitted (es : Entries) (parent left : ℕ) (part before after : List ℕ) (at r : ℕ) : Type 0 where
  pub long : length after ≡ length before
  pub told : (depth offset : ℕ) (t : Items) → depth + left ≡ 17 → Accepts parent depth offset part t → Placed (refolded es [] parent t) before after at r

-- one item
pub record ItemEmitted (es : Entries) (parent tag left : ℕ) (body before after : List ℕ) (at r : ℕ) : Type 0 where
  pub long : length after ≡ length before
  pub told : (depth offset : ℕ) (inside : Items) → depth + left ≡ 17 → Opens parent tag depth offset body inside
      → Placed (refolded es [] parent (share (known parent tag) tag offset body inside end)) before after at r
