-- Sizes of items with folded texts, told of every tree that octets have in some context whose depth leaves so many levels (rule 7).
use Rattle.std.specs.Prelude.{◌≡◌, true, List, [], ℕ, ◌+◌, ◌*◌, ◌≤◌, length}
use Rattle.text.specs.Tokens.{Entries}
use Rattle.values.specs.Table.{known}
use Rattle.format.specs.Tree.{Items}
use Rattle.format.specs.Tree.Items.{end}
use Rattle.format.specs.Judge.{is_items}
use Rattle.reader.specs.Filling.{Accepts, share}
use Rattle.fold.specs.Packed.{refolded}

-- the items in a part
pub record ItemsSized (es : Entries) (parent left : ℕ) (part : List ℕ) (r : ℕ) : Type 0 where
  pub small : r ≤ 2 * length part
  pub told : (depth offset : ℕ) (t : Items) → depth + left ≡ 17 → Accepts parent depth offset part t → r ≡ length (refolded es [] parent t)

-- the items inside an item, where it holds items
abbrev pub Opens : (parent tag depth offset : ℕ) → List ℕ → Items → Type 0
Opens parent tag depth offset body inside = is_items (known parent tag) ≡ true → (depth ≤ 16) × Accepts tag (depth + 1) offset body inside

-- one item: its share of a tree
pub record ItemSized (es : Entries) (parent tag left : ℕ) (body : List ℕ) (r : ℕ) : Type 0 where
  pub small : r ≤ 2 * length body + 4
  pub told : (depth offset : ℕ) (inside : Items) → depth + left ≡ 17 → Opens parent tag depth offset body inside
      → r ≡ length (refolded es [] parent (share (known parent tag) tag offset body inside end))
