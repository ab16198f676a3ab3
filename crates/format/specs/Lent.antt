-- Six lent slices of numbers as the one record of lists that the claims speak of.
use Rattle.std.specs.Prelude.{◌≡◌, List, ℕ, ◌<◌, length}
use Rattle.format.specs.declared.lent.Records.{Records}
use Rattle.format.specs.declared.lent.RecordsMut.{RecordsMut}
use Rattle.format.specs.Calls.{Lists}

abbrev pub six : (tags kinds depths parents starts sizes : List ℕ) → Lists
six tags kinds depths parents starts sizes = record { tags = tags; kinds = kinds; depths = depths; parents = parents; starts = starts; sizes = sizes }

-- those of a struct of references to them: to read in, and to write in
abbrev pub shared_lists : Records → Lists
shared_lists r = six r.tags.now r.kinds.now r.depths.now r.parents.now r.starts.now r.sizes.now

abbrev pub lent_lists : RecordsMut → Lists
lent_lists r = six r.tags.now r.kinds.now r.depths.now r.parents.now r.starts.now r.sizes.now

-- the six references are those before: who made the struct of its own slices knows by this what they hold
pub record Stay (before after : RecordsMut) : Type 0 where
  pub tags : after.tags.ghost_name ≡ before.tags.ghost_name
  pub kinds : after.kinds.ghost_name ≡ before.kinds.ghost_name
  pub depths : after.depths.ghost_name ≡ before.depths.ghost_name
  pub parents : after.parents.ghost_name ≡ before.parents.ghost_name
  pub starts : after.starts.ghost_name ≡ before.starts.ghost_name
  pub sizes : after.sizes.ghost_name ≡ before.sizes.ghost_name

-- a number that each list has a place for
pub record Within (i : ℕ) (l : Lists) : Type 0 where
  pub tags : i < length l.tags
  pub kinds : i < length l.kinds
  pub depths : i < length l.depths
  pub parents : i < length l.parents
  pub starts : i < length l.starts
  pub sizes : i < length l.sizes
