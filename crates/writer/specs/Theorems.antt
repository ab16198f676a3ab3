-- What theorems of the writer say, beyond the claim of its call.
use Rattle.std.specs.Prelude.{◌≡◌, Bool, true, not, ◌&&◌, List, [], ℕ, eqb, take, drop}
use Rattle.std.proofs.Math.Option.{some}
use Rattle.std.proofs.lemmas.List.Edits.{sets}
use Rattle.octets.specs.declared.counts.Octets.{Octets}
use Rattle.format.specs.Tree.{Items}
use Rattle.format.specs.Tree.Items.{end, item}
use Rattle.format.specs.Meaning.{means, encode, meaning}
use Rattle.format.specs.Calls.{tree_given}
use Rattle.format.specs.State.{Memory, body_sizes}

-- an object that has no token table
unfoldable pub tableless : Items → Bool
tableless end = true
tableless (item tag at body inside after) = not (eqb tag 4) && tableless inside && tableless after

-- k octets were written from records: they are the normal form of the records' tree, they are accepted and mean what that tree means, and behind them the room
-- is as before. The size of each record's body stands in the list for them
pub record Delivered (n : ℕ) (m : Memory) (bodies' before after : List ℕ) (k : Octets) : Type 0 where
  pub tree : Items
  pub given : tree_given n m.lists m.store ≡ some tree
  pub sizes : bodies' ≡ sets m.bodies 0 (body_sizes 0 tree)
  pub octets : take k.0 after ≡ encode (means [] tree)
  pub meant : meaning (take k.0 after) ≡ some (means [] tree)
  pub rest : drop k.0 after ≡ drop k.0 before
