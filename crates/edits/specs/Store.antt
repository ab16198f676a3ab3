-- What storing a value asks and leaves.
use Rattle.std.specs.Prelude.{◌≡◌, true, List, ℕ, ◌+◌, ◌≤◌, length}
use Rattle.std.proofs.Math.Option.{some}
use Rattle.std.proofs.lemmas.List.Edits.{sets}
use Rattle.text.specs.Tokens.{entries}
use Rattle.values.specs.declared.Kind.{Kind}
use Rattle.values.specs.Values.{fits}
use Rattle.values.specs.Calls.{normal_octets}
use Rattle.format.specs.Loaded.{stored}

-- a value for whose normal octets there is room
pub record ValueStorable (kind : Kind) (body store : List ℕ) (at : ℕ) : Type 0 where
  pub fit : fits kind body ≡ true
  pub room : at + length (normal_octets kind body) ≤ length store

-- and for whose stored octets there is
pub record BodyStorable (table : List ℕ) (kind : Kind) (body store : List ℕ) (at : ℕ) : Type 0 where
  pub fit : fits kind body ≡ true
  pub room : at + length (stored (entries table) (some kind) body) ≤ length store

-- its stored octets stand in the store
pub record BodyStored (octets store store' : List ℕ) (at end : ℕ) : Type 0 where
  pub ends : end ≡ at + length octets
  pub holds : store' ≡ sets store at octets
