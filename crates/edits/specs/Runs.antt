-- Runs of calls: an object is taken in, and then come edits (change request 2026-06: "After any run of edits the tree writes the same octets as one built afresh with
-- that content"). Each call is known by its claim alone.
use Rattle.std.specs.Prelude.{◌≡◌, List, ℕ, Ok, Err}
use Rattle.std.proofs.Math.Option.{some}
use Rattle.octets.specs.declared.counts.Octets.{Octets as OctetCount}
use Rattle.octets.specs.Numbers.{Octets}
use Rattle.format.specs.declared.Refusal.{Refusal}
use Rattle.format.specs.Tree.{Items}
use Rattle.format.specs.Judge.{judge}
use Rattle.format.specs.Judge.Judged.{accepted}
use Rattle.format.specs.Loaded.{loaded_of}
use Rattle.format.specs.State.{Memory}
use Rattle.state.specs.Taking.{TakeInClaim}
use Rattle.edits.specs.Tree.{Edit}
use Rattle.edits.specs.Tree.Edit.{replace, remove, insert}
use Rattle.edits.specs.Calls.{EditClaim, edited}

-- what an edit brings are octets, as a lent slice always has
abbrev pub BringsOctets : Edit → Type 0
BringsOctets (replace i text) = Octets text
BringsOctets (remove i) = Unit {0}
BringsOctets (insert i k element) = Octets element

-- n records of memory, and the tree that the calls up to here made: one taken in, then edits, of which some may have been refused
pub data Reached : ℕ → Memory → Items → Type 0 where
  taken : (object : List ℕ) (most : OctetCount) (m m' : Memory) (n : ℕ) (t : Items) → Octets object → judge object ≡ accepted t → TakeInClaim object most m m' (Ok n)
      → Reached n m' (loaded_of t)
  changed : (e : Edit) (m m' : Memory) (n n' : ℕ) (t u : Items) → Reached n m t → Octets m.store → BringsOctets e
      → EditClaim e n m m' (Ok n') → edited e t ≡ some u → Reached n' m' u
  stayed : (e : Edit) (m m' : Memory) (n : ℕ) (r : Refusal) (t : Items) → Reached n m t → EditClaim e n m m' (Err r) → Reached n m' t
