-- Request 2026-08: a 24-bit length is written only for a body above 65,535 octets, and no tree that isn't refused has one, whether it was given as records, taken in,
-- edited, or the meaning of an object. So two forms of a length suffice (`length_field`, octets/specs/Header).
use Rattle.std.specs.Prelude.{◌≡◌, List, [], ℕ, Ok}
use Rattle.std.proofs.Math.Option.{some}
use Rattle.octets.specs.declared.counts.Octets.{Octets as OctetCount}
use Rattle.format.specs.Tree.{Items}
use Rattle.format.specs.Judge.{judge}
use Rattle.format.specs.Judge.Judged.{accepted}
use Rattle.format.specs.Meaning.{means, meaning_of}
use Rattle.format.specs.State.{Memory, tree_held}
use Rattle.format.specs.Bodies.{Bodies}
use Rattle.state.specs.Taking.{WriteClaim, NormaliseClaim, WriteStateClaim}
use Rattle.demands.specs.One.{GivenTree}

-- write
abbrev pub WriteBodies : Type 0
WriteBodies =
    (n : ℕ) (memory : Memory) (bodies' before after : List ℕ) (k : OctetCount) → WriteClaim n memory bodies' before after (Ok k)
    → (t : Items) × GivenTree n memory t × Bodies 32_768 (means [] t)

-- normalise
abbrev pub NormaliseBodies : Type 0
NormaliseBodies =
    (object : List ℕ) (memory memory' : Memory) (room room' : List ℕ) (k : OctetCount) → NormaliseClaim object memory memory' room room' (Ok k)
    → (t : Items) × (judge object ≡ accepted t) × Bodies 32_768 (meaning_of t)

-- write_state, whatever edits made of the tree in memory
abbrev pub StateBodies : Type 0
StateBodies =
    (n : ℕ) (memory : Memory) (before after : List ℕ) (k : OctetCount) → WriteStateClaim n memory before after (Ok k)
    → (t : Items) × (tree_held n memory ≡ some t) × Bodies 32_768 (means [] t)
