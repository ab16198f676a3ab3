-- A tree that memory may hold. Packing a tree that keeps the rules makes such a tree, of the same meaning.
use mathlib.Core.Path.{◌≡◌}
use mathlib.Core.Bool.{true}
use mathlib.Core.List.{List, []}
use Prim.Native.Nat.{ℕ, ◌<◌}
use native.Mathlib.Omega.{arith}
use Rattle.octets.specs.Numbers.{Octets}
use Rattle.text.proofs.Expansion.{sound_empty}
use Rattle.format.specs.Tree.{Items, count}
use Rattle.format.specs.Judge.{judge}
use Rattle.format.specs.Judge.Judged.{accepted}
use Rattle.format.specs.Meaning.{means}
use Rattle.format.specs.Writer.{at_top, ruled}
use Rattle.format.specs.Loaded.{loaded_of}
use Rattle.format.specs.Calls.{row}
use Rattle.format.specs.State.{Memory, packed, packed_store}
use Rattle.format.proofs.Told.{Told}
use Rattle.format.proofs.Written.{Bytes, ruled-told}
use Rattle.format.proofs.Loading.{loaded-meant, loaded-keeps, loaded-counts, loaded-ruled, loaded-count}
use Rattle.format.proofs.Rebuilt.{whole-count}
use Rattle.format.proofs.Calls.{some-record}
use Rattle.state.proofs.Packed.{loaded-again, accepted-packs}
use Rattle.state.proofs.HeldTree.{Held}

-- it is packed, keeps the rules, and there is a record
pub record Standing (t : Items) : Type 0 where
  pub packs : packed t ≡ t
  pub rules : ruled at_top t ≡ true
  pub one : 0 < count t

-- what is held stands, and so does the loaded tree of an accepted object
pub held-stands : (n : ℕ) (m : Memory) (t : Items) → Held n m t → Standing t
held-stands n m t h = record { packs = h.packs; rules = h.whole.rules; one = omega (arith, h.whole.some, whole-count (row m.lists) n m.store t h.whole) }

pub loaded-stands : (o : List ℕ) (t : Items) → Octets o → judge o ≡ accepted t → Standing (loaded_of t)
loaded-stands o t os h = record { packs = accepted-packs o t os h; rules = loaded-ruled o t os h; one = omega (arith, some-record o t os h, loaded-count o t os h) }

-- a tree of bodies that are octets
module _ (t : Items) (bytes : Bytes t) (rules : ruled at_top t ≡ true) where
  told : Told [] at_top t
  told = ruled-told t at_top bytes rules

  pub packed-means : means [] (packed t) ≡ means [] t
  unfolding at_top
  packed-means = loaded-meant [] sound_empty t at_top told 0

  pub packed-count : count (packed t) ≡ count t
  packed-count = loaded-counts [] t at_top told 0 0

  pub packed-store : packed_store (packed t) ≡ packed_store t
  unfolding at_top
  packed-store = (loaded-again [] sound_empty t at_top told).store 0

  pub packed-stands : 0 < count t → Standing (packed t)
  unfolding at_top
  packed-stands n = record {
    packs = (loaded-again [] sound_empty t at_top told).tree 0 0;
    rules = loaded-keeps [] sound_empty t at_top told 0 0 [] (omega arith) (λ a q. q);
    one = omega (arith, packed-count);
  }
