-- What the functions that decide a merging tell: the call's own claim stands in merge/specs/Calls.
use Rattle.std.specs.Prelude.{◌≡◌, true, List, ℕ, ◌<◌, min, length, Result}
use Rattle.std.proofs.lemmas.List.Edits.{sets}
use Rattle.octets.specs.Numbers.{Octets as OctetList}
use Rattle.octets.specs.declared.counts.Octets.{Octets}
use Rattle.octets.specs.Counts.{size_of}
use Rattle.format.specs.Tree.{Items}
use Rattle.format.specs.Judge.{judge}
use Rattle.format.specs.Judge.Judged.{accepted}
use Rattle.format.specs.Meaning.{Meaning, encode}
use Rattle.format.specs.Loaded.{loaded_of}
use Rattle.format.specs.Calls.{Lent, fits_lent}
use Rattle.format.specs.State.{Memory, lay_tree}
use Rattle.state.specs.Taking.{lent_by}
use Rattle.merge.specs.declared.Services.{Services}
use Rattle.merge.specs.Sizes.{records_in, stored_in}
use Rattle.merge.specs.Calls.{misfit, unless_refused, outcome, answer_of}
use Rattle.merge.specs.Calls.Outcome.{gives}
use Rattle.merge.specs.declared.Merged.{Merged}
use Rattle.merge.specs.declared.MergeRefusal.{MergeRefusal}
use Rattle.merging.specs.declared.counting.Needs.{Needs}
use Rattle.merging.specs.Takes.{most}

-- a meaning that takes so much
pub record Counted (w : Meaning) (n : Needs) : Type 0 where
  pub records : n.records ≡ min most (records_in w)
  pub store : n.store.0 ≡ min most (stored_in w)
  pub octets : n.octets.0 ≡ min most (length (encode w))

-- is held against what is lent, of which no slice is as long as the most that is counted
abbrev pub lending : (places : ℕ) (store room : Octets) → Lent
lending places store room = record { records = places; store = store; room = room }

unfoldable pub FitTold : Needs → (places : ℕ) (store room : Octets) → Result Merged MergeRefusal → Type 0
FitTold n places store room r = (w : Meaning) → Counted w n → places < most → store.0 < most → r ≡ answer_of (unless_refused (misfit (lending places store room) w) (gives w))

-- what is answered of any two objects, with the room as it was
pub record Decided (by : Services) (basic advanced : List ℕ) (places : ℕ) (store : Octets) (before after : List ℕ) (r : Result Merged MergeRefusal) : Type 0 where
  pub answers : r ≡ answer_of (outcome by (lending places store (size_of before)) (judge basic) (judge advanced))
  pub leaves : after ≡ before

-- what the room and memory hold once a result is written and taken in
pub record Filled (w : Meaning) (t : Items) (m m' : Memory) (room room' : List ℕ) : Type 0 where
  pub writes : room' ≡ sets room 0 (encode w)
  pub leaves : m' ≡ lay_tree (loaded_of t) m

unfoldable pub Fills : (by : Services) (basic advanced : List ℕ) (size : ℕ) (m m' : Memory) (room room' : List ℕ) → Type 0
Fills by basic advanced size m m' room room' =
    (w : Meaning) (t : Items) → outcome by (lent_by m room) (judge basic) (judge advanced) ≡ gives w → judge (encode w) ≡ accepted t → fits_lent (lent_by m room) t ≡ true → OctetList (encode w)
    → size ≡ length (encode w) → Filled w t m m' room room'
