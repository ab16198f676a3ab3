-- The change of replay to the reader with no list (change request 2026-14): 14 gives way to ok with the count, and no other line changes.
use Rattle.std.specs.Prelude.{◌≡◌, List, ◌++◌, map, ℕ, ◌<◌, Err}
use Rattle.format.specs.declared.Refusal.{Refusal}
use Rattle.format.specs.Tree.{Items, count}
use Rattle.format.specs.Judge.{judge}
use Rattle.format.specs.Judge.Judged.{accepted}
use Rattle.scan.specs.Theorems.{changed}
use Rattle.recording.specs.Recording.{recording_of}
use Rattle.recording.specs.Lines.{ok_line, answer_line, answer_lines, end_line, replay, by_read, by_scan}

-- the line of an object without 14 stays
abbrev pub LineStays : Type 0
LineStays =
    (object : List ℕ) (number : ℕ) → ((r : Refusal) → by_read object ≡ Err r → r.number ≡ 14 → ⊥)
    → answer_line number (by_scan object) ≡ answer_line number (by_read object)

-- an object that was listed with 14 is accepted and has more than 1,024 records, and its line now says ok and their number
pub record NowOk (object : List ℕ) (number : ℕ) : Type 0 where
  pub tree : Items
  pub accepts : judge object ≡ accepted tree
  pub beyond : 1_024 < count tree
  pub says : answer_line number (by_scan object) ≡ ok_line number (count tree)

abbrev pub LineChanges : Type 0
LineChanges = (object : List ℕ) (number : ℕ) (r : Refusal) → by_read object ≡ Err r → r.number ≡ 14 → NowOk object number

-- the two listings of any octets: line by line the same, but where there was 14, and they end alike
abbrev pub ReplayChanges : Type 0
ReplayChanges =
    (octets : List ℕ)
    → replay by_scan octets
    ≡ answer_lines 1 (map (λ object. changed (by_scan object) (by_read object)) (recording_of octets).objects) ++ end_line (recording_of octets).ends
