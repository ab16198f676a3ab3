-- What is proved of recordings and of their listings (change request 2026-12).
use Rattle.std.specs.Prelude.{◌≡◌, Bool, true, false, cond, List, [], ◌∷◌, ◌++◌, map, ℕ, ◌+◌, ◌-◌, ◌^◌, ◌≤◌, ◌<◌, eqb, leb, length, take, drop, Result, Ok, Err}
use Rattle.std.proofs.Math.Option.{Option, none, some}
use Rattle.octets.specs.Numbers.{Octets}
use Rattle.format.specs.declared.Refusal.{Refusal}
use Rattle.format.specs.Answers.{refusal}
use Rattle.format.specs.declared.Counts.{Counts}
use Rattle.recording.specs.declared.Next.{Next}
use Rattle.recording.specs.Recording.{mark, recorded, Recording, preceded, objects_at, recording_of}
use Rattle.recording.specs.Lines.{file_line, answer_lines, listing, replay}
use Rattle.recording.specs.Calls.{open_of, step_of}

-- ---- reading and making a recording

-- every object has a size of 16 bits
abbrev pub AllSized : List (List ℕ) → Type 0
AllSized [] = Unit {0}
AllSized (object ∷ objects) = (length object < 256 ^ 2) × AllSized objects

-- what was recorded is read back, and nothing is refused
abbrev pub ReadsBack : Type 0
ReadsBack = (objects : List (List ℕ)) → AllSized objects → recording_of (recorded objects) ≡ record { objects = objects; ends = none }

-- octets in which nothing is refused are the recording of just their objects
abbrev pub OnlyRecording : Type 0
OnlyRecording = (octets : List ℕ) → Octets octets → (recording_of octets).ends ≡ none → octets ≡ recorded (recording_of octets).objects

-- ---- a recording that is cut

-- how many octets objects take in a recording, and those of them that lie whole within so many octets
unfoldable pub taken : List (List ℕ) → ℕ
taken [] = 0
taken (object ∷ objects) = 2 + length object + taken objects

unfoldable pub whole_in : ℕ → List (List ℕ) → List (List ℕ)
whole_in room [] = []
whole_in room (object ∷ objects) = cond (leb (2 + length object) room) (object ∷ whole_in (room - (2 + length object)) objects) []

-- cut at any octet from the fifth on, a recording has the whole objects before the cut
abbrev pub CutKeeps : Type 0
CutKeeps = (octets : List ℕ) (n : ℕ) → 5 ≤ n → (recording_of (take n octets)).objects ≡ whole_in (n - 5) (recording_of octets).objects

-- it ends without refusal exactly where the cut is between objects, and else with 24 just behind the last whole one
unfoldable pub end_at : ℕ → ℕ → Option Refusal
end_at behind n = cond (eqb n behind) none (some (refusal 24 behind))

abbrev pub CutEnds : Type 0
CutEnds =
    (octets : List ℕ) (n : ℕ) → 5 ≤ n → n ≤ length octets → take 5 octets ≡ mark
    → (recording_of (take n octets)).ends ≡ end_at (5 + taken (whole_in (n - 5) (recording_of octets).objects)) n

-- cut just behind its first k objects it reads as the recording of these
abbrev pub CutBetween : Type 0
CutBetween =
    (octets : List ℕ) (k : ℕ) → take 5 octets ≡ mark
    → recording_of (take (5 + taken (take k (recording_of octets).objects)) octets) ≡ record { objects = take k (recording_of octets).objects; ends = none }

-- the listing: the cut recording's lines but its last are the first of the full one's, whatever answers for an object
pub record Starts (short full : List ℕ) : Type 0 where
  pub rest : List ℕ
  pub is : full ≡ short ++ rest

abbrev pub CutLists : Type 0
CutLists =
    (answer : List ℕ → Result Counts Refusal) (octets : List ℕ) (n : ℕ) → 5 ≤ n
    → Starts (answer_lines 1 (map answer (recording_of (take n octets)).objects)) (answer_lines 1 (map answer (recording_of octets).objects))

-- the listing is the objects' own lines, one behind the other
abbrev pub LinesJoin : Type 0
LinesJoin =
    (answer : List ℕ → Result Counts Refusal) (number : ℕ) (first second : List (List ℕ))
    → answer_lines number (map answer (first ++ second)) ≡ answer_lines number (map answer first) ++ answer_lines (number + length first) (map answer second)

-- ---- going over a recording by windows

-- open says how a recording begins, and five octets suffice
unfoldable pub begun : List ℕ → Result ℕ Refusal → Recording
begun octets (Ok at) = objects_at at (drop at octets)
begun octets (Err r) = record { objects = []; ends = some r }

abbrev pub OpenTells : Type 0
OpenTells = (octets : List ℕ) → recording_of octets ≡ begun octets (open_of octets)

abbrev pub FiveSuffice : Type 0
FiveSuffice = (octets : List ℕ) (n : ℕ) → 5 ≤ n → open_of (take n octets) ≡ open_of octets

-- all that a program can do that goes over a recording with step, and what it finds. It holds octets of the file from a place on (held), and others follow them
-- there (rest). It may fetch at any time; it may say `last` only where nothing follows; an object that step finds it passes, and it stops where step says End
-- or Cut
pub data Goes : (at : ℕ) (held rest : List ℕ) → Recording → Type 0 where
  fetch : (at : ℕ) (held rest : List ℕ) (r : Recording) (piece later : List ℕ) → rest ≡ piece ++ later → Goes at (held ++ piece) later r → Goes at held rest r
  object : (at : ℕ) (held rest : List ℕ) (r : Recording) (last : Bool) (start size : ℕ) (behind : Recording) → step_of held 0 last ≡ Next.Object start size
      → r ≡ preceded (take size (drop start held)) behind → Goes (at + (start + size)) (drop (start + size) held) rest behind → Goes at held rest r
  end : (at : ℕ) (held rest : List ℕ) (r : Recording) → rest ≡ [] → step_of held 0 true ≡ Next.End → r ≡ record { objects = []; ends = none } → Goes at held rest r
  cut : (at : ℕ) (held rest : List ℕ) (r : Recording) → rest ≡ [] → step_of held 0 true ≡ Next.Cut → r ≡ record { objects = []; ends = some (refusal 24 at) } → Goes at held rest r

-- whatever the windows, that is what the octets of the file hold there
abbrev pub WindowsTell : Type 0
WindowsTell = (at : ℕ) (held rest : List ℕ) (r : Recording) → Goes at held rest r → r ≡ objects_at at (held ++ rest)

-- so a program that opens a recording by its first octets, goes on from there as it likes and lists what it finds prints the replay; where open refuses, its
-- one line is that
abbrev pub WindowsReplay : Type 0
WindowsReplay =
    (answer : List ℕ → Result Counts Refusal) (octets : List ℕ) (n : ℕ) → 5 ≤ n → (at : ℕ) → open_of (take n octets) ≡ Ok at
    → (held rest : List ℕ) → held ++ rest ≡ drop at octets → (r : Recording) → Goes at held rest r
    → listing answer r ≡ replay answer octets

abbrev pub RefusedReplay : Type 0
RefusedReplay =
    (answer : List ℕ → Result Counts Refusal) (octets : List ℕ) (n : ℕ) → 5 ≤ n → (r : Refusal) → open_of (take n octets) ≡ Err r
    → file_line r ≡ replay answer octets

-- so there is only one listing: two programs that hold what they will of the same octets find the same
abbrev pub OneListing : Type 0
OneListing =
    (at : ℕ) (held rest held' rest' : List ℕ) → held ++ rest ≡ held' ++ rest' → (r r' : Recording) → Goes at held rest r → Goes at held' rest' r' → r ≡ r'

-- and there is such a run for every file and every window of it
abbrev pub WindowsReach : Type 0
WindowsReach = (at : ℕ) (held rest : List ℕ) → Goes at held rest (objects_at at (held ++ rest))

-- step asks for more only of a window with fewer octets than the longest object with its size, and never of the last
pub record Short (held : List ℕ) (last : Bool) : Type 0 where
  pub follows : last ≡ false
  pub few : length held < 65_537

abbrev pub MoreIsShort : Type 0
MoreIsShort = (held : List ℕ) (last : Bool) → Octets held → step_of held 0 last ≡ Next.More → Short held last

-- a place in a window is the start of the part behind it, so a program needn't move what it holds
abbrev pub StepAt : Type 0
StepAt = (window : List ℕ) (at : ℕ) (last : Bool) (start size : ℕ) → step_of window at last ≡ Next.Object start size
    → (start ≡ at + 2) × (step_of (drop at window) 0 last ≡ Next.Object 2 size) × (start + size ≤ length window)
