-- The theorems that specs/Change states, from those of one object.
use Rattle.std.specs.Prelude.{Result}
use mathlib.Core.Path.{◌≡◌, refl, ap, ap₂, ◌∙◌}
use mathlib.Core.List.{List, [], ◌∷◌, ◌++◌, map}
use Prim.Native.Nat.{ℕ}
use Rattle.scan.specs.Theorems.{changed}
use Rattle.scan.proofs.Theorems.{scan-changes, others-stay, fourteen-means}
use Rattle.recording.specs.Recording.{recording_of}
use Rattle.recording.specs.Lines.{ok_line, answer_line, answer_lines, end_line, listing, by_read, by_scan}
use Rattle.recording.specs.Change.{LineStays, LineChanges, ReplayChanges}
use Rattle.format.specs.declared.Counts.{Counts}
use Rattle.format.specs.declared.Refusal.{Refusal}

pub line_stays : LineStays
line_stays object number h = ap (answer_line number) (others-stay object 1_024 h)

pub line-changes : LineChanges
unfolding answer_line
line-changes object number r h e =
    let f = fourteen-means object 1_024 r h e in
    record { tree = f.tree; accepts = f.accepts; beyond = f.beyond; says = ap (answer_line number) f.answers ∙ ap (ok_line number) f.records }

map_same : (f g : List ℕ → Result Counts Refusal) → ((o : List ℕ) → f o ≡ g o) → (os : List (List ℕ)) → map f os ≡ map g os
map_same f g h [] = refl
map_same f g h (o ∷ os) = ap₂ ◌∷◌ (h o) (map_same f g h os)

pub replay-changes : ReplayChanges
unfolding listing
replay-changes o =
    ap (λ (answers : List (Result Counts Refusal)). answer_lines 1 answers ++ end_line (recording_of o).ends)
    (map_same by_scan (λ object. changed (by_scan object) (by_read object)) (λ object. scan-changes object 1_024) (recording_of o).objects)
