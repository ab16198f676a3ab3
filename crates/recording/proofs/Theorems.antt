-- The theorems that specs/Theorems states, of whole recordings and their listings. Those of windows are in Windows.
use Rattle.std.specs.Prelude.{Result, Ok, Err}
use mathlib.Core.Path.{◌≡◌, refl, sym, ap, ap₂, subst, ◌∙◌}
use mathlib.Core.Bool.{Bool, true, false, cond}
use mathlib.Core.Option.{Option, none}
use mathlib.Core.List.{List, [], ◌∷◌, ◌++◌, append_assoc, map}
use Prim.Native.Nat.{ℕ, zero, suc, ◌+◌, ◌-◌, ◌≤◌, ◌<◌}
use native.Mathlib.Omega.{arith}
use lib.Dec.{leb, ltb}
use lib.ListN.{length, take, drop, length-drop, length-take, take-append-drop}
use lib.Seq.{take-take, take_all, take_at, drop_at}
use borrow.Author.Tests.{ltb-true, ltb-false, lt-ltb, le-ltb, le-leb, lt-leb, eq-eqb}
use Rattle.octets.proofs.Numbers.{octets-drop}
use Rattle.format.specs.declared.Refusal.{Refusal}
use Rattle.format.specs.Answers.{refusal}
use Rattle.format.specs.Same.{same_octets}
use Rattle.format.proofs.Same.{same-octets}
use Rattle.format.specs.declared.Counts.{Counts}
use Rattle.recording.specs.Recording.{mark, run, recorded, Recording, objects_at, refused_with, recording_of}
use Rattle.recording.specs.Lines.{answer_line, answer_lines, end_line, listing}
use Rattle.recording.specs.Calls.{open_of}
use Rattle.recording.specs.Theorems.{ReadsBack, OnlyRecording, taken, whole_in, CutKeeps, end_at, CutEnds, CutBetween, Starts, CutLists, LinesJoin, begun, OpenTells, FiveSuffice, WindowsReplay, RefusedReplay, OneListing}
use Rattle.recording.proofs.Walk.{drop-take}
use Rattle.recording.proofs.Cut.{cut_keeps, ends}
use Rattle.recording.proofs.Windows.{windows-tell}
use Rattle.recording.proofs.Made.{reads-run, only-run}

-- ---- the mark
mark-same : same_octets mark mark ≡ true
unfolding mark same_octets
mark-same = refl

length-mark : length mark ≡ 5
unfolding mark
length-mark = refl

-- ---- recording_of by its three cases
of-short : (o : List ℕ) → length o < 5 → recording_of o ≡ refused_with 24
unfolding recording_of
of-short o h = rw (lt-ltb (length o) 5 h)

of-long : (o : List ℕ) → 5 ≤ length o → recording_of o ≡ cond (same_octets (take 5 o) mark) (objects_at 5 (drop 5 o)) (refused_with 23)
unfolding recording_of
of-long o h = rw (le-ltb (length o) 5 h)

marked-long : (o : List ℕ) → take 5 o ≡ mark → 5 ≤ length o
marked-long o e = let l : length (take 5 o) ≡ 5 = ap length e ∙ length-mark in let m = rw length-take at l in omega arith

of-marked : (o : List ℕ) → take 5 o ≡ mark → recording_of o ≡ objects_at 5 (drop 5 o)
of-marked o e = of-long o (marked-long o e) ∙ rw (e, mark-same)

-- a cut from the fifth octet on keeps the mark
cut-long : (o : List ℕ) (n : ℕ) → 5 ≤ n → 5 ≤ length o → recording_of (take n o) ≡ cond (same_octets (take 5 o) mark) (objects_at 5 (take (n - 5) (drop 5 o))) (refused_with 23)
cut-long o n h l =
    let m : 5 ≤ length (take n o) = rw length-take (omega arith) in
    of-long (take n o) m
    ∙ ap₂ (λ (a b : List ℕ). cond (same_octets a mark) (objects_at 5 b) (refused_with 23)) (take-take 5 n o h) (drop-take 5 n o)

-- ---- made and read back
pub reads-back : ReadsBack
unfolding recorded
reads-back objects h =
    of-marked (mark ++ run objects) (take_at mark (run objects) 5 length-mark)
    ∙ ap (objects_at 5) (drop_at mark (run objects) 5 length-mark)
    ∙ reads-run objects h 5

refused-not : (number : ℕ) → (refused_with number).ends ≡ none → ⊥
unfolding refused_with
refused-not number h = let z : ◌≡◌ {A = ℕ} 0 1 = cc in omega arith

pub only-recording : OnlyRecording
unfolding recorded
only-recording o os h = go (ltb (length o) 5) refl
  where
    long : 5 ≤ length o → (b : Bool) → same_octets (take 5 o) mark ≡ b → o ≡ mark ++ run (recording_of o).objects
    long l true e =
        let m = same-octets (take 5 o) mark e in
        let q = of-marked o m in
        sym (take-append-drop 5 o)
        ∙ ap₂ (λ (a b : List ℕ). a ++ b) m (only-run 5 (drop 5 o) (octets-drop 5 o os) (sym (ap (λ (r : Recording). r.ends) q) ∙ h))
        ∙ sym (ap (λ (r : Recording). mark ++ run r.objects) q)
    long l false e =
        let q : recording_of o ≡ refused_with 23 = of-long o l ∙ rw e in
        absurd (refused-not 23 (sym (ap (λ (r : Recording). r.ends) q) ∙ h))

    go : (b : Bool) → ltb (length o) 5 ≡ b → o ≡ mark ++ run (recording_of o).objects
    go true e = absurd (refused-not 24 (sym (ap (λ (r : Recording). r.ends) (of-short o (ltb-true (length o) 5 e))) ∙ h))
    go false e = let l = ltb-false (length o) 5 e in long l (same_octets (take 5 o) mark) refl

-- ---- cut
pub cut-recording : CutKeeps
unfolding refused_with whole_in
cut-recording o n h = go (ltb (length o) 5) refl
  where
    long : 5 ≤ length o → (b : Bool) → same_octets (take 5 o) mark ≡ b → (recording_of (take n o)).objects ≡ whole_in (n - 5) (recording_of o).objects
    long l true e = rw (of-long o l, cut-long o n h l, e) (cut_keeps 5 (drop 5 o) (n - 5))
    long l false e = rw (of-long o l, cut-long o n h l, e) refl

    go : (b : Bool) → ltb (length o) 5 ≡ b → (recording_of (take n o)).objects ≡ whole_in (n - 5) (recording_of o).objects
    go true e = let s = ltb-true (length o) 5 e in rw (take_all n o (omega arith), of-short o s) refl
    go false e = let l = ltb-false (length o) 5 e in long l (same_octets (take 5 o) mark) refl

-- the part behind the mark of a cut recording
cut-marked : (o : List ℕ) (n : ℕ) → 5 ≤ n → take 5 o ≡ mark → recording_of (take n o) ≡ objects_at 5 (take (n - 5) (drop 5 o))
cut-marked o n h e = cut-long o n h (marked-long o e) ∙ rw (e, mark-same)

pub cut-ends : CutEnds
cut-ends o n h l e =
    let s = drop 5 o in
    let k : length (take (n - 5) s) ≡ n - 5 = rw (length-take (n - 5) s, length-drop 5 o) (omega arith) in
    let q : 5 + length (take (n - 5) s) ≡ n = omega arith in
    ap (λ (r : Recording). r.ends) (cut-marked o n h e)
    ∙ (ends 5 (take (n - 5) s)).told
    ∙ ap₂ end_at (ap (λ (bs : List (List ℕ)). 5 + taken bs) (cut_keeps 5 s (n - 5) ∙ ap (λ (r : Recording). whole_in (n - 5) r.objects) (sym (of-marked o e)))) q

-- just behind the first k objects
whole-between : (k : ℕ) (bs : List (List ℕ)) → whole_in (taken (take k bs)) bs ≡ take k bs
unfolding whole_in taken
whole-between zero [] = refl
whole-between zero (b ∷ bs) = rw (lt-leb (2 + length b) 0 (omega arith))
whole-between (suc k) [] = refl
whole-between (suc k) (b ∷ bs) =
    let e : 2 + length b + taken (take k bs) - (2 + length b) ≡ taken (take k bs) = omega arith in
    rw (le-leb (2 + length b) (2 + length b + taken (take k bs)) (omega arith), e) (ap (λ (r : List (List ℕ)). b ∷ r) (whole-between k bs))

taken-less : (k : ℕ) (bs : List (List ℕ)) → taken (take k bs) ≤ taken bs
unfolding taken
taken-less zero bs = omega arith
taken-less (suc k) [] = omega arith
taken-less (suc k) (b ∷ bs) = let h = taken-less k bs in omega arith

same-recording : (r : Recording) (bs : List (List ℕ)) (e : Option Refusal) → r.objects ≡ bs → r.ends ≡ e → r ≡ record { objects = bs; ends = e }
same-recording r bs e p q = ap₂ (λ (x : List (List ℕ)) (y : Option Refusal). record { objects = x; ends = y }) p q

pub cut-between : CutBetween
unfolding end_at
cut-between o k e =
    let bs = (recording_of o).objects in
    let t = taken (take k bs) in
    let m = marked-long o e in
    let inside : taken (objects_at 5 (drop 5 o)).objects ≤ length (drop 5 o) = (ends 5 (drop 5 o)).inside in
    let same : (recording_of o).objects ≡ (objects_at 5 (drop 5 o)).objects = ap (λ (r : Recording). r.objects) (of-marked o e) in
    let all : taken bs ≤ length (drop 5 o) = subst (λ (x : List (List ℕ)). taken x ≤ length (drop 5 o)) (sym same) inside in
    let d = length-drop 5 o in
    let less = taken-less k bs in
    let five : 5 + t - 5 ≡ t = omega arith in
    let kept : whole_in (5 + t - 5) bs ≡ take k bs = ap (λ (i : ℕ). whole_in i bs) five ∙ whole-between k bs in
    same-recording (recording_of (take (5 + t) o)) (take k bs) none
    (cut-recording o (5 + t) (omega arith) ∙ kept)
    (cut-ends o (5 + t) (omega arith) (omega arith) e ∙ ap (λ (x : List (List ℕ)). end_at (5 + taken x) (5 + t)) kept ∙ rw (eq-eqb (5 + t) (5 + t) refl))

-- ---- the listing
starts-next : (a b c : List ℕ) → Starts b c → Starts (a ++ b) (a ++ c)
starts-next a b c s = record { rest = s.rest; is = ap (λ (x : List ℕ). a ++ x) s.is ∙ sym (append_assoc a b s.rest) }

lines_start : (answer : List ℕ → Result Counts Refusal) (bs : List (List ℕ)) (i room : ℕ)
    → Starts (answer_lines i (map answer (whole_in room bs))) (answer_lines i (map answer bs))
unfolding whole_in answer_lines
lines_start answer [] i room = record { rest = []; is = refl }
lines_start answer (b ∷ bs) i room = go (leb (2 + length b) room) (lines_start answer bs (suc i) (room - (2 + length b)))
  where
    go : (t : Bool) → Starts (answer_lines (suc i) (map answer (whole_in (room - (2 + length b)) bs))) (answer_lines (suc i) (map answer bs))
        → Starts (answer_lines i (map answer (cond t (b ∷ whole_in (room - (2 + length b)) bs) []))) (answer_line i (answer b) ++ answer_lines (suc i) (map answer bs))
    go true s = starts-next (answer_line i (answer b)) _ _ s
    go false s = record { rest = answer_line i (answer b) ++ answer_lines (suc i) (map answer bs); is = refl }

pub lines_join : LinesJoin
unfolding answer_lines
lines_join answer number [] second = let e : number ≡ number + 0 = omega arith in ap (λ (n : ℕ). answer_lines n (map answer second)) e
lines_join answer number (b ∷ first) second =
    let e : suc number + length first ≡ number + suc (length first) = omega arith in
    ap (λ (r : List ℕ). answer_line number (answer b) ++ r) (lines_join answer (suc number) first second ∙ ap (λ (n : ℕ). answer_lines (suc number) (map answer first) ++ answer_lines n (map answer second)) e)
    ∙ sym (append_assoc (answer_line number (answer b)) (answer_lines (suc number) (map answer first)) (answer_lines (number + suc (length first)) (map answer second)))

pub cut-lists : CutLists
cut-lists answer o n h =
    subst (λ (bs : List (List ℕ)). Starts (answer_lines 1 (map answer bs)) (answer_lines 1 (map answer (recording_of o).objects)))
    (sym (cut-recording o n h)) (lines_start answer (recording_of o).objects 1 (n - 5))

-- ---- open
pub open-tells : OpenTells
unfolding recording_of open_of begun refused_with
open-tells o = go (ltb (length o) 5) (same_octets (take 5 o) mark)
  where
    go : (a b : Bool)
        → cond a (refused_with 24) (cond b (objects_at 5 (drop 5 o)) (refused_with 23))
        ≡ begun o (cond a (Err (refusal 24 0)) (cond b (Ok 5) (Err (refusal 23 0))))
    go true b = refl
    go false true = refl
    go false false = refl

pub five-suffice : FiveSuffice
unfolding open_of
five-suffice o n h = go (ltb (length o) 5) refl
  where
    go : (b : Bool) → ltb (length o) 5 ≡ b → open_of (take n o) ≡ open_of o
    go true e = let s = ltb-true (length o) 5 e in ap open_of (take_all n o (omega arith))
    go false e =
        let l = ltb-false (length o) 5 e in
        let m : 5 ≤ length (take n o) = rw length-take (omega arith) in
        rw (le-ltb (length (take n o)) 5 m, le-ltb (length o) 5 l, take-take 5 n o h) refl

-- ---- a program that goes by windows
module _ (o : List ℕ) (n : ℕ) (h : 5 ≤ n) where
  opened-as : (a : Result ℕ Refusal) → open_of (take n o) ≡ a → recording_of o ≡ begun o a
  opened-as a e = open-tells o ∙ ap (begun o) (sym (five-suffice o n h) ∙ e)

pub windows-replay : WindowsReplay
unfolding begun
windows-replay answer o n h at e held rest q r g =
    ap (listing answer) (windows-tell at held rest r g ∙ ap (objects_at at) q ∙ sym (opened-as o n h (Ok at) e))

pub refused-replay : RefusedReplay
unfolding begun listing answer_lines end_line
refused-replay answer o n h r e = sym (ap (listing answer) (opened-as o n h (Err r) e))

pub one-listing : OneListing
one-listing at held rest held' rest' e r r' g g' = windows-tell at held rest r g ∙ ap (objects_at at) e ∙ sym (windows-tell at held' rest' r' g')
