-- Going over a recording by windows.
use mathlib.Core.Path.{◌≡◌, refl, sym, ap, ap₂, ◌∙◌}
use mathlib.Core.Bool.{Bool, true, false, cond}
use mathlib.Core.Option.{Option, none, some}
use mathlib.Core.List.{List, [], ◌∷◌, ◌++◌, append_assoc, append-nil}
use Prim.Native.Nat.{ℕ, suc, ◌+◌}
use native.Mathlib.Omega.{arith}
use lib.Dec.{eqb}
use lib.ListN.{length, take, drop, length-drop}
use borrow.Author.Tests.{ne_eqb}
use Rattle.format.specs.declared.Refusal.{Refusal}
use Rattle.format.specs.Answers.{refusal}
use Rattle.recording.specs.declared.Next.{Next}
use Rattle.recording.specs.Recording.{announced, whole, behind_of, stopped, preceded, objects_at}
use Rattle.recording.specs.Calls.{short_of, step_of}
use Rattle.recording.specs.Theorems.{Goes, WindowsTell, WindowsReach, MoreIsShort, StepAt}
use Rattle.recording.specs.Theorems.Goes.{fetch, object, end, cut}
use Rattle.recording.proofs.Walk.{whole-fits, part-short, size_small, at-object, at-stop, by-objects, whole_append, first-append, behind-append, size-append}

-- ---- what an answer of step says of a part
-- an object, at its start
pub record Found (part : List ℕ) (from start size : ℕ) : Type 0 where
  pub stands : whole part ≡ true
  pub starts : start ≡ from + 2
  pub sizes : size ≡ announced part

-- no object: more, the end or a cut
pub record None (part : List ℕ) (last : Bool) (answer : Next) : Type 0 where
  pub stands : whole part ≡ false
  pub short : answer ≡ short_of (length part) last

module _ (window : List ℕ) (at : ℕ) (last : Bool) where
  short-no-object : (left start size : ℕ) → short_of left last ≡ Next.Object start size → ⊥
  unfolding short_of
  short-no-object left start size h = go last (eqb left 0) h
    where
      go : (a b : Bool) → cond a (cond b Next.End Next.Cut) Next.More ≡ Next.Object start size → ⊥
      go true true q = let z : ◌≡◌ {A = ℕ} 0 1 = cc in omega arith
      go true false q = let z : ◌≡◌ {A = ℕ} 0 1 = cc in omega arith
      go false b q = let z : ◌≡◌ {A = ℕ} 0 1 = cc in omega arith

  pub step-found : (start size : ℕ) → step_of window at last ≡ Next.Object start size → Found (drop at window) at start size
  unfolding step_of
  step-found start size h = go (whole (drop at window)) refl h
    where
      go : (b : Bool) → whole (drop at window) ≡ b → cond b (Next.Object (at + 2) (announced (drop at window))) (short_of (length (drop at window)) last) ≡ Next.Object start size
          → Found (drop at window) at start size
      go true e q = record { stands = e; starts = cc; sizes = cc }
      go false e q = absurd (short-no-object (length (drop at window)) start size q)

  pub step-none : (answer : Next) → step_of window at last ≡ answer → ((start size : ℕ) → answer ≡ Next.Object start size → ⊥) → None (drop at window) last answer
  unfolding step_of
  step-none answer h n = go (whole (drop at window)) refl h
    where
      go : (b : Bool) → whole (drop at window) ≡ b → cond b (Next.Object (at + 2) (announced (drop at window))) (short_of (length (drop at window)) last) ≡ answer
          → None (drop at window) last answer
      go true e q = absurd (n (at + 2) (announced (drop at window)) (sym q))
      go false e q = record { stands = e; short = sym q }

-- ---- the steps of a program
-- an object is what the whole file has there
passed-object : (at : ℕ) (held rest : List ℕ) (last : Bool) (start size : ℕ) → step_of held 0 last ≡ Next.Object start size
    → objects_at at (held ++ rest) ≡ preceded (take size (drop start held)) (objects_at (at + (start + size)) (drop (start + size) held ++ rest))
passed-object at held rest last start size h =
    let f = step-found held 0 last start size h in
    let w = f.stands in
    let g = whole-fits held w in
    let s : start ≡ 2 = f.starts in
    at-object at (held ++ rest) (whole_append held rest w)
    ∙ ap₂ preceded (first-append held rest w) (ap₂ (λ (n : ℕ) (r : List ℕ). objects_at (at + (2 + n)) r) (size-append held rest (omega arith)) (behind-append held rest w))
    ∙ sym (rw (s, f.sizes) refl)

end-length : (held : List ℕ) → Next.End ≡ short_of (length held) true → held ≡ []
unfolding short_of
end-length [] h = refl
end-length (b ∷ held) h =
    let q : Next.End ≡ Next.Cut = rw (ne_eqb (suc (length held)) 0 (λ e. omega arith)) at h in
    let z : ◌≡◌ {A = ℕ} 0 1 = cc in absurd (omega arith)

cut-length : (at : ℕ) (held : List ℕ) → Next.Cut ≡ short_of (length held) true → stopped at held ≡ some (refusal 24 at)
unfolding short_of stopped
cut-length at [] h = let z : ◌≡◌ {A = ℕ} 0 1 = cc in absurd (omega arith)
cut-length at (b ∷ held) h = refl

ends-whole : (at : ℕ) (held : List ℕ) → step_of held 0 true ≡ Next.End → objects_at at held ≡ record { objects = []; ends = none }
unfolding stopped
ends-whole at held h =
    let n = step-none held 0 true Next.End h (λ start size q. let z : ◌≡◌ {A = ℕ} 0 1 = cc in omega arith) in
    at-stop at held n.stands ∙ ap (λ (l : List ℕ). record { objects = []; ends = stopped at l }) (end-length held n.short)

ends-cut : (at : ℕ) (held : List ℕ) → step_of held 0 true ≡ Next.Cut → objects_at at held ≡ record { objects = []; ends = some (refusal 24 at) }
ends-cut at held h =
    let n = step-none held 0 true Next.Cut h (λ start size q. let z : ◌≡◌ {A = ℕ} 0 1 = cc in omega arith) in
    at-stop at held n.stands ∙ ap (λ (e : Option Refusal). record { objects = []; ends = e }) (cut-length at held n.short)

nothing-follows : (at : ℕ) (held rest : List ℕ) → rest ≡ [] → objects_at at (held ++ rest) ≡ objects_at at held
nothing-follows at held rest e = ap (λ (l : List ℕ). objects_at at (held ++ l)) e ∙ ap (objects_at at) (append-nil held)

pub windows-tell : WindowsTell
windows-tell at held rest r (fetch _ _ _ _ piece later e g) =
    windows-tell at (held ++ piece) later r g ∙ ap (objects_at at) (append_assoc held piece later) ∙ ap (λ (l : List ℕ). objects_at at (held ++ l)) (sym e)
windows-tell at held rest r (object _ _ _ _ last start size behind h e g) =
    e ∙ ap (preceded (take size (drop start held))) (windows-tell (at + (start + size)) (drop (start + size) held) rest behind g) ∙ sym (passed-object at held rest last start size h)
windows-tell at held rest r (end _ _ _ _ l h e) = e ∙ sym (ends-whole at held h) ∙ sym (nothing-follows at held rest l)
windows-tell at held rest r (cut _ _ _ _ l h e) = e ∙ sym (ends-cut at held h) ∙ sym (nothing-follows at held rest l)

-- with the whole file held, step by step
held-object : (s : List ℕ) → whole s ≡ true → step_of s 0 true ≡ Next.Object 2 (announced s)
unfolding step_of
held-object s e = rw e

held-stop : (s : List ℕ) → whole s ≡ false → step_of s 0 true ≡ short_of (length s) true
unfolding step_of
held-stop s e = rw e

abbrev Reached : ℕ → List ℕ → Type 0
Reached at s = Goes at s [] (objects_at at s)

goes-stop : (at : ℕ) (s : List ℕ) → whole s ≡ false → Reached at s
unfolding short_of stopped
goes-stop at [] e = end at [] [] (objects_at at []) refl (held-stop [] e) (at-stop at [] e)
goes-stop at (b ∷ s) e = cut at (b ∷ s) [] (objects_at at (b ∷ s)) refl (held-stop (b ∷ s) e ∙ rw (ne_eqb (suc (length s)) 0 (λ q. omega arith))) (at-stop at (b ∷ s) e)

goes-object : (at : ℕ) (s : List ℕ) → whole s ≡ true → Reached (at + (2 + announced s)) (behind_of s) → Reached at s
goes-object at s e g = object at s [] (objects_at at s) true 2 (announced s) (objects_at (at + (2 + announced s)) (behind_of s)) (held-object s e) (at-object at s e) g

pub windows-reach : WindowsReach
windows-reach at held rest = fetch at held rest (objects_at at (held ++ rest)) rest [] (sym (append-nil rest)) (by-objects Reached goes-object goes-stop at (held ++ rest))

-- ---- how much must be held
more-follows : (left : ℕ) (last : Bool) → Next.More ≡ short_of left last → last ≡ false
unfolding short_of
more-follows left true h = go (eqb left 0) h
  where
    go : (b : Bool) → Next.More ≡ cond b Next.End Next.Cut → true ≡ false
    go true q = let z : ◌≡◌ {A = ℕ} 0 1 = cc in absurd (omega arith)
    go false q = let z : ◌≡◌ {A = ℕ} 0 1 = cc in absurd (omega arith)
more-follows left false h = refl

pub more-is-short : MoreIsShort
more-is-short held last os h =
    let n = step-none held 0 last Next.More h (λ start size q. let z : ◌≡◌ {A = ℕ} 0 1 = cc in omega arith) in
    let s = part-short held n.stands in
    let z = size_small held os in
    record { follows = more-follows (length held) last n.short; few = omega arith }

-- ---- a place in a window
pub step-at : StepAt
unfolding step_of
step-at window at last start size h =
    let f = step-found window at last start size h in
    let w = f.stands in
    let g = whole-fits (drop at window) w in
    let l = length-drop at window in
    let z = f.sizes in
    let s = f.starts in
    (s, rw (w, z) refl, omega arith)
