-- The theorems that specs/Theorems states.
use Rattle.std.specs.Prelude.{Ok, Err}
use mathlib.Core.Path.{◌≡◌, refl, sym, ap, ◌∙◌}
use mathlib.Core.Bool.{Bool, true, false, cond, ◌&&◌}
use mathlib.Core.List.{List, [], ◌∷◌}
use Prim.Native.Nat.{ℕ, ◌≤◌}
use native.Mathlib.Omega.{arith}
use lib.Dec.{leb}
use lib.ListN.{length}
use borrow.Author.Tests.{leb-true, leb-false, le-leb, ne_eqb}
use Rattle.octets.proofs.Tests.{and_right, never}
use Rattle.format.specs.declared.Refusal.{Refusal}
use Rattle.format.specs.Answers.{refusal}
use Rattle.format.specs.Tree.{Items, count}
use Rattle.format.specs.Judge.{Judged, judge, rule, unless, read, outermost}
use Rattle.format.specs.Judge.Judged.{refused, accepted}
use Rattle.format.specs.Headers.{headers_of}
use Rattle.format.specs.Calls.{places, counts_of, judge_answer, read_answer}
use Rattle.format.proofs.Headers.{few}
use Rattle.format.proofs.Refusals.{refusal-inside}
use Rattle.scan.specs.Theorems.{Enough, ScansAsRead, HalfIsEnough, AllAreEnough, OfObject, ScanRefuses, changed, ScanChanges, OthersStay, Fourteen, FourteenMeans}

-- ---- places enough
enough-answer : (n h : ℕ) (j : Judged) → Enough n j → judge_answer h j ≡ read_answer n h j
unfolding judge_answer read_answer
enough-answer n h (refused r) e = refl
enough-answer n h (accepted t) e = rw (le-leb (count t) n (e t refl))

pub scans-as-read : ScansAsRead
scans-as-read object before after answer e c = enough-answer (places before) (headers_of object) (judge object) e ∙ sym c.answers

pub half-is-enough : HalfIsEnough
half-is-enough object n h t e = omega (arith, few object t e)

accepted-length : (o : List ℕ) (t : Items) → judge o ≡ accepted t → length o ≤ 32_768
unfolding judge rule unless
accepted-length o t h = go (leb 1 (length o) && leb (length o) 32_768) refl h
  where
    go : (b : Bool) → leb 1 (length o) && leb (length o) 32_768 ≡ b → unless (rule 1 0 b) (read outermost 0 o) ≡ accepted t → length o ≤ 32_768
    go true e q = leb-true (length o) 32_768 (and_right (leb 1 (length o)) (leb (length o) 32_768) e)
    go false e q = never cc

pub all-are-enough : AllAreEnough
all-are-enough object n h t e = omega (arith, few object t e, accepted-length object t e)

-- ---- never 14
empty-refusal : (r : Refusal) → judge [] ≡ refused r → OfObject r
unfolding judge rule unless
empty-refusal r h = let z : 1 ≡ r.number = cc in record { least = omega arith; most = omega arith }

judged-refusal : (o : List ℕ) (r : Refusal) → judge o ≡ refused r → OfObject r
judged-refusal [] r h = empty-refusal r h
judged-refusal (b ∷ o) r h = let i = refusal-inside (b ∷ o) r (omega arith) h in record { least = i.least; most = i.most }

answer-refused : (h : ℕ) (j : Judged) (r : Refusal) → judge_answer h j ≡ Err r → j ≡ refused r
unfolding judge_answer
answer-refused h (refused q) r e = cc
answer-refused h (accepted t) r e = never cc

pub scan-refuses : ScanRefuses
scan-refuses object r h = judged-refusal object r (answer-refused (headers_of object) (judge object) r h)

-- ---- the change from read to scan
changes : (n h : ℕ) (j : Judged) → ((r : Refusal) → j ≡ refused r → OfObject r) → judge_answer h j ≡ changed (judge_answer h j) (read_answer n h j)
unfolding judge_answer read_answer changed
changes n h (refused r) f = let i = f r refl in rw (ne_eqb r.number 14 (λ e. omega (arith, i.most)))
changes n h (accepted t) f = go (leb (count t) n)
  where
    go : (b : Bool) → Ok (counts_of h t) ≡ changed (Ok (counts_of h t)) (cond b (Ok (counts_of h t)) (Err (refusal 14 0)))
    go true = refl
    go false = refl

pub scan-changes : ScanChanges
scan-changes object n = changes n (headers_of object) (judge object) (judged-refusal object)

fourteen : (n : ℕ) (object : List ℕ) (j : Judged) → judge object ≡ j → (r : Refusal) → read_answer n (headers_of object) j ≡ Err r → r.number ≡ 14 → Fourteen n object r
unfolding read_answer judge_answer
fourteen n object (refused q) g r h e =
    let same : q.number ≡ r.number = cc in
    absurd (omega (arith, (judged-refusal object q g).most))
fourteen n object (accepted t) g r h e = go (leb (count t) n) refl h
  where
    go : (b : Bool) → leb (count t) n ≡ b → cond b (Ok (counts_of (headers_of object) t)) (Err (refusal 14 0)) ≡ Err r → Fourteen n object r
    go true f q = never cc
    go false f q =
        record {
          tree = t;
          accepts = g;
          beyond = leb-false (count t) n f;
          place = cc;
          counts = counts_of (headers_of object) t;
          answers = ap (judge_answer (headers_of object)) g;
          records = refl;
          headers = refl;
        }

pub fourteen-means : FourteenMeans
fourteen-means object n r h e = fourteen n object (judge object) refl r h e

stays : (n h : ℕ) (j : Judged) → ((r : Refusal) → read_answer n h j ≡ Err r → r.number ≡ 14 → ⊥) → judge_answer h j ≡ read_answer n h j
unfolding read_answer judge_answer
stays n h (refused r) f = refl
stays n h (accepted t) f = fits (leb (count t) n) (f (refusal 14 0))
  where
    fits : (b : Bool) → (cond b (Ok (counts_of h t)) (Err (refusal 14 0)) ≡ Err (refusal 14 0) → ◌≡◌ {A = ℕ} 14 14 → ⊥)
        → Ok (counts_of h t) ≡ cond b (Ok (counts_of h t)) (Err (refusal 14 0))
    fits true g = refl
    fits false g = absurd (g refl refl)

pub others-stay : OthersStay
others-stay object n h = stays n (headers_of object) (judge object) h
