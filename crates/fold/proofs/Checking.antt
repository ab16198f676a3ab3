-- The ways through the check: it passes what the definition passes.
use Rattle.std.specs.Prelude.{Result, Ok, Err}
use mathlib.Core.Path.{◌≡◌, refl, sym, ap, ◌∙◌}
use mathlib.Core.Bool.{Bool, true, false, cond, false≢true}
use mathlib.Core.Option.{some}
use mathlib.Core.List.{List}
use Prim.Native.Nat.{ℕ, ◌≤◌, ◌<◌}
use native.Mathlib.Omega.{arith}
use lib.ListN.{length}
use borrow.Author.Tests.{not-true, not-false}
use Rattle.octets.specs.Numbers.{Octets}
use Rattle.octets.proofs.Tests.{never}
use Rattle.format.specs.declared.Refusal.{Refusal}
use Rattle.format.specs.Answers.{refusal}
use Rattle.format.specs.Tree.{Items}
use Rattle.format.specs.Judge.{Judged, judge}
use Rattle.format.specs.Judge.Judged.{refused, accepted}
use Rattle.format.specs.Meaning.{meaning_of, encode, normal_of, normal}
use Rattle.format.specs.Same.{same_answer, is_normal}
use Rattle.format.proofs.Rules.{accepted-size}
use Rattle.format.proofs.Round.{encode_injective}
use Rattle.format.proofs.Same.{same-exactly, normal-exactly}
use Rattle.format.proofs.Normal.{accepted-ok, accepted-is}
use Rattle.format.specs.declared.SameRefusal.{SameRefusal}
use Rattle.fold.specs.Calls.{passes, check_answer}
use Rattle.fold.proofs.Packs.{Passing, passes-exactly, normal-accepted}

-- where octets can't pass, the answer is 22
fails-where : (o p : List ℕ) → (Passing o p → ⊥) → (r : Result (Unit {0}) Refusal) → r ≡ Err (refusal 22 0) → r ≡ check_answer o p
unfolding check_answer
fails-where o p n r e = e ∙ go (passes o p) refl
  where
    go : (b : Bool) → passes o p ≡ b → ◌≡◌ {A = Result (Unit {0}) Refusal} (Err (refusal 22 0)) (cond b (Ok tt) (Err (refusal 22 0)))
    go true h = absurd (n ((passes-exactly o p).0 h))
    go false h = refl

passes-where : (o p : List ℕ) → Passing o p → Ok tt ≡ check_answer o p
unfolding check_answer
passes-where o p k = rw ((passes-exactly o p).1 k)

-- both are accepted where they are the same
same-accepted : (x y : Judged) → same_answer x y ≡ Ok true → (t : Items) × (u : Items) × (x ≡ accepted t) × (y ≡ accepted u)
unfolding same_answer
same-accepted (refused r) y e = never (cc)
same-accepted (accepted t) (refused r) e = never (cc)
same-accepted (accepted t) (accepted u) e = (t, u, refl, refl)

-- two objects of one meaning, the first its own normal form
means-passing : (o p : List ℕ) → normal o ≡ some o → length p ≤ length o → same_answer (judge o) (judge p) ≡ Ok true → Octets o → Octets p → Passing o p
means-passing o p n l e os ps =
    let a = same-accepted (judge o) (judge p) e in
    let t = a.0 in
    let u = a.1 in
    let m : meaning_of t ≡ meaning_of u = (same-exactly o p t u os ps a.2 a.3).0 e in
    record { normally = n; packs = record { normally = normal-accepted p u a.3 ∙ (ap (λ x. some (encode x)) (sym m) ∙ (sym (normal-accepted o t a.2) ∙ n)); short = l } }

-- what passes means the same
pub passing-means : (o p : List ℕ) → Octets o → Octets p → Passing o p → same_answer (judge o) (judge p) ≡ Ok true
unfolding normal
passing-means o p os ps k =
    let t = accepted-is normal_of (judge o) o k.normally in
    let u = accepted-is normal_of (judge p) o k.packs.normally in
    let l : length (normal_of t.0) ≤ 32_768 = rw t.2 (accepted-size o t.0 t.1).1 in
    let e : meaning_of t.0 ≡ meaning_of u.0 = encode_injective (meaning_of t.0) (meaning_of u.0) (accepted-ok o t.0 os t.1) (accepted-ok p u.0 ps u.1) l (t.2 ∙ sym u.2) in
    (same-exactly o p t.0 u.0 os ps t.1 u.1).1 e

module _ (o p : List ℕ) (r : Result (Unit {0}) Refusal) (fails : r ≡ Err (refusal 22 0)) where
  pub check-longer : length o < length p → r ≡ check_answer o p
  check-longer l = fails-where o p (λ k. omega (arith, k.packs.short)) r fails

  pub check-other : (b : Bool) → b ≡ is_normal o → b ≡ false → r ≡ check_answer o p
  check-other b e f = fails-where o p (λ k. false≢true (sym f ∙ (e ∙ (normal-exactly o).1 k.normally))) r fails

  module _ (os : Octets o) (ps : Octets p) (a : Result Bool SameRefusal) (e : a ≡ same_answer (judge o) (judge p)) where
    pub check-different : a ≡ Ok false → r ≡ check_answer o p
    check-different d = fails-where o p (λ k. let z : Ok false ≡ Ok true = sym d ∙ (e ∙ passing-means o p os ps k) in never (cc)) r fails

    pub check-refused : (n : SameRefusal) → a ≡ Err n → r ≡ check_answer o p
    check-refused n d = fails-where o p (λ k. let z : Err n ≡ Ok true = sym d ∙ (e ∙ passing-means o p os ps k) in never (cc)) r fails

pub check-same : (o p : List ℕ) → Octets o → Octets p → length p ≤ length o → (b : Bool) → b ≡ is_normal o → b ≡ true → (a : Result Bool SameRefusal) → a ≡ same_answer (judge o) (judge p) → a ≡ Ok true → Ok tt ≡ check_answer o p
check-same o p os ps l b e t a f s = passes-where o p (means-passing o p ((normal-exactly o).0 (sym e ∙ t)) l (sym f ∙ s) os ps)

pub ruleset check-ways = (check-longer, check-other, check-different, check-refused, check-same, not-true, not-false)
