-- Request 2026-11, by the theorems of fold.
use Rattle.std.specs.Prelude.{Result, Ok, Err}
use mathlib.Core.Path.{◌≡◌, refl, sym, ap, ◌∙◌, subst}
use mathlib.Core.Bool.{Bool, true, false, cond}
use mathlib.Core.Option.{Option, none, some, none-ne-some}
use mathlib.Core.List.{List}
use Prim.Native.Nat.{ℕ, ◌≤◌, min}
use native.Mathlib.Omega.{arith}
use lib.Dec.{leb}
use lib.ListN.{length, take}
use borrow.Author.Tests.{leb-false, le-leb}
use Rattle.octets.specs.Counts.{size_of}
use Rattle.octets.proofs.Tests.{never}
use Rattle.octets.specs.declared.counts.Octets.{Octets}
use Rattle.text.proofs.Words.{plain-text-covered}
use Rattle.format.specs.Answers.{refusal, write_outcome}
use Rattle.format.specs.Judge.{judge}
use Rattle.format.specs.Meaning.{meaning_of, if_accepted, encode, normal_of, normal}
use Rattle.format.specs.Calls.{roomy}
use Rattle.format.proofs.Rules.{accepted-size}
use Rattle.format.proofs.Round.{reread}
use Rattle.format.proofs.Normal.{accepted-is, accepted-ok}
use Rattle.format.specs.declared.Refusal.{Refusal}
use Rattle.fold.specs.Packed.{packed}
use Rattle.fold.specs.Calls.{passes, check_answer, pack_answer, PackClaim}
use Rattle.fold.proofs.Texts.{folded-expanded}
use Rattle.fold.proofs.Packs.{passes-exactly, packed-packs, packed-exactly}
use Rattle.fold.proofs.Checking.{passing-means}
use Rattle.fold.proofs.Claims.{pack-passes, pack-refused}
use Rattle.demands.specs.One.{Ends}
use Rattle.demands.specs.One.Ends.{answered, refused_at}
use Rattle.demands.specs.Packing.{FoldExpands, CheckExactly, OwnForm, PackPasses, PackedAsInput, PackRefuses, PackEnds, PackAlways}
use Rattle.demands.specs.Packing.PackRefuses.{no_form, no_room}

pub fold-expands : FoldExpands
fold-expands words o t = folded-expanded words o (plain-text-covered o t)

-- the answer is a yes exactly where the test is
abbrev checked : Bool → Result (Unit {0}) Refusal
checked b = cond b (Ok tt) (Err (refusal 22 0))

answer-passes : (b : Bool) → checked b ≡ Ok tt → b ≡ true
answer-passes true h = refl
answer-passes false h = never (cc)

pub check-exactly : CheckExactly
unfolding check_answer
check-exactly form proposed = (
  (λ h. let p = (passes-exactly form proposed).0 (answer-passes (passes form proposed) h) in record { own = p.normally; has = p.packs.normally; short = p.packs.short }),
  (λ k.
      ap checked
      ((passes-exactly form proposed).1 (record { normally = k.own; packs = record { normally = k.has; short = k.short } }))),
)

pub own-form : OwnForm
unfolding normal if_accepted
own-form form proposed os e l =
    let a = accepted-is normal_of (judge proposed) form e in
    let t = a.0 in
    let r = reread (meaning_of t) (accepted-ok proposed t os a.1) (subst (λ o. length o ≤ 32_768) (sym a.2) l) in
    subst (λ o. if_accepted normal_of (judge o) ≡ some o) a.2 (rw (r.accepts, r.table) (ap (λ m. some (encode m)) r.means-it))

pub pack-passes-check : PackPasses
unfolding check_answer
pack-passes-check object room room' n os c = ap (λ b. cond b (Ok tt) (Err (refusal 22 0))) (pack-passes object room room' n os c)

pub packed-as-input : PackedAsInput
packed-as-input object room room' n os ps c =
    let k = (passes-exactly object (take n.0 room')).0 (pack-passes object room room' n os c) in
    record { same = passing-means object (take n.0 room') os ps k; back = k.packs.normally }

pub pack-ends : PackEnds
unfolding pack_answer roomy
pack-ends object room room' answer os c = go (packed object) refl answer c c.answers
  where
    room-ends : (p : List ℕ) → packed object ≡ some p → (answer : Result Octets Refusal) → PackClaim object room room' answer → (b : Bool)
        → leb (length p) (min (length room) 32_768) ≡ b
        → answer ≡ cond b (Ok (size_of p)) (Err (refusal 15 0)) → Ends (PackRefuses object room) (room' ≡ room) (write_outcome answer)
    room-ends p e answer c true q x = subst (λ a. Ends (PackRefuses object room) (room' ≡ room) (write_outcome a)) (sym x) (answered (length p) 0)
    room-ends p e answer c false q x =
        let k = packed-packs object os p e in
        let a = accepted-is normal_of (judge object) object (unfold normal in (packed-exactly object).1 (p, e)) in
        let l = (accepted-size object a.0 a.1).1 in
        let s = k.short in
        let f = leb-false (length p) (min (length room) 32_768) q in
        subst (λ a. Ends (PackRefuses object room) (room' ≡ room) (write_outcome a)) (sym x)
        (refused_at 15 0 0 (no_room p e (omega arith)) (pack-refused object room room' (refusal 15 0) (subst (PackClaim object room room') x c)))

    go : (w : Option (List ℕ)) → packed object ≡ w → (answer : Result Octets Refusal) → PackClaim object room room' answer
        → answer ≡ pack_answer (size_of room) w
        → Ends (PackRefuses object room) (room' ≡ room) (write_outcome answer)
    go none e answer c x =
        subst (λ a. Ends (PackRefuses object room) (room' ≡ room) (write_outcome a)) (sym x)
        (refused_at 22 0 0 (no_form (λ h. let p = (packed-exactly object).0 h in none-ne-some p.0 (sym e ∙ p.1))) (pack-refused object room room' (refusal 22 0) (subst (PackClaim object room room') x c)))
    go (some p) e answer c x = room-ends p e answer c (leb (length p) (min (length room) 32_768)) refl x

pub pack-always : PackAlways
unfolding pack_answer roomy normal
pack-always object room room' answer os h l c =
    let p = (packed-exactly object).0 h in
    let k = packed-packs object os p.0 p.1 in
    let a = accepted-is normal_of (judge object) object h in
    let m = (accepted-size object a.0 a.1).1 in
    let s = k.short in
    let q = le-leb (length p.0) (min (length room) 32_768) (omega arith) in
    (size_of p.0, c.answers ∙ (ap (pack_answer (size_of room)) p.1 ∙ rw q), s)
