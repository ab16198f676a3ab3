-- Request 2026-11: the answers of the check and of the packer, from their definitions and from what passing means.
use Rattle.std.specs.Prelude.{Result, Ok, Err}
use mathlib.Core.Path.{◌≡◌, refl, sym, ap, ◌∙◌, subst}
use mathlib.Core.Bool.{Bool, true, false, cond}
use mathlib.Core.Option.{Option, none, some, some-injective, none-ne-some}
use mathlib.Core.List.{List}
use Prim.Native.Nat.{ℕ, ◌≤◌, ◌<◌, min}
use native.Mathlib.Omega.{arith}
use lib.Dec.{leb}
use lib.ListN.{length}
use borrow.Author.Tests.{leb-true, leb-false}
use Rattle.octets.specs.Numbers.{Octets}
use Rattle.octets.specs.Counts.{size_of}
use Rattle.octets.proofs.Tests.{never}
use Rattle.octets.specs.declared.counts.Octets.{Octets as OctetCount}
use Rattle.format.specs.Answers.{refusal, check_outcome}
use Rattle.format.specs.Judge.{judge}
use Rattle.format.specs.Meaning.{normal_of, normal}
use Rattle.format.specs.Calls.{roomy}
use Rattle.format.proofs.Rules.{accepted-size}
use Rattle.format.proofs.Normal.{accepted-is}
use Rattle.format.specs.declared.Refusal.{Refusal}
use Rattle.fold.specs.Packed.{packed}
use Rattle.fold.specs.Calls.{passes, check_answer, pack_answer}
use Rattle.fold.proofs.Packs.{packed-packs, packed-exactly}
use Rattle.demands.specs.One.{Ends}
use Rattle.demands.specs.One.Ends.{answered, refused_at}
use Rattle.demands.specs.Packing.{Passable}
use Rattle.demands.specs.PackOrder.{CheckRefuses, CheckEnds, CheckInOrder, PackedOrder, PackInOrder}
use Rattle.demands.specs.PackOrder.CheckRefuses.{says_no}
use Rattle.demands.proofs.Packing.{check-exactly}

-- ---- the check
module _ (form proposed : List ℕ) where
  fails-not : check_answer form proposed ≡ Err (refusal 22 0) → Passable form proposed → ⊥
  fails-not e p = never (let q = (check-exactly form proposed).1 p in cc)

  either_way : (C : Type 0) → (check_answer form proposed ≡ Ok tt → C) → (check_answer form proposed ≡ Err (refusal 22 0) → C) → C
  unfolding check_answer
  either_way C f g = go (passes form proposed) refl
    where
      go : (b : Bool) → passes form proposed ≡ b → C
      go true e = f (ap (λ c. cond c (Ok tt) (Err (refusal 22 0))) e)
      go false e = g (ap (λ c. cond c (Ok tt) (Err (refusal 22 0))) e)

pub check-ends : CheckEnds
check-ends form proposed answer e = subst (λ a. Ends (CheckRefuses form proposed) (Unit {0}) (check_outcome a)) (sym e) (
    either_way form proposed (Ends (CheckRefuses form proposed) (Unit {0}) (check_outcome (check_answer form proposed)))
    (λ q. subst (λ a. Ends (CheckRefuses form proposed) (Unit {0}) (check_outcome a)) (sym q) (answered 0 0))
    (λ q. subst (λ a. Ends (CheckRefuses form proposed) (Unit {0}) (check_outcome a)) (sym q) (refused_at 22 0 0 (says_no (fails-not form proposed q)) tt)))

pub check-in-order : CheckInOrder
check-in-order form proposed answer e = record {
  passes = ((λ q. (check-exactly form proposed).0 (sym e ∙ q)), (λ p. e ∙ (check-exactly form proposed).1 p));
  fails = λ r. (
    (λ q. either_way form proposed ((r ≡ refusal 22 0) × (Passable form proposed → ⊥))
        (λ w. never (cc))
        (λ w. ((cc), fails-not form proposed w))),
    (λ p. either_way form proposed (answer ≡ Err r)
        (λ w. absurd (p.1 ((check-exactly form proposed).0 w)))
        (λ w. e ∙ (w ∙ ap Err (sym p.0)))),
  );
}

-- ---- the packer
module _ (object room : List ℕ) (os : Octets object) (answer : Result OctetCount Refusal) where
  none-packed : packed object ≡ none → answer ≡ Err (refusal 22 0) → PackedOrder object room answer
  none-packed e a =
      let no : (p : List ℕ) → packed object ≡ some p → ⊥ = λ p q. none-ne-some p (sym e ∙ q) in
      record {
        twenty_two = ((λ q h. let p = (packed-exactly object).0 h in no p.0 p.1), (λ h. a));
        fifteen = (
          (λ q. let w : refusal 22 0 ≡ refusal 15 0 = cc in absurd (omega (arith, ap (λ x. x.number) w))),
          (λ p. absurd (no p.0 p.1)),
        );
        octets = λ k. ((λ q. never (cc)), (λ p. absurd (no p.0 p.1)));
        given = packed-exactly object;
      }

  module _ (p : List ℕ) (e : packed object ≡ some p) where
    same : (q : List ℕ) → packed object ≡ some q → p ≡ q
    same q f = some-injective p q (sym e ∙ f)

    above : length room < length p → answer ≡ Err (refusal 15 0) → PackedOrder object room answer
    above l a = record {
      twenty_two = (
        (λ q. let w : refusal 15 0 ≡ refusal 22 0 = cc in absurd (omega (arith, ap (λ x. x.number) w))),
        (λ h. absurd (h ((packed-exactly object).1 (p, e)))),
      );
      fifteen = ((λ q. (p, e, l)), (λ q. a));
      octets = λ k. ((λ q. never (cc)), (λ q. absurd (omega (arith, l, q.3, ap length (same q.0 q.1)))));
      given = packed-exactly object;
    }

    within : length p ≤ length room → answer ≡ Ok (size_of p) → PackedOrder object room answer
    within l a = record {
      twenty_two = ((λ q. never (cc)), (λ h. absurd (h ((packed-exactly object).1 (p, e)))));
      fifteen = ((λ q. never (cc)), (λ q. absurd (omega (arith, l, q.2, ap length (same q.0 q.1)))));
      octets = λ k. ((λ q. (p, e, (cc), l)), (λ q. a ∙ ap Ok (ap size_of (same q.0 q.1) ∙ sym q.2)));
      given = packed-exactly object;
    }

    -- a packed object has no more octets than its normal form, and so than an object may have
    packed-short : length p ≤ 32_768
    unfolding normal
    packed-short =
        let k = packed-packs object os p e in
        let a = accepted-is normal_of (judge object) object ((packed-exactly object).1 (p, e)) in
        omega (arith, k.short, (accepted-size object a.0 a.1).1)

    packed-order : answer ≡ pack_answer (size_of room) (some p) → PackedOrder object room answer
    unfolding pack_answer roomy
    packed-order a = go (leb (length p) (min (length room) 32_768)) refl a
      where
        go : (b : Bool) → leb (length p) (min (length room) 32_768) ≡ b → answer ≡ cond b (Ok (size_of p)) (Err (refusal 15 0)) → PackedOrder object room answer
        go true q x = within (omega (arith, leb-true (length p) (min (length room) 32_768) q)) x
        go false q x = above (omega (arith, leb-false (length p) (min (length room) 32_768) q, packed-short)) x

pub pack-in-order : PackInOrder
unfolding pack_answer
pack-in-order object room room' answer os c = go (packed object) refl c.answers
  where
    go : (w : Option (List ℕ)) → packed object ≡ w → answer ≡ pack_answer (size_of room) w → PackedOrder object room answer
    go none e a = none-packed object room os answer e a
    go (some p) e a = packed-order object room os answer p e a
