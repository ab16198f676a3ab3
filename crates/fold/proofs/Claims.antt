-- What the packer's claim says: what it hands out passes the check, and a refusal leaves the room as it was.
use Rattle.std.specs.Prelude.{Ok, Err}
use mathlib.Core.Path.{◌≡◌, refl, sym, ap, ap₂, ◌∙◌, subst}
use mathlib.Core.Bool.{Bool, true, false, cond}
use mathlib.Core.Option.{Option, none, some}
use mathlib.Core.List.{List, []}
use Prim.Native.Nat.{ℕ, ◌+◌, ◌≤◌, min}
use native.Mathlib.Omega.{arith}
use lib.Dec.{leb}
use lib.ListN.{length, take}
use lib.Seq.{sets}
use borrow.Author.Tests.{leb-true}
use Rattle.octets.specs.declared.counts.Octets.{Octets as OctetCount}
use Rattle.octets.specs.Counts.{size_of}
use Rattle.octets.specs.Numbers.{Octets}
use Rattle.octets.proofs.Lists.{part-of-sets, sets-none}
use Rattle.octets.proofs.Tests.{never}
use Rattle.format.specs.declared.Refusal.{Refusal}
use Rattle.format.specs.Answers.{refusal}
use Rattle.format.specs.Calls.{roomy}
use Rattle.fold.specs.Packed.{packed}
use Rattle.fold.specs.Calls.{passes, pack_answer, pack_octets, PackClaim}
use Rattle.fold.proofs.Packs.{packed-passes}

handed-not : (n : OctetCount) (r : Refusal) → Ok n ≡ Err r → ⊥
handed-not n r e = never (cc)

-- what the packer hands out: the packed object, at the beginning of the room
pub record Handing (o after : List ℕ) (n : OctetCount) : Type 0 where
  pub object : List ℕ
  pub is : packed o ≡ some object
  pub stands : take n.0 after ≡ object

pub pack-hands : (o before after : List ℕ) (n : OctetCount) → PackClaim o before after (Ok n) → Handing o after n
unfolding pack_answer pack_octets roomy
pack-hands o before after n c = go (packed o) refl c.answers c.leaves
  where
    room : (p : List ℕ) → packed o ≡ some p → (b : Bool) → leb (length p) (min (length before) 32_768) ≡ b → Ok n ≡ cond b (Ok (size_of p)) (Err (refusal 15 0))
        → after ≡ sets before 0 (cond b p []) → Handing o after n
    room p e true q x y =
        let m : n ≡ size_of p = cc in
        let l = leb-true (length p) (min (length before) 32_768) q in
        let k : 0 + length p ≤ length before = omega (arith, l) in
        record { object = p; is = e; stands = ap₂ take (ap (λ z. z.0) m) y ∙ part-of-sets before 0 p k }
    room p e false q x y = absurd (handed-not n (refusal 15 0) x)

    go : (w : Option (List ℕ)) → packed o ≡ w → Ok n ≡ pack_answer (size_of before) w → after ≡ sets before 0 (pack_octets (size_of before) w) → Handing o after n
    go none e x y = absurd (handed-not n (refusal 22 0) x)
    go (some p) e x y = room p e (leb (length p) (min (length before) 32_768)) refl x y

-- so it passes the check
pub pack-passes : (o before after : List ℕ) (n : OctetCount) → Octets o → PackClaim o before after (Ok n) → passes o (take n.0 after) ≡ true
pack-passes o before after n os c =
    let h = pack-hands o before after n c in
    subst (λ w. passes o w ≡ true) (sym h.stands) (packed-passes o os h.object h.is)

-- a refusal leaves the room as it was
pub pack-refused : (o before after : List ℕ) (r : Refusal) → PackClaim o before after (Err r) → after ≡ before
unfolding pack_answer pack_octets roomy
pack-refused o before after r c = go (packed o) c.answers c.leaves
  where
    room : (p : List ℕ) (b : Bool) → Err r ≡ cond b (Ok (size_of p)) (Err (refusal 15 0)) → after ≡ sets before 0 (cond b p []) → after ≡ before
    room p true x y = absurd (handed-not (size_of p) r (sym x))
    room p false x y = y ∙ sets-none before 0

    go : (w : Option (List ℕ)) → Err r ≡ pack_answer (size_of before) w → after ≡ sets before 0 (pack_octets (size_of before) w) → after ≡ before
    go none x y = y ∙ sets-none before 0
    go (some p) x y = room p (leb (length p) (min (length before) 32_768)) x y
