-- Octets that are known to fit, laid over a lent slice one part behind the other, and what is left of them meanwhile. Whatever stores octets piece by piece goes by
-- this, here and in the crates above.
use mathlib.Core.Path.{◌≡◌, refl, ap, ◌∙◌}
use mathlib.Core.List.{List, [], ◌∷◌, ◌++◌}
use Prim.Native.Nat.{ℕ, ◌+◌, ◌≤◌}
use native.Mathlib.Numerals.{add-one}
use native.Mathlib.Omega.{arith}
use lib.ListN.{length, set, length-append, length-set}
use lib.Seq.{sets, length-sets}
use Rattle.octets.specs.Puts.{Lays}
use Rattle.octets.proofs.Lists.{sets-append}

pub lays-none : (at : ℕ) (out : List ℕ) → Lays [] at out out at
lays-none at out = record { leaves = refl; ends = omega arith }

pub lays-length : (a : List ℕ) (at : ℕ) (before after : List ℕ) (end : ℕ) → Lays a at before after end → length after ≡ length before
lays-length a at before after end h = ap length h.leaves ∙ length-sets before at a

pub lays-append : (a b : List ℕ) (at : ℕ) (before mid : List ℕ) (to : ℕ) (after : List ℕ) (end : ℕ) → Lays a at before mid to → Lays b to mid after end → Lays (a ++ b) at before after end
lays-append a b at before mid to after end g h =
    record {
      leaves = h.leaves ∙ ap (λ m. sets m to b) g.leaves ∙ ap (λ n. sets (sets before at a) n b) g.ends ∙ sets-append before at a b;
      ends = omega (arith, g.ends, h.ends, length-append a b);
    }

pub record Left (octets : List ℕ) (at : ℕ) (out₀ rest out : List ℕ) (to : ℕ) : Type 0 where
  pub room : to + length rest ≤ length out
  pub long : length out ≡ length out₀
  pub same : sets out to rest ≡ sets out₀ at octets
  pub ends : to + length rest ≡ at + length octets

module _ (octets : List ℕ) (at : ℕ) (out₀ : List ℕ) where
  pub left-begin : at + length octets ≤ length out₀ → Left octets at out₀ octets out₀ at
  left-begin h = record { room = h; long = refl; same = refl; ends = refl }

  pub left-done : (out : List ℕ) (to : ℕ) → Left octets at out₀ [] out to → Lays octets at out₀ out to
  left-done out to v = record { leaves = v.same; ends = omega (arith, v.ends) }

  pub left_one : (x : ℕ) (rest out : List ℕ) (to : ℕ) → Left octets at out₀ (x ∷ rest) out to → Left octets at out₀ rest (set out to x) (to + 1)
  left_one x rest out to v =
      record {
        room = rw length-set (omega (arith, v.room));
        long = length-set out to x ∙ v.long;
        same = ap (λ n. sets (set out to x) n rest) (add-one to) ∙ v.same;
        ends = omega (arith, v.ends);
      }

  module _ (p rest out : List ℕ) (to : ℕ) (v : Left octets at out₀ (p ++ rest) out to) where
    pub left-room : to + length p ≤ length out
    left-room = omega (arith, v.room, length-append p rest)

    pub left-more : (out' : List ℕ) (to' : ℕ) → Lays p to out out' to' → Left octets at out₀ rest out' to'
    left-more out' to' w =
        let e : length out' ≡ length out = lays-length p to out out' to' w in
        record {
          room = omega (arith, v.room, length-append p rest, w.ends, e);
          long = e ∙ v.long;
          same = ap (λ n. sets out' n rest) w.ends ∙ ap (λ o. sets o (to + length p) rest) w.leaves ∙ sets-append out to p rest ∙ v.same;
          ends = omega (arith, v.ends, length-append p rest, w.ends);
        }
