-- Laws for those who call: texts without token octets, and texts put together.
use mathlib.Core.Path.{◌≡◌, refl, ◌∙◌}
use mathlib.Core.Bool.{Bool, true, false, false≢true}
use mathlib.Core.List.{List, [], ◌∷◌, ◌++◌, append_assoc}
use Prim.Native.Nat.{ℕ, ◌≤◌, ◌<◌}
use Rattle.octets.proofs.Tests.{and_left, and_right}
use Rattle.text.specs.Text.{token, text}
use Rattle.text.specs.Tokens.{Entries, entry, stands, expanded, present, covers, covered}
use Rattle.text.proofs.Sequences.{text-low, single-high}

-- ---- ASCII from 0x20 on
pub ascii-text : (t : Bool) (b : ℕ) (s : List ℕ) → 0x20 ≤ b → b < 0x80 → text t (b ∷ s) ≡ text t s
ascii-text t b s h g = text-low t b s g ∙ rw (← single-high t b h)

-- ---- texts put together
pub expanded-append : (es : Entries) (a b : List ℕ) → expanded es (a ++ b) ≡ expanded es a ++ expanded es b
unfolding expanded
expanded-append es [] b = refl
expanded-append es (c ∷ a) b = rw (expanded-append es a b, append_assoc (stands es c) (expanded es a) (expanded es b))

-- ---- texts without token octets: `covered []` is the test that there is none, and valid text in which none may stand passes it (Words, plain-text-covered)
bare-octet : (b : ℕ) → covers [] b ≡ true → token b ≡ false
unfolding covers present entry
bare-octet b h = go (token b) refl
  where
    go : (t : Bool) → token b ≡ t → token b ≡ false
    go true e = absurd (false≢true (rw e at h))
    go false e = e

pub bare-expanded : (es : Entries) (s : List ℕ) → covered [] s ≡ true → expanded es s ≡ s
unfolding covered expanded stands
bare-expanded es [] h = refl
bare-expanded es (b ∷ s) h = rw (bare-octet b (and_left (covers [] b) (covered [] s) h), bare-expanded es s (and_right (covers [] b) (covered [] s) h))
