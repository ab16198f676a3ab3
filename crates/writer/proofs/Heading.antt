-- An element whose header is written first: the header, then a body in two parts behind it.
use mathlib.Core.Path.{◌≡◌, sym, ap}
use mathlib.Core.List.{List, ◌∷◌, ◌++◌}
use Prim.Native.Nat.{ℕ, ◌≤◌}
use native.Mathlib.Omega.{arith}
use lib.ListN.{length, length-append}
use Rattle.octets.specs.Header.{length_field, framed}
use Rattle.octets.specs.Puts.{Lays}
use Rattle.octets.proofs.Left.{lays-append}
use Rattle.writer.specs.Steps.{Fitting}
use Rattle.writer.proofs.Lays.{fitting-left, fitting-right}

module _ (tag to : ℕ) (a b room : List ℕ) (f : Fitting (framed tag (a ++ b)) to (length room)) (size : ℕ) (e : size ≡ length (a ++ b)) where
  abbrev header : List ℕ
  header = tag ∷ length_field size

  whole : framed tag (a ++ b) ≡ header ++ (a ++ b)
  unfolding framed
  whole = ap (λ n. tag ∷ (length_field n ++ (a ++ b))) (sym e)

  whole-fits : Fitting (header ++ (a ++ b)) to (length room)
  whole-fits = rw whole at f

  pub head_small : size ≤ 32_768
  head_small = let x = whole-fits.in_object in omega (arith, e, length-append header (a ++ b))

  pub head-fits : Fitting (tag ∷ length_field size) to (length room)
  head-fits = fitting-left header (a ++ b) to (length room) whole-fits

  module _ (top : List ℕ) (from : ℕ) (h : Lays (tag ∷ length_field size) to room top from) where
    body-fits : Fitting (a ++ b) from (length top)
    body-fits = fitting-right header (a ++ b) to room top from whole-fits h

    pub one-fits : Fitting a from (length top)
    one-fits = fitting-left a b from (length top) body-fits

    module _ (mid : List ℕ) (behind : ℕ) (g : Lays a from top mid behind) where
      pub other_fits : Fitting b behind (length mid)
      other_fits = fitting-right a b from top mid behind body-fits g

      pub headed-laid : (after : List ℕ) (end : ℕ) → Lays b behind mid after end → Lays (framed tag (a ++ b)) to room after end
      headed-laid after end k = rw whole (lays-append header (a ++ b) to room top from after end h (lays-append a b from top mid behind after end g k))
