-- Text of n octets expands to at most 255 times n (document 01, Values: Tokens).
use mathlib.Core.Bool.{Bool, true, false, cond}
use mathlib.Core.Option.{some}
use mathlib.Core.List.{List, [], ◌∷◌}
use Prim.Native.Nat.{ℕ, zero, suc, ◌*◌, ◌≤◌}
use native.Mathlib.Omega.{arith}
use lib.Dec.{eqb, leb}
use lib.ListN.{length, take, drop, length-append, length-take}
use Rattle.octets.specs.Numbers.{Octets}
use Rattle.text.specs.Text.{token}
use Rattle.text.specs.Tokens.{Entries, entries, cut, entry, or_itself, stands, expanded, expanded_size}
use Rattle.octets.proofs.Numbers.{octets-drop}

-- each entry has at most 255 octets
abbrev pub Short : Entries → Type 0
Short [] = Unit {0}
Short (e ∷ es) = (length e.1 ≤ 255) × Short es

short-entry : (es : Entries) → Short es → (b : ℕ) → length (or_itself (entry es b) b) ≤ 255
unfolding entry or_itself stands
short-entry [] h b = omega arith
short-entry (e ∷ es) h b = go (short-entry es h.1 b) (eqb b e.0)
  where
    go : length (or_itself (entry es b) b) ≤ 255 → (q : Bool) → length (or_itself (cond q (some e.1) (entry es b)) b) ≤ 255
    go ih true = h.0
    go ih false = ih

pub expanded-length : (es : Entries) → Short es → (o : List ℕ) → length (expanded es o) ≤ 255 * length o
unfolding expanded stands
expanded-length es h [] = omega arith
expanded-length es h (b ∷ bs) = simp length-append (omega (arith, expanded-length es h bs, one (token b)))
  where
    one : (q : Bool) → length (cond q (or_itself (entry es b) b) (b ∷ [])) ≤ 255
    one true = short-entry es h b
    one false = omega arith

short_cut : (k : ℕ) (o : List ℕ) → Octets o → Short (cut k o)
unfolding cut
short_cut zero o os = tt
short_cut (suc k) [] os = tt
short_cut (suc k) (tag ∷ []) os = tt
short_cut (suc k) (tag ∷ n ∷ o) os = go (short_cut k (drop n o) (octets-drop n o (λ i. os (suc (suc i))))) (leb n (length o))
  where
    go : Short (cut k (drop n o)) → (b : Bool) → Short (cond b ((tag, take n o) ∷ cut k (drop n o)) [])
    go ih false = tt
    go ih true = (simp length-take (omega (arith, os 1)), ih)

pub short-entries : (o : List ℕ) → Octets o → Short (entries o)
unfolding entries
short-entries o os = short_cut (suc (length o)) o os

pub expansion-bound : (table o : List ℕ) → Octets table → (expanded_size (entries table) o).0 ≤ 255 * length o
unfolding expanded_size
expansion-bound table o os = expanded-length (entries table) (short-entries table os) o
