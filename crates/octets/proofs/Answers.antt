-- What the answers of the calls say to a caller that matches on them. Those of the calls that put octets are in Puts.
use Rattle.std.specs.Prelude.{Option, Some, None}
use Rattle.octets.specs.Calls.{span}
use mathlib.Core.Path.{◌≡◌, refl, sym, ap, ◌∙◌}
use mathlib.Core.Bool.{Bool, true, false, cond}
use mathlib.Core.List.{List, [], ◌∷◌, ◌++◌}
use Prim.Native.Nat.{ℕ, suc, ◌+◌, ◌≤◌, ◌<◌, ◌^◌}
use native.Mathlib.Omega.{arith}
use lib.Dec.{eqb, leb}
use lib.ListN.{length, get_or, length-append}
use borrow.Author.Tests.{leb-true, leb-false, le-leb, eqb-false}
use Rattle.octets.specs.Numbers.{digits, Octets}
use Rattle.octets.specs.Header.{header_size, body_size, length_field, framed}
use Rattle.octets.specs.Calls.{header_of}
use Rattle.octets.specs.declared.Span.{Span}
use Rattle.octets.proofs.Tests.{chosen, not_chosen, never}
use Rattle.octets.proofs.Numbers.{length_digits, octets-none, octets-cons, octets-append, octets-digits}

-- ---- read_header
pub record HeaderFound (part : List ℕ) (start size : ℕ) : Type 0 where
  pub header : start ≡ header_size part
  pub body : size ≡ body_size part
  pub inside : header_size part ≤ length part

module _ (part : List ℕ) where
  pub header-found : (r : Option Span) → r ≡ header_of part → (start size : ℕ) → r ≡ Some (span start size) → HeaderFound part start size
  unfolding header_of
  header-found r e start size q =
      let w = chosen (leb (header_size part) (length part)) (sym q ∙ e) (λ z. never (cc)) in
      let z : span start size ≡ span (header_size part) (body_size part) = cc w.1 in
      record { header = ap (λ s. s.start) z; body = ap (λ s. s.size) z; inside = leb-true (header_size part) (length part) w.0 }

  pub header-past : (r : Option Span) → r ≡ header_of part → r ≡ None → length part < header_size part
  unfolding header_of
  header-past r e q = leb-false (header_size part) (length part) (not_chosen (leb (header_size part) (length part)) (sym q ∙ e) (λ z. never (cc))).0

-- ---- header_size
pub size-four : (n : ℕ) → suc (length (length_field n)) ≤ 4
unfolding length_field
size-four n = go (leb n 0xFD)
  where
    go : (a : Bool) → suc (length (cond a (n ∷ []) (0xFE ∷ digits 2 n))) ≤ 4
    go true = omega arith
    go false = simp length_digits (omega arith)

pub size-two : (n : ℕ) → 2 ≤ suc (length (length_field n))
unfolding length_field
size-two n = go (leb n 0xFD)
  where
    go : (a : Bool) → 2 ≤ suc (length (cond a (n ∷ []) (0xFE ∷ digits 2 n)))
    go true = omega arith
    go false = omega arith

size-short : (n : ℕ) → n ≤ 0xFD → suc (length (length_field n)) ≤ 2
unfolding length_field
size-short n h = rw (le-leb n 0xFD h) (omega arith)

-- a header that is read is no shorter than the one that is written for a body no longer than the one it tells
pub header-least : (part : List ℕ) → Octets part → (n : ℕ) → n ≤ body_size part → suc (length (length_field n)) ≤ header_size part
unfolding header_size body_size
header-least part os n h = go (eqb (get_or part 1 0) 0xFE) refl (eqb (get_or part 1 0) 0xFF) refl
  where
    go : (x : Bool) → eqb (get_or part 1 0) 0xFE ≡ x → (y : Bool) → eqb (get_or part 1 0) 0xFF ≡ y → suc (length (length_field n)) ≤ header_size part
    go true e y f = rw e (size-four n)
    go false e true f = rw (e, f) (omega (arith, size-four n))
    go false e false f =
        let told : n ≤ get_or part 1 0 = rw (e, f) at h in
        rw (e, f) (size-short n (omega (arith, os 1, eqb-false (get_or part 1 0) 0xFE e, eqb-false (get_or part 1 0) 0xFF f)))

-- ---- an item: its header, and then its body behind it
pub framed-length : (tag : ℕ) (body : List ℕ) → length (framed tag body) ≡ suc (length (length_field (length body))) + length body
unfolding framed
framed-length tag body = length-append (tag ∷ length_field (length body)) body

length-octets : (n : ℕ) → n < 256 ^ 2 → Octets (length_field n)
unfolding length_field
length-octets n h = go (leb n 0xFD) refl
  where
    go : (a : Bool) → leb n 0xFD ≡ a → Octets (cond a (n ∷ []) (0xFE ∷ digits 2 n))
    go true p = octets-cons n [] (omega (arith, leb-true n 0xFD p)) octets-none
    go false p = octets-cons 0xFE (digits 2 n) (omega arith) (octets-digits 2 n h)

pub framed-octets : (tag : ℕ) (body : List ℕ) → tag < 256 → length body < 256 ^ 2 → Octets body → Octets (framed tag body)
unfolding framed
framed-octets tag body t l os = octets-cons tag (length_field (length body) ++ body) t (octets-append (length_field (length body)) body (length-octets (length body) l) os)
