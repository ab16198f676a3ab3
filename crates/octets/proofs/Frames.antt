-- The header of a framed item, read back.
use mathlib.Core.Path.{◌≡◌, refl}
use mathlib.Core.Bool.{Bool, true, false, cond}
use mathlib.Core.List.{List, [], ◌∷◌, ◌++◌, append_assoc}
use Prim.Native.Nat.{ℕ, suc, ◌+◌, ◌^◌, ◌≤◌, ◌<◌}
use native.Mathlib.Omega.{arith}
use lib.Dec.{eqb, leb}
use lib.ListN.{length, take, drop, get_or, length-append}
use lib.Seq.{take-append_seam, drop-append_seam, take_at}
use borrow.Author.Tests.{leb-true, le-leb, ne_eqb}
use Rattle.octets.specs.Numbers.{digits}
use Rattle.octets.specs.Header.{header_size, body_size, length_field, framed}
use Rattle.octets.proofs.Numbers.{length_digits, value-digits}

pub header-two : (part : List ℕ) → 2 ≤ header_size part
unfolding header_size
header-two part = go (eqb (get_or part 1 0) 0xFE) (eqb (get_or part 1 0) 0xFF)
  where
    go : (a b : Bool) → 2 ≤ cond a 4 (cond b 5 2)
    go true b = omega arith
    go false true = omega arith
    go false false = omega arith

-- what the length field of a framed item is read as, whatever follows it
pub record Field (tag n : ℕ) (rest : List ℕ) : Type 0 where
  pub header : header_size (tag ∷ (length_field n ++ rest)) ≡ suc (length (length_field n))
  pub body : body_size (tag ∷ (length_field n ++ rest)) ≡ n

pub field : (tag n : ℕ) (rest : List ℕ) → n < 256 ^ 2 → Field tag n rest
unfolding header_size body_size length_field
field tag n rest h = short (leb n 0xFD) refl
  where
    short : (b : Bool) → leb n 0xFD ≡ b → Field tag n rest
    short true e =
        let small : n ≤ 0xFD = leb-true n 0xFD e in
        let x : eqb n 0xFE ≡ false = ne_eqb n 0xFE (λ q. omega arith) in
        let y : eqb n 0xFF ≡ false = ne_eqb n 0xFF (λ q. omega arith) in
        record { header = rw (e, x, y); body = rw (e, x, y) }
    short false e = record { header = rw e (rw length_digits); body = rw e (rw (take_at (digits 2 n) rest 2 (length_digits 2 n)) (value-digits 2 n h)) }

-- wherever 16 bits hold the length, the shorter of two forms is the shortest of the three: what was written before change request 2026-08 is written still
pub shortest-form : (n : ℕ) → n < 256 ^ 2 → length_field n ≡ cond (leb n 0xFD) (n ∷ []) (cond (leb n 0xFFFF) (0xFE ∷ digits 2 n) (0xFF ∷ digits 3 n))
unfolding length_field
shortest-form n h = rw (le-leb n 0xFFFF (omega arith))

-- the size of the header of a body of n octets
unfoldable pub headed : ℕ → ℕ
headed n = suc (length (length_field n))

-- what stands behind the tag of a framed item with more octets after it
unfoldable pub behind : List ℕ → List ℕ → List ℕ
behind body rest = (length_field (length body) ++ body) ++ rest

pub record Split (tag : ℕ) (body rest : List ℕ) : Type 0 where
  pub header : header_size (tag ∷ behind body rest) ≡ headed (length body)
  pub size : body_size (tag ∷ behind body rest) ≡ length body
  pub inside : take (length body) (drop (headed (length body)) (tag ∷ behind body rest)) ≡ body
  pub after : drop (length body) (drop (headed (length body)) (tag ∷ behind body rest)) ≡ rest
  pub room : suc (length (behind body rest)) ≡ headed (length body) + length body + length rest

pub split : (tag : ℕ) (body rest : List ℕ) → length body < 256 ^ 2 → Split tag body rest
unfolding headed behind
split tag body rest h =
    let f = field tag (length body) (body ++ rest) h in
    let d : drop (length (length_field (length body))) (length_field (length body) ++ (body ++ rest)) ≡ body ++ rest = drop-append_seam (length_field (length body)) (body ++ rest) in
    record {
      header = rw append_assoc f.header;
      size = rw append_assoc f.body;
      inside = rw (append_assoc, d) (take-append_seam body rest);
      after = rw (append_assoc, d) (drop-append_seam body rest);
      room = simp (length-append) (omega arith);
    }

pub framed-behind : (tag : ℕ) (body rest : List ℕ) → framed tag body ++ rest ≡ tag ∷ behind body rest
unfolding framed behind
framed-behind tag body rest = refl

pub framed-longer : (tag : ℕ) (body rest : List ℕ) → (length body + length rest) < length (framed tag body ++ rest)
unfolding framed
framed-longer tag body rest = simp length-append (omega arith)
