-- The ways through the calls that read: numbers and headers.
use Rattle.std.specs.Prelude.{Some, None}
use Rattle.octets.specs.Calls.{span}
use mathlib.Core.Path.{◌≡◌, refl, sym, ap, subst, ◌∙◌}
use mathlib.Core.Bool.{Bool, true, false, cond}
use mathlib.Core.List.{List, [], ◌∷◌}
use Prim.Native.Nat.{ℕ, ◌+◌, ◌*◌, ◌%◌, ◌^◌, ◌≤◌, ◌<◌}
use native.Mathlib.Nat.{pow-le-pow_right, pow-suc}
use native.Mathlib.Numerals.{add-one}
use native.Mathlib.Omega.{arith}
use lib.Arith.{digits_lt}
use lib.Bits.{bit_or, or_shifted}
use lib.Dec.{eqb, leb}
use lib.ListN.{length, take, drop, get_or}
use lib.Pow.{shl_exact}
use lib.Seq.{take_all}
use borrow.Author.Tests.{le-leb, lt-leb, eq-eqb, ne_eqb}
use Rattle.octets.specs.Numbers.{value}
use Rattle.octets.specs.Header.{header_size, body_size}
use Rattle.octets.specs.Calls.{header_of, number_of}
use Rattle.octets.specs.declared.Span.{Span}
use Rattle.octets.proofs.Lists.{take_next}
use Rattle.octets.proofs.Numbers.{value-append}

-- a number of j bits above one of k bits, in 32
pub joined : (j k x y : ℕ) → j + k ≤ 32 → x < 2 ^ j → y < 2 ^ k → bit_or (x * 2 ^ k % 2 ^ 32) y ≡ x * 2 ^ k + y
joined j k x y l h g = ap (λ n. bit_or n y) (shl_exact j k 32 h l) ∙ or_shifted x k y g

pub joined_is : (n b : ℕ) → n < 2 ^ 24 → b < 256 → bit_or (n * 2 ^ 8 % 2 ^ 32) b ≡ n * 256 + b
joined_is n b h g = joined 24 8 n b (omega arith) h g

-- the number of the octets passed
pub record Valued (s : List ℕ) (n i : ℕ) : Type 0 where
  pub within : i ≤ length s
  pub few : length s ≤ 4
  pub small : n < 256 ^ i
  pub passed : n ≡ value (take i s)

module _ (s : List ℕ) where
  pub value-begin : length s ≤ 4 → Valued s 0 0
  unfolding value
  value-begin h = record { within = omega arith; few = h; small = omega arith; passed = refl }

  module _ (n i : ℕ) (v : Valued s n i) where
    pub value-done : length s ≤ i → n ≡ value s
    value-done h = v.passed ∙ ap value (take_all i s h)

    module _ (h : i < length s) where
      pub value_room : n < 2 ^ 24
      value_room = omega (arith, v.small, pow-le-pow_right {n = 256} (omega arith) {i = i} {j = 3} (omega (arith, v.few)))

      pub value-again : (m : ℕ) → m ≡ n * 256 + get_or s i 0 → get_or s i 0 < 256 → Valued s m (i + 1)
      unfolding value
      value-again m e b =
          record {
            within = omega arith;
            few = v.few;
            small = subst (λ (k : ℕ). m < 256 ^ k) (sym (add-one i)) (rw (pow-suc 256 i, e) (digits_lt v.small b));
            passed = e ∙ ap (λ (k : ℕ). k * 256 + get_or s i 0) v.passed ∙ last ∙ sym (ap value (take_next s i 0 h) ∙ value-append (take i s) (get_or s i 0 ∷ []));
          }
        where
          last : value (take i s) * 256 + get_or s i 0 ≡ value (take i s) * 256 ^ 1 + (get_or s i 0 * 256 ^ 0 + 0)
          last = omega arith

pub ruleset value-ways = (value-begin, value-done, value_room, value-again)

module _ (s : List ℕ) where
  pub number-long : 4 < length s → None ≡ number_of s
  unfolding number_of
  number-long h = rw (lt-leb (length s) 4 h)

  pub number_is : (n : ℕ) → length s ≤ 4 → n ≡ value s → Some n ≡ number_of s
  unfolding number_of
  number_is n h e = rw (le-leb (length s) 4 h) (ap Some e)

pub ruleset number-ways = (number-long, number_is)

module _ (s : List ℕ) where
  pub past-tag : length s < 2 → None ≡ header_of s
  unfolding header_of header_size
  past-tag h = go (eqb (get_or s 1 0) 0xFE) (eqb (get_or s 1 0) 0xFF)
    where
      go : (p q : Bool) → None ≡ cond (leb (cond p 4 (cond q 5 2)) (length s)) (Some (span (cond p 4 (cond q 5 2)) (body_size s))) None
      go true q = rw (lt-leb 4 (length s) (omega arith))
      go false true = rw (lt-leb 5 (length s) (omega arith))
      go false false = rw (lt-leb 2 (length s) h)

  module _ (h : 2 ≤ length s) where
    pub found-one : (n : ℕ) → n ≡ get_or s 1 0 → get_or s 1 0 < 0xFE → Some (span 2 n) ≡ header_of s
    unfolding header_of header_size body_size
    found-one n e g = rw (e, ne_eqb (get_or s 1 0) 0xFE (λ q. omega arith), ne_eqb (get_or s 1 0) 0xFF (λ q. omega arith), le-leb 2 (length s) h)

    module _ (g : get_or s 1 0 ≡ 0xFE) where
      pub past_two : length s < 4 → None ≡ header_of s
      unfolding header_of header_size
      past_two k = rw (eq-eqb (get_or s 1 0) 0xFE g, lt-leb 4 (length s) k)

      pub found-two : 4 ≤ length s → (n : ℕ) → n ≡ value (take 2 (drop 2 s)) → Some (span 4 n) ≡ header_of s
      unfolding header_of header_size body_size
      found-two k n e = rw (eq-eqb (get_or s 1 0) 0xFE g, le-leb 4 (length s) k) (ap (λ n. Some (span 4 n)) e)

    module _ (l : 0xFE ≤ get_or s 1 0) (g : get_or s 1 0 ≡ 0xFE → ⊥) (b : get_or s 1 0 < 256) where
      is_last : get_or s 1 0 ≡ 0xFF
      is_last = omega arith

      pub past_three : length s < 5 → None ≡ header_of s
      unfolding header_of header_size
      past_three k = rw (ne_eqb (get_or s 1 0) 0xFE g, eq-eqb (get_or s 1 0) 0xFF is_last, lt-leb 5 (length s) k)

      pub found-three : 5 ≤ length s → (n : ℕ) → n ≡ value (take 3 (drop 2 s)) → Some (span 5 n) ≡ header_of s
      unfolding header_of header_size body_size
      found-three k n e = rw (ne_eqb (get_or s 1 0) 0xFE g, eq-eqb (get_or s 1 0) 0xFF is_last, le-leb 5 (length s) k) (ap (λ n. Some (span 5 n)) e)

pub ruleset header-ways = (past-tag, found-one, past_two, found-two, past_three, found-three)
