-- The table in code against the rows of the definition: the rows made of its pairs, the arms, the digits, and the lookup.
use mathlib.Core.Path.{◌≡◌, refl, sym, ap, ap₂, ◌∙◌}
use mathlib.Core.Bool.{Bool, true, false, cond, ◌&&◌, ◌||◌, false≢true}
use mathlib.Core.Option.{Option as Maybe, none, some}
use mathlib.Core.List.{List, [], ◌∷◌}
use Prim.Native.Nat.{ℕ, zero, suc, zero-le, ◌+◌, ◌-◌, ◌*◌, ◌/◌, ◌%◌, ◌^◌, ◌≤◌, ◌<◌}
use native.Mathlib.Nat.{div-div-eq-div-mul, pow-succ'}
use native.Mathlib.Numerals.{add-one}
use native.Mathlib.Omega.{arith}
use lib.Bits.{bit_and, bit_or, and_mask, mask_lt}
use lib.Dec.{eqb, leb, ltb}
use lib.ListN.{length, get_or, get_or-eq_default}
use lib.Pow.{pow-add}
use mir.Syntax.{w32}
use mir.Val.{Fits}
use borrow.Author.Tests.{ltb-true, eqb-true, eqb-false, ne_eqb, lt-leb, lt-ltb}
use Rattle.octets.proofs.Numbers.{above}
use Rattle.octets.proofs.Tests.{and_left, and_right}
use Rattle.values.specs.declared.Kind.{Kind}
use Rattle.values.specs.declared.Kind.TheVariants.{HoldsItems, HoldsTokens, HoldsText, HoldsPlain, HoldsTime, HoldsBearer, HoldsNumber}
use Rattle.values.specs.declared.NumberKind.TheVariants.{Duration, ShortId, Enumerated, Integer}
use Rattle.std.specs.Prelude.{Option, None}
use Rattle.values.specs.Table.{rows, kind_in, known, attribute}
use Rattle.values.specs.Index.{code_of, answers, known_by, attribute_codes, codes_of, packed_row, packed_rows, digit_of, with_digits, row_of}
use Rattle.values.specs.Calls.{as_known, known_kind}
use Rattle.values.proofs.Known.{every, row-holds}

-- codes
known-code : (o : Maybe Kind) → known_by (code_of o) ≡ as_known o
unfolding known_by answers code_of as_known
known-code none = refl
known-code (some HoldsItems) = refl
known-code (some HoldsTokens) = refl
known-code (some HoldsText) = refl
known-code (some HoldsPlain) = refl
known-code (some HoldsTime) = refl
known-code (some HoldsBearer) = refl
known-code (some (HoldsNumber Duration)) = refl
known-code (some (HoldsNumber ShortId)) = refl
known-code (some (HoldsNumber Enumerated)) = refl
known-code (some (HoldsNumber Integer)) = refl

code-small : (o : Maybe Kind) → code_of o < 16
unfolding code_of
code-small none = omega arith
code-small (some HoldsItems) = omega arith
code-small (some HoldsTokens) = omega arith
code-small (some HoldsText) = omega arith
code-small (some HoldsPlain) = omega arith
code-small (some HoldsTime) = omega arith
code-small (some HoldsBearer) = omega arith
code-small (some (HoldsNumber Duration)) = omega arith
code-small (some (HoldsNumber ShortId)) = omega arith
code-small (some (HoldsNumber Enumerated)) = omega arith
code-small (some (HoldsNumber Integer)) = omega arith

pub code_is : (code n : ℕ) → code ≡ n → known_by n ≡ known_by code
code_is code n e = ap known_by (sym e)

pub code-last : (code : ℕ) → (code ≡ 1 → ⊥) → (code ≡ 2 → ⊥) → (code ≡ 3 → ⊥) → (code ≡ 4 → ⊥) → (code ≡ 5 → ⊥) → (code ≡ 6 → ⊥) → (code ≡ 7 → ⊥)
    → (code ≡ 8 → ⊥) → (code ≡ 9 → ⊥) → (code ≡ 10 → ⊥) → None ≡ known_by code
unfolding known_by answers
code-last code n1 n2 n3 n4 n5 n6 n7 n8 n9 n10 = go (eqb code 0) refl
  where
    past : (code ≡ 0 → ⊥) → 11 ≤ code
    past n0 = above code (above code (above code (above code (above code (above code (above code (above code (above code (above code (above code zero-le n0) n1) n2) n3) n4) n5) n6) n7) n8) n9) n10

    go : (b : Bool) → eqb code 0 ≡ b → None ≡ known_by code
    go true e = code_is code 0 (eqb-true code 0 e)
    go false e = sym (get_or-eq_default answers None {n = code} (past (eqb-false code 0 e)))

-- the place of a pair's digit
pub place-small : (n : ℕ) → 4 * bit_and n 7 < 32
place-small n = omega (arith, mask_lt n 3)

pub place-fits : (n : ℕ) → Fits w32 (4 * bit_and n 7)
place-fits n = record { fits = omega (arith, mask_lt n 3) }

-- the digits joined so far, with those to come, are the row
pub record Joining (pairs : List ℕ) (from to codes i : ℕ) : Type 0 where
  pub same : with_digits pairs codes i (to - i) ≡ row_of pairs from to

pub join-begin : (pairs : List ℕ) (from to : ℕ) → Joining pairs from to (bit_and (get_or pairs from 0) 15) (from + 1)
unfolding row_of
join-begin pairs from to = record { same = refl }

module _ (pairs : List ℕ) (from to codes i : ℕ) (inv : Joining pairs from to codes i) where
  pub join-on : i < to → (d : ℕ) → d ≡ digit_of (get_or pairs i 0) → Joining pairs from to (bit_or codes d) (i + 1)
  unfolding with_digits
  join-on h d e =
      let more : to - i ≡ suc (to - suc i) = omega arith in
      record { same = ap₂ (λ n j. with_digits pairs (bit_or codes n) j (to - j)) e (add-one i) ∙ sym (ap (with_digits pairs codes i) more) ∙ inv.same }

  pub join-done : to ≤ i → codes ≡ row_of pairs from to
  unfolding with_digits
  join-done h =
      let none_left : 0 ≡ to - i = omega arith in
      ap (with_digits pairs codes i) none_left ∙ inv.same

pub ruleset join-ways = (join-begin, join-on, join-done)

-- the arms of `row_in`, in its order: an element, and from which number up to which its entries stand
unfoldable pub arms : List (ℕ × ℕ × ℕ)
arms =
    (0x01, 0, 1) ∷ (0x02, 1, 2) ∷ (0x03, 2, 7) ∷ (0x04, 7, 8) ∷ (0x06, 8, 9) ∷ (0x10, 9, 11) ∷ (0x11, 11, 13) ∷ (0x12, 13, 15) ∷ (0x13, 15, 16)
    ∷ (0x14, 16, 19) ∷ (0x16, 19, 21) ∷ (0x17, 21, 25) ∷ (0x18, 25, 31) ∷ (0x19, 31, 32) ∷ (0x1A, 32, 34) ∷ (0x1B, 34, 36) ∷ (0x1C, 36, 43)
    ∷ (0x20, 43, 47) ∷ (0x21, 47, 51) ∷ (0x23, 51, 57) ∷ (0x24, 57, 60) ∷ (0x25, 60, 62) ∷ (0x26, 62, 64) ∷ (0x28, 64, 66) ∷ (0x29, 66, 69)
    ∷ (0x2B, 69, 76) ∷ (0x2C, 76, 81) ∷ (0x2D, 81, 84) ∷ (0x2E, 84, 91) ∷ (0x2F, 91, 96) ∷ (0x31, 96, 99) ∷ (0x32, 99, 102) ∷ (0x33, 102, 103)
    ∷ (0x34, 103, 104) ∷ (0x35, 104, 105) ∷ (0x36, 105, 106) ∷ (0x37, 106, 110) ∷ (0x38, 110, 113) ∷ []

abbrev pub no_arm : ℕ × ℕ × ℕ
no_arm = (0, 0, 0)

abbrev pub row_by : List ℕ → ℕ × ℕ × ℕ → ℕ
row_by pairs a = row_of pairs a.1 a.2

-- the pairs of each arm give its element's row
rows_right : List (ℕ × ℕ × ℕ) → Bool
rows_right [] = true
rows_right (a ∷ l) = eqb (row_by packed_rows a) (codes_of a.0) && rows_right l

arms-right : rows_right arms ≡ true
unfolding rows_right arms row_of with_digits digit_of packed_rows packed_row codes_of attribute_codes code_of kind_in rows
arms-right = refl

arm-of : (l : List (ℕ × ℕ × ℕ)) → rows_right l ≡ true → (i x : ℕ) → i < length l → x ≡ (get_or l i no_arm).0 → row_by packed_rows (get_or l i no_arm) ≡ codes_of x
unfolding rows_right
arm-of [] q i x l h = absurd (omega arith)
arm-of (a ∷ l) q zero x k h =
    eqb-true (row_by packed_rows a) (codes_of a.0) (and_left (eqb (row_by packed_rows a) (codes_of a.0)) (rows_right l) q) ∙ ap codes_of (sym h)
arm-of (a ∷ l) q (suc i) x k h = arm-of l (and_right (eqb (row_by packed_rows a) (codes_of a.0)) (rows_right l) q) i x (omega arith) h

pub arm_is : (i : ℕ) → i < length arms → (pairs : List ℕ) → pairs ≡ packed_rows → (x : ℕ) → x ≡ (get_or arms i no_arm).0 → (r : ℕ) → r ≡ row_by pairs (get_or arms i no_arm) → r ≡ codes_of x
arm_is i k pairs p x h r e = e ∙ ap (λ l. row_by l (get_or arms i no_arm)) p ∙ arm-of arms arms-right i x k h

-- what is in no arm has no code
abbrev pub NoneOf : Type 0 → List (ℕ × ℕ × ℕ) → ℕ → Type 0
NoneOf N [] x = N
NoneOf N (a ∷ l) x = NoneOf (N × (x ≡ a.0 → ⊥)) l x

in_arms : ℕ → List (ℕ × ℕ × ℕ) → Bool
in_arms x [] = false
in_arms x (a ∷ l) = eqb x a.0 || in_arms x l

in-no-arm : (N : Type 0) (l : List (ℕ × ℕ × ℕ)) (x : ℕ) → NoneOf N l x → N × (in_arms x l ≡ false)
unfolding in_arms
in-no-arm N [] x h = (h, refl)
in-no-arm N (a ∷ l) x h =
    let r = in-no-arm (N × (x ≡ a.0 → ⊥)) l x h in
    (r.0.0, rw (ne_eqb x a.0 r.0.1) r.1)

-- what fails a test that each row passes has no row
no_kind : (P : ℕ → ℕ → Kind → Bool) (e tag : ℕ) → every P rows ≡ true → ((k : Kind) → P e tag k ≡ false) → kind_in e tag rows ≡ none
no_kind P e tag q f = go (kind_in e tag rows) refl
  where
    go : (o : Maybe Kind) → kind_in e tag rows ≡ o → o ≡ none
    go none h = refl
    go (some k) h = absurd (false≢true (sym (f k) ∙ row-holds P e tag k rows q h))

in_arm : ℕ → ℕ → Kind → Bool
in_arm e t k = in_arms (cond (attribute t) e t) arms

rows-in-arms : every in_arm rows ≡ true
unfolding in_arm in_arms arms rows attribute
rows-in-arms = refl

module _ (element : ℕ) (out : in_arms element arms ≡ false) where
  no_own : kind_in 0 element rows ≡ none
  unfolding in_arm in_arms arms
  no_own = no_kind in_arm 0 element rows-in-arms (λ k. go (attribute element))
    where
      go : (b : Bool) → in_arms (cond b 0 element) arms ≡ false
      go true = refl
      go false = out

  no-attribute-code : (tag n : ℕ) → 0x7F < tag → attribute_codes element tag n ≡ 0
  unfolding attribute_codes attribute in_arm code_of
  no-attribute-code tag zero h = refl
  no-attribute-code tag (suc n) h =
      let f : (k : Kind) → in_arm element tag k ≡ false = λ k. ap (λ b. in_arms (cond b element tag) arms) (lt-ltb 0x7F tag h) ∙ out in
      omega (arith, ap code_of (no_kind in_arm element tag rows-in-arms f), no-attribute-code (suc tag) n (omega arith))

  no_code : 0 ≡ codes_of element
  unfolding codes_of code_of
  no_code = omega (arith, ap code_of no_own, no-attribute-code 0x80 7 (omega arith))

pub arm-rest : (x : ℕ) → NoneOf (Unit {0}) arms x → 0 ≡ codes_of x
arm-rest x h = no_code x (in-no-arm (Unit {0}) arms x h).1

-- digits
two-four : (place : ℕ) → 2 ^ (4 * place) ≡ 16 ^ place
two-four zero = refl
two-four (suc p) = ap (λ n. 2 ^ n) (omega arith) ∙ pow-add 2 4 (4 * p) ∙ ap (λ n. 16 * n) (two-four p) ∙ sym (pow-succ' 16 p)

pub digit_at : (codes place : ℕ) → bit_and (codes / 2 ^ (4 * place)) 15 ≡ codes / 16 ^ place % 16
digit_at codes place = and_mask (codes / 2 ^ (4 * place)) 4 ∙ ap (λ n. codes / n % 16) (two-four place)

above-first : (d n place : ℕ) → d < 16 → (d + 16 * n) / 16 ^ suc place ≡ n / 16 ^ place
above-first d n place h =
    ap (λ m. (d + 16 * n) / m) (pow-succ' 16 place) ∙ sym (div-div-eq-div-mul (d + 16 * n) 16 (16 ^ place)) ∙ ap (λ m. m / 16 ^ place) (omega arith)

attribute-digit : (element tag n i : ℕ) → i < n → attribute_codes element tag n / 16 ^ i % 16 ≡ code_of (kind_in element (tag + i) rows)
unfolding attribute_codes
attribute-digit element tag zero i h = absurd (omega arith)
attribute-digit element tag (suc n) zero h =
    let same : tag + 0 ≡ tag = omega arith in
    omega (arith, code-small (kind_in element tag rows), ap (λ t. code_of (kind_in element t rows)) same)
attribute-digit element tag (suc n) (suc i) h =
    ap (λ m. m % 16) (above-first (code_of (kind_in element tag rows)) (attribute_codes element (suc tag) n) i (code-small (kind_in element tag rows)))
    ∙ attribute-digit element (suc tag) n i (omega arith) ∙ ap (λ t. code_of (kind_in element t rows)) (omega arith)

lowest-digit : (element : ℕ) → codes_of element / 16 ^ 0 % 16 ≡ code_of (kind_in 0 element rows)
unfolding codes_of
lowest-digit element = omega (arith, code-small (kind_in 0 element rows))

upper-digit : (element i : ℕ) → i < 7 → codes_of element / 16 ^ suc i % 16 ≡ code_of (kind_in element (0x80 + i) rows)
unfolding codes_of
upper-digit element i h =
    ap (λ m. m % 16) (above-first (code_of (kind_in 0 element rows)) (attribute_codes element 0x80 7) i (code-small (kind_in 0 element rows)))
    ∙ attribute-digit element 0x80 7 i h

-- the lookup
all-tags : every (λ e t k. leb t 0x86) rows ≡ true
unfolding rows
all-tags = refl

pub code-beyond : (parent tag : ℕ) → 0x86 < tag → 0 ≡ code_of (known parent tag)
unfolding known code_of
code-beyond parent tag h = sym (ap code_of (no_kind (λ e t k. leb t 0x86) (cond (attribute tag) parent 0) tag all-tags (λ k. lt-leb tag 0x86 h)))

module _ (parent tag : ℕ) (b : Bool) (a : b ≡ attribute tag) where
  pub code-attribute : b ≡ true → tag ≤ 0x86 → (codes code : ℕ) → codes ≡ codes_of parent → code ≡ codes / 16 ^ (tag - 0x7F) % 16 → code ≡ code_of (known parent tag)
  unfolding known attribute
  code-attribute t h codes code c d =
      let is : ltb 0x7F tag ≡ true = sym a ∙ t in
      let above : 0x7F < tag = ltb-true 0x7F tag is in
      let place : tag - 0x7F ≡ suc (tag - 0x80) = omega arith in
      let same : 0x80 + (tag - 0x80) ≡ tag = omega arith in
      rw is (d ∙ ap₂ (λ n i. n / 16 ^ i % 16) c place ∙ upper-digit parent (tag - 0x80) (omega arith) ∙ ap (λ u. code_of (kind_in parent u rows)) same)

  pub code-own : b ≡ false → (codes code : ℕ) → codes ≡ codes_of tag → code ≡ codes / 16 ^ 0 % 16 → code ≡ code_of (known parent tag)
  unfolding known attribute
  code-own t codes code c d =
      let is : ltb 0x7F tag ≡ false = sym a ∙ t in
      rw is (d ∙ ap (λ n. n / 16 ^ 0 % 16) c ∙ lowest-digit tag)

  pub place-above : b ≡ true → 0x7F ≤ tag
  unfolding attribute
  place-above t = omega (arith, ltb-true 0x7F tag (sym a ∙ t))

pub ruleset code-ways = (code-beyond, code-attribute, code-own, place-above)

pub look : (parent tag code : ℕ) (r : Option Kind) → code ≡ code_of (known parent tag) → r ≡ known_by code → r ≡ known_kind parent tag
unfolding known_kind
look parent tag code r e k = k ∙ ap known_by e ∙ known-code (known parent tag)
