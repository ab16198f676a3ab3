-- Valid text a character at a time: what the definitions are on each way through src/characters.rt.
use Prim.Native.Nat.{ℕ, zero, suc, ◌+◌, ◌-◌, ◌*◌, ◌/◌, ◌%◌, ◌^◌, ◌≤◌, ◌<◌}
use mathlib.Core.Path.{◌≡◌, refl, sym, ap, ◌∙◌}
use mathlib.Core.List.{List, [], ◌∷◌}
use mathlib.Core.Bool.{Bool, true, false, ◌&&◌, not, cond, false≢true, and-false, or-false, and-true as and_yes}
use lib.ListN.{length, get_or, take, drop, drop_of_length-le}
use lib.Seq.{length-take-le}
use lib.Dec.{eqb, leb, ltb}
use lib.Bits.{bit_and}
use lib.Count.{count_leading_zeros}
use native.Mathlib.Nat.{pow-suc}
use native.Mathlib.Numerals.{add-one}
use native.Mathlib.Omega.{arith}
use mir.Val.{Fits}
use mir.Syntax.{w32}
use borrow.Author.Tests.{lt-ltb, le-ltb, le-leb, lt-leb, eq-eqb, ne_eqb, eqb-false, eqb-true, leb-true}
use Rattle.octets.specs.Numbers.{among}
use Rattle.octets.proofs.Tests.{and_left, and_right, and-true, cond-elim}
use Rattle.text.specs.Text.{layout, token, character, single, goes_on, utf8, text}
use Rattle.text.specs.Leaves.{following, several, token_bit, Lead, onward, Steps}
use Rattle.text.specs.Runs.{within, all_within}
use Rattle.octets.proofs.Lists.{drop-next}

-- ---- layout and token octets
module _ (b : ℕ) where
  pub layout-tab : b ≡ 0x09 → true ≡ layout b
  unfolding layout among
  layout-tab p = rw p

  pub layout-line : b ≡ 0x0A → true ≡ layout b
  unfolding layout among
  layout-line p = rw p

  pub layout-rest : (b ≡ 0x09 → ⊥) → (b ≡ 0x0A → ⊥) → eqb b 0x0D ≡ layout b
  unfolding layout among
  layout-rest p q = rw (ne_eqb b 0x09 p, ne_eqb b 0x0A q) (sym (or-false (eqb b 0x0D)))

pub ruleset layout-ways = (layout-tab, layout-line, layout-rest)

pub token-yes : (b : ℕ) → 1 ≤ b → b ≤ 0x13 → (b ≡ 0x09 → ⊥) → (b ≡ 0x0A → ⊥) → (b ≡ 0x0D → ⊥) → true ≡ token b
unfolding token layout among
token-yes b h g p q r = simp (le-leb _ _ h, le-leb _ _ g, ne_eqb _ _ p, ne_eqb _ _ q, ne_eqb _ _ r)

no-layout : (b : ℕ) → not (layout b) ≡ true → (b ≡ 0x09 → ⊥) × (b ≡ 0x0A → ⊥) × (b ≡ 0x0D → ⊥)
unfolding layout among
no-layout b e = (λ p. false≢true (rw p at e), λ p. false≢true (rw p at e), λ p. false≢true (rw p at e))

pub token-facts : (b : ℕ) → token b ≡ true → (1 ≤ b) × (b ≤ 0x13) × (b ≡ 0x09 → ⊥) × (b ≡ 0x0A → ⊥) × (b ≡ 0x0D → ⊥)
unfolding token
token-facts b e =
    let w = no-layout b (and_right (leb 1 b && leb b 0x13) (not (layout b)) e) in
    let r = and_left (leb 1 b && leb b 0x13) (not (layout b)) e in
    (leb-true 1 b (and_left (leb 1 b) (leb b 0x13) r), leb-true b 0x13 (and_right (leb 1 b) (leb b 0x13) r), w.0, w.1, w.2)

-- a token's bit or place is one of 32
pub token-bit : (b : ℕ) (r : Bool) → r ≡ token b → r ≡ true → b < 32
token-bit b r k q = omega (arith, (token-facts b (sym k ∙ q)).1)

pub token-no : (b : ℕ) → (1 ≤ b → b ≤ 0x13 → (b ≡ 0x09 → ⊥) → (b ≡ 0x0A → ⊥) → (b ≡ 0x0D → ⊥) → ⊥) → false ≡ token b
token-no b f = go (token b) refl
  where
    go : (t : Bool) → token b ≡ t → false ≡ token b
    go true e = let w = token-facts b e in absurd (f w.0 w.1 w.2 w.3 w.4)
    go false e = sym e

-- ---- octets that stand alone
module _ (tokens : Bool) (b : ℕ) where
  pub single-high : 0x20 ≤ b → true ≡ single tokens b
  unfolding single
  single-high h = simp (le-leb _ _ h)

  module _ (h : b < 0x20) (l : Bool) (p : l ≡ layout b) where
    pub single-layout : l ≡ true → true ≡ single tokens b
    unfolding single
    single-layout e = rw (lt-leb 0x20 b h, sym p ∙ e)

    module _ (e : l ≡ false) (t : Bool) (q : t ≡ token b) where
      single-is : single tokens b ≡ tokens && t
      unfolding single
      single-is = rw (lt-leb 0x20 b h, sym p ∙ e, q)

      pub single-token : t ≡ true → tokens ≡ single tokens b
      single-token y = sym (single-is ∙ rw y (and_yes tokens))

      pub single-no : t ≡ false → false ≡ single tokens b
      single-no y = sym (single-is ∙ rw y (and-false tokens))

pub ruleset single-ways = (single-high, single-layout, single-token, single-no)

-- ---- code points
module _ (least c : ℕ) where
  pub character-low : c < least → false ≡ character least c
  unfolding character
  character-low h = simp (lt-leb _ _ h)

  module _ (h : least ≤ c) where
    pub character-high : 0x10FFFF < c → false ≡ character least c
    unfolding character
    character-high g = simp (le-leb _ _ h, lt-leb _ _ g)

    module _ (g : c ≤ 0x10FFFF) where
      pub character-below : c < 0xD800 → true ≡ character least c
      unfolding character
      character-below k = simp (le-leb _ _ h, le-leb _ _ g, lt-ltb _ _ k)

      pub character-rest : 0xD800 ≤ c → ltb 0xF8FF c ≡ character least c
      unfolding character
      character-rest k = simp (le-leb _ _ h, le-leb _ _ g, le-ltb _ _ k)

pub ruleset character-ways = (character-low, character-high, character-below, character-rest)

-- ---- the loop of `follows`: after i octets the bits so far are fewer than 8 and 6 for each
pub record Follows (rest : List ℕ) (bits least c i : ℕ) : Type 0 where
  pub within : i ≤ length rest
  pub small : c < 256 * 64 ^ i
  pub same : following least bits rest ≡ following least c (drop i rest)

small-enough : (i c : ℕ) → i ≤ 2 → c < 256 * 64 ^ i → c < 2 ^ 20
small-enough zero c h g = omega arith
small-enough (suc zero) c h g = omega arith
small-enough (suc (suc zero)) c h g = omega arith
small-enough (suc (suc (suc i))) c h g = absurd (omega arith)

module _ (rest : List ℕ) (bits least : ℕ) where
  pub follow-begin : bits < 256 → Follows rest bits least bits 0
  follow-begin h = record { within = omega arith; small = omega arith; same = refl }

  module _ (c i : ℕ) (inv : Follows rest bits least c i) where
    pub follow-done : (r : Bool) → length rest ≤ i → r ≡ character least c → r ≡ following least bits rest
    unfolding following
    follow-done r h e = e ∙ sym (inv.same ∙ ap (following least c) (drop_of_length-le rest h))

    module _ (h : i < length rest) where
      pub follow-fits : length rest ≤ 3 → Fits w32 (c * 64)
      follow-fits g = record { fits = omega (arith, small-enough i c (omega arith) inv.small) }

      pub follow-fits-2 : length rest ≤ 3 → Fits w32 (c * 64 + get_or rest i 0 % 64)
      follow-fits-2 g = record { fits = omega (arith, small-enough i c (omega arith) inv.small) }

      follow-step : following least bits rest ≡ eqb (get_or rest i 0 / 64) 2 && following least (c * 64 + get_or rest i 0 % 64) (drop (i + 1) rest)
      unfolding following
      follow-step = inv.same ∙ ap (following least c) (drop-next rest i 0 h)

      pub follow-stop : (get_or rest i 0 / 64 ≡ 2 → ⊥) → false ≡ following least bits rest
      follow-stop k = sym (follow-step ∙ rw (ne_eqb (get_or rest i 0 / 64) 2 k))

      pub follow-again : get_or rest i 0 / 64 ≡ 2 → Follows rest bits least (c * 64 + get_or rest i 0 % 64) (i + 1)
      follow-again k =
          record {
            within = omega arith;
            small = rw (add-one, pow-suc 64 i) (omega (arith, inv.small));
            same = follow-step ∙ rw (eq-eqb (get_or rest i 0 / 64) 2 k);
          }

pub ruleset follow-ways = (follow-begin, follow-done, follow-stop, follow-again)

-- ---- the form by the number of octets
module _ (a : ℕ) (rest : List ℕ) (r : Bool) where
  pub several-one : length rest ≡ 1 → r ≡ following 0x80 (a % 32) rest → r ≡ several a rest
  unfolding several
  several-one h e = rw (eq-eqb (length rest) 1 h) e

  pub several-two : length rest ≡ 2 → r ≡ following 0x800 (a % 16) rest → r ≡ several a rest
  unfolding several
  several-two h e = rw h e

  pub several-three : length rest ≡ 3 → r ≡ following 0x10000 (a % 8) rest → r ≡ several a rest
  unfolding several
  several-three h e = rw h e

pub several-none : (a : ℕ) (rest : List ℕ) → (length rest ≡ 1 → ⊥) → (length rest ≡ 2 → ⊥) → (length rest ≡ 3 → ⊥) → false ≡ several a rest
unfolding several
several-none a rest p q r = rw (ne_eqb (length rest) 1 p, ne_eqb (length rest) 2 q, ne_eqb (length rest) 3 r)

pub ruleset several-ways = (several-one, several-two, several-three, several-none)

-- the octets that come after the first of a character all begin with the bits 10
tail-octet : (b : ℕ) → b / 64 ≡ 2 → within 0x80 0xBF b ≡ true
unfolding within
tail-octet b h = and-true (leb 0x80 b) (leb b 0xBF) (le-leb 0x80 b (omega arith)) (le-leb b 0xBF (omega arith))

following-high : (least c : ℕ) (rest : List ℕ) → following least c rest ≡ true → all_within 0x80 0xBF rest ≡ true
unfolding following all_within
following-high least c [] h = refl
following-high least c (b ∷ bs) h =
    let more = following least (c * 64 + b % 64) bs in
    and-true (within 0x80 0xBF b) (all_within 0x80 0xBF bs) (tail-octet b (eqb-true (b / 64) 2 (and_left (eqb (b / 64) 2) more h)))
    (following-high least (c * 64 + b % 64) bs (and_right (eqb (b / 64) 2) more h))

several-high : (a : ℕ) (rest : List ℕ) → several a rest ≡ true → all_within 0x80 0xBF rest ≡ true
unfolding several
several-high a rest =
    cond-elim (eqb (length rest) 1) _ _ (λ e. following-high 0x80 (a % 32) rest)
    (λ e. cond-elim (eqb (length rest) 2) _ _ (λ e. following-high 0x800 (a % 16) rest)
    (λ e. cond-elim (eqb (length rest) 3) _ _ (λ e. following-high 0x10000 (a % 8) rest) (λ e q. absurd (false≢true q))))

-- ---- a test that is computed for each number below a bound
unfoldable pub all_below : (ℕ → Bool) → ℕ → Bool
all_below P zero = true
all_below P (suc n) = P n && all_below P n

pub below : (P : ℕ → Bool) (n : ℕ) → all_below P n ≡ true → (k : ℕ) → k < n → P k ≡ true
unfolding all_below
below P zero e k h = absurd (omega arith)
below P (suc n) e k h = go (λ l. below P n (and_right (P n) (all_below P n) e) k l) (eqb k n) refl
  where
    go : (k < n → P k ≡ true) → (b : Bool) → eqb k n ≡ b → P k ≡ true
    go f true q = ap P (eqb-true k n q) ∙ and_left (P n) (all_below P n) e
    go f false q = f (omega (arith, eqb-false k n q))

same_test : Bool → Bool → Bool
same_test true b = b
same_test false b = not b

test-same : (a b : Bool) → same_test a b ≡ true → a ≡ b
unfolding same_test
test-same true b e = sym e
test-same false true e = e
test-same false false e = refl

-- ---- `token_bit`
mask_test : ℕ → Bool
mask_test b = eqb (bit_and (1 * 2 ^ b % 2 ^ 32) 0xFD9FE) (token_bit b)

all-masks : all_below mask_test 0x14 ≡ true
unfolding all_below mask_test token_bit token layout among
all-masks = refl

pub bit_high : (b : ℕ) → 0x13 < b → 0 ≡ token_bit b
unfolding token_bit
bit_high b h = rw (← token-no b (λ p q r s t. omega arith))

pub bit-low : (b : ℕ) → b ≤ 0x13 → bit_and (1 * 2 ^ b % 2 ^ 32) 0xFD9FE ≡ token_bit b
unfolding mask_test
bit-low b h = eqb-true (bit_and (1 * 2 ^ b % 2 ^ 32) 0xFD9FE) (token_bit b) (below mask_test 0x14 all-masks b (omega arith))

pub ruleset bit-ways = (bit_high, bit-low)

-- ---- the leading ones of each of the 256 octets
ones : ℕ → ℕ
ones a = count_leading_zeros 8 (255 - a)

low_test : ℕ → Bool
low_test a = same_test (ltb a 0x80) (eqb (ones a) 0)

lead_test : ℕ → ℕ → ℕ → ℕ → Bool
lead_test unit form n a = same_test (eqb (a / unit) form) (eqb (ones a) n)

lead_low : all_below low_test 256 ≡ true
unfolding all_below low_test same_test ones count_leading_zeros
lead_low = refl

lead-two : all_below (lead_test 32 6 2) 256 ≡ true
unfolding all_below lead_test same_test ones count_leading_zeros
lead-two = refl

lead-three : all_below (lead_test 16 14 3) 256 ≡ true
unfolding all_below lead_test same_test ones count_leading_zeros
lead-three = refl

lead-four : all_below (lead_test 8 30 4) 256 ≡ true
unfolding all_below lead_test same_test ones count_leading_zeros
lead-four = refl

pub lead : (a : ℕ) → a < 256 → Lead a (count_leading_zeros 8 (255 - a))
unfolding low_test lead_test ones
lead a h =
    record {
      low = test-same (ltb a 0x80) (eqb (ones a) 0) (below low_test 256 lead_low a h);
      two = test-same (eqb (a / 32) 6) (eqb (ones a) 2) (below (lead_test 32 6 2) 256 lead-two a h);
      three = test-same (eqb (a / 16) 14) (eqb (ones a) 3) (below (lead_test 16 14 3) 256 lead-three a h);
      four = test-same (eqb (a / 8) 30) (eqb (ones a) 4) (below (lead_test 8 30 4) 256 lead-four a h);
    }

-- ---- the octets of one character, and the text after it
-- between characters what came before does not matter
pub utf8-zero : (s : List ℕ) (t : Bool) (c least : ℕ) → utf8 t 0 c least s ≡ text t s
unfolding utf8 text
utf8-zero [] t c least = refl
utf8-zero (b ∷ s) t c least = refl

utf8-short : (s : List ℕ) (t : Bool) (more c least : ℕ) → length s < more → utf8 t more c least s ≡ false
unfolding utf8
utf8-short [] t zero c least h = absurd (omega arith)
utf8-short [] t (suc more) c least h = refl
utf8-short (b ∷ s) t zero c least h = absurd (omega arith)
utf8-short (b ∷ s) t (suc more) c least h = rw (utf8-short s t more (c * 64 + b % 64) least (omega arith), and-false (goes_on more c least b))

and-join : (p q x : Bool) → (p && true) && (q && x) ≡ (p && q) && x
and-join true q x = refl
and-join false q x = refl

-- one law for every length: the octets to come are those that follow, and then text
utf8-follows : (more : ℕ) (s : List ℕ) (t : Bool) (c least : ℕ) → suc more ≤ length s
    → utf8 t (suc more) c least s ≡ following least c (take (suc more) s) && text t (drop (suc more) s)
unfolding utf8 goes_on following
utf8-follows more [] t c least h = absurd (omega arith)
utf8-follows zero (b ∷ s) t c least h = rw (utf8-zero s t (c * 64 + b % 64) least)
utf8-follows (suc more) (b ∷ s) t c least h =
    let d = c * 64 + b % 64 in
    rw (ne_eqb (suc more) 0 (λ e. omega arith), utf8-follows more s t d least (omega arith))
    (and-join (eqb (b / 64) 2) (following least d (take (suc more) s)) (text t (drop (suc more) s)))

pub text-low : (t : Bool) (a : ℕ) (s : List ℕ) → a < 0x80 → text t (a ∷ s) ≡ single t a && text t s
unfolding text utf8
text-low t a s h = rw (lt-ltb a 0x80 h)

module _ (t : Bool) (a n : ℕ) (s : List ℕ) (h : 0x80 ≤ a) (l : Lead a n) where
  text-high : text t (a ∷ s) ≡ cond (eqb n 2) (utf8 t 1 (a % 32) 0x80 s) (cond (eqb n 3) (utf8 t 2 (a % 16) 0x800 s) (cond (eqb n 4) (utf8 t 3 (a % 8) 0x10000 s) false))
  unfolding text utf8
  text-high = rw (le-ltb a 0x80 h, l.two, l.three, l.four)

pub lead-some : (a n : ℕ) → 0x80 ≤ a → Lead a n → 1 ≤ n
lead-some a zero h l = let z : false ≡ true = sym (le-ltb a 0x80 h) ∙ l.low in absurd (false≢true z)
lead-some a (suc n) h l = omega arith

-- ---- what `sequence` answers
module _ (t : Bool) where
  pub one-yes : (s : List ℕ) (r : Bool) → 0 < length s → get_or s 0 0 < 0x80 → r ≡ single t (get_or s 0 0) → r ≡ true → Steps t s 1
  unfolding onward all_within
  one-yes [] r z h e y = absurd (omega arith)
  one-yes (a ∷ s) r z h e y = record { within = omega arith; same = rw (text-low t a s h, ← e, y); low = λ g. omega arith; begun = λ g. omega arith; high = refl }

  pub one-no : (s : List ℕ) (r : Bool) → 0 < length s → get_or s 0 0 < 0x80 → r ≡ single t (get_or s 0 0) → r ≡ false → Steps t s 0
  unfolding onward all_within
  one-no [] r z h e y = absurd (omega arith)
  one-no (a ∷ s) r z h e y = record { within = omega arith; same = rw (text-low t a s h, ← e, y); low = λ g. omega arith; begun = λ g. omega arith; high = refl }

  pub short : (s : List ℕ) (n : ℕ) → 0 < length s → 0x80 ≤ get_or s 0 0 → Lead (get_or s 0 0) n → length s < n → Steps t s 0
  unfolding onward all_within
  short [] n z h l g = absurd (omega arith)
  short (a ∷ s) n z h l g =
      record { within = omega arith; same = text-high t a n s h l ∙ go (eqb n 2) (eqb n 3) (eqb n 4) refl refl refl; low = λ q. omega arith; begun = λ q. refl; high = refl }
    where
      go : (p q r : Bool) → eqb n 2 ≡ p → eqb n 3 ≡ q → eqb n 4 ≡ r
          → cond p (utf8 t 1 (a % 32) 0x80 s) (cond q (utf8 t 2 (a % 16) 0x800 s) (cond r (utf8 t 3 (a % 8) 0x10000 s) false)) ≡ false
      go true q r e f d = utf8-short s t 1 (a % 32) 0x80 (omega (arith, eqb-true n 2 e))
      go false true r e f d = utf8-short s t 2 (a % 16) 0x800 (omega (arith, eqb-true n 3 f))
      go false false true e f d = utf8-short s t 3 (a % 8) 0x10000 (omega (arith, eqb-true n 4 d))
      go false false false e f d = refl

  -- a first octet and as many others as its leading ones tell: there is no form of more than four octets
  too_many : (a m : ℕ) (s : List ℕ) → 4 ≤ m → 0x80 ≤ a → Lead a (suc m) → m ≤ length s → text t (a ∷ s) ≡ several a (take m s) && text t (drop m s)
  unfolding several
  too_many a m s k h l g =
      text-high t a (suc m) s h l
      ∙ rw (ne_eqb (suc m) 2 (λ e. omega arith), ne_eqb (suc m) 3 (λ e. omega arith), ne_eqb (suc m) 4 (λ e. omega arith))
      (rw (length-take-le m s g, ne_eqb m 1 (λ e. omega arith), ne_eqb m 2 (λ e. omega arith), ne_eqb m 3 (λ e. omega arith)))

  long : (a m : ℕ) (s : List ℕ) → 0x80 ≤ a → Lead a (suc m) → m ≤ length s → text t (a ∷ s) ≡ several a (take m s) && text t (drop m s)
  unfolding several
  long a zero s h l g = text-high t a 1 s h l
  long a (suc zero) s h l g = text-high t a 2 s h l ∙ utf8-follows 0 s t (a % 32) 0x80 g ∙ rw (length-take-le 1 s g)
  long a (suc (suc zero)) s h l g = text-high t a 3 s h l ∙ utf8-follows 1 s t (a % 16) 0x800 g ∙ rw (length-take-le 2 s g)
  long a (suc (suc (suc zero))) s h l g = text-high t a 4 s h l ∙ utf8-follows 2 s t (a % 8) 0x10000 g ∙ rw (length-take-le 3 s g)
  long a (suc (suc (suc (suc m)))) s h l g = too_many a (suc (suc (suc (suc m)))) s (omega arith) h l g

  all : (a m : ℕ) (s : List ℕ) (r : Bool) → r ≡ several a (take (suc m - 1) s) → r ≡ several a (take m s)
  all a m s r e = let k : suc m - 1 ≡ m = omega arith in rw k at e

  -- the bits 10 tell no form
  none-begun : (a m : ℕ) (s : List ℕ) → a / 64 ≡ 2 → Lead a (suc m) → m ≤ length s → several a (take m s) ≡ true → ⊥
  none-begun a m s q l g e =
      let size = length-take-le m s g in
      let no : (n : ℕ) → length (take m s) ≡ n → suc m ≡ suc n = λ n h. ap suc (sym size ∙ h) in
      let none = several-none a (take m s) (λ h. eqb-false (suc m) 2 (sym l.two ∙ ne_eqb (a / 32) 6 (λ k. omega arith)) (no 1 h))
      (λ h. eqb-false (suc m) 3 (sym l.three ∙ ne_eqb (a / 16) 14 (λ k. omega arith)) (no 2 h))
      (λ h. eqb-false (suc m) 4 (sym l.four ∙ ne_eqb (a / 8) 30 (λ k. omega arith)) (no 3 h)) in
      false≢true (none ∙ e)

  pub long-yes : (s : List ℕ) (n : ℕ) (r : Bool) → 0 < length s → 0x80 ≤ get_or s 0 0 → Lead (get_or s 0 0) n → n ≤ length s
      → r ≡ several (get_or s 0 0) (take (n - 1) (drop 1 s)) → r ≡ true → Steps t s n
  unfolding onward all_within
  long-yes [] n r z h l g e y = absurd (omega arith)
  long-yes (a ∷ s) zero r z h l g e y = absurd (omega (arith, lead-some a 0 h l))
  long-yes (a ∷ s) (suc m) r z h l g e y =
      record { within = g; same = long a m s h l (omega arith) ∙ rw (← all a m s r e, y); low = λ q. omega arith; begun = λ q. absurd (none-begun a m s q l (omega arith) (sym (all a m s r e) ∙ y)); high = several-high a (take (suc m - 1) s) (sym e ∙ y) }

  pub long-no : (s : List ℕ) (n : ℕ) (r : Bool) → 0 < length s → 0x80 ≤ get_or s 0 0 → Lead (get_or s 0 0) n → n ≤ length s
      → r ≡ several (get_or s 0 0) (take (n - 1) (drop 1 s)) → r ≡ false → Steps t s 0
  unfolding onward all_within
  long-no [] n r z h l g e y = absurd (omega arith)
  long-no (a ∷ s) zero r z h l g e y = absurd (omega (arith, lead-some a 0 h l))
  long-no (a ∷ s) (suc m) r z h l g e y = record { within = omega arith; same = long a m s h l (omega arith) ∙ rw (← all a m s r e, y); low = λ q. omega arith; begun = λ q. refl; high = refl }

pub ruleset sequence-ways = (one-yes, one-no, short, long-yes, long-no)
