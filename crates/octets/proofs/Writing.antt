-- The ways through the calls that write: room, forms of a length, numbers, headers, copies.
use mathlib.Core.Path.{◌≡◌, refl, sym, ap, ◌∙◌}
use mathlib.Core.Bool.{Bool, true, false}
use mathlib.Core.List.{List, [], ◌∷◌, ◌++◌}
use Prim.Native.Nat.{ℕ, zero, suc, ◌+◌, ◌-◌, ◌*◌, ◌/◌, ◌%◌, ◌^◌, ◌≤◌, ◌<◌}
use native.Mathlib.Nat.{add-zero, add_assoc, mod-eq_of_lt, div-eq_of_lt, div-lt_iff_lt-mul}
use native.Mathlib.Numerals.{add-one}
use native.Mathlib.Omega.{arith}
use lib.Bits.{bit_and, and_mask, mask_lt}
use lib.Dec.{eqb, leb, ltb}
use lib.ListN.{length, drop, get_or, set, length-append, length-set, drop_of_length-le}
use lib.Seq.{sets}
use mir.Syntax.{w8, w64}
use mir.Val.{Fits}
use borrow.Author.Tests.{le-leb, lt-leb, leb-true, lt-ltb, le-ltb, ltb-true, ltb-false, eq-eqb, ne_eqb}
use Rattle.octets.specs.Counts.{as_octets}
use Rattle.octets.specs.Numbers.{digits}
use Rattle.octets.specs.Header.{length_field}
use Rattle.octets.specs.Calls.{fits_width, announced, width_of, Formed}
use Rattle.octets.specs.declared.counts.Octets.{Octets}
use Rattle.octets.specs.declared.LengthForm.{LengthForm}
use Rattle.octets.specs.declared.LengthForm.TheVariants.{One, Two}
use Rattle.octets.proofs.Tests.{and_left, and_right}
use Rattle.octets.proofs.Lists.{drop-next}
use Rattle.octets.proofs.Numbers.{pow_pos, pow-octets, length_digits, digits_more}
use Rattle.octets.proofs.Left.{Left, left-begin, left_one}
use Rattle.octets.proofs.Puts.{puts-invalid, asked-room, asked-ways}

-- ---- forms of a length
module _ (n : ℕ) where
  pub form-one : n ≤ 0xFD → Formed n One
  unfolding length_field announced width_of digits
  form-one h = let e : n ≡ n / 1 = omega arith in record { field = rw (le-leb n 0xFD h) (ap (λ m. m ∷ []) e); fits = λ b. omega arith }

  pub form-two : 0xFD < n → Formed n Two
  unfolding length_field announced width_of
  form-two h = record { field = rw (lt-leb n 0xFD h); fits = λ b. b }

pub ruleset form-ways = (form-one, form-two)

module _ (n : ℕ) (f : LengthForm) (k : Formed n f) where
  length-field : length (length_field n) ≡ length (announced f) + width_of f
  length-field = ap length k.field ∙ length-append (announced f) (digits (width_of f) n) ∙ ap (λ m. length (announced f) + m) (length_digits (width_of f) n)

  pub size-one : f ≡ One → as_octets 2 ≡ as_octets (suc (length (length_field n)))
  unfolding announced width_of
  size-one e = rw (length-field, e)

  pub size-two : f ≡ Two → as_octets 4 ≡ as_octets (suc (length (length_field n)))
  unfolding announced width_of
  size-two e = rw (length-field, e)

pub ruleset size-ways = (size-one, size-two)

-- ---- one octet of a number
module _ (n place : ℕ) where
  pub digit-fits : Fits w8 (bit_and (n / 2 ^ (8 * place)) 255)
  digit-fits = record { fits = mask_lt (n / 2 ^ (8 * place)) 8 }

  pub digit-is : bit_and (n / 2 ^ (8 * place)) 255 ≡ n / 256 ^ place % 256
  digit-is = and_mask (n / 2 ^ (8 * place)) 8 ∙ ap (λ m. n / m % 256) (pow-octets place)

pub ruleset digit-ways = (digit-fits, digit-is)

-- ---- a number stored from its first octet on: what is left are the digits of its low octets
pub record Storing (out₀ : List ℕ) (at width n : ℕ) (out : List ℕ) (i : ℕ) : Type 0 where
  pub few : width ≤ 4
  pub rest : Left (digits width n) at out₀ (digits (width - i) (n % 256 ^ (width - i))) out (at + i)

module _ (out₀ : List ℕ) (at width n : ℕ) where
  pub store-begin : width ≤ 4 → n < 256 ^ width → at + width ≤ length out₀ → Storing out₀ at width n out₀ 0
  store-begin h g r =
      let w : width - 0 ≡ width = omega arith in
      record { few = h; rest = rw (w, add-zero, mod-eq_of_lt g) (left-begin (digits width n) at out₀ (rw length_digits r)) }

  pub store-done : (out : List ℕ) (i : ℕ) → Storing out₀ at width n out i → width ≤ i → out ≡ sets out₀ at (digits width n)
  unfolding digits
  store-done out i v h = let w : width - i ≡ 0 = omega arith in (rw w at v.rest).same

  module _ (out : List ℕ) (i : ℕ) (v : Storing out₀ at width n out i) (h : i < width) where
    next : Left (digits width n) at out₀ (n / 256 ^ (width - 1 - i) % 256 ∷ digits (width - 1 - i) (n % 256 ^ (width - 1 - i))) out (at + i)
    next = let p : width - i ≡ suc (width - 1 - i) = omega arith in rw (p, digits_more (width - 1 - i) n) at v.rest

    pub store-place : width - 1 - i < 4
    store-place = omega (arith, v.few)

    pub store_in : at + i < length out
    store_in = omega (arith, next.room)

    pub store-fits : length out₀ < 2 ^ 64 → Fits w64 (at + i)
    store-fits l = record { fits = omega (arith, next.room, next.long) }

    pub store-again : (b : ℕ) → b ≡ n / 256 ^ (width - 1 - i) % 256 → Storing out₀ at width n (set out (at + i) b) (i + 1)
    store-again b e =
        let w : width - (i + 1) ≡ width - 1 - i = omega arith in
        let t : at + (i + 1) ≡ at + i + 1 = omega arith in
        record { few = v.few; rest = rw (e, w, t) (left_one (digits width n) at out₀ (n / 256 ^ (width - 1 - i) % 256) (digits (width - 1 - i) (n % 256 ^ (width - 1 - i))) out (at + i) next) }

pub ruleset store-ways = (store-begin, store-done, store-again, store-place, store_in, store-fits)

-- ---- a copy
pub record Copying (out₀ : List ℕ) (at : ℕ) (s out : List ℕ) (i : ℕ) : Type 0 where
  pub within : i ≤ length s
  pub rest : Left s at out₀ (drop i s) out (at + i)

module _ (out₀ : List ℕ) (at : ℕ) (s : List ℕ) where
  pub copy_begin : at + length s ≤ length out₀ → Copying out₀ at s out₀ 0
  copy_begin h = record { within = omega arith; rest = rw add-zero (left-begin s at out₀ h) }

  module _ (out : List ℕ) (i : ℕ) (v : Copying out₀ at s out i) where
    pub copy_done : length s ≤ i → out ≡ sets out₀ at s
    copy_done h = (rw (drop_of_length-le s h) at v.rest).same

    module _ (h : i < length s) where
      to-copy : Left s at out₀ (get_or s i 0 ∷ drop (i + 1) s) out (at + i)
      to-copy = rw (drop-next s i 0 h) at v.rest

      pub copy-in : at + i < length out
      copy-in = omega (arith, to-copy.room)

      pub copy-fits : length out₀ < 2 ^ 64 → Fits w64 (at + i)
      copy-fits l = record { fits = omega (arith, to-copy.room, to-copy.long) }

      pub copy-again : Copying out₀ at s (set out (at + i) (get_or s i 0)) (i + 1)
      copy-again = record { within = omega arith; rest = rw (← add_assoc) (left_one s at out₀ (get_or s i 0) (drop (i + 1) s) out (at + i) to-copy) }

pub ruleset copy-ways = (copy_begin, copy_done, copy-in, copy-fits, copy-again)

-- ---- a number in so many octets
module _ (width n : ℕ) where
  pub width-far : 4 < width → false ≡ fits_width width n
  unfolding fits_width
  width-far h = rw (lt-leb width 4 h)

  above : (p : ℕ) → 0 < p → eqb (n / p) 0 ≡ ltb n p
  above p h = go (ltb n p) refl
    where
      go : (b : Bool) → ltb n p ≡ b → eqb (n / p) 0 ≡ ltb n p
      go true e = eq-eqb (n / p) 0 (div-eq_of_lt (ltb-true n p e)) ∙ sym e
      go false e = ne_eqb (n / p) 0 (λ q. let z : n < 1 * p = (div-lt_iff_lt-mul {k = p} {x = n} {y = 1} h).0 (omega arith) in omega (arith, ltb-false n p e)) ∙ sym e

  pub width-near : width ≤ 4 → eqb (n / 2 ^ (8 * width)) 0 ≡ fits_width width n
  unfolding fits_width
  width-near h = rw (pow-octets width, le-leb width 4 h) (above (256 ^ width) (pow_pos width))

pub ruleset width-ways = (width-far, width-near)

module _ (width n : ℕ) where
  pub width-sized : width ≡ length (digits width n)
  width-sized = sym (length_digits width n)

  module _ (f : Bool) (g : f ≡ fits_width width n) where
    pub number-no : f ≡ false → fits_width width n ≡ false
    number-no q = sym g ∙ q

    module _ (u : f ≡ true) where
      pub number-yes : fits_width width n ≡ true
      number-yes = sym g ∙ u

      pub number-width : width ≤ 4
      unfolding fits_width
      number-width = leb-true width 4 (and_left (leb width 4) (ltb n (256 ^ width)) number-yes)

      pub number_small : n < 256 ^ width
      unfolding fits_width
      number_small = ltb-true n (256 ^ width) (and_right (leb width 4) (ltb n (256 ^ width)) number-yes)

pub ruleset put-number-ways = (puts-invalid, asked-ways, width-sized, number-no, number-yes)

-- ---- a length in its form
module _ (out : List ℕ) (at n : ℕ) (f : LengthForm) (k : Formed n f) where
  module _ (h : n < 256 ^ 2) where
    pub one-fits : f ≡ One → n < 256 ^ 1
    unfolding width_of
    one-fits e = rw e at (k.fits h)

    pub two_fits : f ≡ Two → n < 256 ^ 2
    unfolding width_of
    two_fits e = rw e at (k.fits h)

  module _ (r : at + length (length_field n) ≤ length out) where
    field_in : at + (length (announced f) + width_of f) ≤ length out
    field_in = rw (length-field n f k) at r

    pub one-room : f ≡ One → at + 1 ≤ length out
    unfolding announced width_of
    one-room e = rw e at field_in

    pub two_in : f ≡ Two → at < length out
    unfolding announced width_of
    two_in e = let q = rw e at field_in in omega arith

    pub two-room : (b : ℕ) → f ≡ Two → at + 1 + 2 ≤ length (set out at b)
    unfolding announced width_of
    two-room b e = let q = rw e at field_in in simp length-set (omega arith)

  laid : (out' : List ℕ) → out' ≡ sets out at (announced f ++ digits (width_of f) n) → out' ≡ sets out at (length_field n)
  laid out' e = e ∙ ap (sets out at) (sym k.field)

  pub one-done : (out' : List ℕ) → f ≡ One → out' ≡ sets out at (digits 1 n) → out' ≡ sets out at (length_field n)
  unfolding announced width_of
  one-done out' e q = laid out' (rw e q)

  pub two-done : (out' : List ℕ) → f ≡ Two → out' ≡ sets (set out at 0xFE) (at + 1) (digits 2 n) → out' ≡ sets out at (length_field n)
  unfolding announced width_of
  two-done out' e q = laid out' (rw e (q ∙ ap (λ m. sets (set out at 0xFE) m (digits 2 n)) (add-one at)))

pub same-after-set : (out : List ℕ) (at b : ℕ) (out' : List ℕ) → length out' ≡ length (set out at b) → length out' ≡ length out
same-after-set out at b out' e = e ∙ length-set out at b

pub ruleset length-ways = (one-fits, two_fits, one-room, two_in, two-room, one-done, two-done, same-after-set)

-- ---- a header
pub header-long : (n : ℕ) → 0xFFFF < n → ltb n (256 ^ 2) ≡ false
header-long n h = le-ltb n (256 ^ 2) (omega arith)

pub header-short : (n : ℕ) → n ≤ 0xFFFF → ltb n (256 ^ 2) ≡ true
header-short n h = lt-ltb n (256 ^ 2) (omega arith)

module _ (tag n : ℕ) (size : Octets) (l : size ≡ as_octets (suc (length (length_field n)))) (out : List ℕ) (at : ℕ) (b : Bool) (k : b ≡ leb (at + size.0) (length out)) (q : b ≡ true) where
  room : at + suc (length (length_field n)) ≤ length out
  room = asked-room true (tag ∷ length_field n) at out size.0 (ap (λ m. m.0) l) b k q

  pub header-in : at < length out
  header-in = omega (arith, room)

  pub header-room : at + 1 + length (length_field n) ≤ length (set out at tag)
  header-room = simp length-set (omega (arith, room))

pub header-laid : (out : List ℕ) (at tag : ℕ) (field out' : List ℕ) → out' ≡ sets (set out at tag) (at + 1) field → out' ≡ sets out at (tag ∷ field)
header-laid out at tag field out' p = p ∙ ap (λ m. sets (set out at tag) m field) (add-one at)

pub ruleset write-ways = (puts-invalid, asked-ways, header-long, header-short, header-in, header-room, header-laid, same-after-set)
