-- The header of an item: what the grammar says of it, and what the judgement reads in it.
use mathlib.Core.Path.{◌≡◌, refl, sym, ap, ap₂, ◌∙◌, subst}
use mathlib.Core.Bool.{Bool, true, false}
use mathlib.Core.List.{List, [], ◌∷◌, ◌++◌}
use Prim.Native.Nat.{ℕ, suc, ◌+◌, ◌^◌, ◌≤◌, ◌<◌}
use native.Mathlib.Omega.{arith}
use lib.Dec.{eqb}
use lib.ListN.{length, take, drop, length-append, length-drop, take-append-drop}
use lib.Seq.{take-append_seam, drop-append_seam, take_at, length-take-le}
use borrow.Author.Tests.{eqb-true, eqb-false, ne_eqb}
use Rattle.octets.specs.Numbers.{value, digits, Octets}
use Rattle.octets.specs.Header.{header_size, body_size}
use Rattle.octets.specs.Places.{first_body, after_first}
use Rattle.octets.proofs.Numbers.{length_digits, value-digits, value-of-length, octets-take, digits_value}
use Rattle.octets.proofs.Frames.{header-two}
use Rattle.grammar.specs.Grammar.{Form, header, Says, Begins}
use Rattle.grammar.specs.Grammar.Form.{short, middle, long}

-- what is read in octets that begin with an item
pub record Begun (tag : ℕ) (body rest behind : List ℕ) (start : ℕ) : Type 0 where
  pub header : header_size (tag ∷ behind) ≡ start
  pub size : body_size (tag ∷ behind) ≡ length body
  pub inside : take (length body) (drop start (tag ∷ behind)) ≡ body
  pub after : drop (length body) (drop start (tag ∷ behind)) ≡ rest
  pub room : suc (length behind) ≡ start + length body + length rest

-- the octets of a length
abbrev pub size_octets : Form → ℕ → List ℕ
size_octets short n = n ∷ []
size_octets middle n = 0xFE ∷ digits 2 n
size_octets long n = 0xFF ∷ digits 3 n

header-tag : (f : Form) (tag n : ℕ) → header f tag n ≡ tag ∷ size_octets f n
header-tag short tag n = refl
header-tag middle tag n = refl
header-tag long tag n = refl

-- the two sizes that a header says
form-header : (f : Form) (tag n : ℕ) (more : List ℕ) → Says f n → header_size (tag ∷ size_octets f n ++ more) ≡ suc (length (size_octets f n))
unfolding header_size
form-header short tag n more h = rw (ne_eqb n 0xFE (λ q. omega arith), ne_eqb n 0xFF (λ q. omega arith))
form-header middle tag n more h = rw length_digits
form-header long tag n more h = rw length_digits

form-size : (f : Form) (tag n : ℕ) (more : List ℕ) → Says f n → body_size (tag ∷ size_octets f n ++ more) ≡ n
unfolding body_size
form-size short tag n more h = rw (ne_eqb n 0xFE (λ q. omega arith), ne_eqb n 0xFF (λ q. omega arith))
form-size middle tag n more h = rw (take_at (digits 2 n) more 2 (length_digits 2 n)) (value-digits 2 n h)
form-size long tag n more h = rw (take_at (digits 3 n) more 3 (length_digits 3 n)) (value-digits 3 n h)

form-begun : (f : Form) (tag : ℕ) (body rest : List ℕ) → Says f (length body) → Begun tag body rest (size_octets f (length body) ++ (body ++ rest)) (suc (length (size_octets f (length body))))
form-begun f tag body rest h =
    let d : drop (length (size_octets f (length body))) (size_octets f (length body) ++ (body ++ rest)) ≡ body ++ rest = drop-append_seam (size_octets f (length body)) (body ++ rest) in
    record {
      header = form-header f tag (length body) (body ++ rest) h;
      size = form-size f tag (length body) (body ++ rest) h;
      inside = rw d (take-append_seam body rest);
      after = rw d (drop-append_seam body rest);
      room = simp (length-append) (omega arith);
    }

pub begun : (tag start : ℕ) (body rest o : List ℕ) → Begins tag body rest o start → (behind : List ℕ) × (o ≡ tag ∷ behind) × Begun tag body rest behind start
begun tag start body rest o b =
    let t = header-tag b.form tag (length body) in (
      size_octets b.form (length body) ++ (body ++ rest),
      b.octets ∙ ap (λ h. h ++ (body ++ rest)) t,
      subst (Begun tag body rest (size_octets b.form (length body) ++ (body ++ rest))) (sym (b.begins ∙ ap length t)) (form-begun b.form tag body rest b.says),
    )

-- the other way round: an item that lies in its part begins it
built : (f : Form) (tag h n : ℕ) (p : List ℕ) → length (take n (drop h p)) ≡ n → Says f n → h ≡ length (header f tag n) → p ≡ header f tag n ++ drop h p
    → Begins tag (take n (drop h p)) (drop n (drop h p)) p h
built f tag h n p l s b e = record { form = f; says = rw l s; octets = rw (l, take-append-drop n (drop h p)) e; begins = rw l b }

-- the digits of a length behind its mark, which lie in the part
digits-take : (n : ℕ) (o : List ℕ) → Octets o → n ≤ length o → digits n (value (take n o)) ≡ take n o
digits-take n o os l = subst (λ m. digits m (value (take n o)) ≡ take n o) (length-take-le n o l) (digits_value (take n o) (octets-take n o os))

value-take : (n : ℕ) (o : List ℕ) → Octets o → n ≤ length o → value (take n o) < 256 ^ n
value-take n o os l = value-of-length n (take n o) (octets-take n o os) (length-take-le n o l)

digits-front : (n : ℕ) (o : List ℕ) → Octets o → n ≤ length o → o ≡ digits n (value (take n o)) ++ drop n o
digits-front n o os l = rw (digits-take n o os l) (sym (take-append-drop n o))

begins-cons : (tag b : ℕ) (bs : List ℕ) → Octets (tag ∷ b ∷ bs) → header_size (tag ∷ b ∷ bs) ≤ suc (suc (length bs)) → length (first_body (tag ∷ b ∷ bs)) ≡ body_size (tag ∷ b ∷ bs)
    → Begins tag (first_body (tag ∷ b ∷ bs)) (after_first (tag ∷ b ∷ bs)) (tag ∷ b ∷ bs) (header_size (tag ∷ b ∷ bs))
unfolding header_size body_size
begins-cons tag b bs os r l = go (eqb b 0xFE) refl (eqb b 0xFF) refl
  where
    behind : Octets bs
    behind i = os (suc (suc i))

    go : (x : Bool) → eqb b 0xFE ≡ x → (y : Bool) → eqb b 0xFF ≡ y
        → Begins tag (first_body (tag ∷ b ∷ bs)) (after_first (tag ∷ b ∷ bs)) (tag ∷ b ∷ bs) (header_size (tag ∷ b ∷ bs))
    go true e y f =
        let q : 2 ≤ length bs = let g : 4 ≤ suc (suc (length bs)) = rw e at r in omega arith in
        let d : bs ≡ digits 2 (value (take 2 bs)) ++ drop 2 bs = digits-front 2 bs behind q in
        rw e (built middle tag 4 (value (take 2 bs)) (tag ∷ b ∷ bs) (rw e at l) (value-take 2 bs behind q) (rw length_digits) (ap₂ (λ x o. tag ∷ x ∷ o) (eqb-true b 0xFE e) d))
    go false e true f =
        let q : 3 ≤ length bs = let g : 5 ≤ suc (suc (length bs)) = rw (e, f) at r in omega arith in
        let d : bs ≡ digits 3 (value (take 3 bs)) ++ drop 3 bs = digits-front 3 bs behind q in
        rw (e, f) (built long tag 5 (value (take 3 bs)) (tag ∷ b ∷ bs) (rw (e, f) at l) (value-take 3 bs behind q) (rw length_digits) (ap₂ (λ x o. tag ∷ x ∷ o) (eqb-true b 0xFF f) d))
    go false e false f = rw (e, f) (built short tag 2 b (tag ∷ b ∷ bs) (rw (e, f) at l) (omega (arith, os 1, eqb-false b 0xFE e, eqb-false b 0xFF f)) refl refl)

pub body-length : (p : List ℕ) → header_size p + body_size p ≤ length p → length (first_body p) ≡ body_size p
body-length p l = length-take-le (body_size p) (drop (header_size p) p) (rw (length-drop (header_size p) p) (omega arith))

pub begins : (tag : ℕ) (rest : List ℕ) → Octets (tag ∷ rest) → header_size (tag ∷ rest) ≤ suc (length rest) → header_size (tag ∷ rest) + body_size (tag ∷ rest) ≤ suc (length rest)
    → Begins tag (first_body (tag ∷ rest)) (after_first (tag ∷ rest)) (tag ∷ rest) (header_size (tag ∷ rest))
begins tag [] os r l = absurd (omega (arith, header-two (tag ∷ [])))
begins tag (b ∷ bs) os r l = begins-cons tag b bs os r (body-length (tag ∷ b ∷ bs) l)
