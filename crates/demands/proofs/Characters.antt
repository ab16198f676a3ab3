-- Request 2026-01: the octets of a code point have one that doesn't begin with the bits 10.
use mathlib.Core.Path.{◌≡◌, refl, sym, ap, ◌∙◌}
use mathlib.Core.Bool.{Bool, true, false, cond, not, ◌&&◌, ◌||◌, false≢true}
use mathlib.Core.List.{List, [], ◌∷◌, ◌++◌}
use Prim.Native.Nat.{ℕ, zero, suc, ◌+◌, ◌*◌, ◌/◌, ◌%◌, ◌≤◌, ◌<◌}
use native.Mathlib.Omega.{arith}
use lib.Dec.{eqb, leb, ltb}
use lib.ListN.{length}
use borrow.Author.Tests.{lt-ltb, le-ltb, eqb-true, ltb-true, ne_eqb, eq-eqb, leb-true, le-leb}
use Rattle.octets.specs.Counts.{as_characters}
use Rattle.octets.proofs.Tests.{and_left, and_right}
use Rattle.text.specs.Text.{character, single, goes_on, utf8, text}
use Rattle.text.specs.Tokens.{expanded, starts, shown_length}
use Rattle.format.specs.Judge.{not_above, shown}
use Rattle.demands.specs.Characters.{encoded, written, CodePoints, CharactersCounted, TextWritten}

starts-append : (a b : List ℕ) → starts (a ++ b) ≡ starts a + starts b
unfolding starts
starts-append [] b = omega arith
starts-append (x ∷ a) b = omega (arith, starts-append a b)

-- an octet behind the first, and a first one
behind : (n : ℕ) → n < 64 → eqb ((0x80 + n) / 64) 2 ≡ true
behind n l = eq-eqb ((0x80 + n) / 64) 2 (omega arith)

low : (n : ℕ) → n < 0x80 → eqb (n / 64) 2 ≡ false
low n l = ne_eqb (n / 64) 2 (λ e. omega arith)

high : (n : ℕ) → 0xC0 ≤ n → eqb (n / 64) 2 ≡ false
high n l = ne_eqb (n / 64) 2 (λ e. omega arith)

one-start : (c : ℕ) → c < 0x110000 → starts (encoded c) ≡ 1
unfolding encoded starts
one-start c l = go (ltb c 0x80) refl (ltb c 0x800) refl (ltb c 0x10000) refl
  where
    go : (x : Bool) → ltb c 0x80 ≡ x → (y : Bool) → ltb c 0x800 ≡ y → (z : Bool) → ltb c 0x10000 ≡ z
        → starts (cond x (c ∷ []) (cond y ((0xC0 + c / 64) ∷ (0x80 + c % 64) ∷ []) (cond z ((0xE0 + c / 4096) ∷ (0x80 + c / 64 % 64) ∷ (0x80 + c % 64) ∷ [])
        ((0xF0 + c / 262144) ∷ (0x80 + c / 4096 % 64) ∷ (0x80 + c / 64 % 64) ∷ (0x80 + c % 64) ∷ [])))) ≡ 1
    go true p y q z r = rw (low c (ltb-true c 0x80 p)) refl
    go false p true q z r = rw (high (0xC0 + c / 64) (omega arith), behind (c % 64) (omega arith)) refl
    go false p false q true r = rw (high (0xE0 + c / 4096) (omega arith), behind (c / 64 % 64) (omega arith), behind (c % 64) (omega arith)) refl
    go false p false q false r =
        rw (high (0xF0 + c / 262144) (omega arith), behind (c / 4096 % 64) (omega arith), behind (c / 64 % 64) (omega arith), behind (c % 64) (omega arith)) refl

starts-written : (cs : List ℕ) → CodePoints cs → starts (written cs) ≡ length cs
unfolding written starts
starts-written [] k = refl
starts-written (c ∷ cs) k = omega (arith, starts-append (encoded c) (written cs), one-start c k.0, starts-written cs k.1)

pub characters-counted : CharactersCounted
unfolding shown_length shown not_above
characters-counted table body cs k e =
    let n : starts (expanded table body) ≡ length cs = ap starts e ∙ starts-written cs k in
    record {
      counts = ap as_characters n;
      held = λ element most h. (
        (λ q. omega (arith, n, leb-true (starts (expanded table body)) most (rw h at q))),
        (λ q. rw h (le-leb (starts (expanded table body)) most (omega (arith, n)))),
      );
    }

-- ---- every valid text is written so

encoded-two : (u v : ℕ) → u < 32 → v < 64 → 0x80 ≤ u * 64 + v → encoded (u * 64 + v) ≡ (0xC0 + u) ∷ (0x80 + v) ∷ []
unfolding encoded
encoded-two u v a b l =
    let p : (u * 64 + v) / 64 ≡ u = omega arith in
    let q : (u * 64 + v) % 64 ≡ v = omega arith in
    rw (le-ltb (u * 64 + v) 0x80 l, lt-ltb (u * 64 + v) 0x800 (omega arith), p, q)

encoded-three : (u v w : ℕ) → u < 16 → v < 64 → w < 64 → 0x800 ≤ (u * 64 + v) * 64 + w → encoded ((u * 64 + v) * 64 + w) ≡ (0xE0 + u) ∷ (0x80 + v) ∷ (0x80 + w) ∷ []
unfolding encoded
encoded-three u v w a b c l =
    let n = (u * 64 + v) * 64 + w in
    let p : n / 4096 ≡ u = omega arith in
    let q : n / 64 % 64 ≡ v = omega arith in
    let r : n % 64 ≡ w = omega arith in
    rw (le-ltb n 0x80 (omega arith), le-ltb n 0x800 l, lt-ltb n 0x10000 (omega arith), p, q, r)

encoded-four : (u v w z : ℕ) → v < 64 → w < 64 → z < 64 → 0x10000 ≤ ((u * 64 + v) * 64 + w) * 64 + z
    → encoded (((u * 64 + v) * 64 + w) * 64 + z) ≡ (0xF0 + u) ∷ (0x80 + v) ∷ (0x80 + w) ∷ (0x80 + z) ∷ []
unfolding encoded
encoded-four u v w z b c d l =
    let n = ((u * 64 + v) * 64 + w) * 64 + z in
    let o : n / 262144 ≡ u = omega arith in
    let p : n / 4096 % 64 ≡ v = omega arith in
    let q : n / 64 % 64 ≡ w = omega arith in
    let r : n % 64 ≡ z = omega arith in
    rw (le-ltb n 0x80 (omega arith), le-ltb n 0x800 (omega arith), le-ltb n 0x10000 l, o, p, q, r)

encoded-one : (b : ℕ) → ltb b 0x80 ≡ true → encoded b ≡ b ∷ []
unfolding encoded
encoded-one b e = rw e

abbrev Written : List ℕ → Type 0
Written o = (cs : List ℕ) × CodePoints cs × (o ≡ written cs)

first-written : (c : ℕ) (front o : List ℕ) → c < 0x110000 → encoded c ≡ front → Written o → Written (front ++ o)
unfolding written
first-written c front o l e w = (c ∷ w.0, (l, w.1), ap (λ x. x ++ o) (sym e) ∙ ap (λ x. encoded c ++ x) w.2)

-- an octet behind the first of a character
record More (tokens : Bool) (more c least : ℕ) (o : List ℕ) : Type 0 where
  octet : ℕ
  rest : List ℕ
  is : o ≡ octet ∷ rest
  high : octet / 64 ≡ 2
  last : more ≡ 0 → character least (c * 64 + octet % 64) ≡ true
  goes : utf8 tokens more (c * 64 + octet % 64) least rest ≡ true

more-octets : (tokens : Bool) (more c least : ℕ) (o : List ℕ) → utf8 tokens (suc more) c least o ≡ true → More tokens more c least o
unfolding utf8 goes_on
more-octets tokens more c least [] h = absurd (false≢true h)
more-octets tokens more c least (b ∷ bs) h =
    let later = utf8 tokens more (c * 64 + b % 64) least bs in
    let here = character least (c * 64 + b % 64) in
    let g = and_left (eqb (b / 64) 2 && (not (eqb more 0) || here)) later h in
    record {
      octet = b;
      rest = bs;
      is = refl;
      high = eqb-true (b / 64) 2 (and_left (eqb (b / 64) 2) (not (eqb more 0) || here) g);
      last = λ e. end (eqb more 0) (eq-eqb more 0 e) (and_right (eqb (b / 64) 2) (not (eqb more 0) || here) g);
      goes = and_right (eqb (b / 64) 2 && (not (eqb more 0) || here)) later h;
    }
  where
    end : (z : Bool) → z ≡ true → not z || character least (c * 64 + b % 64) ≡ true → character least (c * 64 + b % 64) ≡ true
    end true e q = q
    end false e q = absurd (false≢true e)

in-range : (least c : ℕ) → character least c ≡ true → (least ≤ c) × (c < 0x110000)
unfolding character
in-range least c h =
    let both = and_left (leb least c && leb c 0x10FFFF) (ltb c 0xD800 || ltb 0xF8FF c) h in
    (leb-true least c (and_left (leb least c) (leb c 0x10FFFF) both), omega (arith, leb-true c 0x10FFFF (and_right (leb least c) (leb c 0x10FFFF) both)))

abbrev Reads : Bool → ℕ → Type 0
Reads tokens k = (c least : ℕ) (o : List ℕ) → length o < k → utf8 tokens 0 c least o ≡ true → Written o

module _ (tokens : Bool) (k : ℕ) (ih : Reads tokens k) (b : ℕ) (bs : List ℕ) (l : length bs < k) where
  two : b / 32 ≡ 6 → utf8 tokens 1 (b % 32) 0x80 bs ≡ true → Written (b ∷ bs)
  two e h =
      let x = more-octets tokens 0 (b % 32) 0x80 bs h in
      let r = in-range 0x80 ((b % 32) * 64 + x.octet % 64) (x.last refl) in
      let long = ap length x.is in
      let w = ih ((b % 32) * 64 + x.octet % 64) 0x80 x.rest (omega arith) x.goes in
      let p : 0xC0 + b % 32 ≡ b = omega arith in
      let hx = x.high in
      let q : 0x80 + x.octet % 64 ≡ x.octet = omega arith in
      let f = first-written ((b % 32) * 64 + x.octet % 64) ((0xC0 + b % 32) ∷ (0x80 + x.octet % 64) ∷ []) x.rest r.1 (encoded-two (b % 32) (x.octet % 64) (omega arith) (omega arith) r.0) w in
      rw x.is (rw (p, q) at f)

  three : b / 16 ≡ 14 → utf8 tokens 2 (b % 16) 0x800 bs ≡ true → Written (b ∷ bs)
  three e h =
      let x = more-octets tokens 1 (b % 16) 0x800 bs h in
      let y = more-octets tokens 0 ((b % 16) * 64 + x.octet % 64) 0x800 x.rest x.goes in
      let n = ((b % 16) * 64 + x.octet % 64) * 64 + y.octet % 64 in
      let r = in-range 0x800 n (y.last refl) in
      let long = ap length x.is in
      let longer = ap length y.is in
      let w = ih n 0x800 y.rest (omega arith) y.goes in
      let hx = x.high in
      let hy = y.high in
      let p : 0xE0 + b % 16 ≡ b = omega arith in
      let q : 0x80 + x.octet % 64 ≡ x.octet = omega arith in
      let s : 0x80 + y.octet % 64 ≡ y.octet = omega arith in
      let f = first-written n ((0xE0 + b % 16) ∷ (0x80 + x.octet % 64) ∷ (0x80 + y.octet % 64) ∷ []) y.rest r.1
      (encoded-three (b % 16) (x.octet % 64) (y.octet % 64) (omega arith) (omega arith) (omega arith) r.0) w in
      rw (x.is, y.is) (rw (p, q, s) at f)

  four : b / 8 ≡ 30 → utf8 tokens 3 (b % 8) 0x10000 bs ≡ true → Written (b ∷ bs)
  four e h =
      let x = more-octets tokens 2 (b % 8) 0x10000 bs h in
      let y = more-octets tokens 1 ((b % 8) * 64 + x.octet % 64) 0x10000 x.rest x.goes in
      let z = more-octets tokens 0 (((b % 8) * 64 + x.octet % 64) * 64 + y.octet % 64) 0x10000 y.rest y.goes in
      let n = (((b % 8) * 64 + x.octet % 64) * 64 + y.octet % 64) * 64 + z.octet % 64 in
      let r = in-range 0x10000 n (z.last refl) in
      let long = ap length x.is in
      let longer = ap length y.is in
      let longest = ap length z.is in
      let w = ih n 0x10000 z.rest (omega arith) z.goes in
      let hx = x.high in
      let hy = y.high in
      let hz = z.high in
      let p : 0xF0 + b % 8 ≡ b = omega arith in
      let q : 0x80 + x.octet % 64 ≡ x.octet = omega arith in
      let s : 0x80 + y.octet % 64 ≡ y.octet = omega arith in
      let t : 0x80 + z.octet % 64 ≡ z.octet = omega arith in
      let f = first-written n ((0xF0 + b % 8) ∷ (0x80 + x.octet % 64) ∷ (0x80 + y.octet % 64) ∷ (0x80 + z.octet % 64) ∷ []) z.rest r.1
      (encoded-four (b % 8) (x.octet % 64) (y.octet % 64) (z.octet % 64) (omega arith) (omega arith) (omega arith) r.0) w in
      rw (x.is, y.is, z.is) (rw (p, q, s, t) at f)

  begun : (c least : ℕ) → utf8 tokens 0 c least (b ∷ bs) ≡ true → Written (b ∷ bs)
  unfolding utf8
  begun c least h = go (ltb b 0x80) refl (eqb (b / 32) 6) refl (eqb (b / 16) 14) refl (eqb (b / 8) 30) refl h
    where
      one : ltb b 0x80 ≡ true → Written bs → Written (b ∷ bs)
      one e w = first-written b (b ∷ []) bs (omega (arith, ltb-true b 0x80 e)) (encoded-one b e) w

      go : (x : Bool) → ltb b 0x80 ≡ x → (y : Bool) → eqb (b / 32) 6 ≡ y → (z : Bool) → eqb (b / 16) 14 ≡ z → (w : Bool) → eqb (b / 8) 30 ≡ w
          → cond x (single tokens b && utf8 tokens 0 0 0 bs) (cond y (utf8 tokens 1 (b % 32) 0x80 bs) (cond z (utf8 tokens 2 (b % 16) 0x800 bs) (cond w (utf8 tokens 3 (b % 8) 0x10000 bs) false))) ≡ true
          → Written (b ∷ bs)
      go true p y q z r w s e = one p (ih 0 0 bs l (and_right (single tokens b) (utf8 tokens 0 0 0 bs) e))
      go false p true q z r w s e = two (eqb-true (b / 32) 6 q) e
      go false p false q true r w s e = three (eqb-true (b / 16) 14 r) e
      go false p false q false r true s e = four (eqb-true (b / 8) 30 s) e
      go false p false q false r false s e = absurd (false≢true e)

reads : (tokens : Bool) (k : ℕ) → Reads tokens k
unfolding written
reads tokens zero c least o l h = absurd (omega arith)
reads tokens (suc k) c least [] l h = ([], tt, refl)
reads tokens (suc k) c least (b ∷ bs) l h = begun tokens k (reads tokens k) b bs (omega arith) c least h

pub text-written : TextWritten
unfolding text
text-written tokens o h = reads tokens (suc (length o)) 0 0 o (omega arith) h
