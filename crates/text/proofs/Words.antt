-- Text without token octets: it is text, needs no table, and is its own expansion.
use mathlib.Core.Path.{◌≡◌, refl}
use mathlib.Core.Bool.{true, false, not, ◌&&◌, ◌||◌, false≢true, and-false}
use mathlib.Core.List.{List, [], ◌∷◌}
use Prim.Native.Nat.{ℕ, zero, suc, ◌+◌, ◌*◌, ◌/◌, ◌%◌, ◌<◌}
use native.Mathlib.Omega.{arith}
use lib.Dec.{eqb, leb, ltb}
use borrow.Author.Tests.{leb-true, ltb-false, lt-leb, eqb-true}
use Rattle.text.specs.Text.{layout, token, character, single, goes_on, utf8, text}
use Rattle.text.specs.Tokens.{entry, or_itself, stands, expanded, covers, covered}
use Rattle.octets.proofs.Tests.{and_left, and_right, and-map, or_elim, or_left, cond-elim, cond_map, cond_same}

pub expanded-empty : (o : List ℕ) → expanded [] o ≡ o
unfolding expanded stands entry or_itself
expanded-empty [] = refl
expanded-empty (b ∷ bs) = rw (cond_same (token b) (b ∷ []), expanded-empty bs)

plain-single : (b : ℕ) → single false b ≡ true → single true b ≡ true
unfolding single
plain-single b h = or_elim (leb 0x20 b || layout b) false (or_left (leb 0x20 b || layout b) (token b)) (λ r. absurd (false≢true r)) h

pub plain-utf8 : (o : List ℕ) (more c least : ℕ) → utf8 false more c least o ≡ true → utf8 true more c least o ≡ true
unfolding utf8
plain-utf8 [] zero c least h = refl
plain-utf8 [] (suc more) c least h = h
plain-utf8 (b ∷ bs) zero c least h =
    cond_map (ltb b 0x80) _ _ _ _
    (and-map (single false b) (utf8 false 0 0 0 bs) (single true b) (utf8 true 0 0 0 bs) (plain-single b) (plain-utf8 bs 0 0 0))
    (cond_map (eqb (b / 32) 6) _ _ _ _ (plain-utf8 bs 1 (b % 32) 0x80)
    (cond_map (eqb (b / 16) 14) _ _ _ _ (plain-utf8 bs 2 (b % 16) 0x800)
    (cond_map (eqb (b / 8) 30) _ _ _ _ (plain-utf8 bs 3 (b % 8) 0x10000) (λ q. q)))) h
plain-utf8 (b ∷ bs) (suc more) c least h =
    let d = c * 64 + b % 64 in
    and-map (goes_on more c least b) (utf8 false more d least bs) (goes_on more c least b) (utf8 true more d least bs) (λ q. q) (plain-utf8 bs more d least) h

pub high-octet : (b : ℕ) → 0x13 < b → token b ≡ false
unfolding token
high-octet b h = rw (lt-leb b 0x13 h, and-false (leb 1 b))

layout-octet : (b : ℕ) → layout b ≡ true → token b ≡ false
unfolding token
layout-octet b h = rw h (and-false (leb 1 b && leb b 0x13))

single-octet : (b : ℕ) → single false b ≡ true → token b ≡ false
unfolding single
single-octet b h =
    or_elim (leb 0x20 b || layout b) false (or_elim (leb 0x20 b) (layout b) (λ r. high-octet b (omega (arith, leb-true 0x20 b r))) (layout-octet b))
    (λ r. absurd (false≢true r)) h

pub later-octet : (more c least b : ℕ) → goes_on more c least b ≡ true → token b ≡ false
unfolding goes_on
later-octet more c least b h = high-octet b (omega (arith, eqb-true (b / 64) 2 (and_left (eqb (b / 64) 2) (not (eqb more 0) || character least (c * 64 + b % 64)) h)))

pub covered-cons : (b : ℕ) (bs : List ℕ) → token b ≡ false → covered [] bs ≡ true → covered [] (b ∷ bs) ≡ true
unfolding covered covers
covered-cons b bs p q = rw (p, q)

pub plain-covered : (o : List ℕ) (more c least : ℕ) → utf8 false more c least o ≡ true → covered [] o ≡ true
unfolding utf8 covered
plain-covered [] zero c least h = refl
plain-covered [] (suc more) c least h = refl
plain-covered (b ∷ bs) zero c least h =
    cond-elim (ltb b 0x80) _ _
    (λ p q. covered-cons b bs (single-octet b (and_left (single false b) (utf8 false 0 0 0 bs) q)) (plain-covered bs 0 0 0 (and_right (single false b) (utf8 false 0 0 0 bs) q)))
    (λ p q. covered-cons b bs (high-octet b (omega (arith, ltb-false b 0x80 p)))
    (cond-elim (eqb (b / 32) 6) _ _ (λ _. plain-covered bs 1 (b % 32) 0x80)
    (λ _. cond-elim (eqb (b / 16) 14) _ _ (λ _. plain-covered bs 2 (b % 16) 0x800)
    (λ _. cond-elim (eqb (b / 8) 30) _ _ (λ _. plain-covered bs 3 (b % 8) 0x10000) (λ _ t. absurd (false≢true t)))) q)) h
plain-covered (b ∷ bs) (suc more) c least h =
    let d = c * 64 + b % 64 in
    covered-cons b bs (later-octet more c least b (and_left (goes_on more c least b) (utf8 false more d least bs) h))
    (plain-covered bs more d least (and_right (goes_on more c least b) (utf8 false more d least bs) h))

pub plain-text : (o : List ℕ) → text false o ≡ true → text true o ≡ true
unfolding text
plain-text o h = plain-utf8 o 0 0 0 h

pub plain-text-covered : (o : List ℕ) → text false o ≡ true → covered [] o ≡ true
unfolding text
plain-text-covered o h = plain-covered o 0 0 0 h
