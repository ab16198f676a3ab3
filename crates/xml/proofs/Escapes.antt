-- Escaped text: a reader of XML gets the text back, and finds no tag and no end of a value in it.
use mathlib.Core.Path.{◌≡◌, refl, sym, ap, ◌∙◌}
use mathlib.Core.Bool.{Bool, true, false, cond, not, ◌&&◌, ◌||◌}
use mathlib.Core.List.{List, [], ◌∷◌, ◌++◌}
use Prim.Native.Nat.{ℕ, zero, suc, ◌+◌, ◌*◌, ◌/◌, ◌%◌, ◌≤◌}
use native.Mathlib.Omega.{arith}
use lib.Dec.{eqb, ltb}
use borrow.Author.Tests.{eqb-true, ne_eqb, ltb-false, not-true}
use Rattle.octets.specs.Numbers.{among}
use Rattle.octets.proofs.Tests.{and_left, and_right, and-true, cond_map}
use Rattle.text.specs.Text.{character, single, goes_on, utf8, text}
use Rattle.text.specs.Tokens.{present}
use Rattle.text.proofs.Sequences.{utf8-zero}
use Rattle.show.specs.Lines.{ascii}
use Rattle.xml.specs.Xml.{escape, escaped}
use Rattle.xml.specs.Reading.{references, starts_with, reference, reference_at, octet_or, size_in, read_from, unescaped, inert}
use Rattle.xml.proofs.Parts.{quote, less, lacks, other-than, lacks-cons}

-- the six ways in which an octet is escaped
abbrev escape_by : (b : ℕ) (a c d e f : Bool) → List ℕ
escape_by b a c d e f = cond a (ascii "&amp;") (cond c (ascii "&lt;") (cond d (ascii "&gt;") (cond e (ascii "&quot;") (cond f (ascii "&apos;") (b ∷ [])))))

by-octet : (P : List ℕ → Type 0) (b : ℕ) → (b ≡ 0x26 → P (ascii "&amp;")) → (b ≡ 0x3C → P (ascii "&lt;")) → (b ≡ 0x3E → P (ascii "&gt;")) → (b ≡ 0x22 → P (ascii "&quot;"))
    → (b ≡ 0x27 → P (ascii "&apos;")) → (eqb b 0x26 ≡ false → among b (0x3C ∷ 0x3E ∷ 0x22 ∷ 0x27 ∷ []) ≡ false → P (b ∷ [])) → P (escape b)
unfolding escape among
by-octet P b amp lt gt quot apos other = go (eqb b 0x26) (eqb b 0x3C) (eqb b 0x3E) (eqb b 0x22) (eqb b 0x27) refl refl refl refl refl
  where
    go : (a c d e f : Bool) → eqb b 0x26 ≡ a → eqb b 0x3C ≡ c → eqb b 0x3E ≡ d → eqb b 0x22 ≡ e → eqb b 0x27 ≡ f → P (escape_by b a c d e f)
    go true c d e f p q s t u = amp (eqb-true b 0x26 p)
    go false true d e f p q s t u = lt (eqb-true b 0x3C q)
    go false false true e f p q s t u = gt (eqb-true b 0x3E s)
    go false false false true f p q s t u = quot (eqb-true b 0x22 t)
    go false false false false true p q s t u = apos (eqb-true b 0x27 u)
    go false false false false false p q s t u = other p (rw (q, s, t, u))

-- ---- a reader gets the text back

read_one : (b : ℕ) (r : List ℕ) → read_from 0 (escape b ++ r) ≡ b ∷ read_from 0 r
unfolding read_from reference_at reference references starts_with octet_or size_in ascii
read_one b r =
    by-octet (λ x. read_from 0 (x ++ r) ≡ b ∷ read_from 0 r) b
    (λ e. ap (λ x. x ∷ read_from 0 r) (sym e))
    (λ e. ap (λ x. x ∷ read_from 0 r) (sym e))
    (λ e. ap (λ x. x ∷ read_from 0 r) (sym e))
    (λ e. ap (λ x. x ∷ read_from 0 r) (sym e))
    (λ e. ap (λ x. x ∷ read_from 0 r) (sym e))
    (λ e h. rw e)

read_all : (s r : List ℕ) → read_from 0 (escaped s) ≡ s
unfolding escaped read_from
read_all [] r = refl
read_all (b ∷ s) r = read_one b (escaped s) ∙ ap (λ x. b ∷ x) (read_all s r)

pub read_back : (s : List ℕ) → unescaped (escaped s) ≡ s
unfolding unescaped
read_back s = read_all s []

-- so no two texts have one escaped text
pub escaped-injective : (o q : List ℕ) → escaped o ≡ escaped q → o ≡ q
escaped-injective o q e = sym (read_back o) ∙ ap unescaped e ∙ read_back q

-- ---- it finds no tag and no end of a value

inert-one : (b : ℕ) (r : List ℕ) → inert (escape b ++ r) ≡ inert r
unfolding inert reference references starts_with present ascii among
inert-one b r =
    by-octet (λ x. inert (x ++ r) ≡ inert r) b (λ e. refl) (λ e. refl) (λ e. refl) (λ e. refl) (λ e. refl) (λ e h. rw (h, e))

pub escaped-inert : (s : List ℕ) → inert (escaped s) ≡ true
unfolding escaped inert
escaped-inert [] = refl
escaped-inert (b ∷ s) = inert-one b (escaped s) ∙ escaped-inert s

-- an octet of some that inert text has not
pub inert-lacks : (p : ℕ → Bool) → ((b : ℕ) → among b (0x3C ∷ 0x3E ∷ 0x22 ∷ 0x27 ∷ []) ≡ false → p b ≡ false) → (s : List ℕ) → inert s ≡ true → lacks p s ≡ true
unfolding inert lacks
inert-lacks p h [] i = refl
inert-lacks p h (b ∷ s) i =
    let mark = among b (0x3C ∷ 0x3E ∷ 0x22 ∷ 0x27 ∷ []) in
    let begun = not (eqb b 0x26) || present (reference references s) in
    let first = and_left (not mark) begun (and_left (not mark && begun) (inert s) i) in
    lacks-cons p b s (h b (not-true mark first)) (inert-lacks p h s (and_right (not mark && begun) (inert s) i))

-- a double quote, and an opening angle bracket
pub escaped-quote : (o : List ℕ) → lacks quote (escaped o) ≡ true
unfolding among
escaped-quote o = inert-lacks quote (λ b. other-than (0x3C ∷ 0x3E ∷ 0x22 ∷ 0x27 ∷ []) 0x22 b refl) (escaped o) (escaped-inert o)

pub escaped-less : (o : List ℕ) → lacks less (escaped o) ≡ true
unfolding among
escaped-less o = inert-lacks less (λ b. other-than (0x3C ∷ 0x3E ∷ 0x22 ∷ 0x27 ∷ []) 0x3C b refl) (escaped o) (escaped-inert o)

-- ---- it is valid text where the text is

-- an escape, or an octet that stands for itself between two characters
escape-utf8 : (b : ℕ) (r : List ℕ) → ltb b 0x80 ≡ true → single false b ≡ true → text false r ≡ true → text false (escape b ++ r) ≡ true
unfolding text utf8 single ascii
escape-utf8 b r l s h = by-octet (λ x. text false (x ++ r) ≡ true) b (λ e. h) (λ e. h) (λ e. h) (λ e. h) (λ e. h) (λ e n. rw l (and-true (single false b) (utf8 false 0 0 0 r) s h))

-- an octet above ASCII is no mark
escape-high : (b : ℕ) → 0x80 ≤ b → escape b ≡ b ∷ []
unfolding escape
escape-high b h =
    rw (ne_eqb b 0x26 (λ e. omega arith), ne_eqb b 0x3C (λ e. omega arith), ne_eqb b 0x3E (λ e. omega arith), ne_eqb b 0x22 (λ e. omega arith), ne_eqb b 0x27 (λ e. omega arith))

high-octet : (more c least b : ℕ) → goes_on more c least b ≡ true → 0x80 ≤ b
unfolding goes_on
high-octet more c least b h = omega (arith, eqb-true (b / 64) 2 (and_left (eqb (b / 64) 2) (not (eqb more 0) || character least (c * 64 + b % 64)) h))

escaped-utf8 : (o : List ℕ) (more c least : ℕ) → utf8 false more c least o ≡ true → utf8 false more c least (escaped o) ≡ true
unfolding utf8 escaped text
escaped-utf8 [] zero c least h = refl
escaped-utf8 [] (suc more) c least h = h
escaped-utf8 (b ∷ bs) zero c least h = go (λ m d l q. escaped-utf8 bs m d l q) (ltb b 0x80) refl h
  where
    rest : List ℕ
    rest = escaped bs

    several : List ℕ → Bool
    several s = cond (eqb (b / 32) 6) (utf8 false 1 (b % 32) 0x80 s) (cond (eqb (b / 16) 14) (utf8 false 2 (b % 16) 0x800 s) (cond (eqb (b / 8) 30) (utf8 false 3 (b % 8) 0x10000 s) false))

    go : ((m d l : ℕ) → utf8 false m d l bs ≡ true → utf8 false m d l rest ≡ true) → (low : Bool) → ltb b 0x80 ≡ low
        → cond low (single false b && utf8 false 0 0 0 bs) (several bs) ≡ true → utf8 false 0 c least (escape b ++ rest) ≡ true
    go ih true e q =
        utf8-zero (escape b ++ rest) false c least
        ∙ escape-utf8 b rest e (and_left (single false b) (utf8 false 0 0 0 bs) q) (ih 0 0 0 (and_right (single false b) (utf8 false 0 0 0 bs) q))
    go ih false e q =
        rw (escape-high b (ltb-false b 0x80 e), e)
        (cond_map (eqb (b / 32) 6) _ _ _ _ (ih 1 (b % 32) 0x80)
        (cond_map (eqb (b / 16) 14) _ _ _ _ (ih 2 (b % 16) 0x800)
        (cond_map (eqb (b / 8) 30) _ _ _ _ (ih 3 (b % 8) 0x10000) (λ z. z))) q)
escaped-utf8 (b ∷ bs) (suc more) c least h =
    let d = c * 64 + b % 64 in
    let front = and_left (goes_on more c least b) (utf8 false more d least bs) h in
    rw (escape-high b (high-octet more c least b front))
    (and-true (goes_on more c least b) (utf8 false more d least (escaped bs)) front (escaped-utf8 bs more d least (and_right (goes_on more c least b) (utf8 false more d least bs) h)))

pub escaped-text : (o : List ℕ) → text false o ≡ true → text false (escaped o) ≡ true
unfolding text
escaped-text o h = escaped-utf8 o 0 0 0 h
