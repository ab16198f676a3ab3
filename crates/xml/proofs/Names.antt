-- Facts of the tables of names, each a test of all rows: a name tells its tag in its element and an enumerated text its octet; names begin with a letter and hold no octet
-- that ends one; and neither they nor enumerated texts hold a strange octet.
use mathlib.Core.Path.{◌≡◌, refl, sym, ap, ◌∙◌}
use mathlib.Core.Bool.{Bool, true, false, cond, ◌&&◌, ◌||◌}
use mathlib.Core.Option.{some}
use mathlib.Core.List.{List, [], ◌∷◌}
use Prim.Native.Nat.{ℕ, ◌+◌, ◌-◌, ◌*◌, ◌<◌}
use Prim.Native.String.{String}
use lib.Dec.{eqb, ltb, leb}
use lib.ListN.{get_or}
use borrow.Author.Tests.{eqb-true}
use Rattle.octets.specs.Numbers.{among}
use Rattle.octets.proofs.Tests.{and_left, and_right}
use Rattle.values.specs.declared.Kind.{Kind}
use Rattle.values.specs.declared.Kind.TheVariants.{HoldsItems, HoldsTokens, HoldsText, HoldsPlain, HoldsTime, HoldsBearer, HoldsNumber}
use Rattle.values.specs.declared.NumberKind.TheVariants.{Duration, ShortId, Enumerated, Integer}
use Rattle.text.specs.Runs.{within}
use Rattle.text.proofs.Sequences.{all_below, below}
use Rattle.values.specs.Table.{rows, known, attribute}
use Rattle.values.proofs.Known.{every, row-holds}
use Rattle.format.specs.Same.{same_octets}
use Rattle.show.specs.Digits.{hex_digit, two_digits}
use Rattle.show.specs.Lines.{ascii}
use Rattle.xml.specs.Names.{names, words, name_in, name, word_in, or_hex, word}
use Rattle.xml.proofs.Parts.{strange, lacks, begins}

-- what ends a name: a blank, a slash, an equals sign, a closing angle bracket
abbrev pub stop : ℕ → Bool
stop b = among b (0x20 ∷ 0x2F ∷ 0x3D ∷ 0x3E ∷ [])

-- what begins one: no '!' and no '/'
abbrev pub letter : ℕ → Bool
letter b = leb 0x41 b

-- the tag of a name in an element
tag_of : ℕ → List ℕ → List (ℕ × ℕ × String) → ℕ
tag_of e x [] = 0
tag_of e x (r ∷ rs) = cond (eqb e r.0 && same_octets x (ascii r.2)) r.1 (tag_of e x rs)

-- CDATA and the token table have no name
abbrev name_row : ℕ → ℕ → Kind → Bool
name_row e t k =
    eqb t 1 || eqb t 4 || (eqb (tag_of e (ascii (name_in e t names)) names) t && lacks stop (ascii (name_in e t names)) && begins letter (ascii (name_in e t names)) && lacks strange (ascii (name_in e t names)))

names-fine : every name_row rows ≡ true
unfolding rows names name_in tag_of ascii lacks begins same_octets among within
names-fine = refl

-- the octet of an enumerated text
unhex : ℕ → ℕ
unhex c = cond (ltb c 97) (c - 48) (c - 87)

octet_of : ℕ → ℕ → List ℕ → List (ℕ × ℕ × ℕ × String) → ℕ
octet_of e t x [] = unhex (get_or x 0 0) * 16 + unhex (get_or x 1 0)
octet_of e t x (r ∷ rs) = cond (eqb e r.0 && eqb t r.1 && same_octets x (ascii r.3)) r.2 (octet_of e t x rs)

abbrev word_fine : ℕ → ℕ → ℕ → Bool
word_fine e t n = eqb (octet_of e t (word e t n) words) n && lacks strange (word e t n)

abbrev word_row : ℕ → ℕ → Kind → Bool
word_row e t HoldsItems = true
word_row e t HoldsTokens = true
word_row e t HoldsText = true
word_row e t HoldsPlain = true
word_row e t HoldsTime = true
word_row e t HoldsBearer = true
word_row e t (HoldsNumber Duration) = true
word_row e t (HoldsNumber ShortId) = true
word_row e t (HoldsNumber Enumerated) = all_below (word_fine e t) 256
word_row e t (HoldsNumber Integer) = true

words-fine : every word_row rows ≡ true
unfolding rows words word word_in or_hex octet_of unhex ascii lacks within same_octets all_below two_digits hex_digit
words-fine = refl

-- ---- of known items

pub record NameFine (parent tag : ℕ) : Type 0 where
  back : tag_of (cond (attribute tag) parent 0) (name parent tag) names ≡ tag
  pub stops : lacks stop (name parent tag) ≡ true
  pub starts : begins letter (name parent tag) ≡ true
  pub sober : lacks strange (name parent tag) ≡ true

pub name-fine : (parent tag : ℕ) (k : Kind) → known parent tag ≡ some k → eqb tag 1 ≡ false → eqb tag 4 ≡ false → NameFine parent tag
unfolding known name
name-fine parent tag k h a b =
    let e = cond (attribute tag) parent 0 in
    let x = ascii (name_in e tag names) in
    let r = row-holds name_row e tag k rows names-fine h in
    let all : eqb (tag_of e x names) tag && lacks stop x && begins letter x && lacks strange x ≡ true = rw (a, b) at r in
    let s = and_left (eqb (tag_of e x names) tag && lacks stop x && begins letter x) (lacks strange x) all in
    let t = and_left (eqb (tag_of e x names) tag && lacks stop x) (begins letter x) s in
    record {
      back = eqb-true (tag_of e x names) tag (and_left (eqb (tag_of e x names) tag) (lacks stop x) t);
      stops = and_right (eqb (tag_of e x names) tag) (lacks stop x) t;
      starts = and_right (eqb (tag_of e x names) tag && lacks stop x) (begins letter x) s;
      sober = and_right (eqb (tag_of e x names) tag && lacks stop x && begins letter x) (lacks strange x) all;
    }

-- in one element, or among elements, no two have one name
pub name-one : (parent a b : ℕ) → attribute a ≡ attribute b → NameFine parent a → NameFine parent b → name parent a ≡ name parent b → a ≡ b
name-one parent a b q p r e =
    sym p.back ∙ ap (λ x. tag_of (cond (attribute a) parent 0) x names) e ∙ ap (λ s. tag_of (cond s parent 0) (name parent b) names) q ∙ r.back

module _ (parent tag : ℕ) (a : attribute tag ≡ true) (h : known parent tag ≡ some (HoldsNumber Enumerated)) where
  word-fine : (n : ℕ) → n < 256 → word_fine parent tag n ≡ true
  unfolding known
  word-fine n l = below (word_fine parent tag) 256 (row-holds word_row parent tag (HoldsNumber Enumerated) rows words-fine (rw a at h)) n l

  pub word-one : (n m : ℕ) → n < 256 → m < 256 → word parent tag n ≡ word parent tag m → n ≡ m
  word-one n m p q e =
      let x = octet_of parent tag (word parent tag n) words in
      let y = octet_of parent tag (word parent tag m) words in
      sym (eqb-true x n (and_left (eqb x n) (lacks strange (word parent tag n)) (word-fine n p)))
      ∙ ap (λ w. octet_of parent tag w words) e
      ∙ eqb-true y m (and_left (eqb y m) (lacks strange (word parent tag m)) (word-fine m q))

  pub word-sober : (n : ℕ) → n < 256 → lacks strange (word parent tag n) ≡ true
  word-sober n p = let x = octet_of parent tag (word parent tag n) words in and_right (eqb x n) (lacks strange (word parent tag n)) (word-fine n p)
