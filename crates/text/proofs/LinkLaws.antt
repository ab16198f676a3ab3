-- Octets held against the two before them: what the code's tests answer, how far its loop gets by them, and that whole characters are passed over so.
use Prim.Native.Nat.{ℕ, zero, suc, ◌+◌, ◌-◌, ◌*◌, ◌/◌, ◌%◌, ◌≤◌, ◌<◌}
use mathlib.Core.Path.{◌≡◌, refl, sym, ap, ap₂, subst, ◌∙◌}
use mathlib.Core.List.{List, [], ◌∷◌, ◌++◌}
use mathlib.Core.Bool.{Bool, true, false, not, ◌&&◌, ◌||◌, false≢true, or-true, and_assoc, or-false}
use lib.ListN.{length, get_or, take, drop, length-drop}
use lib.Seq.{get_or-drop}
use lib.Dec.{eqb, leb, ltb}
use native.Mathlib.Omega.{arith}
use borrow.Author.Tests.{le-ltb, le-leb, lt-leb, leb-false, eq-eqb, ne_eqb, eqb-true, ltb-true, ltb-false}
use Rattle.octets.specs.Numbers.{among}
use Rattle.octets.proofs.Tests.{and_left, and_right, and-true, or_elim, or_right_false}
use Rattle.octets.proofs.Lists.{part_to_end, part-split, drop-next}
use Rattle.text.specs.Text.{layout, token, character, single, goes_on, utf8, text}
use Rattle.text.specs.Runs.{within, PlainTo}
use Rattle.text.specs.Links.{awaits, begins, linked, all_linked, linked_at, LinkedTo, PassedTo}
use Rattle.text.proofs.Laws.{ascii-text}
use Rattle.text.proofs.Sequences.{all_below, below, character-below, utf8-zero, text-low}
use Rattle.text.proofs.RunLaws.{bounds, split_at, plain-passed, passed_none, passed-join, passed-plain}

-- ---- what `is_beginning` and `is_linked` answer
pub begins-is : (c : ℕ) (p q r t : Bool) → p ≡ within 0x01 0x13 c → q ≡ within 0x20 0x7F c → r ≡ within 0xC2 0xDF c → t ≡ within 0xE1 0xEC c
    → p || q || r || t ≡ begins c
unfolding begins
begins-is c p q r t ep eq er et = rw (ep, eq, er, et)

pub linked-is : (a b c : ℕ) (p q : Bool) → p ≡ within 0x80 0xBF c → q ≡ begins c
    → (leb 0xE0 a || leb 0xC0 b) && p || not (leb 0xE0 a || leb 0xC0 b) && q ≡ linked a b c
unfolding linked awaits
linked-is a b c p q ep eq = rw (ep, eq)

-- ---- what `are_four_linked` and `are_sixteen_linked` answer
module _ (a b s : List ℕ) where
  -- the tests of so many octets from a place on: the first, and the others
  links-next : (n i : ℕ) → i < length a → i < length b → i < length s
      → all_linked (take (suc n) (drop i a)) (take (suc n) (drop i b)) (take (suc n) (drop i s))
      ≡ linked (get_or a i 0) (get_or b i 0) (get_or s i 0) && all_linked (take n (drop (i + 1) a)) (take n (drop (i + 1) b)) (take n (drop (i + 1) s))
  unfolding all_linked
  links-next n i p q r = rw (drop-next a i 0 p, drop-next b i 0 q, drop-next s i 0 r)

  from-right : (p q r t : Bool) → p && (q && (r && (t && true))) ≡ p && q && r && t
  from-right false q r t = refl
  from-right true false r t = refl
  from-right true true false t = refl
  from-right true true true false = refl
  from-right true true true true = refl

  -- the test of the octet at a place
  abbrev one : ℕ → Bool
  one i = linked (get_or a i 0) (get_or b i 0) (get_or s i 0)

  pub four-linked : 4 ≤ length a → 4 ≤ length b → 4 ≤ length s → (p q r t : Bool) → p ≡ one 0 → q ≡ one 1 → r ≡ one 2 → t ≡ one 3
      → p && q && r && t ≡ all_linked (take 4 a) (take 4 b) (take 4 s)
  unfolding all_linked
  four-linked la lb ls p q r t ep eq er et =
      let last = links-next 0 3 (omega arith) (omega arith) (omega arith) in
      let two = links-next 1 2 (omega arith) (omega arith) (omega arith) ∙ ap (λ x. one 2 && x) last in
      let three = links-next 2 1 (omega arith) (omega arith) (omega arith) ∙ ap (λ x. one 1 && x) two in
      let all = links-next 3 0 (omega arith) (omega arith) (omega arith) ∙ ap (λ x. one 0 && x) three in
      rw (ep, eq, er, et) (sym (all ∙ from-right (one 0) (one 1) (one 2) (one 3)))

-- the tests of some octets, and of those after them
links-split : (n m : ℕ) (a b s : List ℕ) → n ≤ length a → n ≤ length b → n ≤ length s
    → all_linked (take (n + m) a) (take (n + m) b) (take (n + m) s)
    ≡ all_linked (take n a) (take n b) (take n s) && all_linked (take m (drop n a)) (take m (drop n b)) (take m (drop n s))
unfolding all_linked
links-split zero m a b s la lb ls = let e : 0 + m ≡ m = omega arith in rw e
links-split (suc n) m (x ∷ a) (y ∷ b) (z ∷ s) la lb ls =
    let e : suc n + m ≡ suc (n + m) = omega arith in
    rw (e, links-split n m a b s (omega arith) (omega arith) (omega arith)) (sym (and_assoc (linked x y z) _ _))
links-split (suc n) m [] b s la lb ls = absurd (omega arith)
links-split (suc n) m (x ∷ a) [] s la lb ls = absurd (omega arith)
links-split (suc n) m (x ∷ a) (y ∷ b) [] la lb ls = absurd (omega arith)

module _ (a b s : List ℕ) where
  -- so many octets from a place on, as slices have them
  abbrev parts_at : ℕ → Bool
  parts_at i = all_linked (take 4 (take (length a - i) (drop i a))) (take 4 (take (length b - i) (drop i b))) (take 4 (take (length s - i) (drop i s)))

  abbrev four_at : ℕ → Bool
  four_at i = all_linked (take 4 (drop i a)) (take 4 (drop i b)) (take 4 (drop i s))

  parts-at : (i : ℕ) → parts_at i ≡ four_at i
  parts-at i = rw (part_to_end a i, part_to_end b i, part_to_end s i)

  module _ (la : 16 ≤ length a) (lb : 16 ≤ length b) (ls : 16 ≤ length s) where
    four-more : (i : ℕ) → i + 4 ≤ 16
        → all_linked (take (i + 4) a) (take (i + 4) b) (take (i + 4) s) ≡ all_linked (take i a) (take i b) (take i s) && four_at i
    four-more i h = links-split i 4 a b s (omega arith) (omega arith) (omega arith)

    pub sixteen-linked : (p q r t : Bool) → p ≡ all_linked (take 4 a) (take 4 b) (take 4 s) → q ≡ parts_at 4 → r ≡ parts_at 8 → t ≡ parts_at 12
        → p && q && r && t ≡ all_linked (take 16 a) (take 16 b) (take 16 s)
    sixteen-linked p q r t ep eq er et =
        ap (λ x. x && t) (ap (λ x. x && r) (ap₂ ◌&&◌ ep (eq ∙ parts-at 4) ∙ sym (four-more 4 (omega arith))) ∙ ap (λ x. all_linked (take 8 a) (take 8 b) (take 8 s) && x) (er ∙ parts-at 8) ∙ sym (four-more 8 (omega arith)))
        ∙ ap (λ x. all_linked (take 12 a) (take 12 b) (take 12 s) && x) (et ∙ parts-at 12) ∙ sym (four-more 12 (omega arith))

-- the test of each of them
pub links-each : (n : ℕ) (a b s : List ℕ) → n ≤ length a → n ≤ length b → n ≤ length s → all_linked (take n a) (take n b) (take n s) ≡ true
    → (k : ℕ) → k < n → linked (get_or a k 0) (get_or b k 0) (get_or s k 0) ≡ true
unfolding all_linked
links-each zero a b s la lb ls h k g = absurd (omega arith)
links-each (suc n) (x ∷ a) (y ∷ b) (z ∷ s) la lb ls h zero g = and_left (linked x y z) (all_linked (take n a) (take n b) (take n s)) h
links-each (suc n) (x ∷ a) (y ∷ b) (z ∷ s) la lb ls h (suc k) g =
    links-each n a b s (omega arith) (omega arith) (omega arith) (and_right (linked x y z) (all_linked (take n a) (take n b) (take n s)) h) k (omega arith)
links-each (suc n) [] b s la lb ls h k g = absurd (omega arith)
links-each (suc n) (x ∷ a) [] s la lb ls h k g = absurd (omega arith)
links-each (suc n) (x ∷ a) (y ∷ b) [] la lb ls h k g = absurd (omega arith)

-- ---- what `are_linked_at` answers
pub sixteen-at : (s : List ℕ) (at : ℕ) (r : Bool)
    → r
    ≡ all_linked (take 16 (take (length s - (at - 2)) (drop (at - 2) s))) (take 16 (take (length s - (at - 1)) (drop (at - 1) s))) (take 16 (take (length s - at) (drop at s)))
    → r ≡ linked_at s at
sixteen-at s at r e = e ∙ rw (part_to_end s (at - 2), part_to_end s (at - 1), part_to_end s at)

-- ---- the loop of `links_end`
module _ (s : List ℕ) (at : ℕ) where
  pub links-begin : at ≤ length s → LinkedTo s at (at + 0)
  links-begin h = record { onward = omega arith; inside = omega arith; each = λ i p q. absurd (omega arith) }

  module _ (n : ℕ) (inv : LinkedTo s at (at + 16 * n)) (r : Bool) (y : r ≡ true) where
    abbrev so_far : ℕ
    so_far = at + 16 * n

    -- the sixteen may begin before the end so far
    window : (from : ℕ) → 2 ≤ from → from ≤ so_far → so_far ≤ from + 16 → from + 16 ≤ length s → r ≡ linked_at s from → LinkedTo s at (from + 16)
    window from two h g l e =
        record { onward = omega (arith, inv.onward); inside = l; each = λ i p q. go i p q (ltb i so_far) refl }
      where
        one : (k : ℕ) → k < 16 → linked (get_or s (from - 2 + k) 0) (get_or s (from - 1 + k) 0) (get_or s (from + k) 0) ≡ true
        one k q =
            rw (← get_or-drop (from - 2) s k 0, ← get_or-drop (from - 1) s k 0, ← get_or-drop from s k 0)
            (links-each 16 (drop (from - 2) s) (drop (from - 1) s) (drop from s) (omega (arith, length-drop (from - 2) s)) (omega (arith, length-drop (from - 1) s))
            (omega (arith, length-drop from s)) (sym e ∙ y) k q)

        go : (i : ℕ) → at ≤ i → i < from + 16 → (b : Bool) → ltb i so_far ≡ b → linked (get_or s (i - 2) 0) (get_or s (i - 1) 0) (get_or s i 0) ≡ true
        go i p q true t = inv.each i p (ltb-true i so_far t)
        go i p q false t =
            let past : so_far ≤ i = ltb-false i so_far t in
            let a : from - 2 + (i - from) ≡ i - 2 = omega arith in
            let b : from - 1 + (i - from) ≡ i - 1 = omega arith in
            let c : from + (i - from) ≡ i = omega arith in
            rw (a, b, c) at (one (i - from) (omega arith))

    pub links-more : 2 ≤ at → n < (length s - at) / 16 → r ≡ linked_at s (at + 16 * n) → LinkedTo s at (at + 16 * (n + 1))
    links-more two h e =
        let to : at + 16 * n + 16 ≡ at + 16 * (n + 1) = omega arith in
        subst (λ (k : ℕ). LinkedTo s at k) to (window so_far (omega arith) (omega arith) (omega arith) (omega (arith, inv.inside)) e)

    pub links-last : 18 ≤ length s → (length s - at) / 16 ≤ n → r ≡ linked_at s (length s - 16) → LinkedTo s at (length s)
    links-last l h e =
        let to : length s - 16 + 16 ≡ length s = omega arith in
        subst (λ (k : ℕ). LinkedTo s at k) to (window (length s - 16) (omega arith) (omega arith) (omega (arith, inv.inside)) (omega arith) e)

pub ruleset link-ways = (links-begin, links-more, links-last)

-- ---- characters: of one octet, of two and of three
low_test : ℕ → Bool
low_test b = eqb b 0 || single true b

all-low : all_below low_test 0x14 ≡ true
unfolding all_below low_test single layout token among
all-low = refl

low-single : (c : ℕ) → within 0x01 0x13 c ≡ true → single true c ≡ true
unfolding low_test
low-single c h =
    let k = bounds 0x01 0x13 c h in
    or_elim (eqb c 0) (single true c) (λ e. absurd (omega (arith, eqb-true c 0 e))) (λ e. e) (below low_test 0x14 all-low c (omega arith))

low-text : (c : ℕ) (r : List ℕ) → within 0x01 0x13 c ≡ true → text true (c ∷ r) ≡ text true r
low-text c r h = let k = bounds 0x01 0x13 c h in text-low true c r (omega arith) ∙ rw (low-single c h)

below-private : (least c : ℕ) → least ≤ c → c < 0xD800 → character least c ≡ true
below-private least c h g = sym (character-below least c h (omega arith) g)

module _ (c d : ℕ) (h : within 0x80 0xBF d ≡ true) where
  tail : d / 64 ≡ 2
  tail = let k = bounds 0x80 0xBF d h in omega arith

  two-text : (r : List ℕ) → within 0xC2 0xDF c ≡ true → text true (c ∷ d ∷ r) ≡ text true r
  unfolding text utf8 goes_on
  two-text r g =
      let k = bounds 0xC2 0xDF c g in
      let form : c / 32 ≡ 6 = omega arith in
      let bits = c % 32 * 64 + d % 64 in
      rw (le-ltb c 0x80 (omega arith), eq-eqb (c / 32) 6 form, eq-eqb (d / 64) 2 tail, below-private 0x80 bits (omega arith) (omega arith)) (utf8-zero r true bits 0x80)

  three-text : (e : ℕ) (r : List ℕ) → within 0x80 0xBF e ≡ true → within 0xE1 0xEC c ≡ true → text true (c ∷ d ∷ e ∷ r) ≡ text true r
  unfolding text utf8 goes_on
  three-text e r f g =
      let k = bounds 0xE1 0xEC c g in
      let l = bounds 0x80 0xBF e f in
      let other : c / 32 ≡ 6 → ⊥ = λ q. omega arith in
      let form : c / 16 ≡ 14 = omega arith in
      let last : e / 64 ≡ 2 = omega arith in
      let bits = (c % 16 * 64 + d % 64) * 64 + e % 64 in
      rw (
        le-ltb c 0x80 (omega arith),
        ne_eqb (c / 32) 6 other,
        eq-eqb (c / 16) 14 form,
        eq-eqb (d / 64) 2 tail,
        eq-eqb (e / 64) 2 last,
        below-private 0x800 bits (omega arith) (omega arith),
      )
      (utf8-zero r true bits 0x800)

-- ---- what two octets say of the next one
module _ (a b : ℕ) where
  none-due : a < 0xE0 → b < 0xC0 → awaits a b ≡ false
  unfolding awaits
  none-due h g = rw (lt-leb 0xE0 a h, lt-leb 0xC0 b g)

  last-low : awaits a b ≡ false → b < 0xC0
  unfolding awaits
  last-low e = leb-false 0xC0 b (or_right_false (leb 0xE0 a) (leb 0xC0 b) e)

  due-second : 0xC0 ≤ b → awaits a b ≡ true
  unfolding awaits
  due-second h = rw (le-leb 0xC0 b h) (or-true (leb 0xE0 a))

  due-third : 0xE0 ≤ a → awaits a b ≡ true
  unfolding awaits
  due-third h = rw (le-leb 0xE0 a h)

  module _ (c : ℕ) (l : linked a b c ≡ true) where
    begun : awaits a b ≡ false → begins c ≡ true
    unfolding linked
    begun e = rw e at l

    gone-on : awaits a b ≡ true → within 0x80 0xBF c ≡ true
    unfolding linked
    gone-on e = sym (or-false (within 0x80 0xBF c)) ∙ (rw e at l)

    -- an octet that doesn't go on with a character
    not-due : 0xC0 ≤ c → awaits a b ≡ false
    not-due h = go (awaits a b) refl
      where
        go : (x : Bool) → awaits a b ≡ x → x ≡ false
        go false e = refl
        go true e = absurd (omega (arith, (bounds 0x80 0xBF c (gone-on e)).1))

pick : {C : Type 0} (c : ℕ) → (within 0x01 0x13 c ≡ true → C) → (within 0x20 0x7F c ≡ true → C) → (within 0xC2 0xDF c ≡ true → C) → (within 0xE1 0xEC c ≡ true → C)
    → begins c ≡ true → C
unfolding begins
pick c f g h k =
    let one = within 0x01 0x13 c in
    let two = one || within 0x20 0x7F c in
    let three = two || within 0xC2 0xDF c in
    or_elim three (within 0xE1 0xEC c) (or_elim two (within 0xC2 0xDF c) (or_elim one (within 0x20 0x7F c) f g) h) k

-- ---- octets after one another, each after the two before it, and whether another is due behind them
chain : ℕ → ℕ → List ℕ → Bool
chain a b [] = true
chain a b (c ∷ p) = linked a b c && chain b c p

due : ℕ → ℕ → List ℕ → Bool
due a b [] = awaits a b
due a b (c ∷ p) = due b c p

-- where none is due before them nor behind them, they are whole characters
abbrev Goes : ℕ → ℕ → List ℕ → List ℕ → Type 0
Goes a b p r = awaits a b ≡ false → chain a b p ≡ true → due a b p ≡ false → text true (p ++ r) ≡ text true r

module _ (a b c : ℕ) (r : List ℕ) where
  one-step : (p : List ℕ) → c < 0xC0 → ((q : List ℕ) → text true (c ∷ q) ≡ text true q) → Goes b c p r → Goes a b (c ∷ p) r
  unfolding chain due
  one-step p h f g off ch d = f (p ++ r) ∙ g (none-due b c (omega (arith, last-low a b off)) h) (and_right (linked a b c) (chain b c p) ch) d

  low_step : (p : List ℕ) → Goes b c p r → within 0x01 0x13 c ≡ true → Goes a b (c ∷ p) r
  low_step p g h = let k = bounds 0x01 0x13 c h in one-step p (omega arith) (λ q. low-text c q h) g

  plain_step : (p : List ℕ) → Goes b c p r → within 0x20 0x7F c ≡ true → Goes a b (c ∷ p) r
  plain_step p g h = let k = bounds 0x20 0x7F c h in one-step p (omega arith) (λ q. ascii-text true c q k.0 (omega arith)) g

  -- a character that isn't complete
  short-one : 0xC0 ≤ c → Goes a b (c ∷ []) r
  unfolding due
  short-one h off ch d = absurd (false≢true (sym d ∙ due-second b c h))

  module _ (d : ℕ) where
    short-two : 0xE0 ≤ c → Goes a b (c ∷ d ∷ []) r
    unfolding due
    short-two h off ch q = absurd (false≢true (sym q ∙ due-third c d h))

    second : (p : List ℕ) → 0xC0 ≤ c → chain a b (c ∷ d ∷ p) ≡ true → within 0x80 0xBF d ≡ true
    unfolding chain
    second p h ch = gone-on b c d (and_left (linked b c d) (chain c d p) (and_right (linked a b c) (linked b c d && chain c d p) ch)) (due-second b c h)

    two-step : (p : List ℕ) → Goes c d p r → within 0xC2 0xDF c ≡ true → Goes a b (c ∷ d ∷ p) r
    unfolding chain due
    two-step p g h off ch q =
        let k = bounds 0xC2 0xDF c h in
        let t = second p (omega arith) ch in
        let l = bounds 0x80 0xBF d t in
        two-text c d t (p ++ r) h
        ∙ g (none-due c d (omega arith) (omega arith)) (and_right (linked b c d) (chain c d p) (and_right (linked a b c) (linked b c d && chain c d p) ch)) q

    three-step : (e : ℕ) (p : List ℕ) → Goes d e p r → within 0xE1 0xEC c ≡ true → Goes a b (c ∷ d ∷ e ∷ p) r
    unfolding chain due
    three-step e p g h off ch q =
        let k = bounds 0xE1 0xEC c h in
        let t = second (e ∷ p) (omega arith) ch in
        let l = bounds 0x80 0xBF d t in
        let more = and_right (linked b c d) (linked c d e && chain d e p) (and_right (linked a b c) (linked b c d && (linked c d e && chain d e p)) ch) in
        let u = gone-on c d e (and_left (linked c d e) (chain d e p) more) (due-third c d (omega arith)) in
        let m = bounds 0x80 0xBF e u in
        three-text c d t e (p ++ r) u h ∙ g (none-due d e (omega arith) (omega arith)) (and_right (linked c d e) (chain d e p) more) q

  first : (p : List ℕ) → awaits a b ≡ false → chain a b (c ∷ p) ≡ true → begins c ≡ true
  unfolding chain
  first p off ch = begun a b c (and_left (linked a b c) (chain b c p) ch) off

  of_one : Goes b c [] r → Goes a b (c ∷ []) r
  of_one g off ch q =
      pick c (λ h. low_step [] g h off ch q) (λ h. plain_step [] g h off ch q) (λ h. short-one (omega (arith, (bounds 0xC2 0xDF c h).0)) off ch q)
      (λ h. short-one (omega (arith, (bounds 0xE1 0xEC c h).0)) off ch q) (first [] off ch)

  of_two : (d : ℕ) → Goes b c (d ∷ []) r → Goes c d [] r → Goes a b (c ∷ d ∷ []) r
  of_two d g f off ch q =
      pick c (λ h. low_step (d ∷ []) g h off ch q) (λ h. plain_step (d ∷ []) g h off ch q) (λ h. two-step d [] f h off ch q)
      (λ h. short-two d (omega (arith, (bounds 0xE1 0xEC c h).0)) off ch q) (first (d ∷ []) off ch)

  of-more : (d e : ℕ) (p : List ℕ) → Goes b c (d ∷ e ∷ p) r → Goes c d (e ∷ p) r → Goes d e p r → Goes a b (c ∷ d ∷ e ∷ p) r
  of-more d e p g f k off ch q =
      pick c (λ h. low_step (d ∷ e ∷ p) g h off ch q) (λ h. plain_step (d ∷ e ∷ p) g h off ch q) (λ h. two-step d (e ∷ p) f h off ch q)
      (λ h. three-step d e p k h off ch q) (first (d ∷ e ∷ p) off ch)

chain-text : (p r : List ℕ) (a b : ℕ) → Goes a b p r
chain-text [] r a b = λ off ch q. refl
chain-text (c ∷ []) r a b = of_one a b c r (chain-text [] r b c)
chain-text (c ∷ d ∷ []) r a b = of_two a b c r d (chain-text (d ∷ []) r b c) (chain-text [] r c d)
chain-text (c ∷ d ∷ e ∷ p) r a b = of-more a b c r d e p (chain-text (d ∷ e ∷ p) r b c) (chain-text (e ∷ p) r c d) (chain-text p r d e)

-- before an octet that doesn't go on with a character none is due
chain-cut : (p w : List ℕ) (c a b : ℕ) → 0xC0 ≤ c → chain a b (p ++ (c ∷ w)) ≡ true → (chain a b p ≡ true) × (due a b p ≡ false)
unfolding chain due
chain-cut [] w c a b h ch = (refl, not-due a b c (and_left (linked a b c) (chain b c w) ch) h)
chain-cut (x ∷ p) w c a b h ch =
    let more = chain-cut p w c b x h (and_right (linked a b x) (chain b x (p ++ (c ∷ w))) ch) in
    (and-true (linked a b x) (chain b x p) (and_left (linked a b x) (chain b x (p ++ (c ∷ w))) ch) more.0, more.1)

due-last : (p : List ℕ) (x y a b : ℕ) → due a b (p ++ (x ∷ y ∷ [])) ≡ awaits x y
unfolding due
due-last [] x y a b = refl
due-last (c ∷ p) x y a b = due-last p x y b c

-- ---- what `linked_end` passes over
chain-each : (n i : ℕ) (s : List ℕ) → 2 ≤ i → i + n ≤ length s
    → ((k : ℕ) → i ≤ k → k < i + n → linked (get_or s (k - 2) 0) (get_or s (k - 1) 0) (get_or s k 0) ≡ true)
    → chain (get_or s (i - 2) 0) (get_or s (i - 1) 0) (take n (drop i s)) ≡ true
unfolding chain
chain-each zero i s two h f = refl
chain-each (suc n) i s two h f =
    let a : i + 1 - 2 ≡ i - 1 = omega arith in
    let b : i + 1 - 1 ≡ i = omega arith in
    let more = chain-each n (i + 1) s (omega arith) (omega arith) (λ k p q. f k (omega arith) (omega arith)) in
    rw (drop-next s i 0 (omega arith))
    (and-true (linked (get_or s (i - 2) 0) (get_or s (i - 1) 0) (get_or s i 0)) (chain (get_or s (i - 1) 0) (get_or s i 0) (take n (drop (i + 1) s)))
    (f i (omega arith) (omega arith)) (rw (a, b) at more))

module _ (s : List ℕ) (at end : ℕ) where
  passed : at ≤ end → end ≤ length s → (chain 0x20 0x20 (take (end - at) (drop at s)) ≡ true) × (due 0x20 0x20 (take (end - at) (drop at s)) ≡ false)
      → PassedTo true s at end
  passed h g both =
      record {
        onward = h;
        inside = g;
        same =
            ap (text true) (split_at s at end h)
            ∙ chain-text (take (end - at) (drop at s)) (drop end s) 0x20 0x20 (none-due 0x20 0x20 (omega arith) (omega arith)) both.0 both.1;
      }

  -- the octets up to the end, with so many of the last ones by themselves
  last-ones : (m : ℕ) → at + m ≤ end → take (end - at) (drop at s) ≡ take (end - m - at) (drop at s) ++ take m (drop (end - m) s)
  last-ones m h =
      let sum : end - m - at + m ≡ end - at = omega arith in
      let place : at + (end - m - at) ≡ end - m = omega arith in
      ap (λ (n : ℕ). take n (drop at s)) (sym sum) ∙ part-split s at (end - m - at) m ∙ ap (λ (i : ℕ). take (end - m - at) (drop at s) ++ take m (drop i s)) place

module _ (s : List ℕ) (at : ℕ) (p q : Bool) (ep : p ≡ linked 0x20 0x20 (get_or s at 0)) (eq : q ≡ linked 0x20 (get_or s at 0) (get_or s (at + 1) 0)) (y : p && q ≡ true)
    (end : ℕ) (to : LinkedTo s (at + 2) end) where
  whole : chain 0x20 0x20 (take (end - at) (drop at s)) ≡ true
  unfolding chain
  whole =
      let n = end - (at + 2) in
      let size : end - at ≡ suc (suc n) = omega (arith, to.onward) in
      let next : at + 1 + 1 ≡ at + 2 = omega arith in
      let a : at + 2 - 2 ≡ at = omega arith in
      let b : at + 2 - 1 ≡ at + 1 = omega arith in
      let sum : at + 2 + n ≡ end = omega (arith, to.onward) in
      let rest = chain-each n (at + 2) s (omega arith) (omega (arith, sum, to.inside)) (λ k g h. to.each k g (omega (arith, sum))) in
      let x = get_or s at 0 in
      let z = get_or s (at + 1) 0 in
      rw (size, drop-next s at 0 (omega (arith, to.onward, to.inside)), drop-next s (at + 1) 0 (omega (arith, to.onward, to.inside)), next)
      (and-true (linked 0x20 0x20 x) (linked 0x20 x z && chain x z (take n (drop (at + 2) s))) (sym ep ∙ and_left p q y)
      (and-true (linked 0x20 x z) (chain x z (take n (drop (at + 2) s))) (sym eq ∙ and_right p q y) (rw (a, b) at rest)))

  last_one : take 1 (drop (end - 1) s) ≡ get_or s (end - 1) 0 ∷ []
  last_one = rw (drop-next s (end - 1) 0 (omega (arith, to.onward, to.inside)))

  last-two : take 2 (drop (end - 2) s) ≡ get_or s (end - 2) 0 ∷ get_or s (end - 1) 0 ∷ []
  last-two =
      let next : end - 2 + 1 ≡ end - 1 = omega (arith, to.onward) in
      rw (drop-next s (end - 2) 0 (omega (arith, to.onward, to.inside)), next, drop-next s (end - 1) 0 (omega (arith, to.onward, to.inside)))

  pub cut-one : 0xC0 ≤ get_or s (end - 1) 0 → PassedTo true s at (end - 1)
  cut-one h =
      let head = take (end - 1 - at) (drop at s) in
      let split : take (end - at) (drop at s) ≡ head ++ (get_or s (end - 1) 0 ∷ []) = last-ones s at end 1 (omega (arith, to.onward)) ∙ ap (λ r. head ++ r) last_one in
      passed s at (end - 1) (omega (arith, to.onward)) (omega (arith, to.inside))
      (chain-cut head [] (get_or s (end - 1) 0) 0x20 0x20 h (ap (chain 0x20 0x20) (sym split) ∙ whole))

  split-two : take (end - at) (drop at s) ≡ take (end - 2 - at) (drop at s) ++ (get_or s (end - 2) 0 ∷ get_or s (end - 1) 0 ∷ [])
  split-two = last-ones s at end 2 to.onward ∙ ap (λ r. take (end - 2 - at) (drop at s) ++ r) last-two

  pub cut-two : 0xE0 ≤ get_or s (end - 2) 0 → PassedTo true s at (end - 2)
  cut-two h =
      passed s at (end - 2) (omega (arith, to.onward)) (omega (arith, to.inside))
      (chain-cut (take (end - 2 - at) (drop at s)) (get_or s (end - 1) 0 ∷ []) (get_or s (end - 2) 0) 0x20 0x20 (omega arith)
      (ap (chain 0x20 0x20) (sym split-two) ∙ whole))

  pub cut-none : get_or s (end - 1) 0 < 0xC0 → get_or s (end - 2) 0 < 0xE0 → PassedTo true s at end
  cut-none h g =
      passed s at end (omega (arith, to.onward)) to.inside (
        whole,
        ap (due 0x20 0x20) split-two ∙ due-last (take (end - 2 - at) (drop at s)) (get_or s (end - 2) 0) (get_or s (end - 1) 0) 0x20 0x20
            ∙ none-due (get_or s (end - 2) 0) (get_or s (end - 1) 0) g h,
      )

pub ruleset cut-ways = (passed_none, cut-one, cut-two, cut-none)

-- ---- what `long_end` passes over
pub passed-linked : (t : Bool) (s : List ℕ) (at from end : ℕ) → PlainTo s at from → t ≡ true → PassedTo true s from end → PassedTo t s at end
passed-linked true s at from end run e more = passed-join true s at from end (plain-passed true s at from run) more
passed-linked false s at from end run e more = absurd (false≢true e)

pub ruleset pass-ways = (plain-passed, passed-linked, passed-plain)
