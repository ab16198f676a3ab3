-- How many octets stand for each octet: what `entry_widths` knows on its walk over the table, and a text measured by its answer.
use Prim.Native.Nat.{ℕ, ◌+◌, ◌-◌, ◌/◌, ◌^◌, ◌≤◌, ◌<◌}
use mathlib.Core.Path.{◌≡◌, refl, sym, ap, ap₂, subst, ◌∙◌}
use mathlib.Core.List.{List, [], ◌∷◌, ◌++◌}
use mathlib.Core.Bool.{Bool, true, false, cond, not, ◌&&◌, ◌||◌, and-false}
use lib.ListN.{length, get_or, take, drop, set, replicate, length-set, length-append, drop_of_length-le, get_or-replicate, take-append-drop}
use lib.Seq.{drop-drop, get_or-set_same, get_or-set_other}
use lib.Dec.{eqb, ltb}
use lib.Bits.{bit_or, bit_and}
use native.Mathlib.Omega.{arith}
use borrow.Author.Tests.{eqb-true, eqb-false, ne_eqb, lt-ltb, le-ltb, ltb-true, ltb-false}
use Rattle.octets.proofs.Tests.{cond_same}
use Rattle.octets.proofs.Lists.{drop-next}
use Rattle.text.specs.Text.{token}
use Rattle.text.specs.Tokens.{Entries, entries, cut, entry, or_itself, stands, expanded}
use Rattle.text.specs.Leaves.{ahead, token_bit, place_of}
use Rattle.text.specs.Weighing.{bit, Widths, width_at, weight}
use Rattle.std.specs.Prelude.{Option, Some, None}
use Rattle.text.specs.declared.tables.Entry.{Entry}
use Rattle.text.proofs.Words.{high-octet}
use Rattle.text.proofs.Sequences.{token-facts}
use Rattle.text.proofs.Masks.{bit-none, bit_test, mark-one}
use Rattle.text.proofs.Entries.{no_more, room, next-names, text-length, length-inside, length-octet, next_fits, next-fits-2}

-- ---- `place_of`
pub place_inside : (seen t place : ℕ) → place ≡ place_of seen t → place < 32
unfolding place_of
place_inside seen t place p = rw p (go (token t) refl (bit seen t))
  where
    go : (k : Bool) → token t ≡ k → (m : Bool) → cond (k && not m) t 31 < 32
    go true e true = omega arith
    go true e false = omega (arith, (token-facts t e).1)
    go false e m = omega arith

module _ (seen t : ℕ) (r : Bool) (k : r ≡ token t) where
  pub place-plain : r ≡ false → 31 ≡ place_of seen t
  unfolding place_of
  place-plain q = rw (sym k ∙ q)

  module _ (q : r ≡ true) where
    pub place-seen : bit_and (seen / 2 ^ t) 1 ≡ 1 → 31 ≡ place_of seen t
    unfolding place_of
    place-seen g = rw (sym k ∙ q, ← bit_test seen t, g)

    pub place-new : (bit_and (seen / 2 ^ t) 1 ≡ 1 → ⊥) → t ≡ place_of seen t
    unfolding place_of
    place-new g = rw (sym k ∙ q, ← bit_test seen t, ne_eqb (bit_and (seen / 2 ^ t) 1) 1 g)

pub ruleset place-ways = (place-plain, place-seen, place-new)

-- ---- what an octet stands for with one entry more before the others
pub plain-stands : (es : Entries) (k : ℕ) → token k ≡ false → stands es k ≡ k ∷ []
unfolding stands
plain-stands es k e = rw e

pub high-width : (es : Entries) (b : ℕ) → 0x13 < b → length (stands es b) ≡ 1
high-width es b h = ap length (plain-stands es b (high-octet b h))

pub no-entry : (k : ℕ) → stands [] k ≡ k ∷ []
unfolding stands entry or_itself
no-entry k = cond_same (token k) (k ∷ [])

module _ (t : ℕ) (text : List ℕ) (es : Entries) (k : ℕ) where
  own-entry : token k ≡ true → eqb k t ≡ true → stands ((t, text) ∷ es) k ≡ text
  unfolding stands entry or_itself
  own-entry e q = rw (e, q)

  other-entry : eqb k t ≡ false → stands ((t, text) ∷ es) k ≡ stands es k
  unfolding stands entry
  other-entry q = rw q

-- ---- the loop of `entry_widths`
-- what is known of an octet with so many entries left: where it is a token of an entry before, its width; else it still has the width 1, and the entries
-- left tell what it stands for
unfoldable pub Known : Entries → Entries → ℕ → ℕ → Bool → Type 0
Known es left k width true = width ≡ length (stands es k)
Known es left k width false = (width ≡ 1) × (stands es k ≡ stands left k)

pub record Measuring (table widths : List ℕ) (seen at : ℕ) : Type 0 where
  pub within : at ≤ length table
  pub long : length widths ≡ 32
  pub each : (k : ℕ) → k < 31 → Known (entries table) (entries (drop at table)) k (get_or widths k 0) (bit seen k)

-- the store leaves the width of an octet as it is, but for a token that has its first entry here
module _ (w : List ℕ) (seen t n k : ℕ) (h : k < 31) where
  stays : token t && not (bit seen t) && eqb k t ≡ false → get_or (set w (place_of seen t) n) k 0 ≡ get_or w k 0
  unfolding place_of
  stays e = get_or-set_other w (place_of seen t) k n 0 (go (token t && not (bit seen t)) refl)
    where
      go : (b : Bool) → token t && not (bit seen t) ≡ b → k ≡ cond b t 31 → ⊥
      go true p q = eqb-false k t (rw p at e) q
      go false p q = omega arith

  stays-other : eqb k t ≡ false → get_or (set w (place_of seen t) n) k 0 ≡ get_or w k 0
  stays-other q = stays (rw q (and-false (token t && not (bit seen t))))

  stays-unless : token k && not (bit seen k) ≡ false → get_or (set w (place_of seen t) n) k 0 ≡ get_or w k 0
  stays-unless p = go (eqb k t) refl
    where
      go : (e : Bool) → eqb k t ≡ e → get_or (set w (place_of seen t) n) k 0 ≡ get_or w k 0
      go true q = stays (let none : token t && not (bit seen t) ≡ false = ap (λ j. token j && not (bit seen j)) (sym (eqb-true k t q)) ∙ p in rw none)
      go false q = stays-other q

  stays_met : bit seen k ≡ true → get_or (set w (place_of seen t) n) k 0 ≡ get_or w k 0
  stays_met p = stays-unless (rw (p, and-false (token k)))

  stays_plain : token k ≡ false → get_or (set w (place_of seen t) n) k 0 ≡ get_or w k 0
  stays_plain p = stays-unless (rw p)

  own-place : token k ≡ true → bit seen k ≡ false → eqb k t ≡ true → place_of seen t ≡ k
  unfolding place_of
  own-place s p q = ap (place_of seen) (sym (eqb-true k t q)) ∙ rw (s, p)

  stored : length w ≡ 32 → token k ≡ true → bit seen k ≡ false → eqb k t ≡ true → get_or (set w (place_of seen t) n) k 0 ≡ n
  stored l s p q = rw (own-place s p q) (get_or-set_same w k n 0 (omega arith))

-- one entry goes from those left to those before
module _ (es left : Entries) (t : ℕ) (text w : List ℕ) (seen n : ℕ) (size : length text ≡ n) (long : length w ≡ 32) (k : ℕ) (h : k < 31) where
  known_by : (a b e : Bool) → bit seen k ≡ a → token k ≡ b → eqb k t ≡ e → Known es ((t, text) ∷ left) k (get_or w k 0) a
      → Known es left k (get_or (set w (place_of seen t) n) k 0) (a || b && e)
  unfolding Known
  known_by true b e p s q g = stays_met w seen t n k h p ∙ g
  known_by false true true p s q g = stored w seen t n k h long s p q ∙ sym (ap length (g.1 ∙ own-entry t text left k s q) ∙ size)
  known_by false true false p s q g = (stays-other w seen t n k h q ∙ g.0, g.1 ∙ other-entry t text left k q)
  known_by false false e p s q g = (stays_plain w seen t n k h s ∙ g.0, g.1 ∙ plain-stands ((t, text) ∷ left) k s ∙ sym (plain-stands left k s))

  known_more : Known es ((t, text) ∷ left) k (get_or w k 0) (bit seen k)
      → Known es left k (get_or (set w (place_of seen t) n) k 0) (bit (bit_or seen (token_bit t)) k)
  known_more g = rw (mark-one seen t k) (known_by (bit seen k) (token k) (eqb k t) refl refl refl g)

-- with none left, each octet's width is known
known-last : (es left : Entries) → left ≡ [] → (k width : ℕ) (met : Bool) → Known es left k width met → width ≡ length (stands es k)
unfolding Known
known-last es left e k width true g = g
known-last es left e k width false g = g.0 ∙ sym (ap length (g.1 ∙ ap (λ q. stands q k) e ∙ no-entry k))

module _ (table : List ℕ) where
  pub measure-begin : Measuring table (replicate 32 1) 0 0
  unfolding Known
  measure-begin =
      record {
        within = omega arith;
        long = refl;
        each = λ k h. rw (bit-none k) (get_or-replicate 32 k 1 0 (omega arith), refl);
      }

  module _ (widths : List ℕ) (seen at : ℕ) (inv : Measuring table widths seen at) where
    none_left : entries (drop at table) ≡ [] → Widths 31 (entries table) widths
    none_left q = record { long = inv.long; each = λ k h. known-last (entries table) (entries (drop at table)) q k (get_or widths k 0) (bit seen k) (inv.each k h) }

    pub measure-done : length table ≤ at → Widths 31 (entries table) widths
    unfolding entries cut
    measure-done h = none_left (ap entries (drop_of_length-le table h))

    module _ (h : at < length table) (p : Option Entry) (e : p ≡ ahead (entries (take (length table - at) (drop at table)))) where
      pub measure-past : p ≡ None → Widths 31 (entries table) widths
      measure-past f = none_left (no_more table at h p e f)

      pub measure-again : (x : Entry) → p ≡ Some x → (place : ℕ) → place ≡ place_of seen x.tag → (r : ℕ) → r ≡ token_bit x.tag
          → Measuring table (set widths place (get_or table (at + 1) 0)) (bit_or seen r) (at + 2 + x.size)
      measure-again x f place q r z =
          rw (q, z, length-octet table at h p e x f)
          record {
            within = room table at h p e x f;
            long = length-set widths (place_of seen x.tag) x.size ∙ inv.long;
            each = λ k l.
                known_more (entries table) (entries (drop (at + 2 + x.size) table)) x.tag (take x.size (drop 2 (drop at table))) widths seen x.size
                (text-length table at h p e x f) inv.long k l
                (subst (λ es. Known (entries table) es k (get_or widths k 0) (bit seen k)) (next-names table at h p e x f) (inv.each k l));
          }

-- ---- `widths_of`: the place that entries without a place were kept at gets the width of its octet
pub whole-widths : (es : Entries) (w : List ℕ) → Widths 31 es w → Widths 32 es (set w 31 1)
whole-widths es w known = record { long = length-set w 31 1 ∙ known.long; each = λ b h. go b h (eqb b 31) refl }
  where
    go : (b : ℕ) → b < 32 → (e : Bool) → eqb b 31 ≡ e → get_or (set w 31 1) b 0 ≡ length (stands es b)
    go b h true e = rw (eqb-true b 31 e) (get_or-set_same w 31 1 0 (omega (arith, known.long)) ∙ sym (high-width es 31 (omega arith)))
    go b h false e = get_or-set_other w 31 b 1 0 (eqb-false b 31 e) ∙ known.each b (omega (arith, eqb-false b 31 e))

pub ruleset measure-ways = (measure-begin, measure-done, measure-past, measure-again, place_inside, length-inside, next_fits, next-fits-2)

-- ---- `width_by`
module _ (w : List ℕ) (b : ℕ) where
  pub width_low : b < 0x14 → (place : ℕ) → place ≡ b → get_or w place 0 ≡ width_at w b
  unfolding width_at
  width_low h place e = rw (e, lt-ltb b 0x14 h)

  pub width-high : 0x14 ≤ b → 1 ≡ width_at w b
  unfolding width_at
  width-high h = rw (le-ltb b 0x14 h)

-- ---- `width_of_eight`
pub eight-widths : (w s : List ℕ) → 8 ≤ length s → (a b c d : ℕ)
    → a ≡ width_at w (get_or s 0 0) + width_at w (get_or s 1 0) → b ≡ width_at w (get_or s 2 0) + width_at w (get_or s 3 0)
    → c ≡ width_at w (get_or s 4 0) + width_at w (get_or s 5 0) → d ≡ width_at w (get_or s 6 0) + width_at w (get_or s 7 0)
    → a + b + c + d ≡ weight w (take 8 s)
unfolding weight
eight-widths w (i ∷ j ∷ k ∷ l ∷ m ∷ n ∷ o ∷ p ∷ s) z a b c d ea eb ec ed = omega arith
eight-widths w [] z a b c d ea eb ec ed = absurd (omega arith)
eight-widths w (i ∷ []) z a b c d ea eb ec ed = absurd (omega arith)
eight-widths w (i ∷ j ∷ []) z a b c d ea eb ec ed = absurd (omega arith)
eight-widths w (i ∷ j ∷ k ∷ []) z a b c d ea eb ec ed = absurd (omega arith)
eight-widths w (i ∷ j ∷ k ∷ l ∷ []) z a b c d ea eb ec ed = absurd (omega arith)
eight-widths w (i ∷ j ∷ k ∷ l ∷ m ∷ []) z a b c d ea eb ec ed = absurd (omega arith)
eight-widths w (i ∷ j ∷ k ∷ l ∷ m ∷ n ∷ []) z a b c d ea eb ec ed = absurd (omega arith)
eight-widths w (i ∷ j ∷ k ∷ l ∷ m ∷ n ∷ o ∷ []) z a b c d ea eb ec ed = absurd (omega arith)

-- ---- the width of a text at a place: that of the octets there, one or eight, and that of what comes after them
width-append : (w a b : List ℕ) → weight w (a ++ b) ≡ weight w a + weight w b
unfolding weight
width-append w [] b = omega arith
width-append w (x ∷ a) b = omega (arith, width-append w a b)

module _ (w s : List ℕ) (at : ℕ) where
  pub width-next : at < length s → (size : ℕ) → size ≡ width_at w (get_or s at 0) → weight w (drop at s) ≡ size + weight w (drop (at + 1) s)
  unfolding weight
  width-next h size e = ap (weight w) (drop-next s at 0 h) ∙ rw e

  pub width-eight : (size : ℕ) → size ≡ weight w (take 8 (drop at s)) → weight w (drop at s) ≡ size + weight w (drop (at + 8) s)
  width-eight size e =
      ap (weight w) (sym (take-append-drop 8 (drop at s)))
      ∙ width-append w (take 8 (drop at s)) (drop 8 (drop at s))
      ∙ ap₂ (λ (m n : ℕ). m + n) (sym e) (ap (weight w) (drop-drop 8 at s))

-- ---- a text by such widths
pub weight_is : (es : Entries) (w : List ℕ) → Widths 32 es w → (s : List ℕ) → weight w s ≡ length (expanded es s)
unfolding weight width_at expanded
weight_is es w known [] = refl
weight_is es w known (b ∷ s) =
    ap₂ (λ (m n : ℕ). m + n) (one (ltb b 0x14) refl) (weight_is es w known s) ∙ sym (length-append (stands es b) (expanded es s))
  where
    one : (l : Bool) → ltb b 0x14 ≡ l → width_at w b ≡ length (stands es b)
    one true e = rw e (known.each b (omega (arith, ltb-true b 0x14 e)))
    one false e = rw e (sym (high-width es b (omega (arith, ltb-false b 0x14 e))))
