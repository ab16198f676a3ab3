-- The token table of words: it is one (rule 11), its entries are read back, and each tag finds its word.
use mathlib.Core.Path.{◌≡◌, refl, ap, ◌∙◌}
use mathlib.Core.Bool.{Bool, true, false, ◌&&◌}
use mathlib.Core.Option.{some}
use mathlib.Core.List.{List, [], ◌∷◌, ◌++◌, append-nil}
use Prim.Native.Nat.{ℕ, zero, suc, ◌+◌, ◌≤◌, ◌<◌}
use native.Mathlib.Omega.{arith}
use native.Mathlib.Nat.{not-suc-le-zero}
use lib.Dec.{leb, ltb}
use lib.ListN.{length, length-append}
use lib.Seq.{take-append_seam, drop-append_seam}
use borrow.Author.Tests.{leb-true, le-leb, ltb-true, eq-eqb, ne_eqb}
use Rattle.octets.specs.Numbers.{among}
use Rattle.octets.proofs.Tests.{and_left, and_right, or_elim}
use Rattle.text.specs.Runs.{within}
use Rattle.text.specs.Text.{layout, token, utf8, text}
use Rattle.text.specs.Tokens.{Entries, entries, cut, filled, is_table, entry}
use Rattle.text.proofs.Laws.{ascii-text}
use Rattle.fold.specs.Words.{letter, all_letters, is_word}
use Rattle.fold.specs.Packed.{tokens, entries_of, table_octets}

-- ---- words are text

pub letter-bounds : (b : ℕ) → letter b ≡ true → (0x41 ≤ b) × (b ≤ 0x7A)
unfolding letter within
letter-bounds b h =
    or_elim (leb 0x41 b && leb b 0x5A) (leb 0x61 b && leb b 0x7A)
    (λ q. let x = leb-true 0x41 b (and_left (leb 0x41 b) (leb b 0x5A) q) in let y = leb-true b 0x5A (and_right (leb 0x41 b) (leb b 0x5A) q) in (omega arith, omega arith))
    (λ q. let x = leb-true 0x61 b (and_left (leb 0x61 b) (leb b 0x7A) q) in let y = leb-true b 0x7A (and_right (leb 0x61 b) (leb b 0x7A) q) in (omega arith, omega arith)) h

-- letters before a text leave it what it is
pub letters-text : (t : Bool) (w s : List ℕ) → all_letters w ≡ true → text t (w ++ s) ≡ text t s
unfolding all_letters
letters-text t [] s h = refl
letters-text t (b ∷ w) s h =
    let l = letter-bounds b (and_left (letter b) (all_letters w) h) in
    ascii-text t b (w ++ s) (omega (arith, l.0)) (omega (arith, l.1)) ∙ letters-text t w s (and_right (letter b) (all_letters w) h)

pub word-letters : (w : List ℕ) → is_word w ≡ true → all_letters w ≡ true
unfolding is_word
word-letters w h = and_right (leb 4 (length w) && leb (length w) 255) (all_letters w) h

pub word-text : (w : List ℕ) → is_word w ≡ true → text false w ≡ true
unfolding text utf8
word-text w h = rw (append-nil w) at (letters-text false w [] (word-letters w h))

-- ---- tags that rise

-- each is a token octet above the one before
abbrev pub mounts : ℕ → List ℕ → Bool
mounts n [] = true
mounts n (t ∷ ts) = ltb n t && token t && mounts t ts

pub tokens-mount : mounts 0 tokens ≡ true
unfolding tokens token layout among
tokens-mount = refl

pub record Mounts (n t : ℕ) (ts : List ℕ) : Type 0 where
  pub above : n < t
  pub is_token : token t ≡ true
  pub more : mounts t ts ≡ true

pub mounted : (n t : ℕ) (ts : List ℕ) → mounts n (t ∷ ts) ≡ true → Mounts n t ts
mounted n t ts h =
    let p = and_left (ltb n t && token t) (mounts t ts) h in
    record { above = ltb-true n t (and_left (ltb n t) (token t) p); is_token = and_right (ltb n t) (token t) p; more = and_right (ltb n t && token t) (mounts t ts) h }

abbrev pub AllWords : List (List ℕ) → Type 0
AllWords [] = Unit {0}
AllWords (w ∷ ws) = (is_word w ≡ true) × AllWords ws

-- ---- what is read in the table's octets

pub cut-back : (k : ℕ) (es : Entries) → length (table_octets es) < k → cut k (table_octets es) ≡ es
unfolding cut table_octets
cut-back zero es h = absurd (not-suc-le-zero h)
cut-back (suc k) [] h = refl
cut-back (suc k) (e ∷ es) h =
    let n = length e.1 in
    let l : length (e.1 ++ table_octets es) ≡ n + length (table_octets es) = length-append e.1 (table_octets es) in
    rw (le-leb n (length (e.1 ++ table_octets es)) (omega arith), take-append_seam e.1 (table_octets es), drop-append_seam e.1 (table_octets es))
    (ap (λ x. (e.0, e.1) ∷ x) (cut-back k es (omega arith)))

pub entries-back : (es : Entries) → entries (table_octets es) ≡ es
unfolding entries
entries-back es = cut-back (suc (length (table_octets es))) es (omega arith)

-- the tags seen so far are not above a number
abbrev pub Upto : ℕ → List ℕ → Type 0
Upto n seen = (b : ℕ) → n < b → among b seen ≡ false

upto-more : (n t : ℕ) (seen : List ℕ) → n < t → Upto n seen → Upto t (t ∷ seen)
unfolding among
upto-more n t seen l u b h = rw (ne_eqb b t (λ q. omega arith)) (u b (omega arith))

table_filled : (k n : ℕ) (seen ts : List ℕ) (ws : List (List ℕ)) → mounts n ts ≡ true → Upto n seen → AllWords ws → length (table_octets (entries_of ts ws)) < k
    → filled k seen (table_octets (entries_of ts ws)) ≡ true
unfolding filled table_octets entries_of
table_filled zero n seen ts ws m u a h = absurd (not-suc-le-zero h)
table_filled (suc k) n seen [] ws m u a h = refl
table_filled (suc k) n seen (t ∷ ts) [] m u a h = refl
table_filled (suc k) n seen (t ∷ ts) (w ∷ ws) m u a h =
    let x = mounted n t ts m in
    let o = table_octets (entries_of ts ws) in
    let l : length (w ++ o) ≡ length w + length o = length-append w o in
    rw (le-leb (length w) (length (w ++ o)) (omega arith), x.is_token, u t x.above, take-append_seam w o, drop-append_seam w o, word-text w a.0)
    (table_filled k t (t ∷ seen) ts ws x.more (upto-more n t seen x.above u) a.1 (omega arith))

pub table-good : (ws : List (List ℕ)) → AllWords ws → is_table (table_octets (entries_of tokens ws)) ≡ true
unfolding is_table among
table-good ws a = table_filled (suc (length (table_octets (entries_of tokens ws)))) 0 [] tokens ws tokens-mount (λ b h. refl) a (omega arith)

-- ---- each tag finds its word

-- each entry of a list has a token octet above a number, which a table gives its word
abbrev pub Each : Entries → ℕ → Entries → Type 0
Each T n [] = Unit {0}
Each T n (e ∷ es) = (n < e.0) × (token e.0 ≡ true) × (entry T e.0 ≡ some e.1) × Each T n es

each_more : (T es : Entries) (n t : ℕ) (w : List ℕ) → n < t → Each T t es → Each ((t, w) ∷ T) n es
unfolding entry
each_more T [] n t w l a = tt
each_more T (e ∷ es) n t w l a = (omega (arith, a.0), a.1, rw (ne_eqb e.0 t (λ q. omega (arith, a.0))) a.2, each_more T es n t w l a.3)

pub each-entry : (n : ℕ) (ts : List ℕ) (ws : List (List ℕ)) → mounts n ts ≡ true → Each (entries_of ts ws) n (entries_of ts ws)
unfolding entries_of entry
each-entry n [] ws m = tt
each-entry n (t ∷ ts) [] m = tt
each-entry n (t ∷ ts) (w ∷ ws) m =
    let x = mounted n t ts m in
    (x.above, x.is_token, rw (eq-eqb t t refl), each_more (entries_of ts ws) (entries_of ts ws) n t w x.above (each-entry t ts ws x.more))

pub each-token : (ws : List (List ℕ)) → Each (entries_of tokens ws) 0 (entries_of tokens ws)
each-token ws = each-entry 0 tokens ws tokens-mount
