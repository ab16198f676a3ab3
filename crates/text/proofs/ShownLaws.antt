-- How many characters are shown: what `characters_of` knows on its way over the octets that could be tokens, and a text measured by its answer.
use Rattle.std.specs.Prelude.{Option, Some, None}
use Prim.Native.Nat.{ℕ, suc, ◌+◌, ◌-◌, ◌/◌, ◌≤◌, ◌<◌}
use mathlib.Core.Path.{◌≡◌, refl, sym, ap, ap₂, ◌∙◌}
use mathlib.Core.Bool.{Bool, true, false, cond}
use mathlib.Core.List.{List, [], ◌∷◌, ◌++◌}
use lib.Dec.{eqb, ltb}
use lib.ListN.{length, get_or, take, drop, set, replicate, length-set, length-take, drop_of_length-le, get_or-replicate}
use lib.Seq.{get_or-set_same, get_or-set_other}
use native.Mathlib.Omega.{arith}
use borrow.Author.Tests.{eqb-true, eqb-false, eq-eqb, ne_eqb, lt-ltb, le-ltb, ltb-true, ltb-false}
use Rattle.octets.specs.Numbers.{Octets}
use Rattle.octets.proofs.Lists.{drop-next}
use Rattle.octets.specs.declared.Span.{Span}
use Rattle.octets.specs.Calls.{span}
use Rattle.text.specs.Tokens.{Entries, entries, cut, stands, expanded, starts}
use Rattle.text.specs.Weighing.{Shows, shown_at, shown_by}
use Rattle.text.specs.Index.{Indexes, place_by}
use Rattle.text.proofs.Words.{high-octet}
use Rattle.text.proofs.Widths.{plain-stands, no-entry}
use Rattle.text.proofs.Index.{self-by, part_by, octet-by, stands-own}

-- ---- `begun`
pub begun-none : (b : ℕ) → b / 64 ≡ 2 → ◌≡◌ {A = ℕ} 0 (cond (eqb (b / 64) 2) 0 1)
begun-none b e = rw (eq-eqb (b / 64) 2 e)

pub begun-one : (b : ℕ) → (b / 64 ≡ 2 → ⊥) → ◌≡◌ {A = ℕ} 1 (cond (eqb (b / 64) 2) 0 1)
begun-one b e = rw (ne_eqb (b / 64) 2 e)

-- ---- the characters of octets put together, of one octet below 0x80, and that there are no more of them than octets
pub starts-append : (a b : List ℕ) → starts (a ++ b) ≡ starts a + starts b
unfolding starts
starts-append [] b = omega arith
starts-append (x ∷ a) b = omega (arith, starts-append a b)

starts-one : (b : ℕ) → b < 0x80 → starts (b ∷ []) ≡ 1
unfolding starts
starts-one b h = rw (ne_eqb (b / 64) 2 (λ e. omega arith))

starts-few : (o : List ℕ) → starts o ≤ length o
unfolding starts
starts-few [] = omega arith
starts-few (b ∷ o) = go (eqb (b / 64) 2) (starts-few o)
  where
    go : (e : Bool) → starts o ≤ length o → cond e 0 1 + starts o ≤ suc (length o)
    go true h = omega arith
    go false h = omega arith

-- ---- the loop of `starts_of`: what is counted so far, and the characters of what is left
pub record Counting (part : List ℕ) (n i : ℕ) : Type 0 where
  pub within : i ≤ length part
  pub few : n ≤ i
  pub same : n + starts (drop i part) ≡ starts part

module _ (part : List ℕ) where
  pub count-begin : Counting part 0 0
  count-begin = record { within = omega arith; few = omega arith; same = omega arith }

  module _ (n i : ℕ) (inv : Counting part n i) where
    pub count-done : length part ≤ i → n ≡ starts part
    unfolding starts
    count-done h = let none : starts (drop i part) ≡ 0 = ap starts (drop_of_length-le part h) in omega (arith, inv.same)

    pub count-again : i < length part → (k : ℕ) → k ≡ cond (eqb (get_or part i 0 / 64) 2) 0 1 → k ≤ 1 → Counting part (n + k) (i + 1)
    unfolding starts
    count-again h k e l =
        let next : starts (drop i part) ≡ k + starts (drop (i + 1) part) = ap starts (drop-next part i 0 h) ∙ rw (← e) in
        record { within = omega arith; few = omega (arith, inv.few); same = omega (arith, inv.same) }

pub ruleset count-ways = (count-begin, count-done, count-again)

-- ---- `count_of`
module _ (index table : List ℕ) (made : Indexes (entries table) index) (b : ℕ) (f : Option Span) (e : f ≡ place_by index table b) where
  pub counts-itself : b < 0x14 → f ≡ None → 1 ≡ starts (stands (entries table) b)
  counts-itself h q = sym (ap starts (sym (stands-own table index made b) ∙ self-by index table b f e q) ∙ starts-one b (omega arith))

  module _ (start size : ℕ) (q : f ≡ Some (span start size)) where
    part-is : take (start + size - start) (drop start table) ≡ stands (entries table) b
    part-is = let k : start + size - start ≡ size = omega arith in rw k (sym (part_by index table b f e start size q) ∙ stands-own table index made b)

    module _ (n : ℕ) (s : n ≡ starts (take (start + size - start) (drop start table))) where
      pub counts-entry : n ≡ starts (stands (entries table) b)
      counts-entry = s ∙ ap starts part-is

      pub counts-few : Octets table → n < 256
      counts-few os =
          let part = drop start table in
          omega (arith, s, starts-few (take (start + size - start) part), length-take (start + size - start) part, octet-by index table b f e start size q, os (start - 1))

pub ruleset counts-ways = (counts-itself, counts-entry)

-- ---- the loop of `characters_of`: the octets before one have their counts, and the others still have 1
pub record Filling (table shows : List ℕ) (b : ℕ) : Type 0 where
  pub few : b ≤ 0x14
  pub long : length shows ≡ 32
  pub before : (k : ℕ) → k < b → get_or shows k 0 ≡ starts (stands (entries table) k)
  pub behind : (k : ℕ) → b ≤ k → k < 32 → get_or shows k 0 ≡ 1

-- an octet above the tokens, or any without a table, stands for itself
high-shows : (es : Entries) (k : ℕ) → 0x14 ≤ k → k < 32 → starts (stands es k) ≡ 1
high-shows es k h g = ap starts (plain-stands es k (high-octet k (omega arith))) ∙ starts-one k (omega arith)

module _ (table : List ℕ) where
  pub fill_none : length table ≡ 0 → Shows 32 (entries table) (replicate 32 1)
  unfolding entries cut
  fill_none e =
      let none : length table ≤ 0 = omega arith in
      record {
        long = refl;
        each = λ k h. get_or-replicate 32 k 1 0 h ∙ sym (ap (λ t. starts (stands (entries t) k)) (drop_of_length-le table none) ∙ ap starts (no-entry k) ∙ starts-one k (omega arith));
      }

  pub fill-begin : Filling table (replicate 32 1) 0
  fill-begin = record { few = omega arith; long = refl; before = λ k h. absurd (omega arith); behind = λ k h g. get_or-replicate 32 k 1 0 g }

  module _ (shows : List ℕ) (b : ℕ) (inv : Filling table shows b) where
    pub fill_done : 0x14 ≤ b → Shows 32 (entries table) shows
    fill_done h = record { long = inv.long; each = λ k g. go k g (ltb k 0x14) refl }
      where
        go : (k : ℕ) → k < 32 → (l : Bool) → ltb k 0x14 ≡ l → get_or shows k 0 ≡ starts (stands (entries table) k)
        go k g true l = inv.before k (omega (arith, ltb-true k 0x14 l))
        go k g false l = let high = ltb-false k 0x14 l in inv.behind k (omega (arith, inv.few)) g ∙ sym (high-shows (entries table) k high g)

    pub fill-again : b < 0x14 → (n : ℕ) → n ≡ starts (stands (entries table) b) → Filling table (set shows b n) (b + 1)
    fill-again h n e =
        record {
          few = omega arith;
          long = length-set shows b n ∙ inv.long;
          before = λ k g. go k g (eqb k b) refl;
          behind = λ k g l. get_or-set_other shows b k n 0 (λ q. omega arith) ∙ inv.behind k (omega arith) l;
        }
      where
        go : (k : ℕ) → k < b + 1 → (q : Bool) → eqb k b ≡ q → get_or (set shows b n) k 0 ≡ starts (stands (entries table) k)
        go k g true q = rw (eqb-true k b q) (get_or-set_same shows b n 0 (omega (arith, inv.long)) ∙ e)
        go k g false q = get_or-set_other shows b k n 0 (eqb-false k b q) ∙ inv.before k (omega (arith, eqb-false k b q))

pub ruleset fill-ways = (fill_none, fill-begin, fill_done, fill-again)

-- ---- `shown_at`
module _ (w : List ℕ) (b : ℕ) where
  pub shown-low : b < 0x14 → get_or w b 0 ≡ shown_at w b
  unfolding shown_at
  shown-low h = rw (lt-ltb b 0x14 h)

  pub shown-high : 0x14 ≤ b → (r : ℕ) → r ≡ cond (eqb (b / 64) 2) 0 1 → r ≡ shown_at w b
  unfolding shown_at
  shown-high h r e = e ∙ rw (le-ltb b 0x14 h)

  pub shown-on : 0x14 ≤ b → b / 64 ≡ 2 → 0 ≡ shown_at w b
  shown-on h e = shown-high h 0 (begun-none b e)

  pub shown-first : 0x14 ≤ b → (b / 64 ≡ 2 → ⊥) → 1 ≡ shown_at w b
  shown-first h e = shown-high h 1 (begun-one b e)

-- ---- a text by such counts
pub shown-is : (es : Entries) (w : List ℕ) → Shows 32 es w → (s : List ℕ) → shown_by w s ≡ starts (expanded es s)
unfolding shown_by shown_at expanded starts
shown-is es w known [] = refl
shown-is es w known (b ∷ s) =
    ap₂ (λ (m n : ℕ). m + n) (one (ltb b 0x14) refl) (shown-is es w known s) ∙ sym (starts-append (stands es b) (expanded es s))
  where
    one : (l : Bool) → ltb b 0x14 ≡ l → shown_at w b ≡ starts (stands es b)
    one true e = rw e (known.each b (omega (arith, ltb-true b 0x14 e)))
    one false e = rw (e, plain-stands es b (high-octet b (omega (arith, ltb-false b 0x14 e)))) (omega arith)
