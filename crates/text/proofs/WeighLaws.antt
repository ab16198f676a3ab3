-- A text weighed in one look: what the definitions are on each way through src/weighing.rt, that by the marks and counts of a table they say what rules 12 and
-- 13 say by its entries, and that a table has only one mask of marks, one list of widths and one of counts.
use Prim.Native.Nat.{ℕ, zero, suc, ◌+◌, ◌-◌, ◌/◌, ◌^◌, ◌≤◌, ◌<◌, min}
use mathlib.Core.Path.{◌≡◌, refl, sym, ap, ap₂, subst, ◌∙◌}
use mathlib.Core.List.{List, [], ◌∷◌, ◌++◌}
use mathlib.Core.Bool.{Bool, true, false, not, ◌&&◌, ◌||◌, false≢true, or-true, and-true as and_yes, and_assoc, or-not_self}
use lib.ListN.{length, get_or, take, drop, length-drop, drop_of_length-le, take-append-drop}
use lib.Seq.{drop-drop, ext_get_or}
use lib.Dec.{eqb, leb}
use lib.Bits.{bit_and, bit_or, and_comm}
use native.Mathlib.Nat.{add-zero, min-eq_left, min-eq_right, min-le_left}
use native.Mathlib.Omega.{arith}
use mir.Val.{Fits}
use mir.Syntax.{w64}
use borrow.Author.Tests.{le-leb, lt-leb, leb-true, leb-false, eq-eqb, eqb-true}
use Rattle.octets.specs.declared.counts.Characters.{Characters}
use Rattle.octets.specs.Counts.{as_characters}
use Rattle.octets.specs.Numbers.{among}
use Rattle.octets.proofs.Tests.{and_left, and_right, and-true, or_elim, or_left, chosen, not_chosen, never}
use Rattle.octets.proofs.Lists.{part_to_end, get_d-here}
use Rattle.text.specs.Text.{layout, token, single, text}
use Rattle.text.specs.Tokens.{Entries, entry, present, covers, covered, shown_length}
use Rattle.text.specs.Leaves.{token_bit, all_marked, Steps}
use Rattle.text.specs.Runs.{within, all_within, PlainTo}
use Rattle.text.specs.Weighing.{bit, tags, Marks, Widths, Shows, marked, covered_by, shown_at, shown_by, covered_shown, weighed_by}
use Rattle.text.specs.declared.Weighed.{Weighed}
use Rattle.std.specs.Prelude.{Option, Some, None}
use Rattle.text.proofs.Words.{high-octet}
use Rattle.text.proofs.Masks.{mark-one, kept-within, within-kept}
use Rattle.text.proofs.Sequences.{one-yes, one-no}
use Rattle.text.proofs.ShownLaws.{shown-is, shown-first}
use Rattle.text.proofs.Replaced.{tag-present}
use Rattle.text.proofs.RunLaws.{run-split, run_length, run-shown, tail-shown, bounds, plain-passed, Holds, check_done, check-stop, check-again, behind}

-- ---- tokens kept as a mask: with one octet more, the marks have each of them where they had each before and that octet wants no entry or has one
module _ (marks used b : ℕ) where
  abbrev with-one : ℕ
  with-one = bit_or used (token_bit b)

  kept-before : bit_and with-one marks ≡ with-one → bit_and used marks ≡ used
  kept-before q = within-kept used marks (λ t h. kept-within with-one marks q t (mark-one used b t ∙ or_left (bit used t) (token t && eqb t b) h))

  kept-own : bit_and with-one marks ≡ with-one → (k : Bool) → token b ≡ k → not k || bit marks b ≡ true
  kept-own q false k = refl
  kept-own q true k =
      kept-within with-one marks q b
      (mark-one used b b ∙ ap (λ c. bit used b || c) (and-true (token b) (eqb b b) k (eq-eqb b b refl)) ∙ or-true (bit used b))

  kept-both : bit_and used marks ≡ used → not (token b) || bit marks b ≡ true → bit_and with-one marks ≡ with-one
  kept-both q f =
      within-kept with-one marks
      (λ t h. or_elim (bit used t) (token t && eqb t b) (kept-within used marks q t)
      (λ g. let same = eqb-true t b (and_right (token t) (eqb t b) g) in
      ap (bit marks) same ∙ own (ap token (sym same) ∙ and_left (token t) (eqb t b) g) f) (sym (mark-one used b t) ∙ h))
    where
      own : token b ≡ true → not (token b) || bit marks b ≡ true → bit marks b ≡ true
      own k g = rw k at g

  pub marked_more : (own : ℕ) → own ≡ token_bit b → all_marked marks (bit_or used own) ≡ all_marked marks used && marked marks b
  unfolding all_marked marked
  marked_more own e = rw e (go (eqb (bit_and with-one marks) with-one) refl (eqb (bit_and used marks) used && (not (token b) || bit marks b)) refl)
    where
      yes : eqb (bit_and with-one marks) with-one ≡ true → eqb (bit_and used marks) used && (not (token b) || bit marks b) ≡ true
      yes h =
          let q = eqb-true (bit_and with-one marks) with-one h in
          and-true (eqb (bit_and used marks) used) (not (token b) || bit marks b) (eq-eqb (bit_and used marks) used (kept-before q)) (kept-own q (token b) refl)

      back : eqb (bit_and used marks) used && (not (token b) || bit marks b) ≡ true → eqb (bit_and with-one marks) with-one ≡ true
      back h =
          let a = and_left (eqb (bit_and used marks) used) (not (token b) || bit marks b) h in
          eq-eqb (bit_and with-one marks) with-one
          (kept-both (eqb-true (bit_and used marks) used a) (and_right (eqb (bit_and used marks) used) (not (token b) || bit marks b) h))

      go : (x : Bool) → eqb (bit_and with-one marks) with-one ≡ x → (y : Bool) → eqb (bit_and used marks) used && (not (token b) || bit marks b) ≡ y → x ≡ y
      go true p y q = sym (sym q ∙ yes p)
      go false p true q = absurd (false≢true (sym p ∙ back q))
      go false p false q = refl

-- ---- octets above the tokens want no entry
module _ (marks : ℕ) (least most : ℕ) (high : 0x14 ≤ least) where
  high-marked : (b : ℕ) → within least most b ≡ true → marked marks b ≡ true
  unfolding marked
  high-marked b h = rw (high-octet b (omega (arith, (bounds least most b h).0)))

  run-covered : (p r : List ℕ) → all_within least most p ≡ true → covered_by marks (p ++ r) ≡ covered_by marks r
  unfolding all_within covered_by
  run-covered [] r h = refl
  run-covered (b ∷ p) r h =
      rw (high-marked b (and_left (within least most b) (all_within least most p) h)) (run-covered p r (and_right (within least most b) (all_within least most p) h))

-- ---- the character with which a text begins: its first octet, the others, and what comes behind them
first-split : (q : List ℕ) (n : ℕ) → 0 < length q → (n ≡ 0 → ⊥) → q ≡ get_or q 0 0 ∷ (take (n - 1) (drop 1 q) ++ drop n q)
first-split [] n h e = absurd (omega arith)
first-split (b ∷ q) zero h e = absurd (e refl)
first-split (b ∷ q) (suc m) h e = let k : suc m - 1 ≡ m = omega arith in rw k (ap (λ r. b ∷ r) (sym (take-append-drop m q)))

module _ (marks : ℕ) (w q : List ℕ) (n : ℕ) (step : Steps true q n) (h : 0 < length q) (e : n ≡ 0 → ⊥) where
  first-covers : covered_by marks q ≡ marked marks (get_or q 0 0) && covered_by marks (drop n q)
  unfolding covered_by
  first-covers =
      ap (covered_by marks) (first-split q n h e)
      ∙ ap (λ c. marked marks (get_or q 0 0) && c) (run-covered marks 0x80 0xBF (omega arith) (take (n - 1) (drop 1 q)) (drop n q) step.high)

  first_weighs : shown_by w q ≡ shown_at w (get_or q 0 0) + shown_by w (drop n q)
  unfolding shown_by
  first_weighs =
      ap (shown_by w) (first-split q n h e)
      ∙ ap (λ m. shown_at w (get_or q 0 0) + m) (tail-shown w (take (n - 1) (drop 1 q)) (drop n q) step.high)

-- ---- sums that stop
pub min_again : (most a b : ℕ) → min most (min most a + b) ≡ min most (a + b)
min_again most a b = go (leb a most) refl
  where
    go : (l : Bool) → leb a most ≡ l → min most (min most a + b) ≡ min most (a + b)
    go true e = ap (λ (n : ℕ). min most (n + b)) (min-eq_right (leb-true a most e))
    go false e =
        let past : most ≤ a = omega (arith, leb-false a most e) in
        ap (λ (n : ℕ). min most (n + b)) (min-eq_left past) ∙ min-eq_left (omega arith) ∙ sym (min-eq_left (omega arith))

-- ---- octets below 0x14: each is text by itself where tokens may stand, but for 0
low-single : (b : ℕ) → (b ≡ 0 → ⊥) → b < 0x14 → single true b ≡ true
unfolding single token
low-single b z h = rw (lt-leb 0x20 b (omega arith), le-leb 1 b (omega (arith, z)), le-leb b 0x13 (omega arith)) (or-not_self (layout b))

-- ---- the loop of `weigh`: its places
module _ (s : List ℕ) (at from : ℕ) (run : PlainTo s at from) where
  pub run_inside : (from ≡ length s → ⊥) → from < length s
  run_inside q = omega (arith, run.inside, q)

  pub run-less : (from ≡ length s → ⊥) → length s - (from + 1) < length s - at
  run-less q = omega (arith, run_inside q, run.onward)

  pub more-fits : (more : ℕ) → length s < 2 ^ 63 → more < 256 → Fits w64 (from - at + more)
  more-fits more g h = record { fits = omega (arith, run.inside) }

  module _ (n : ℕ) (step : Steps true (take (length s - from) (drop from s)) n) where
    step-here : Steps true (drop from s) n
    step-here = subst (λ q. Steps true q n) (part_to_end s from) step

    pub step-inside : from + n ≤ length s
    step-inside = omega (arith, step-here.within, length-drop from s, run.inside)

    pub step_fits : length s < 2 ^ 63 → Fits w64 (from + n)
    step_fits g = record { fits = omega (arith, step-inside) }

    pub step_less : (n ≡ 0 → ⊥) → length s - (from + n) < length s - at
    step_less z = omega (arith, step-inside, run.onward, z)

  module _ (q : from ≡ length s → ⊥) where
    some_left : 0 < length (drop from s)
    some_left = omega (arith, run_inside q, length-drop from s)

    module _ (h : get_or s from 0 < 0x14) where
      low_first : get_or (drop from s) 0 0 < 0x80
      low_first = omega (arith, get_d-here s from 0)

      part_step : (n : ℕ) → Steps true (drop from s) n → Steps true (take (length s - from) (drop from s)) n
      part_step n step = subst (λ p. Steps true p n) (sym (part_to_end s from)) step

      pub low_step : (get_or s from 0 ≡ 0 → ⊥) → Steps true (take (length s - from) (drop from s)) 1
      low_step z =
          part_step 1 (one-yes true (drop from s) true some_left low_first (sym (ap (single true) (get_d-here s from 0) ∙ low-single (get_or s from 0) z h)) refl)

      pub zero-step : get_or s from 0 ≡ 0 → Steps true (take (length s - from) (drop from s)) 0
      unfolding single token layout among
      zero-step e = part_step 0 (one-no true (drop from s) false some_left low_first (sym (ap (single true) (get_d-here s from 0 ∙ e))) refl)

-- what is known with so many octets behind
pub record Weighing (marks : ℕ) (w s : List ℕ) (most at used width : ℕ) : Type 0 where
  pub within : at ≤ length s
  pub same : text true s ≡ text true (drop at s)
  pub short : width ≤ most
  pub covering : covered_by marks s ≡ all_marked marks used && covered_by marks (drop at s)
  pub weighing : min most (shown_by w s) ≡ min most (width + shown_by w (drop at s))

module _ (marks : ℕ) (w s : List ℕ) (lim : Characters) where
  pub weigh-begin : Weighing marks w s lim.0 0 0 0
  unfolding all_marked
  weigh-begin = record { within = omega arith; same = refl; short = omega arith; covering = refl; weighing = ap (min lim.0) (omega arith) }

  module _ (at used : ℕ) (shown : Characters) (inv : Weighing marks w s lim.0 at used shown.0) where
    in-text : Holds true s at
    in-text = record { within = inv.within; same = inv.same }

    pub weigh-done : length s ≤ at → (r : Weighed) → r ≡ covered_shown (all_marked marks used) shown → Some r ≡ weighed_by marks w s lim
    unfolding weighed_by covered_by shown_by
    weigh-done h r e =
        let none = drop_of_length-le s h in
        let c : covered_by marks s ≡ all_marked marks used = inv.covering ∙ ap (λ q. all_marked marks used && covered_by marks q) none ∙ and_yes (all_marked marks used) in
        let k : min lim.0 (shown_by w s) ≡ shown.0 =
        inv.weighing ∙ ap (λ q. min lim.0 (shown.0 + shown_by w q)) none ∙ ap (min lim.0) (add-zero shown.0) ∙ min-eq_right inv.short in
        ap Some e ∙ rw (← check_done true s at in-text h, c, k)

  module _ (at used : ℕ) (shown : Characters) (inv : Weighing marks w s lim.0 at used shown.0) (from : ℕ) (run : PlainTo s at from) where
    weigh-behind : (before : ℕ) → before ≡ min lim.0 (shown.0 + (from - at)) → before ≤ lim.0 → Weighing marks w s lim.0 from used before
    weigh-behind before e g =
        let part = take (from - at) (drop at s) in
        let split = run-split 0x20 0x7F s at from run in
        let more : shown.0 + shown_by w (drop at s) ≡ shown.0 + (from - at) + shown_by w (drop from s) =
        omega (arith, ap (shown_by w) split ∙ run-shown w part (drop from s) run.all, run_length 0x20 0x7F s at from run) in
        record {
          within = run.inside;
          same = (behind true s at from (in-text at used shown inv) (plain-passed true s at from run)).same;
          short = g;
          covering =
              inv.covering
              ∙ ap (λ c. all_marked marks used && c) (ap (covered_by marks) split ∙ run-covered marks 0x20 0x7F (omega arith) part (drop from s) run.all);
          weighing =
              inv.weighing ∙ ap (min lim.0) more ∙ sym (min_again lim.0 (shown.0 + (from - at)) (shown_by w (drop from s)))
              ∙ ap (λ (n : ℕ). min lim.0 (n + shown_by w (drop from s))) (sym e);
        }

    pub weigh-end : from ≡ length s → (before : Characters) → before.0 ≡ min lim.0 (shown.0 + (from - at)) → before.0 ≤ lim.0
        → (r : Weighed) → r ≡ covered_shown (all_marked marks used) before → Some r ≡ weighed_by marks w s lim
    weigh-end q before e g r f = weigh-done from used before (weigh-behind before.0 e g) (omega arith) r f

    pub weigh-stop : (n : ℕ) → Steps true (take (length s - from) (drop from s)) n → n ≡ 0 → None ≡ weighed_by marks w s lim
    unfolding weighed_by
    weigh-stop n step z = rw (← check-stop true s at from (in-text at used shown inv) (plain-passed true s at from run) n step z)

    module _ (q : from ≡ length s → ⊥) where
      pub weigh-zero : get_or s from 0 ≡ 0 → None ≡ weighed_by marks w s lim
      weigh-zero e = weigh-stop 0 (zero-step s at from run q (omega arith) e) refl

      -- a character behind a run: the octets of both count at once
      module _ (n : ℕ) (step : Steps true (take (length s - from) (drop from s)) n) (z : n ≡ 0 → ⊥) where
        after : drop n (drop from s) ≡ drop (from + n) s
        after = drop-drop n from s

        weigh-again : (next : ℕ) → all_marked marks next ≡ all_marked marks used && marked marks (get_or s from 0) → (more : ℕ) → more ≡ shown_at w (get_or s from 0)
            → (k : ℕ) → k ≡ min lim.0 (shown.0 + (from - at + more)) → k ≤ lim.0 → Weighing marks w s lim.0 (from + n) next k
        weigh-again next f more d k l j =
            let here = step-here s at from run n step in
            let left = shown_by w (drop (from + n) s) in
            let passed = weigh-behind (min lim.0 (shown.0 + (from - at))) refl (min-le_left lim.0 (shown.0 + (from - at))) in
            record {
              within = step-inside s at from run n step;
              same = (check-again true s at from (in-text at used shown inv) (plain-passed true s at from run) n step z).same;
              short = j;
              covering =
                  passed.covering
                  ∙ ap (λ c. all_marked marks used && c)
                  (first-covers marks w (drop from s) n here (some_left s at from run q) z
                  ∙ ap₂ (λ b r. marked marks b && covered_by marks r) (get_d-here s from 0) after)
                  ∙ sym (and_assoc (all_marked marks used) (marked marks (get_or s from 0)) (covered_by marks (drop (from + n) s)))
                  ∙ ap (λ c. c && covered_by marks (drop (from + n) s)) (sym f);
              weighing =
                  let ahead : shown_by w (drop from s) ≡ more + left =
                  first_weighs marks w (drop from s) n here (some_left s at from run q) z
                  ∙ ap₂ (λ b r. shown_at w b + shown_by w r) (get_d-here s from 0) after ∙ ap (λ (x : ℕ). x + left) (sym d) in
                  let sum : shown.0 + (from - at) + shown_by w (drop from s) ≡ shown.0 + (from - at + more) + left = omega arith in
                  passed.weighing ∙ min_again lim.0 (shown.0 + (from - at)) (shown_by w (drop from s)) ∙ ap (min lim.0) sum
                  ∙ sym (min_again lim.0 (shown.0 + (from - at + more)) left) ∙ ap (λ (x : ℕ). min lim.0 (x + left)) (sym l);
            }

        pub high-again : 0x14 ≤ get_or s from 0 → (k : ℕ) → k ≡ min lim.0 (shown.0 + (from - at + 1)) → k ≤ lim.0
            → Weighing marks w s lim.0 (from + n) used k
        unfolding marked
        high-again h k l j =
            let begun : get_or s from 0 / 64 ≡ 2 → ⊥ =
            λ e. z ((step-here s at from run n step).begun (ap (λ (b : ℕ). b / 64) (get_d-here s from 0) ∙ e)) in
            let want : marked marks (get_or s from 0) ≡ true = rw (high-octet (get_or s from 0) (omega arith)) in
            weigh-again used (sym (ap (λ c. all_marked marks used && c) want ∙ and_yes (all_marked marks used))) 1 (shown-first w (get_or s from 0) h begun) k l j

      pub low_again : (h : get_or s from 0 < 0x14) → (get_or s from 0 ≡ 0 → ⊥) → (own : ℕ) → own ≡ token_bit (get_or s from 0)
          → (more : ℕ) → more ≡ shown_at w (get_or s from 0) → (k : ℕ) → k ≡ min lim.0 (shown.0 + (from - at + more)) → k ≤ lim.0
          → Weighing marks w s lim.0 (from + 1) (bit_or used own) k
      low_again h z own e more d k l j =
          weigh-again 1 (low_step s at from run q h z) (λ x. omega arith) (bit_or used own) (marked_more marks used (get_or s from 0) own e) more d k l j

pub ruleset weigh-ways = (weigh-begin, weigh-done, weigh-end, weigh-stop, weigh-zero)

-- ---- by the marks of a table
pub covered-by-is : (es : Entries) (marks : ℕ) → Marks marks (tags es) → (s : List ℕ) → covered_by marks s ≡ covered es s
unfolding covered_by covered marked covers
covered-by-is es marks m [] = refl
covered-by-is es marks m (b ∷ s) =
    ap₂ (λ x y. x && y) (one (token b) refl) (covered-by-is es marks m s)
  where
    one : (k : Bool) → token b ≡ k → not (token b) || bit marks b ≡ not (token b) || present (entry es b)
    one true k = rw (m.bits b, tag-present es b, k)
    one false k = rw k

-- ---- what the answer of `weigh` tells, by the marks and counts of a table
module _ (es : Entries) (marks : ℕ) (w : List ℕ) (m : Marks marks (tags es)) (k : Shows 32 es w) (s : List ℕ) (most : Characters)
    (r : Option Weighed) (e : r ≡ weighed_by marks w s most) where
  pub weighed-none : r ≡ None → text true s ≡ false
  unfolding weighed_by
  weighed-none q = (not_chosen (text true s) (sym q ∙ e) (λ z. never (cc))).0

  module _ (x : Weighed) (q : r ≡ Some x) where
    found : (text true s ≡ true) × (Some x ≡ Some (covered_shown (covered_by marks s) (as_characters (min most.0 (shown_by w s)))))
    unfolding weighed_by
    found = chosen (text true s) (sym q ∙ e) (λ z. never (cc))

    pub weighed-text : text true s ≡ true
    weighed-text = found.0

    told : x ≡ covered_shown (covered_by marks s) (as_characters (min most.0 (shown_by w s)))
    told = cc found.1

    pub weighed-covered : x.covered ≡ covered es s
    weighed-covered = ap (λ (v : Weighed). v.covered) told ∙ covered-by-is es marks m s

    pub weighed-shown : x.shown ≡ as_characters (min most.0 (shown_length es s).0)
    unfolding shown_length
    weighed-shown = ap (λ (v : Weighed). v.shown) told ∙ ap (λ m. as_characters (min most.0 m)) (shown-is es w k s)

-- ---- only one answer
pub marks-one : (m k : ℕ) (octets : List ℕ) → Marks m octets → Marks k octets → m ≡ k
marks-one m k octets a b =
    sym (within-kept m k (λ t h. b.bits t ∙ sym (a.bits t) ∙ h)) ∙ and_comm m k ∙ within-kept k m (λ t h. a.bits t ∙ sym (b.bits t) ∙ h)

pub widths-one : (es : Entries) (a b : List ℕ) → Widths 32 es a → Widths 32 es b → a ≡ b
widths-one es a b p q =
    ext_get_or 0 a b (p.long ∙ sym q.long) (λ i h. p.each i (omega (arith, p.long)) ∙ sym (q.each i (omega (arith, p.long))))

pub shows-one : (es : Entries) (a b : List ℕ) → Shows 32 es a → Shows 32 es b → a ≡ b
shows-one es a b p q =
    ext_get_or 0 a b (p.long ∙ sym q.long) (λ i h. p.each i (omega (arith, p.long)) ∙ sym (q.each i (omega (arith, p.long))))
