-- Runs of octets: how the code finds where they end, what a text is without one, and the loop of `check`, which passes over them.
use Prim.Native.Nat.{ℕ, zero, suc, ◌+◌, ◌-◌, ◌*◌, ◌/◌, ◌≤◌, ◌<◌}
use mathlib.Core.Path.{◌≡◌, refl, sym, ap, ap₂, subst, ◌∙◌}
use mathlib.Core.List.{List, [], ◌∷◌, ◌++◌}
use mathlib.Core.Bool.{Bool, true, false, ◌&&◌, and_assoc}
use lib.ListN.{length, get_or, take, drop, length-drop, drop_of_length-le, take-append-drop}
use lib.Seq.{drop-drop}
use lib.Dec.{leb}
use native.Mathlib.Nat.{add-zero}
use native.Mathlib.Omega.{arith}
use borrow.Author.Tests.{leb-true}
use Rattle.octets.proofs.Tests.{and_left, and_right, and-true}
use Rattle.octets.proofs.Lists.{part_to_end, part-split, length_part, drop-next}
use Rattle.text.specs.Text.{utf8, text}
use Rattle.text.specs.Tokens.{Entries, expanded, covered}
use Rattle.text.specs.Leaves.{onward, Steps}
use Rattle.text.specs.Runs.{within, all_within, RunTo, PlainTo, UntokenedTo}
use Rattle.text.specs.Links.{PassedTo}
use Rattle.text.specs.Weighing.{weight, shown_by}
use Rattle.text.proofs.Widths.{width-high}
use Rattle.text.proofs.ShownLaws.{shown-on, shown-first}
use Rattle.text.proofs.Words.{high-octet, covered-cons}
use Rattle.std.specs.Simd.{first_chunks}
use Rattle.text.proofs.Chunks.{left_from, chunk-is, chunks-long}
use Rattle.text.proofs.Laws.{ascii-text, expanded-append, bare-expanded}

-- ---- what `are_eight_within` answers
from-right : (a b c d e f g h : Bool) → a && b && c && d && e && f && g && h ≡ a && (b && (c && (d && (e && (f && (g && (h && true)))))))
from-right false b c d e f g h = refl
from-right true false c d e f g h = refl
from-right true true false d e f g h = refl
from-right true true true false e f g h = refl
from-right true true true true false f g h = refl
from-right true true true true true false g h = refl
from-right true true true true true true false h = refl
from-right true true true true true true true false = refl
from-right true true true true true true true true = refl

pub eight-within : (least most : ℕ) (s : List ℕ) → 8 ≤ length s → (a b c d e f g h : Bool)
    → a ≡ within least most (get_or s 0 0) → b ≡ within least most (get_or s 1 0) → c ≡ within least most (get_or s 2 0) → d ≡ within least most (get_or s 3 0)
    → e ≡ within least most (get_or s 4 0) → f ≡ within least most (get_or s 5 0) → g ≡ within least most (get_or s 6 0) → h ≡ within least most (get_or s 7 0)
    → a && b && c && d && e && f && g && h ≡ all_within least most (take 8 s)
unfolding all_within
eight-within least most (i ∷ j ∷ k ∷ l ∷ m ∷ n ∷ o ∷ p ∷ s) z a b c d e f g h ea eb ec ed ee ef eg eh =
    from-right a b c d e f g h ∙ rw (ea, eb, ec, ed, ee, ef, eg, eh)
eight-within least most [] z a b c d e f g h ea eb ec ed ee ef eg eh = absurd (omega arith)
eight-within least most (i ∷ []) z a b c d e f g h ea eb ec ed ee ef eg eh = absurd (omega arith)
eight-within least most (i ∷ j ∷ []) z a b c d e f g h ea eb ec ed ee ef eg eh = absurd (omega arith)
eight-within least most (i ∷ j ∷ k ∷ []) z a b c d e f g h ea eb ec ed ee ef eg eh = absurd (omega arith)
eight-within least most (i ∷ j ∷ k ∷ l ∷ []) z a b c d e f g h ea eb ec ed ee ef eg eh = absurd (omega arith)
eight-within least most (i ∷ j ∷ k ∷ l ∷ m ∷ []) z a b c d e f g h ea eb ec ed ee ef eg eh = absurd (omega arith)
eight-within least most (i ∷ j ∷ k ∷ l ∷ m ∷ n ∷ []) z a b c d e f g h ea eb ec ed ee ef eg eh = absurd (omega arith)
eight-within least most (i ∷ j ∷ k ∷ l ∷ m ∷ n ∷ o ∷ []) z a b c d e f g h ea eb ec ed ee ef eg eh = absurd (omega arith)

-- ---- the loops of `eights_end`, `sixteens_end` and `run_end`
module _ (least most : ℕ) where
  all_append : (a b : List ℕ) → all_within least most a ≡ true → all_within least most b ≡ true → all_within least most (a ++ b) ≡ true
  unfolding all_within
  all_append [] b h g = g
  all_append (x ∷ a) b h g =
      and-true (within least most x) (all_within least most (a ++ b)) (and_left (within least most x) (all_within least most a) h)
      (all_append a b (and_right (within least most x) (all_within least most a) h) g)

  all_right : (a b : List ℕ) → all_within least most (a ++ b) ≡ true → all_within least most b ≡ true
  unfolding all_within
  all_right [] b h = h
  all_right (x ∷ a) b h = all_right a b (and_right (within least most x) (all_within least most (a ++ b)) h)

  module _ (s : List ℕ) (at : ℕ) where
    pub run-begin : at < length s → RunTo least most s at at
    unfolding all_within
    run-begin h = let n : at - at ≡ 0 = omega arith in record { onward = omega arith; inside = omega arith; all = rw n }

    module _ (end : ℕ) (run : RunTo least most s at end) where
      run_more : (n : ℕ) → end + n ≤ length s → all_within least most (take n (drop end s)) ≡ true → RunTo least most s at (end + n)
      run_more n h w =
          let size : end + n - at ≡ end - at + n = omega (arith, run.onward) in
          let place : at + (end - at) ≡ end = omega (arith, run.onward) in
          record {
            onward = omega (arith, run.onward);
            inside = h;
            all = rw (size, part-split s at (end - at) n, place) (all_append (take (end - at) (drop at s)) (take n (drop end s)) run.all w);
          }

      -- the last sixteen octets of the text, of which the run has the first already
      pub run-last : 16 ≤ length s → length s - end < 16 → (r : Bool)
          → r ≡ all_within least most (take 16 (take (length s - (length s - 16)) (drop (length s - 16) s))) → r ≡ true → RunTo least most s at (length s)
      run-last l h r e y =
          let last = length s - 16 in
          let old = 16 - (length s - end) in
          let left = length s - end in
          let whole : all_within least most (take 16 (drop last s)) ≡ true = ap (λ q. all_within least most (take 16 q)) (sym (part_to_end s last)) ∙ sym e ∙ y in
          let sum : old + left ≡ 16 = omega arith in
          let place : last + old ≡ end = omega (arith, run.inside) in
          let to : end + left ≡ length s = omega (arith, run.inside) in
          let split : take 16 (drop last s) ≡ take old (drop last s) ++ take left (drop end s) =
          ap (λ (n : ℕ). take n (drop last s)) (sym sum) ∙ part-split s last old left ∙ ap (λ (i : ℕ). take old (drop last s) ++ take left (drop i s)) place in
          let rest = all_right (take old (drop last s)) (take left (drop end s)) (ap (all_within least most) (sym split) ∙ whole) in
          subst (λ (n : ℕ). RunTo least most s at n) to (run_more left (omega (arith, run.inside)) rest)

      pub run-one : end < length s → (r : Bool) → r ≡ within least most (get_or s end 0) → r ≡ true → RunTo least most s at (end + 1)
      unfolding all_within
      run-one h r e y = run_more 1 (omega arith) (ap (λ q. all_within least most (take 1 q)) (drop-next s end 0 h) ∙ rw (← e, y))

    pub run-none : at < length s → RunTo least most s at (at + 0)
    run-none h = rw add-zero (run-begin h)

    -- a chunk more, where the chunks before it are the run
    module _ (chunks : List (List ℕ)) (i : ℕ) (h : i < length chunks) where
      pub run-eight : chunks ≡ first_chunks 8 (length (left_from s at) / 8) (left_from s at) → length chunks ≡ length (left_from s at) / 8
          → RunTo least most s at (at + 8 * i) → (r : Bool) → r ≡ all_within least most (take 8 (get_or chunks i [])) → r ≡ true
          → RunTo least most s at (at + 8 * (i + 1))
      run-eight front count run r e y =
          let place : at + 8 * i + 8 ≡ at + 8 * (i + 1) = omega arith in
          let all = ap (all_within least most) (chunk-is 8 s at chunks front count i h) in
          subst (λ (n : ℕ). RunTo least most s at n) place
          (run_more (at + 8 * i) run 8 (omega (arith, run.onward, chunks-long 8 s at chunks front count)) (sym all ∙ sym e ∙ y))

      pub run-sixteen : chunks ≡ first_chunks 16 (length (left_from s at) / 16) (left_from s at) → length chunks ≡ length (left_from s at) / 16
          → RunTo least most s at (at + 16 * i) → (r : Bool) → r ≡ all_within least most (take 16 (get_or chunks i [])) → r ≡ true
          → RunTo least most s at (at + 16 * (i + 1))
      run-sixteen front count run r e y =
          let place : at + 16 * i + 16 ≡ at + 16 * (i + 1) = omega arith in
          let all = ap (all_within least most) (chunk-is 16 s at chunks front count i h) in
          subst (λ (n : ℕ). RunTo least most s at n) place
          (run_more (at + 16 * i) run 16 (omega (arith, run.onward, chunks-long 16 s at chunks front count)) (sym all ∙ sym e ∙ y))

pub ruleset run-ways = (run-begin, run-none, run-eight, run-one)

pub ruleset sixteen-ways = (run-none, run-sixteen, run-last)

-- ---- what `are_sixteen_plain` answers
all_both : (least most : ℕ) (a b : List ℕ) → all_within least most (a ++ b) ≡ all_within least most a && all_within least most b
unfolding all_within
all_both least most [] b = refl
all_both least most (x ∷ a) b = rw (all_both least most a b) (sym (and_assoc (within least most x) (all_within least most a) (all_within least most b)))

pub two-eights : (s : List ℕ) (a b : Bool) → a ≡ all_within 0x20 0x7F (take 8 s) → b ≡ all_within 0x20 0x7F (take 8 (take (length s - 8) (drop 8 s)))
    → a && b ≡ all_within 0x20 0x7F (take 16 s)
two-eights s a b p q =
    ap₂ ◌&&◌ p (q ∙ ap (λ r. all_within 0x20 0x7F (take 8 r)) (part_to_end s 8))
    ∙ sym (ap (all_within 0x20 0x7F) (part-split s 0 8 8) ∙ all_both 0x20 0x7F (take 8 s) (take 8 (drop 8 s)))

-- ---- a text at a run: the octets of the run, and what comes behind it
pub split_at : (s : List ℕ) (at end : ℕ) → at ≤ end → drop at s ≡ take (end - at) (drop at s) ++ drop end s
split_at s at end h =
    let place : at + (end - at) ≡ end = omega arith in
    sym (take-append-drop (end - at) (drop at s)) ∙ ap (λ q. take (end - at) (drop at s) ++ q) (drop-drop (end - at) at s ∙ ap (λ (n : ℕ). drop n s) place)

module _ (least most : ℕ) (s : List ℕ) (at end : ℕ) (run : RunTo least most s at end) where
  pub run-split : drop at s ≡ take (end - at) (drop at s) ++ drop end s
  run-split = split_at s at end run.onward

  pub run_length : length (take (end - at) (drop at s)) ≡ end - at
  run_length = length_part s at (end - at) (omega (arith, run.onward, run.inside))

pub bounds : (least most b : ℕ) → within least most b ≡ true → (least ≤ b) × (b ≤ most)
unfolding within
bounds least most b h = (leb-true least b (and_left (leb least b) (leb b most) h), leb-true b most (and_right (leb least b) (leb b most) h))

-- octets that are text by themselves: valid text goes on behind them
plain-octets : (t : Bool) (p r : List ℕ) → all_within 0x20 0x7F p ≡ true → text t (p ++ r) ≡ text t r
unfolding all_within
plain-octets t [] r h = refl
plain-octets t (b ∷ p) r h =
    let w = bounds 0x20 0x7F b (and_left (within 0x20 0x7F b) (all_within 0x20 0x7F p) h) in
    ascii-text t b (p ++ r) w.0 (omega arith) ∙ plain-octets t p r (and_right (within 0x20 0x7F b) (all_within 0x20 0x7F p) h)

pub plain-passed : (t : Bool) (s : List ℕ) (at end : ℕ) → PlainTo s at end → PassedTo t s at end
plain-passed t s at end run =
    record {
      onward = run.onward;
      inside = run.inside;
      same = ap (text t) (run-split 0x20 0x7F s at end run) ∙ plain-octets t (take (end - at) (drop at s)) (drop end s) run.all;
    }

-- nothing is passed over, or one part after another
pub passed_none : (t : Bool) (s : List ℕ) (at : ℕ) → at < length s → PassedTo t s at at
passed_none t s at h = record { onward = omega arith; inside = omega arith; same = refl }

pub passed-join : (t : Bool) (s : List ℕ) (at from end : ℕ) → PassedTo t s at from → PassedTo t s from end → PassedTo t s at end
passed-join t s at from end p q = record { onward = omega (arith, p.onward, q.onward); inside = q.inside; same = p.same ∙ q.same }

pub passed-plain : (t : Bool) (s : List ℕ) (at from end : ℕ) → PassedTo t s at from → PlainTo s from end → PassedTo t s at end
passed-plain t s at from end p q = passed-join t s at from end p (plain-passed t s from end q)

-- octets above those of tokens: they need no table and stand for themselves
no-tokens : (p : List ℕ) → all_within 0x14 0xFF p ≡ true → covered [] p ≡ true
unfolding all_within covered
no-tokens [] h = refl
no-tokens (b ∷ p) h =
    let w = bounds 0x14 0xFF b (and_left (within 0x14 0xFF b) (all_within 0x14 0xFF p) h) in
    covered-cons b p (high-octet b (omega arith)) (no-tokens p (and_right (within 0x14 0xFF b) (all_within 0x14 0xFF p) h))

-- each of them has the width 1
pub run-weight : (w : List ℕ) (least most : ℕ) → 0x14 ≤ least → (p r : List ℕ) → all_within least most p ≡ true → weight w (p ++ r) ≡ length p + weight w r
unfolding all_within weight
run-weight w least most high [] r h = omega arith
run-weight w least most high (b ∷ p) r h =
    omega (
      arith,
      width-high w b (omega (arith, (bounds least most b (and_left (within least most b) (all_within least most p) h)).0)),
      run-weight w least most high p r (and_right (within least most b) (all_within least most p) h),
    )

-- of octets that are text by themselves each is a character, and of those that go on with one none is
pub run-shown : (w p r : List ℕ) → all_within 0x20 0x7F p ≡ true → shown_by w (p ++ r) ≡ length p + shown_by w r
unfolding all_within shown_by
run-shown w [] r h = omega arith
run-shown w (b ∷ p) r h =
    let k = bounds 0x20 0x7F b (and_left (within 0x20 0x7F b) (all_within 0x20 0x7F p) h) in
    omega (arith, shown-first w b (omega arith) (λ e. omega arith), run-shown w p r (and_right (within 0x20 0x7F b) (all_within 0x20 0x7F p) h))

pub tail-shown : (w p r : List ℕ) → all_within 0x80 0xBF p ≡ true → shown_by w (p ++ r) ≡ shown_by w r
unfolding all_within shown_by
tail-shown w [] r h = refl
tail-shown w (b ∷ p) r h =
    let k = bounds 0x80 0xBF b (and_left (within 0x80 0xBF b) (all_within 0x80 0xBF p) h) in
    let two : b / 64 ≡ 2 = omega arith in
    omega (arith, shown-on w b (omega arith) two, tail-shown w p r (and_right (within 0x80 0xBF b) (all_within 0x80 0xBF p) h))

pub weight-run : (w s : List ℕ) (at end : ℕ) → UntokenedTo s at end → weight w (drop at s) ≡ end - at + weight w (drop end s)
weight-run w s at end run =
    ap (weight w) (run-split 0x14 0xFF s at end run)
    ∙ run-weight w 0x14 0xFF (omega arith) (take (end - at) (drop at s)) (drop end s) run.all
    ∙ ap (λ (n : ℕ). n + weight w (drop end s)) (run_length 0x14 0xFF s at end run)

module _ (es : Entries) (s : List ℕ) (at end : ℕ) (run : UntokenedTo s at end) where
  bare : covered [] (take (end - at) (drop at s)) ≡ true
  bare = no-tokens (take (end - at) (drop at s)) run.all

  pub expanded-run : expanded es (drop at s) ≡ take (end - at) (drop at s) ++ expanded es (drop end s)
  expanded-run =
      ap (expanded es) (run-split 0x14 0xFF s at end run)
      ∙ expanded-append es (take (end - at) (drop at s)) (drop end s)
      ∙ ap (λ q. q ++ expanded es (drop end s)) (bare-expanded es (take (end - at) (drop at s)) bare)

-- ---- the loop of `check`
pub record Holds (t : Bool) (s : List ℕ) (at : ℕ) : Type 0 where
  pub within : at ≤ length s
  pub same : text t s ≡ text t (drop at s)

module _ (t : Bool) (s : List ℕ) where
  pub check-begin : Holds t s 0
  check-begin = record { within = omega arith; same = refl }

  pub check_done : (at : ℕ) → Holds t s at → length s ≤ at → true ≡ text t s
  unfolding text utf8
  check_done at inv h = sym (inv.same ∙ ap (text t) (drop_of_length-le s h))

  module _ (at from : ℕ) (inv : Holds t s at) (run : PassedTo t s at from) where
    pub behind : Holds t s from
    behind = record { within = run.inside; same = inv.same ∙ run.same }

    pub check-end : from ≡ length s → true ≡ text t s
    check-end e = check_done from behind (omega arith)

    module _ (n : ℕ) (w : Steps t (take (length s - from) (drop from s)) n) where
      here : Steps t (drop from s) n
      here = subst (λ q. Steps t q n) (part_to_end s from) w

      pub check-stop : n ≡ 0 → false ≡ text t s
      unfolding onward
      check-stop e = sym (behind.same ∙ here.same ∙ rw e)

      onward-some : (n : ℕ) (q : List ℕ) → (n ≡ 0 → ⊥) → onward t q n ≡ text t (drop n q)
      unfolding onward
      onward-some zero q e = absurd (e refl)
      onward-some (suc n) q e = refl

      pub check-again : (n ≡ 0 → ⊥) → Holds t s (from + n)
      check-again e =
          record {
            within = omega (arith, here.within, length-drop from s, run.inside);
            same = behind.same ∙ here.same ∙ onward-some n (drop from s) e ∙ ap (text t) (drop-drop n from s);
          }

pub ruleset check-ways = (check-begin, check_done, check-end, check-stop, check-again)
