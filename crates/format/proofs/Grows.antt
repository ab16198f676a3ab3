-- Records that are walked over are those of the tree that their depths say, which lies in the lent octets and keeps the rules.
use mathlib.Core.Path.{◌≡◌, refl, sym, ap, ◌∙◌}
use mathlib.Core.Bool.{true, false, ◌||◌}
use mathlib.Core.List.{List, ◌∷◌, ◌++◌}
use Prim.Native.Nat.{ℕ, suc, ◌+◌, ◌≤◌}
use native.Mathlib.Omega.{arith}
use lib.ListN.{length, take, drop, length-drop, take-append-drop}
use lib.Seq.{length-take-le}
use Rattle.format.specs.declared.Record.{Record}
use Rattle.format.specs.Tree.{Items, count, records, record_of}
use Rattle.format.specs.Tree.Items.{end, item}
use Rattle.format.specs.Meaning.{opens}
use Rattle.format.specs.Writer.{Spot, below, past, body_in, good, here, is_end, ruled}
use Rattle.format.proofs.Spans.{Part, Located}
use Rattle.format.proofs.Kept.{Good, good-parts, keeps-tag, is-ruled}
use Rattle.format.proofs.Walk.{Walked, here-less, here-depth}
use Rattle.format.proofs.Walk.Walked.{stop, single, nested}
use Rattle.format.proofs.Trees.{trees, over, tree-stop, tree-single, tree-nested}
use Rattle.format.proofs.Tabled.{left, left_step, records-item, count-item}

body-length : (lent : List ℕ) (r : Record) → r.start + r.size ≤ length lent → length (body_in lent r) ≡ r.size
unfolding body_in
body-length lent r h = length-take-le r.size (drop r.start lent) (omega (arith, length-drop r.start lent))

body-part : (lent : List ℕ) (r : Record) → r.start + r.size ≤ length lent → Part lent r.start (body_in lent r)
unfolding body_in
body-part lent r h = (
  take r.start lent,
  drop r.size (drop r.start lent),
  sym (ap (λ x. take r.start lent ++ x) (take-append-drop r.size (drop r.start lent)) ∙ take-append-drop r.start lent),
  length-take-le r.start lent (omega arith),
)

module _ (row : ℕ → Record) (n : ℕ) (lent : List ℕ) where
  -- a good record is that of its item
  row-record : (s : Spot) (p i : ℕ) → here row n s.depth i ≡ true → Good s p lent (row i)
      → row i ≡ record_of s.depth p (row i).tag (row i).start (body_in lent (row i))
  row-record s p i h g = λ x. record {
    tag = (row i).tag;
    kind = g.kind x;
    depth = here-depth row n s.depth i h x;
    parent = g.parent x;
    start = (row i).start;
    size = sym (body-length lent (row i) g.inside) x;
  }

  -- the tree of the records from i up to j: it is the one that the depths say, its records are these, it keeps the rules and lies in the lent octets
  pub record Grows (s : Spot) (p i j : ℕ) : Type 0 where
    pub t : Items
    pub grown : trees row n lent s.depth i ≡ (t, j)
    pub recorded : left row n i ≡ records s.depth p i t ++ left row n j
    pub counted : j ≡ i + count t
    pub rules : ruled s t ≡ true
    pub place : Located lent t

  grows-stop : (s : Spot) (p i : ℕ) → here row n s.depth i ≡ false → Grows s p i i
  unfolding records count ruled
  grows-stop s p i e = record { t = end; grown = tree-stop row n lent s.depth i e; recorded = refl; counted = omega arith; rules = refl; place = tt }

  -- an item, from what is inside it and what comes after it
  grows-item : (s : Spot) (p i m j : ℕ) (x : Items) (w : Grows (past s (row i).tag) p m j) → here row n s.depth i ≡ true → Good s p lent (row i)
      → trees row n lent s.depth i ≡ (item (row i).tag (row i).start (body_in lent (row i)) x w.t, j)
      → left row n (suc i) ≡ records (suc s.depth) i (suc i) x ++ left row n m
      → m ≡ suc i + count x → opens (row i).tag || is_end x ≡ true → ruled (below s (row i).tag) x ≡ true → Located lent x → Grows s p i j
  unfolding past
  grows-item s p i m j x w e g grown inner number holder rules place =
      let d = s.depth in
      let tag = (row i).tag in
      let at = (row i).start in
      let body = body_in lent (row i) in
      let u = w.t in
      let f = keeps-tag s tag body g.rules in
      let later : left row n m ≡ records d p (suc i + count x) u ++ left row n j = w.recorded ∙ ap (λ y. records d p y u ++ left row n j) number in
      record {
        t = item tag at body x u;
        grown = grown;
        recorded =
            left_step row n i (here-less row n d i e) ∙ ap (λ y. y ∷ left row n (suc i)) (row-record s p i e g)
            ∙ ap {B = List Record} (λ y. record_of d p tag at body ∷ y) (inner ∙ ap (λ y. records (suc d) i (suc i) x ++ y) later)
            ∙ sym (records-item d p i tag at body x u (left row n j) f);
        counted = w.counted ∙ rw (count-item tag at body x u f) (omega arith);
        rules = is-ruled s tag at body x u (record { holder = holder; rules = g.rules; within = rules; beside = w.rules });
        place = (body-part lent (row i) g.inside, place, w.place);
      }

  grows-single : (s : Spot) (p i j : ℕ) → here row n s.depth i ≡ true → good s p lent (row i) ≡ true → opens (row i).tag ≡ false
      → Grows (past s (row i).tag) p (suc i) j → Grows s p i j
  unfolding past ruled is_end records count
  grows-single s p i j e g o w =
      grows-item s p i (suc i) j end w e (good-parts s p lent (row i) g) (tree-single row n lent s.depth i e o ∙ ap (over row n lent i (end, suc i)) w.grown)
      refl (omega arith) (rw o) refl tt

  grows-nested : (s : Spot) (p i m j : ℕ) → here row n s.depth i ≡ true → good s p lent (row i) ≡ true → opens (row i).tag ≡ true
      → Grows (below s (row i).tag) i (suc i) m → Grows (past s (row i).tag) p m j → Grows s p i j
  unfolding below past
  grows-nested s p i m j e g o v w =
      let grown : trees row n lent s.depth i ≡ over row n lent i (v.t, m) (w.t, j) =
      tree-nested row n lent s.depth i e o
      ∙ (ap (λ z. over row n lent i z (trees row n lent s.depth z.1)) v.grown ∙ ap (over row n lent i (v.t, m)) w.grown) in
      grows-item s p i m j v.t w e (good-parts s p lent (row i) g) grown v.recorded v.counted (rw o) v.rules v.place

  pub grows : {s : Spot} {p i j : ℕ} → Walked row n lent s p i j → Grows s p i j
  grows (stop {s = s} {p = p} {i = i} e) = grows-stop s p i e
  grows (single {s = s} {p = p} {i = i} {j = j} e g o w) = grows-single s p i j e g o (grows w)
  grows (nested {s = s} {p = p} {i = i} {m = m} {j = j} e g o v w) = grows-nested s p i m j e g o (grows v) (grows w)
