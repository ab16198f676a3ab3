-- The records of an accepted object's tree grow back to it, but for the token table, which has no record; and the tree without it means the same.
use mathlib.Core.Path.{◌≡◌, refl, sym, ap, ◌∙◌, fun_ext, subst}
use mathlib.Core.Bool.{Bool, true, false, cond, ◌||◌, or-true}
use mathlib.Core.Option.{none, some, map}
use mathlib.Core.List.{List, ◌++◌}
use Prim.Native.Nat.{ℕ, suc, ◌+◌}
use native.Mathlib.Omega.{arith}
use lib.Dec.{eqb}
use borrow.Author.Tests.{eqb-true, eqb-false, ne_eqb}
use Rattle.text.specs.Tokens.{Entries, expanded}
use Rattle.values.specs.Table.{known, attribute}
use Rattle.values.proofs.Known.{known-anywhere, items-no-attribute}
use Rattle.format.specs.declared.Record.{Record}
use Rattle.format.specs.Tree.{Items, find, count, records, record_of, records_of}
use Rattle.format.specs.Tree.Items.{end, item}
use Rattle.format.specs.Judge.{Context, judge}
use Rattle.format.specs.Judge.Judged.{accepted}
use Rattle.format.specs.Meaning.{opens, value_in, counted, attributes_in, cdata_in, means, table_of, meaning_of}
use Rattle.format.specs.Writer.{body_in, here, tree, is_end, tabled}
use Rattle.format.proofs.Induction.{Cases, judged-all}
use Rattle.format.proofs.Spans.{Part, Located, part-span}
use Rattle.format.proofs.Means.{opens-items, means-table}
use Rattle.format.proofs.Force.{attribute-four}
use Rattle.format.proofs.Kept.{end_is}
use Rattle.format.proofs.Trees.{trees, over, tree-stop, tree-single, tree-nested, whole-tree}
use Rattle.format.proofs.Tabled.{left, left-all, left-none, Stands, item-stands, Stops, stops_end, stops-inside, records-table, count-item, count-table}

-- a tree without its token tables
unfoldable pub untabled : Items → Items
untabled end = end
untabled (item tag at body inside after) =
    let rest = untabled after in
    cond (eqb tag 4) rest (item tag at body (untabled inside) rest)

untabled-table : (tag at : ℕ) (body : List ℕ) (inside after : Items) → eqb tag 4 ≡ true → untabled (item tag at body inside after) ≡ untabled after
unfolding untabled
untabled-table tag at body inside after f = rw f

pub untabled-item : (tag at : ℕ) (body : List ℕ) (inside after : Items) → eqb tag 4 ≡ false
    → untabled (item tag at body inside after) ≡ item tag at body (untabled inside) (untabled after)
unfolding untabled
untabled-item tag at body inside after f = rw f

-- a tree in which only elements that hold items have items inside
abbrev pub Shaped : Items → Type 0
Shaped end = Unit {0}
Shaped (item tag at body inside after) = (opens tag || is_end inside ≡ true) × Shaped inside × Shaped after

module _ (row : ℕ → Record) (n : ℕ) (lent : List ℕ) where
  -- the item of a record
  row-item : (d p i tag at : ℕ) (body : List ℕ) (x y : Items) → row i ≡ record_of d p tag at body → Part lent at body
      → item (row i).tag (row i).start (body_in lent (row i)) x y ≡ item tag at body x y
  unfolding body_in
  row-item d p i tag at body x y e part = rw (e, (part-span lent at body part).1)

  -- the records from i up to j are those of a tree, and its items end at j
  abbrev Regrows : Items → Type 0
  Regrows t = (d p i j : ℕ) → Shaped t → Located lent t → left row n i ≡ records d p i t ++ left row n j → j ≡ i + count t → Stops row n d j
      → trees row n lent d i ≡ (untabled t, j)

  regrows-end : Regrows end
  unfolding count untabled
  regrows-end d p i j sh l h c w =
      let z : i ≡ j = omega arith in
      tree-stop row n lent d i (subst (λ v. here row n d v ≡ false) (sym z) (w d (omega arith))) ∙ ap (λ v. (end, v)) z

  -- an item that has a record
  regrows-known : (tag at : ℕ) (body : List ℕ) (x y : Items) → Regrows x → Regrows y → eqb tag 4 ≡ false → (d p i j : ℕ) → Shaped (item tag at body x y)
      → Located lent (item tag at body x y) → left row n i ≡ records d p i (item tag at body x y) ++ left row n j → j ≡ i + count (item tag at body x y) → Stops row n d j
      → trees row n lent d i ≡ (item tag at body (untabled x) (untabled y), j)
  unfolding count untabled
  regrows-known tag at body x y fx fy f d p i j sh l h c w = go (opens tag) refl
    where
      a : Stands row n d p i j tag at body x y
      a = item-stands row n d p i j tag at body x y f h

      number : j ≡ suc i + count x + count y
      number = c ∙ (ap (λ q. i + q) (count-item tag at body x y f) ∙ omega arith)

      later : trees row n lent d (suc i + count x) ≡ (untabled y, j)
      later = fy d p (suc i + count x) j sh.2 l.2 a.later number w

      same : (u v : Items) → over row n lent i (u, 0) (v, j) ≡ (item tag at body u v, j)
      same u v = ap (λ t. (t, j)) (row-item d p i tag at body u v a.is_row l.0)

      go : (b : Bool) → opens tag ≡ b → trees row n lent d i ≡ (item tag at body (untabled x) (untabled y), j)
      go true o =
          let inner : trees row n lent (suc d) (suc i) ≡ (untabled x, suc i + count x) =
          fx (suc d) i (suc i) (suc i + count x) sh.1 l.1 a.inner refl (stops-inside row n y d p (suc i + count x) j w a.later number) in
          tree-nested row n lent d i a.is-here (ap (λ q. opens q.tag) a.is_row ∙ o)
          ∙ (ap (λ z. over row n lent i z (trees row n lent d z.1)) inner ∙ (ap (over row n lent i (untabled x, 0)) later ∙ same (untabled x) (untabled y)))
      go false o =
          let e : end ≡ x = end_is x (rw o at sh.0) in
          let z : suc i + count x ≡ suc i = ap (λ q. suc i + count q) (sym e) ∙ omega arith in
          tree-single row n lent d i a.is-here (ap (λ q. opens q.tag) a.is_row ∙ o)
          ∙ (ap (over row n lent i (end, 0)) (subst (λ v. trees row n lent d v ≡ (untabled y, j)) z later)
          ∙ (same end (untabled y) ∙ ap (λ q. (item tag at body (untabled q) (untabled y), j)) e))

  regrows-item : (tag at : ℕ) (body : List ℕ) (x y : Items) → Regrows x → Regrows y → Regrows (item tag at body x y)
  regrows-item tag at body x y fx fy d p i j sh l h c w = go (eqb tag 4) refl
    where
      go : (b : Bool) → eqb tag 4 ≡ b → trees row n lent d i ≡ (untabled (item tag at body x y), j)
      go true f =
          fy d p i j sh.2 l.2 (h ∙ ap (λ rs. rs ++ left row n j) (records-table d p i tag at body x y f)) (c ∙ ap (λ q. i + q) (count-table tag at body x y f)) w
          ∙ ap (λ u. (u, j)) (sym (untabled-table tag at body x y f))
      go false f = regrows-known tag at body x y fx fy f d p i j sh l h c w ∙ ap (λ u. (u, j)) (sym (untabled-item tag at body x y f))

  pub regrows : (t : Items) → Regrows t
  regrows end = regrows-end
  regrows (item tag at body x y) = regrows-item tag at body x y (regrows x) (regrows y)

  -- all records, those of a tree, grow into it
  pub regrows-all : (t : Items) → Shaped t → Located lent t → records_of t ≡ tabled row n 0 → n ≡ count t → tree (suc n) row n lent 1 0 ≡ (untabled t, n)
  regrows-all t sh l e c =
      let all : left row n 0 ≡ records_of t ++ left row n n = left-all row n ∙ (sym e ∙ sym (left-none row n (records_of t))) in
      whole-tree row n lent 1 ∙ regrows t 1 0 0 n sh l all (omega arith) (stops_end row n 1)

abbrev Shapes : Context → ℕ → List ℕ → Items → Type 0
Shapes c at part t = Shaped t

shapes-cases : Cases Shapes
unfolding is_end
shapes-cases = record {
  at_end = λ c at q. tt;
  at_unknown = λ c at tag rest u q e later. later;
  at_element = λ c at tag rest s u q e inside later. (rw (opens-items tag (sym (known-anywhere c.parent tag (items-no-attribute c.parent tag e)) ∙ e)), inside, later);
  at_leaf = λ c at tag rest u k q e l later. (or-true (opens tag), tt, later);
}

pub shaped : (o : List ℕ) (t : Items) → judge o ≡ accepted t → Shaped t
shaped o t h = judged-all Shapes shapes-cases o t h

-- what a tree means, without its token tables: they are no child elements, and no attribute or CDATA is among them
find-untabled : (a : ℕ) → eqb a 4 ≡ false → (t : Items) → find a (untabled t) ≡ find a t
unfolding find untabled
find-untabled a f end = refl
find-untabled a f (item tag at body x y) = go (find-untabled a f y) (eqb tag 4) refl
  where
    go : find a (untabled y) ≡ find a y → (b : Bool) → eqb tag 4 ≡ b → find a (cond b (untabled y) (item tag at body (untabled x) (untabled y))) ≡ cond (eqb a tag) (some body) (find a y)
    go ih true e = rw (ne_eqb a tag (λ q. eqb-false a 4 f (q ∙ eqb-true tag 4 e))) ih
    go ih false e = ap (cond (eqb a tag) (some body)) ih

attributes-untabled : (table : Entries) (p : ℕ) (t : Items) → attributes_in table p (untabled t) ≡ attributes_in table p t
unfolding attributes_in
attributes-untabled table p t = fun_ext (λ a. go a (attribute a) refl)
  where
    go : (a : ℕ) (b : Bool) → attribute a ≡ b → cond b (counted p a (value_in table (find a (untabled t)) (known p a))) none ≡ cond b (counted p a (value_in table (find a t) (known p a))) none
    go a true e = ap (λ o. counted p a (value_in table o (known p a))) (find-untabled a (attribute-four a e) t)
    go a false e = refl

cdata-untabled : (table : Entries) (t : Items) → cdata_in table (untabled t) ≡ cdata_in table t
unfolding cdata_in
cdata-untabled table t = ap (map (expanded table)) (find-untabled 1 refl t)

means-inside : (table : Entries) (tag at : ℕ) (body : List ℕ) (x y : Items) → means table (untabled x) ≡ means table x → means table (untabled y) ≡ means table y
    → means table (item tag at body (untabled x) (untabled y)) ≡ means table (item tag at body x y)
unfolding means
means-inside table tag at body x y p q = rw (attributes-untabled table tag x, cdata-untabled table x, p, q)

pub means-untabled : (table : Entries) (t : Items) → means table (untabled t) ≡ means table t
unfolding means untabled
means-untabled table end = refl
means-untabled table (item tag at body x y) = go (means-untabled table x) (means-untabled table y) (eqb tag 4) refl
  where
    go : means table (untabled x) ≡ means table x → means table (untabled y) ≡ means table y → (b : Bool) → eqb tag 4 ≡ b
        → means table (untabled (item tag at body x y)) ≡ means table (item tag at body x y)
    go p q true e = ap (means table) (untabled-table tag at body x y e) ∙ (q ∙ sym (ap (λ n. means table (item n at body x y)) (eqb-true tag 4 e) ∙ means-table table at body x y))
    go p q false e = ap (means table) (untabled-item tag at body x y e) ∙ means-inside table tag at body x y p q

pub regrown-means : (t : Items) → means (table_of t) (untabled t) ≡ meaning_of t
regrown-means t = means-untabled (table_of t) t
