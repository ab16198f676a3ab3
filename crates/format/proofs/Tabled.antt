-- The records of a tree as rows: where the records from one on are those of an item and of more, the item's own stands first, then those inside it, then
-- those after it.
use mathlib.Core.Path.{◌≡◌, refl, sym, ap, ◌∙◌, subst}
use mathlib.Core.Bool.{Bool, true, false, and-false}
use mathlib.Core.List.{List, [], ◌∷◌, ◌++◌, append_assoc, append-nil}
use Prim.Native.Nat.{ℕ, zero, suc, ◌+◌, ◌-◌, ◌≤◌, ◌<◌}
use native.Mathlib.Omega.{arith}
use native.Mathlib.Numerals.{add-one}
use lib.Dec.{eqb, ltb}
use lib.ListN.{length, drop}
use lib.Seq.{drop-append_seam}
use borrow.Author.Tests.{lt-ltb, le-ltb, eq-eqb, ne_eqb}
use Rattle.format.specs.declared.Record.{Record}
use Rattle.format.specs.Tree.{Items, count, records, record_of}
use Rattle.format.specs.Tree.Items.{end, item}
use Rattle.format.specs.Writer.{here, tabled}
use Rattle.format.proofs.Spans.{records-count}

-- the records and the count of an item, by whether it is the token table
pub records-item : (d p i tag at : ℕ) (body : List ℕ) (inside after : Items) (rest : List Record) → eqb tag 4 ≡ false
    → records d p i (item tag at body inside after) ++ rest
    ≡ record_of d p tag at body ∷ (records (suc d) i (suc i) inside ++ (records d p (suc i + count inside) after ++ rest))
unfolding records
records-item d p i tag at body inside after rest f =
    rw (f, add-one d, add-one i) (ap {B = List Record} (λ x. record_of d p tag at body ∷ x) (append_assoc (records (suc d) i (suc i) inside) _ rest))

pub records-table : (d p i tag at : ℕ) (body : List ℕ) (inside after : Items) → eqb tag 4 ≡ true → records d p i (item tag at body inside after) ≡ records d p i after
unfolding records
records-table d p i tag at body inside after f = rw f

pub count-item : (tag at : ℕ) (body : List ℕ) (inside after : Items) → eqb tag 4 ≡ false → count (item tag at body inside after) ≡ suc (count inside + count after)
unfolding count
count-item tag at body inside after f = rw f (omega arith)

pub count-table : (tag at : ℕ) (body : List ℕ) (inside after : Items) → eqb tag 4 ≡ true → count (item tag at body inside after) ≡ count after
unfolding count
count-table tag at body inside after f = rw f (omega arith)

pub tabled-length : (row : ℕ → Record) (n i : ℕ) → length (tabled row n i) ≡ n
unfolding tabled
tabled-length row zero i = refl
tabled-length row (suc n) i = ap suc (tabled-length row n (suc i))

head_or : Record → List Record → Record
head_or r [] = r
head_or r (x ∷ xs) = x

module _ (row : ℕ → Record) (n : ℕ) where
  -- the records that are left from one on
  abbrev pub left : ℕ → List Record
  left i = tabled row (n - i) i

  pub left_step : (i : ℕ) → i < n → left i ≡ row i ∷ left (suc i)
  unfolding tabled
  left_step i h = let e : n - i ≡ suc (n - suc i) = omega arith in ap (λ m. tabled row m i) e

  pub left-all : left 0 ≡ tabled row n 0
  left-all = let e : n - 0 ≡ n = omega arith in ap (λ m. tabled row m 0) e

  pub left-none : (rs : List Record) → rs ++ left n ≡ rs
  unfolding tabled
  left-none rs = let e : n - n ≡ 0 = omega arith in ap (λ m. rs ++ tabled row m n) e ∙ append-nil rs

  drop-tabled : (c a i : ℕ) → drop c (tabled row a i) ≡ tabled row (a - c) (i + c)
  unfolding tabled
  drop-tabled zero a i = let e : a - 0 ≡ a = omega arith in let f : i + 0 ≡ i = omega arith in rw (e, f)
  drop-tabled (suc c) zero i = let e : 0 - suc c ≡ 0 = omega arith in rw e
  drop-tabled (suc c) (suc a) i = let e : suc a - suc c ≡ a - c = omega arith in let f : i + suc c ≡ suc i + c = omega arith in rw (e, f) (drop-tabled c a (suc i))

  drop-left : (c i : ℕ) → drop c (left i) ≡ left (i + c)
  drop-left c i = let e : n - i - c ≡ n - (i + c) = omega arith in drop-tabled c (n - i) i ∙ ap (λ m. tabled row m (i + c)) e

  left-front : (i : ℕ) (r : Record) (rs : List Record) → left i ≡ r ∷ rs → (i < n) × (row i ≡ r) × (left (suc i) ≡ rs)
  unfolding tabled head_or
  left-front i r rs h = go (n - i) refl h
    where
      go : (m : ℕ) → n - i ≡ m → tabled row m i ≡ r ∷ rs → (i < n) × (row i ≡ r) × (left (suc i) ≡ rs)
      go zero e q = let z : ◌≡◌ {A = ℕ} 0 (suc (length rs)) = ap length q in absurd (omega arith)
      go (suc m) e q = let f : n - suc i ≡ m = omega arith in (omega arith, ap (head_or r) q, rw f (ap (drop 1) q))

  is-here : (d i : ℕ) → i < n → (row i).depth ≡ d → here row n d i ≡ true
  unfolding here
  is-here d i l e = rw (lt-ltb _ _ l, eq-eqb _ _ e)

  not-here : (d e i : ℕ) → (row i).depth ≡ d → d < e → here row n e i ≡ false
  unfolding here
  not-here d e i q l = rw (ne_eqb (row i).depth e (λ z. omega arith)) (and-false (ltb i n))

  -- record i is that of an item, then come those inside it and those after it, up to j
  pub record Stands (d p i j : ℕ) (tag at : ℕ) (body : List ℕ) (inside after : Items) : Type 0 where
    pub is-here : here row n d i ≡ true
    pub is_row : row i ≡ record_of d p tag at body
    pub inner : left (suc i) ≡ records (suc d) i (suc i) inside ++ left (suc i + count inside)
    pub later : left (suc i + count inside) ≡ records d p (suc i + count inside) after ++ left j

  pub item-stands : (d p i j : ℕ) (tag at : ℕ) (body : List ℕ) (inside after : Items) → eqb tag 4 ≡ false → left i ≡ records d p i (item tag at body inside after) ++ left j
      → Stands d p i j tag at body inside after
  item-stands d p i j tag at body inside after f h =
      let within = records (suc d) i (suc i) inside in
      let rest = records d p (suc i + count inside) after ++ left j in
      let a = left-front i (record_of d p tag at body) (within ++ rest) (h ∙ records-item d p i tag at body inside after (left j) f) in
      let z : left (suc i + count inside) ≡ rest =
      sym (drop-left (count inside) (suc i)) ∙ (ap (drop (count inside)) a.2 ∙ (rw (records-count inside (suc d) i (suc i)) at (drop-append_seam within rest))) in
      record { is-here = is-here d i a.0 (ap (λ q. q.depth) a.1); is_row = a.1; inner = a.2 ∙ ap (λ q. within ++ q) (sym z); later = z }

  -- no record from a depth on stands at j: items of that depth end there
  abbrev pub Stops : ℕ → ℕ → Type 0
  Stops d j = (e : ℕ) → d ≤ e → here row n e j ≡ false

  pub stops_end : (d : ℕ) → Stops d n
  unfolding here
  stops_end d e q = rw (le-ltb n n (omega arith))

  -- items one deeper end where items begin, or where all end
  pub stops-inside : (t : Items) (d p m j : ℕ) → Stops d j → left m ≡ records d p m t ++ left j → j ≡ m + count t → Stops (suc d) m
  unfolding records count
  stops-inside end d p m j w h c e q = let z : j ≡ m = omega arith in subst (λ v. here row n e v ≡ false) z (w e (omega arith))
  stops-inside (item tag at body inside after) d p m j w h c e q = go (λ x y. stops-inside after d p m j w x y e q) (eqb tag 4) refl
    where
      go : (left m ≡ records d p m after ++ left j → j ≡ m + count after → here row n e m ≡ false) → (b : Bool) → eqb tag 4 ≡ b → here row n e m ≡ false
      go ih true f =
          ih (h ∙ ap (λ rs. rs ++ left j) (records-table d p m tag at body inside after f)) (c ∙ ap (λ x. m + x) (count-table tag at body inside after f))
      go ih false f = let a = item-stands d p m j tag at body inside after f h in not-here d e m (ap (λ z. z.depth) a.is_row) q
