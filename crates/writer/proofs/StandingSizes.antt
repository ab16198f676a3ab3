-- A list whose first numbers are the sizes of a tree's bodies has the size of each element's body at its record.
use mathlib.Core.Path.{◌≡◌, refl, sym, ap, ◌∙◌, subst}
use mathlib.Core.Bool.{Bool, true, false, false≢true}
use mathlib.Core.Option.{some}
use mathlib.Core.List.{List, [], ◌∷◌, ◌++◌, append_assoc}
use Prim.Native.Nat.{ℕ, zero, suc, ◌+◌, ◌-◌, ◌≤◌, ◌<◌}
use native.Mathlib.Omega.{arith}
use lib.Dec.{eqb, ltb}
use lib.ListN.{length, take, drop, get_or, take-append-drop}
use lib.Seq.{drop-drop}
use borrow.Author.Tests.{eqb-true, eqb-false, ltb-true, ltb-false}
use Rattle.octets.proofs.Lists.{get_d-here}
use Rattle.format.specs.Tree.{Items}
use Rattle.format.specs.Tree.Items.{end, item}
use Rattle.format.specs.Meaning.{opens, attributes_in, rising}
use Rattle.format.specs.Writer.{Spot, below, past, at_top, body_in, here, ruled}
use Rattle.format.specs.Calls.{Lists, row, tree_given}
use Rattle.format.specs.State.{normal_body, body_sizes}
use Rattle.format.proofs.Kept.{Ruled, ruled-parts}
use Rattle.format.proofs.Walk.{here-less, here-depth}
use Rattle.survey.specs.Normal.{attribute_octets}
use Rattle.writer.specs.Steps.{items_from, body_octets, SizesStand}
use Rattle.writer.proofs.Order.{laid}
use Rattle.writer.proofs.Rows.{from-stop, from-single, from-nested, from-ahead, from-many}
use Rattle.writer.proofs.Whole.{tree-items, tree-rules, tree-many}

-- what is known of the first number from a place on, and of those behind it
first-at : (l : List ℕ) (i x : ℕ) (xs : List ℕ) → drop i l ≡ x ∷ xs → get_or l i 0 ≡ x
first-at l i x xs e = sym (get_d-here l i 0) ∙ ap (λ z. get_or z 0 0) e

behind-at : (l : List ℕ) (i x : ℕ) (xs : List ℕ) → drop i l ≡ x ∷ xs → drop (i + 1) l ≡ xs
behind-at l i x xs e = sym (drop-drop 1 i l) ∙ ap (drop 1) e

-- a body in normal form is what is written of the items in it
body-written : (s : Spot) (p tag : ℕ) (body : List ℕ) (x : Items) → opens tag ≡ true → ruled (below s tag) x ≡ true → length (normal_body p tag body x) ≡ length (body_octets tag x)
unfolding normal_body attribute_octets below
body-written s p tag body x o r = rw o (ap (λ y. length (rising 128 0x80 (attributes_in [] tag x) ++ y)) (sym (laid x (below s tag) r)))

module _ (l : Lists) (n : ℕ) (lent bodies : List ℕ) where
  abbrev from : ℕ → ℕ → Items × ℕ
  from d i = items_from l n lent d i

  abbrev Right : ℕ → Type 0
  Right i = opens (row l i).tag ≡ true → get_or bodies i 0 ≡ length (body_octets (row l i).tag (from ((row l i).depth + 1) (i + 1)).0)

  -- of the items from record i on, whose sizes stand before others
  record Stood (d i : ℕ) (rest : List ℕ) : Type 0 where
    next : drop (from d i).1 bodies ≡ rest
    right : (j : ℕ) → i ≤ j → j < (from d i).1 → Right j

  abbrev Below : ℕ → Type 0
  Below k = (d i : ℕ) (s : Spot) (rest : List ℕ) → n - i < k → ruled s (from d i).0 ≡ true → drop i bodies ≡ body_sizes s.parent (from d i).0 ++ rest → Stood d i rest

  -- the first record and those behind it
  one_more : (i j : ℕ) → i ≤ j → Right i → (i + 1 ≤ j → Right j) → Right j
  one_more i j h first later = go (eqb i j) refl
    where
      go : (b : Bool) → eqb i j ≡ b → Right j
      go true e = subst Right (eqb-true i j e) first
      go false e = later (let ne = eqb-false i j e in omega (arith, ne))

  in_two : (m j : ℕ) → (j < m → Right j) → (m ≤ j → Right j) → Right j
  in_two m j before after = go (ltb j m) refl
    where
      go : (b : Bool) → ltb j m ≡ b → Right j
      go true e = before (ltb-true j m e)
      go false e = after (ltb-false j m e)

  module _ (k : ℕ) (ih : Below k) (d i : ℕ) (s : Spot) (rest : List ℕ) (lt : n - i < suc k) (r : ruled s (from d i).0 ≡ true)
      (e : drop i bodies ≡ body_sizes s.parent (from d i).0 ++ rest) (h : here (row l) n d i ≡ true) where
    abbrev tag : ℕ
    tag = (row l i).tag

    abbrev body : List ℕ
    body = body_in lent (row l i)

    parts : (x y : Items) → (from d i).0 ≡ item tag (row l i).start body x y → Ruled s tag body x y
    parts x y q = ruled-parts s tag (row l i).start body x y (subst (λ t. ruled s t ≡ true) q r)

    stood-single : opens tag ≡ false → Stood d i rest
    unfolding body_sizes past
    stood-single o =
        let t = from-single l n lent d i h o in
        let y = (from d (i + 1)).0 in
        let w : drop i bodies ≡ length (normal_body s.parent tag body end) ∷ (body_sizes s.parent y ++ rest) = e ∙ ap (λ z. body_sizes s.parent z.0 ++ rest) t in
        let g = ih d (i + 1) (past s tag) rest (omega (arith, here-less (row l) n d i h)) (parts end y (ap (λ z. z.0) t)).beside (behind-at bodies i _ _ w) in
        record {
          next = ap (λ z. drop z.1 bodies) t ∙ g.next;
          right = λ j a b. one_more i j a (λ q. absurd (false≢true (sym o ∙ q))) (λ c. g.right j c (omega (arith, ap (λ z. z.1) t)));
        }

    stood-nested : opens tag ≡ true → Stood d i rest
    unfolding body_sizes past below
    stood-nested o =
        let x = (from (d + 1) (i + 1)).0 in
        let next = (from (d + 1) (i + 1)).1 in
        let y = (from d next).0 in
        let t = from-nested l n lent d i h o x next refl in
        let u = parts x y (ap (λ z. z.0) t) in
        let less = here-less (row l) n d i h in
        let ahead = from-ahead l n lent (d + 1) (i + 1) in
        let w : drop i bodies ≡ length (normal_body s.parent tag body x) ∷ ((body_sizes tag x ++ body_sizes s.parent y) ++ rest) = e ∙ ap (λ z. body_sizes s.parent z.0 ++ rest) t in
        let inner = ih (d + 1) (i + 1) (below s tag) (body_sizes s.parent y ++ rest) (omega (arith, less)) u.within (behind-at bodies i _ _ w ∙ append_assoc (body_sizes tag x) (body_sizes s.parent y) rest) in
        let g = ih d next (past s tag) rest (omega (arith, less, ahead)) u.beside inner.next in
        let own : Right i = λ q.
        first-at bodies i _ _ w ∙ (body-written s s.parent tag body x o u.within ∙ ap (λ m. length (body_octets tag (from (m + 1) (i + 1)).0)) (sym (here-depth (row l) n d i h))) in
        record {
          next = ap (λ z. drop z.1 bodies) t ∙ g.next;
          right = λ j a b. one_more i j a own (λ c. in_two next j (λ a. inner.right j c a) (λ a. g.right j a (omega (arith, b, ap (λ z. z.1) t))));
        }

  stood : (k : ℕ) → Below k
  unfolding body_sizes
  stood zero d i s rest lt r e = absurd (omega arith)
  stood (suc k) d i s rest lt r e = go (here (row l) n d i) refl (opens (row l i).tag) refl (stood k)
    where
      go : (b : Bool) → here (row l) n d i ≡ b → (c : Bool) → opens (row l i).tag ≡ c → Below k → Stood d i rest
      go false h c o ih =
          let t = from-stop l n lent d i h in
          record { next = ap (λ z. drop z.1 bodies) t ∙ (e ∙ ap (λ z. body_sizes s.parent z.0 ++ rest) t); right = λ j a b. absurd (omega (arith, a, b, ap (λ z. z.1) t)) }
      go true h false o ih = stood-single k ih d i s rest lt r e h o
      go true h true o ih = stood-nested k ih d i s rest lt r e h o

-- so it is with all records
pub sizes-stand : (n : ℕ) (l : Lists) (lent : List ℕ) (t : Items) → tree_given n l lent ≡ some t → (bodies : List ℕ) → n ≤ length bodies → take n bodies ≡ body_sizes 0 t
    → SizesStand n l lent bodies
unfolding at_top
sizes-stand n l lent t given bodies fewer sizes =
    let is : (items_from l n lent 1 0).0 ≡ t = tree-items n l lent t given in
    let all : drop 0 bodies ≡ body_sizes 0 (items_from l n lent 1 0).0 ++ drop n bodies =
    sym (take-append-drop n bodies) ∙ ap (λ z. z ++ drop n bodies) (sizes ∙ ap (body_sizes 0) (sym is)) in
    let rules = subst (λ z. ruled at_top z ≡ true) (sym is) (tree-rules n l lent t given) in
    let g = stood l n lent bodies (suc n) 1 0 at_top (drop n bodies) (omega arith) rules all in
    let last : (items_from l n lent 1 0).1 ≡ n = omega (arith, from-many l n lent 1 0 0, ap (λ z. length (body_sizes 0 z)) is, tree-many n l lent t given) in
    record { places = fewer; right = λ i lt. g.right i (omega arith) (omega (arith, lt, last)) }
