-- The place of the first item that a test picks: it lies inside the object, it is the tag's of the tree's first such item, and it is the same for tests that pick the same.
use mathlib.Core.Path.{◌≡◌, refl, sym, ap, ap₂, ◌∙◌, subst}
use mathlib.Core.Bool.{Bool, true, false, cond, ◌&&◌, false≢true}
use mathlib.Core.Option.{Option, none, some, some-injective, none-ne-some, some-ne-none}
use mathlib.Core.List.{List, [], ◌∷◌}
use Prim.Native.Nat.{ℕ, zero, suc, ◌+◌, ◌≤◌, ◌<◌}
use native.Mathlib.Omega.{arith}
use lib.Dec.{eqb}
use lib.ListN.{length, take, drop, get_or, length-take, length-drop}
use lib.Seq.{get_or-drop, ext_get_or}
use Rattle.octets.specs.Numbers.{value}
use Rattle.octets.specs.Header.{header_size, body_size}
use Rattle.octets.specs.Places.{first_body, after_first}
use Rattle.octets.proofs.Frames.{header-two}
use Rattle.octets.proofs.Places.{fewer-inside, fewer-behind}
use Rattle.octets.proofs.Lists.{get_d_part, length_part}
use Rattle.values.specs.declared.Kind.{Kind}
use Rattle.values.specs.Table.{rows, attribute, kind_in, known}
use Rattle.format.specs.Tree.{Items}
use Rattle.format.specs.Tree.Items.{end, item}
use Rattle.format.specs.Judge.{is_known, is_items, judge}
use Rattle.format.specs.Judge.Judged.{accepted}
use Rattle.format.proofs.Means.{items-known}
use Rattle.reader.specs.Filling.{Accepts, share}
use Rattle.reader.proofs.Opening.{opened, opened-end, fits_in}
use Rattle.reader.proofs.Reading.{whole}
use Rattle.survey.specs.First.{or_else, first_in, picks, place_in, place_at, item_at, as_item}

-- ---- inside the object

record Within (at size p : ℕ) : Type 0 where
  pub from : at ≤ p
  pub behind : p < at + size

picked : (a b : Bool) (at p : ℕ) (inner later : Option ℕ) → cond a (some at) (or_else (cond b inner none) later) ≡ some p → (size i j : ℕ) (x y : ℕ) → 0 < size
    → (inner ≡ some p → Within i x p) → (later ≡ some p → Within j y p) → (0 < x → (at ≤ i) × (i + x ≤ at + size)) → (0 < y → (at ≤ j) × (j + y ≤ at + size)) → Within at size p
unfolding or_else
picked true b at p inner later e size i j x y s f g h k = let z = some-injective at p e in record { from = omega arith; behind = omega arith }
picked false true at p none later e size i j x y s f g h k = let w = g e in let v = k (omega (arith, w.from, w.behind)) in record { from = omega (arith, w.from); behind = omega (arith, w.behind) }
picked false true at p (some q) later e size i j x y s f g h k = let w = f e in let v = h (omega (arith, w.from, w.behind)) in record { from = omega (arith, w.from); behind = omega (arith, w.behind) }
picked false false at p inner later e size i j x y s f g h k = let w = g e in let v = k (omega (arith, w.from, w.behind)) in record { from = omega (arith, w.from); behind = omega (arith, w.behind) }

within : (k : ℕ) (P : ℕ → ℕ → Bool) (parent at : ℕ) (part : List ℕ) (p : ℕ) → place_in k P parent at part ≡ some p → Within at (length part) p
unfolding place_in
within zero P parent at part p e = absurd (none-ne-some p e)
within (suc k) P parent at [] p e = absurd (none-ne-some p e)
within (suc k) P parent at (tag ∷ rest) p e =
    let s : List ℕ = tag ∷ rest in
    let h = header_size s in
    let n = body_size s in
    let body = take n (drop h s) in
    let later = drop n (drop h s) in
    picked (picks P parent tag) (is_items (known parent tag)) at p (place_in k P tag (at + h) body) (place_in k P parent (at + h + n) later) e (length s) (at + h) (at + h + n) (length body) (length later) (omega arith)
    (within k P tag (at + h) body p)
    (within k P parent (at + h + n) later p)
    (λ l. (omega arith, omega (arith, length-take n (drop h s), length-drop h s)))
    (λ l. (omega arith, omega (arith, length-drop n (drop h s), length-drop h s)))

-- of any octets, also of such as are no accepted object
pub place_inside : (P : ℕ → ℕ → Bool) (o : List ℕ) (p : ℕ) → place_at P o ≡ some p → p < length o
unfolding place_at
place_inside P o p e = let w = within (suc (length o)) P 0 0 o p e in omega (arith, w.behind)

-- ---- the first item of the tree

-- a part lies in the object at an offset
record Lain (o : List ℕ) (at : ℕ) (s : List ℕ) : Type 0 where
  fits : at + length s ≤ length o
  same : (i : ℕ) → i < length s → get_or o (at + i) 0 ≡ get_or s i 0

module _ (o : List ℕ) (at : ℕ) (s : List ℕ) (w : Lain o at s) where
  body-lies : (h n : ℕ) → h + n ≤ length s → Lain o (at + h) (take n (drop h s))
  body-lies h n l = record {
    fits = omega (arith, w.fits, length_part s h n l);
    same = λ i q.
        let m : i < n = omega (arith, q, length_part s h n l) in
        let e : at + h + i ≡ at + (h + i) = omega arith in
        ap (λ j. get_or o j 0) e ∙ w.same (h + i) (omega (arith, m, l)) ∙ sym (get_d_part s h n i 0 m);
  }

  later-lies : (h n : ℕ) → h + n ≤ length s → Lain o (at + h + n) (drop n (drop h s))
  later-lies h n l = record {
    fits = omega (arith, w.fits, l, length-drop n (drop h s), length-drop h s);
    same = λ i q.
        let e : at + h + n + i ≡ at + (h + (n + i)) = omega arith in
        ap (λ j. get_or o j 0) e ∙ w.same (h + (n + i)) (omega (arith, q, length-drop n (drop h s), length-drop h s)) ∙ sym (get_or-drop h s (n + i) 0) ∙ sym (get_or-drop n (drop h s) i 0);
  }

  -- so its first item is told in the object as in the part
  second : 2 ≤ length s → get_or (drop at o) 1 0 ≡ get_or s 1 0
  second l = get_or-drop at o 1 0 ∙ w.same 1 (omega arith)

  same-header : 2 ≤ length s → header_size (drop at o) ≡ header_size s
  unfolding header_size
  same-header l = rw (second l)

  same_digits : (n : ℕ) → 2 + n ≤ length s → take n (drop 2 (drop at o)) ≡ take n (drop 2 s)
  same_digits n l =
      let x : length (take n (drop 2 (drop at o))) ≡ n = length_part (drop at o) 2 n (omega (arith, w.fits, length-drop at o)) in
      let y : length (take n (drop 2 s)) ≡ n = length_part s 2 n l in
      ext_get_or 0 (take n (drop 2 (drop at o))) (take n (drop 2 s)) (x ∙ sym y)
      (λ i q.
      let m : i < n = omega (arith, q, x) in
      get_d_part (drop at o) 2 n i 0 m ∙ get_or-drop at o (2 + i) 0 ∙ w.same (2 + i) (omega (arith, m, l)) ∙ sym (get_d_part s 2 n i 0 m))

  same_size : header_size s ≤ length s → body_size (drop at o) ≡ body_size s
  unfolding header_size body_size
  same_size l = rw (second (omega (arith, l, header-two s))) (go (eqb (get_or s 1 0) 0xFE) (eqb (get_or s 1 0) 0xFF) l)
    where
      go : (p q : Bool) → cond p 4 (cond q 5 2) ≤ length s
          → cond p (value (take 2 (drop 2 (drop at o)))) (cond q (value (take 3 (drop 2 (drop at o)))) (get_or s 1 0))
          ≡ cond p (value (take 2 (drop 2 s))) (cond q (value (take 3 (drop 2 s))) (get_or s 1 0))
      go true q m = ap value (same_digits 2 (omega arith))
      go false true m = ap value (same_digits 3 (omega arith))
      go false false m = refl

first-item : (o : List ℕ) (at tag : ℕ) (rest : List ℕ) → Lain o at (tag ∷ rest) → header_size (tag ∷ rest) + body_size (tag ∷ rest) ≤ length (tag ∷ rest)
    → (tag, at + header_size (tag ∷ rest), length (first_body (tag ∷ rest))) ≡ item_at o at
first-item o at tag rest w f =
    let s : List ℕ = tag ∷ rest in
    let z : at + 0 ≡ at = omega arith in
    let t : tag ≡ get_or o at 0 = sym (ap (λ j. get_or o j 0) (sym z) ∙ w.same 0 (omega arith)) in
    let h : header_size s ≡ header_size (drop at o) = sym (same-header o at s w (omega (arith, f, header-two s))) in
    let n : length (first_body s) ≡ body_size (drop at o) = length_part s (header_size s) (body_size s) f ∙ sym (same_size o at s w (omega (arith, f))) in
    ap₂ (λ a b. (a, at + header_size s, b)) t n ∙ ap (λ a. (get_or o at 0, at + a, body_size (drop at o))) h

known-holds : (k : Option Kind) → is_items k ≡ true → is_known k ≡ true
unfolding is_known
known-holds k i = ap is_known (items-known k i)

-- what an item says and what the octets say, of both the item, those inside it and those after it
one_more : (o : List ℕ) (P : ℕ → ℕ → Bool) (parent tag at from : ℕ) (body : List ℕ) (u v : Items) (inner later : Option ℕ) → (tag, from, length body) ≡ item_at o at
    → (is_items (known parent tag) ≡ true → first_in P tag u ≡ as_item o inner) → first_in P parent v ≡ as_item o later
    → first_in P parent (share (known parent tag) tag from body u v)
    ≡ as_item o (cond (picks P parent tag) (some at) (or_else (cond (is_items (known parent tag)) inner none) later))
unfolding share first_in picks as_item or_else
one_more o P parent tag at from body u v inner later e f g = go (is_items (known parent tag)) (is_known (known parent tag)) (P parent tag) refl f (known-holds (known parent tag))
  where
    both : (x y : Option ℕ) → or_else (as_item o x) (as_item o y) ≡ as_item o (or_else x y)
    both none y = refl
    both (some x) y = refl

    go : (i k a : Bool) → P parent tag ≡ a → (i ≡ true → first_in P tag u ≡ as_item o inner) → (i ≡ true → k ≡ true)
        → first_in P parent (cond i (item tag from body u v) (cond k (item tag from body end v) v)) ≡ as_item o (cond (k && a) (some at) (or_else (cond i inner none) later))
    go true true false c f h = rw (c, f refl, g) (both inner later)
    go true true true c f h = rw c (ap some e)
    go true false a c f h = absurd (false≢true (h refl))
    go false true false c f h = rw c g
    go false true true c f h = rw c (ap some e)
    go false false a c f h = g

abbrev Says : (o : List ℕ) (P : ℕ → ℕ → Bool) (k parent at : ℕ) → List ℕ → Items → Type 0
Says o P k parent at s t = first_in P parent t ≡ as_item o (place_in k P parent at s)

pub shorter_body : (s : List ℕ) (k : ℕ) → header_size s + body_size s ≤ length s → length s < suc k → length (first_body s) < k
shorter_body s k h l = omega (arith, fewer-inside s (omega (arith, header-two s)))

pub shorter-later : (s : List ℕ) (k : ℕ) → header_size s + body_size s ≤ length s → length s < suc k → length (after_first s) < k
shorter-later s k h l = omega (arith, fewer-behind s (omega (arith, header-two s)))

says : (o : List ℕ) (P : ℕ → ℕ → Bool) (k parent depth at : ℕ) (s : List ℕ) (t : Items) → length s < k → Lain o at s → Accepts parent depth at s t → Says o P k parent at s t
unfolding place_in first_in as_item
says o P zero parent depth at s t l w a = absurd (omega arith)
says o P (suc k) parent depth at [] t l w a = rw (opened-end parent depth at t a)
says o P (suc k) parent depth at (tag ∷ rest) t l w a =
    let s : List ℕ = tag ∷ rest in
    let x = opened parent depth at s t (omega arith) a in
    let f = fits_in parent depth at s t (omega arith) a in
    ap (first_in P parent) x.tree
    ∙ one_more o P parent tag at (at + header_size s) (first_body s) x.u x.v (place_in k P tag (at + header_size s) (first_body s)) (place_in k P parent (at + header_size s + body_size s) (after_first s)) (first-item o at tag rest w f)
    (λ i. says o P k tag (depth + 1) (at + header_size s) (first_body s) x.u (shorter_body s k f l) (body-lies o at s w (header_size s) (body_size s) f) (x.inside i))
    (says o P k parent depth (at + header_size s + body_size s) (after_first s) x.v (shorter-later s k f l) (later-lies o at s w (header_size s) (body_size s) f) x.after)

itself : (o : List ℕ) → Lain o 0 o
itself o = record { fits = omega arith; same = λ i q. let z : 0 + i ≡ i = omega arith in ap (λ j. get_or o j 0) z }

-- of an accepted object the place is that of the tag of the first item of its tree that the test picks, and there is none where there is no such item
pub first-told : (P : ℕ → ℕ → Bool) (o : List ℕ) (t : Items) → judge o ≡ accepted t → first_in P 0 t ≡ as_item o (place_at P o)
unfolding place_at
first-told P o t h = says o P (suc (length o)) 0 1 0 o t (omega arith) (itself o) (whole o t h)

-- ---- the item that picks has a tag other than 0, and its header lies in the object

pub record Seated (o : List ℕ) (p : ℕ) : Type 0 where
  pub tagged : 0 < get_or o p 0
  pub fits : p + header_size (drop p o) ≤ length o

picks-tagged : (P : ℕ → ℕ → Bool) (parent tag : ℕ) → picks P parent tag ≡ true → 0 < tag
unfolding picks is_known known attribute kind_in rows
picks-tagged P parent zero e = absurd (false≢true e)
picks-tagged P parent (suc n) e = omega arith

found : (Q : Type 0) (a b : Bool) (at p : ℕ) (inner later : Option ℕ) → cond a (some at) (or_else (cond b inner none) later) ≡ some p → (a ≡ true → at ≡ p → Q)
    → (b ≡ true → inner ≡ some p → Q) → (later ≡ some p → Q) → Q
unfolding or_else
found Q true b at p inner later e x y z = x refl (some-injective at p e)
found Q false true at p none later e x y z = z e
found Q false true at p (some q) later e x y z = y refl e
found Q false false at p inner later e x y z = z e

here : (o : List ℕ) (P : ℕ → ℕ → Bool) (parent at tag : ℕ) (rest : List ℕ) → Lain o at (tag ∷ rest) → header_size (tag ∷ rest) + body_size (tag ∷ rest) ≤ length (tag ∷ rest)
    → picks P parent tag ≡ true → Seated o at
here o P parent at tag rest w f b =
    let s : List ℕ = tag ∷ rest in
    let i = first-item o at tag rest w f in
    record {
      tagged = omega (arith, picks-tagged P parent tag b, ap (λ x. x.0) i);
      fits = omega (arith, ap (λ x. x.1) i, f, w.fits);
    }

seated : (o : List ℕ) (P : ℕ → ℕ → Bool) (k parent depth at : ℕ) (s : List ℕ) (t : Items) → length s < k → Lain o at s → Accepts parent depth at s t → (p : ℕ) → place_in k P parent at s ≡ some p → Seated o p
unfolding place_in
seated o P zero parent depth at s t l w a p e = absurd (omega arith)
seated o P (suc k) parent depth at [] t l w a p e = absurd (none-ne-some p e)
seated o P (suc k) parent depth at (tag ∷ rest) t l w a p e =
    let s : List ℕ = tag ∷ rest in
    let x = opened parent depth at s t (omega arith) a in
    let f = fits_in parent depth at s t (omega arith) a in
    found (Seated o p) (picks P parent tag) (is_items (known parent tag)) at p (place_in k P tag (at + header_size s) (first_body s)) (place_in k P parent (at + header_size s + body_size s) (after_first s)) e
    (λ b q. subst (Seated o) q (here o P parent at tag rest w f b))
    (λ i. seated o P k tag (depth + 1) (at + header_size s) (first_body s) x.u (shorter_body s k f l) (body-lies o at s w (header_size s) (body_size s) f) (x.inside i) p)
    (seated o P k parent depth (at + header_size s + body_size s) (after_first s) x.v (shorter-later s k f l) (later-lies o at s w (header_size s) (body_size s) f) x.after p)

pub place-seated : (P : ℕ → ℕ → Bool) (o : List ℕ) (t : Items) → judge o ≡ accepted t → (p : ℕ) → place_at P o ≡ some p → Seated o p
unfolding place_at
place-seated P o t h = seated o P (suc (length o)) 0 1 0 o t (omega arith) (itself o) (whole o t h)

-- ---- no such item

pub or_else_none : {A : Type 0} (a b : Option A) → or_else a b ≡ none → (a ≡ none) × (b ≡ none)
unfolding or_else
or_else_none none b h = (refl, h)
or_else_none (some x) b h = absurd (some-ne-none x h)

-- ---- two tests

-- tests that pick the same known items find the same place
same-within : (P Q : ℕ → ℕ → Bool) → ((parent tag : ℕ) → picks P parent tag ≡ picks Q parent tag) → (k parent at : ℕ) (s : List ℕ) → place_in k P parent at s ≡ place_in k Q parent at s
unfolding place_in
same-within P Q h zero parent at s = refl
same-within P Q h (suc k) parent at [] = refl
same-within P Q h (suc k) parent at (tag ∷ rest) =
    let s : List ℕ = tag ∷ rest in
    rw (h parent tag)
    (ap₂ (λ inner later. cond (picks Q parent tag) (some at) (or_else (cond (is_items (known parent tag)) inner none) later))
    (same-within P Q h k tag (at + header_size s) (first_body s))
    (same-within P Q h k parent (at + header_size s + body_size s) (after_first s)))

pub place_same : (P Q : ℕ → ℕ → Bool) → ((parent tag : ℕ) → picks P parent tag ≡ picks Q parent tag) → (o : List ℕ) → place_at P o ≡ place_at Q o
unfolding place_at
place_same P Q h o = same-within P Q h (suc (length o)) 0 0 o
