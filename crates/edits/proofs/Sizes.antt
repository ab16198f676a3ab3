-- The sizes of bodies of a tree in which the items from one site on were swapped for others: those of the elements around the site are raised, the others stay.
use mathlib.Core.Path.{◌≡◌, refl, sym, ap, ap₂, ◌∙◌}
use mathlib.Core.Bool.{true, false, false≢true}
use mathlib.Core.List.{List, [], ◌∷◌, ◌++◌, append_assoc, append-nil}
use Prim.Native.Nat.{ℕ, suc, ◌+◌, ◌-◌}
use native.Mathlib.Omega.{arith}
use lib.ListN.{length, get_or, set, length-append}
use lib.Seq.{get_or_at, set_at}
use Rattle.format.specs.Tree.{Items, count}
use Rattle.format.specs.Tree.Items.{end, item}
use Rattle.format.specs.Meaning.{opens, means, encode}
use Rattle.format.specs.Writer.{below, past, at_top, is_end, ruled}
use Rattle.format.specs.State.{body_sizes}
use Rattle.format.proofs.Kept.{Ruled, ruled-parts, keeps-parts}
use Rattle.format.proofs.Fine.{placed-parts}
use Rattle.format.proofs.Force.{top-known}
use Rattle.format.proofs.Means.{opens-items}
use Rattle.format.proofs.Order.{ruled-order, three-end}
use Rattle.survey.specs.Normal.{framed_size, normal_size}
use Rattle.survey.proofs.NormalSizes.{size-whole}
use Rattle.state.specs.Order.{item_adds}
use Rattle.state.proofs.BodySizes.{body_size, size-open, size-item, open-counts}
use Rattle.state.proofs.HeldTree.{sizes-count}
use Rattle.edits.specs.Sites.{Site, inner, beyond, Swapped}
use Rattle.edits.specs.Sites.Swapped.{here, inside, after}
use Rattle.edits.specs.Sizes.{raised}

-- ---- the elements around a site
unfoldable pub path : {s : Site} {t t' : Items} {h : Site} {u w : Items} → Swapped s t t' h u w → List ℕ
path (here s t t') = []
path (inside s tag at body x x' y h u w o v) = path v ++ (s.number ∷ [])
path (after s tag at body x y y' h u w v) = path v

-- the sizes of items at a site
abbrev pub sizes_at : Site → Items → List ℕ
sizes_at s t = body_sizes s.spot.parent t

abbrev pub size_at : Site → Items → ℕ
size_at s t = normal_size s.spot.parent t

-- the pairs that a run of raising comes to
unfoldable pub last_pair : List ℕ → (was is : ℕ) → List ℕ → ℕ × ℕ
last_pair [] was is l = (was, is)
last_pair (g ∷ gs) was is l = last_pair gs (framed_size (get_or l g 0)) (framed_size (get_or l g 0 - was + is)) (set l g (get_or l g 0 - was + is))

raised-last : (gs : List ℕ) (g was is : ℕ) (l : List ℕ)
    → raised (gs ++ (g ∷ [])) was is l
    ≡ (let q = last_pair gs was is l in let z = raised gs was is l in set z g (get_or z g 0 - q.0 + q.1))
unfolding raised last_pair
raised-last [] g was is l = refl
raised-last (a ∷ gs) g was is l = raised-last gs g (framed_size (get_or l a 0)) (framed_size (get_or l a 0 - was + is)) (set l a (get_or l a 0 - was + is))

last-last : (gs : List ℕ) (g was is : ℕ) (l : List ℕ)
    → last_pair (gs ++ (g ∷ [])) was is l
    ≡ (let q = last_pair gs was is l in let z = raised gs was is l in (framed_size (get_or z g 0), framed_size (get_or z g 0 - q.0 + q.1)))
unfolding raised last_pair
last-last [] g was is l = refl
last-last (a ∷ gs) g was is l = last-last gs g (framed_size (get_or l a 0)) (framed_size (get_or l a 0 - was + is)) (set l a (get_or l a 0 - was + is))

-- what raising leaves of the sizes of a tree in which items were swapped: before the site each is that of the new tree, at the site and behind it all is as before
pub record SizesSwapped (s : Site) (t t' : Items) (h : Site) (u w : Items) (gs : List ℕ) (was is : ℕ) (front back : List ℕ) : Type 0 where
  pub pre : List ℕ
  pub pre' : List ℕ
  pub post : List ℕ
  pub other : ℕ
  pub old : sizes_at s t ≡ pre ++ (sizes_at h u ++ post)
  pub new : sizes_at s t' ≡ pre' ++ (sizes_at h w ++ post)
  pub long : s.number + length pre ≡ h.number
  pub long' : length pre' ≡ length pre
  pub leaves : raised gs was is (front ++ (sizes_at s t ++ back)) ≡ front ++ ((pre' ++ (sizes_at h u ++ post)) ++ back)
  pub was-size : size_at s t ≡ (last_pair gs was is (front ++ (sizes_at s t ++ back))).0 + other
  pub is-size : size_at s t' ≡ (last_pair gs was is (front ++ (sizes_at s t ++ back))).1 + other

-- parts of lists in other groups
regroup-in : (f : List ℕ) (b : ℕ) (x y k : List ℕ) → f ++ ((b ∷ (x ++ y)) ++ k) ≡ (f ++ (b ∷ [])) ++ (x ++ (y ++ k))
regroup-in f b x y k = simp append_assoc

regroup-post : (b : ℕ) (a u c y : List ℕ) → ◌≡◌ {A = List ℕ} (b ∷ ((a ++ (u ++ c)) ++ y)) ((b ∷ a) ++ (u ++ (c ++ y)))
regroup-post b a u c y = simp append_assoc

regroup-all : (f : List ℕ) (b : ℕ) (a u c y k : List ℕ) → f ++ (b ∷ ((a ++ (u ++ c)) ++ (y ++ k))) ≡ f ++ (((b ∷ a) ++ (u ++ (c ++ y))) ++ k)
regroup-all f b a u c y k = simp append_assoc

regroup-after : (f : List ℕ) (b : ℕ) (x y k : List ℕ) → f ++ ((b ∷ (x ++ y)) ++ k) ≡ (f ++ (b ∷ x)) ++ (y ++ k)
regroup-after f b x y k = simp append_assoc

regroup-back : (f : List ℕ) (b : ℕ) (x a c k : List ℕ) → (f ++ (b ∷ x)) ++ ((a ++ c) ++ k) ≡ f ++ (((b ∷ (x ++ a)) ++ c) ++ k)
regroup-back f b x a c k = simp append_assoc

-- an element that holds items adds its body with a header
pub open-adds : (p tag : ℕ) (body : List ℕ) (size : ℕ) → opens tag ≡ true → item_adds p tag body size ≡ framed_size size
open-adds p tag body size o = rw (open-counts p tag body o)

module _ (was is : ℕ) where
  abbrev Swap : Site → (t t' : Items) → Site → (u w : Items) → List ℕ → (front back : List ℕ) → Type 0
  Swap s t t' h u w gs front back = SizesSwapped s t t' h u w gs was is front back

  sizes-inside : (s : Site) (tag at : ℕ) (body : List ℕ) (x x' y : Items) (h : Site) (u w : Items) (gs : List ℕ) (front back : List ℕ) → opens tag ≡ true
      → Ruled s.spot tag body x y → Ruled s.spot tag body x' y → length front ≡ s.number
      → ((front back : List ℕ) → length front ≡ suc s.number → Swap (inner s tag) x x' h u w gs front back)
      → Swap s (item tag at body x y) (item tag at body x' y) h u w (gs ++ (s.number ∷ [])) front back
  unfolding body_sizes below
  sizes-inside s tag at body x x' y h u w gs front back o r r' n ih =
      let p = s.spot.parent in
      let b = body_size p tag body x in
      let b' = body_size p tag body x' in
      let ys = body_sizes p y in
      let g = ih (front ++ (b ∷ [])) (ys ++ back) (omega (arith, length-append front (b ∷ []))) in
      let us = sizes_at h u in
      let m = g.pre' ++ (us ++ g.post) in
      let l = front ++ ((b ∷ (body_sizes tag x ++ ys)) ++ back) in
      let l₁ = (front ++ (b ∷ [])) ++ (body_sizes tag x ++ (ys ++ back)) in
      let e : l ≡ l₁ = regroup-in front b (body_sizes tag x) ys back in
      let z = raised gs was is l in
      let ze : z ≡ front ++ (b ∷ (m ++ (ys ++ back))) = ap (raised gs was is) e ∙ (g.leaves ∙ append_assoc front (b ∷ []) (m ++ (ys ++ back))) in
      let zn : get_or z s.number 0 ≡ b = ap (λ q. get_or q s.number 0) ze ∙ get_or_at front b (m ++ (ys ++ back)) 0 s.number n in
      let q = last_pair gs was is l in
      let q₁ = last_pair gs was is l₁ in
      let qe : q ≡ q₁ = ap (last_pair gs was is) e in
      let bx : b ≡ normal_size tag x = size-open s.spot p tag body x o r.within in
      let bx' : b' ≡ normal_size tag x' = size-open s.spot p tag body x' o r'.within in
      let q0 : q.0 ≡ q₁.0 = ap (λ v. v.0) qe in
      let q1 : q.1 ≡ q₁.1 = ap (λ v. v.1) qe in
      let grown : get_or z s.number 0 - q.0 + q.1 ≡ b' = omega (arith, g.was-size, g.is-size) in
      let pair = last-last gs s.number was is l in
      record {
        pre = b ∷ g.pre;
        pre' = b' ∷ g.pre';
        post = g.post ++ ys;
        other = normal_size p y;
        old = ap {B = List ℕ} (λ v. b ∷ (v ++ ys)) g.old ∙ regroup-post b g.pre us g.post ys;
        new = ap {B = List ℕ} (λ v. b' ∷ (v ++ ys)) g.new ∙ regroup-post b' g.pre' (sizes_at h w) g.post ys;
        long = omega (arith, g.long);
        long' = omega (arith, g.long');
        leaves = raised-last gs s.number was is l
            ∙ (ap₂ (λ v d. set v s.number d) ze grown ∙ (set_at front b (m ++ (ys ++ back)) b' s.number n ∙ regroup-all front b' g.pre' us g.post ys back));
        was-size = size-item s.spot tag at body x y r
            ∙ ap (λ v. v + normal_size p y) (open-adds p tag body b o ∙ (ap framed_size (sym zn) ∙ sym (ap (λ v. v.0) pair)));
        is-size = size-item s.spot tag at body x' y r'
            ∙ ap (λ v. v + normal_size p y) (open-adds p tag body b' o ∙ (ap framed_size (sym grown) ∙ sym (ap (λ v. v.1) pair)));
      }

  sizes-after : (s : Site) (tag at : ℕ) (body : List ℕ) (x y y' : Items) (h : Site) (u w : Items) (gs : List ℕ) (front back : List ℕ)
      → Ruled s.spot tag body x y → Ruled s.spot tag body x y' → length front ≡ s.number
      → ((front back : List ℕ) → length front ≡ suc s.number + count x → Swap (beyond s tag body x) y y' h u w gs front back)
      → Swap s (item tag at body x y) (item tag at body x y') h u w gs front back
  unfolding body_sizes below past
  sizes-after s tag at body x y y' h u w gs front back r r' n ih =
      let p = s.spot.parent in
      let b = body_size p tag body x in
      let xs = body_sizes tag x in
      let c : length xs ≡ count x = sizes-count x (below s.spot tag) tag r.within in
      let g = ih (front ++ (b ∷ xs)) back (omega (arith, length-append front (b ∷ xs))) in
      let l = front ++ ((b ∷ (xs ++ body_sizes p y)) ++ back) in
      let l₁ = (front ++ (b ∷ xs)) ++ (body_sizes p y ++ back) in
      let e : l ≡ l₁ = regroup-after front b xs (body_sizes p y) back in
      let qe = ap (last_pair gs was is) e in
      let us = sizes_at h u in
      record {
        pre = b ∷ (xs ++ g.pre);
        pre' = b ∷ (xs ++ g.pre');
        post = g.post;
        other = item_adds p tag body b + g.other;
        old = ap {B = List ℕ} (λ v. b ∷ (xs ++ v)) g.old ∙ ap {B = List ℕ} (λ v. b ∷ v) (sym (append_assoc xs g.pre (us ++ g.post)));
        new = ap {B = List ℕ} (λ v. b ∷ (xs ++ v)) g.new ∙ ap {B = List ℕ} (λ v. b ∷ v) (sym (append_assoc xs g.pre' (sizes_at h w ++ g.post)));
        long = omega (arith, g.long, length-append xs g.pre);
        long' = omega (arith, g.long', length-append xs g.pre, length-append xs g.pre');
        leaves = ap (raised gs was is) e ∙ (g.leaves ∙ regroup-back front b xs g.pre' (us ++ g.post) back);
        was-size = size-item s.spot tag at body x y r ∙ omega (arith, g.was-size, ap (λ v. v.0) qe);
        is-size = size-item s.spot tag at body x y' r' ∙ omega (arith, g.is-size, ap (λ v. v.1) qe);
      }

  -- sizes before and after at the site differ by `was` and `is`
  pub sizes-swapped : {s : Site} {t t' : Items} {h : Site} {u w : Items} (v : Swapped s t t' h u w) → ruled s.spot t ≡ true → ruled s.spot t' ≡ true
      → (same : ℕ) → size_at h u ≡ was + same → size_at h w ≡ is + same → (front back : List ℕ) → length front ≡ s.number → Swap s t t' h u w (path v) front back
  unfolding raised last_pair below past path
  sizes-swapped (here s t t') r r' same a b front back n =
      let us = sizes_at s t in
      record {
        pre = [];
        pre' = [];
        post = [];
        other = same;
        old = sym (append-nil us);
        new = sym (append-nil (sizes_at s t'));
        long = omega arith;
        long' = refl;
        leaves = ap (λ z. front ++ (z ++ back)) (sym (append-nil us));
        was-size = a;
        is-size = b;
      }
  sizes-swapped (inside s tag at body x x' y h u w o v) r r' same a b front back n =
      let q = ruled-parts s.spot tag at body x y r in
      let q' = ruled-parts s.spot tag at body x' y r' in
      sizes-inside s tag at body x x' y h u w (path v) front back o q q' n (λ f k l. sizes-swapped v q.within q'.within same a b f k l)
  sizes-swapped (after s tag at body x y y' h u w v) r r' same a b front back n =
      let q = ruled-parts s.spot tag at body x y r in
      let q' = ruled-parts s.spot tag at body x y' r' in
      sizes-after s tag at body x y y' h u w (path v) front back q q' n (λ f k l. sizes-swapped v q.beside q'.beside same a b f k l)

-- the normal form of a tree is its top's body with a header
pub top-framed : (t : Items) → ruled at_top t ≡ true → is_end t ≡ false → framed_size (get_or (body_sizes 0 t) 0 0) ≡ length (encode (means [] t))
unfolding at_top body_sizes normal_size past is_end
top-framed end r e = absurd (false≢true (sym e))
top-framed (item tag at body x y) r e =
    let u = ruled-parts at_top tag at body x y r in
    let none : end ≡ y = three-end y (past at_top tag) refl (ruled-order y (past at_top tag) u.beside) in
    let o = opens-items tag (top-known tag (placed-parts at_top tag (keeps-parts at_top tag body u.rules).place).allow) in
    let z : normal_size 0 y ≡ 0 = ap (normal_size 0) (sym none) in
    sym (sym (size-whole (item tag at body x y) r) ∙ (size-item at_top tag at body x y u ∙ omega (arith, z, open-adds 0 tag body (body_size 0 tag body x) o)))
