-- The elements around a site, by the lists of parents and of sizes that hold a tree.
use mathlib.Core.Path.{◌≡◌, refl, sym, ap, ap₂, ◌∙◌, subst}
use mathlib.Core.Bool.{Bool, true, false, cond, false≢true}
use mathlib.Core.List.{List, [], ◌∷◌, ◌++◌, append_assoc, map, map-append}
use Prim.Native.Nat.{ℕ, zero, suc, ◌+◌, ◌≤◌, ◌<◌}
use native.Mathlib.Omega.{arith}
use lib.Dec.{eqb}
use lib.ListN.{length, get_or, length-append, length-map}
use lib.Seq.{get_or_at}
use borrow.Author.Tests.{ne_eqb}
use Rattle.values.specs.Table.{known}
use Rattle.format.specs.declared.Record.{Record}
use Rattle.format.specs.Tree.{Items, count, record_of}
use Rattle.format.specs.Tree.Items.{end, item}
use Rattle.format.specs.Judge.{stage_after}
use Rattle.format.specs.Meaning.{opens}
use Rattle.format.specs.Writer.{below, past, at_top, is_end, ruled}
use Rattle.format.specs.Loaded.{stored}
use Rattle.format.specs.State.{body_sizes}
use Rattle.format.proofs.Kept.{Ruled, ruled-parts}
use Rattle.survey.specs.Normal.{framed_size, normal_size}
use Rattle.format.proofs.Order.{ruled-order, three-end}
use Rattle.state.proofs.BodySizes.{body_size, size-open, size-item}
use Rattle.state.proofs.HeldTree.{sizes-count}
use Rattle.edits.specs.Sites.{Site, inner, beyond, records_at, Swapped}
use Rattle.edits.specs.Sites.Swapped.{here, inside, after}
use Rattle.edits.specs.Sizes.{around, up_from, Climbs}
use Rattle.edits.specs.Sizes.Climbs.{top, step}
use Rattle.edits.proofs.Swaps.{Plain, ruled-plain}
use Rattle.edits.proofs.Sites.{record_here, records-here}
use Rattle.edits.proofs.Records.{records-length}
use Rattle.edits.proofs.Sizes.{path, sizes_at, size_at, open-adds}

-- ---- the way up, without its first number
around-none : (k : ℕ) (parents : List ℕ) → around (suc k) parents 0 ≡ 0 ∷ []
unfolding around
around-none k parents = refl

around-next : (k : ℕ) (parents : List ℕ) (g : ℕ) → 0 < g → around (suc k) parents g ≡ g ∷ around k parents (get_or parents g 0)
unfolding around
around-next k parents g h = rw (ne_eqb g 0 (λ e. omega arith))

pub around-same : {parents bodies : List ℕ} {g was : ℕ} → Climbs parents bodies g was → (k l : ℕ) → g < k → g < l → around k parents g ≡ around l parents g
around-same c zero l p q = absurd (omega arith)
around-same c (suc k) zero p q = absurd (omega arith)
around-same {parents = ps} (top was b h) (suc k) (suc l) p q = around-none k ps ∙ sym (around-none l ps)
around-same {parents = ps} (step g was s b a h lt c) (suc k) (suc l) p q =
    around-next k ps g s ∙ (ap {B = List ℕ} (λ z. g ∷ z) (around-same {g = get_or ps g 0} c k l (omega arith) (omega arith)) ∙ sym (around-next l ps g s))

pub up_next : (parents bodies : List ℕ) (g was : ℕ) → Climbs parents bodies g was → 0 < g → up_from parents g ≡ g ∷ up_from parents (get_or parents g 0)
up_next ps bs g was (top was' b h) s = absurd (omega arith)
up_next ps bs g was (step g' was' s' b a h lt c) s =
    around-next g ps g s ∙ ap {B = List ℕ} (λ z. g ∷ z) (around-same c g (suc (get_or ps g 0)) (omega arith) (omega arith))

abbrev parent_of : Record → ℕ
parent_of r = r.parent

here-parent : (s : Site) (tag : ℕ) (body : List ℕ) → (record_here s tag body).parent ≡ s.up
unfolding record_here
here-parent s tag body =
    go (opens tag) (record_of s.spot.depth s.up tag 0 []) (record_of s.spot.depth s.up tag s.place (stored [] (known s.spot.parent tag) body))
    refl refl
  where
    go : (b : Bool) (m n : Record) → m.parent ≡ s.up → n.parent ≡ s.up → (cond b m n).parent ≡ s.up
    go true m n p q = p
    go false m n p q = q

module _ (parents bodies : List ℕ) where
  -- the lists hold the parents and the sizes of items from their number on
  pub record Lie (s : Site) (t : Items) : Type 0 where
    pub pf : List ℕ
    pub pb : List ℕ
    pub bf : List ℕ
    pub bb : List ℕ
    pub parents-are : parents ≡ pf ++ (map parent_of (records_at s t) ++ pb)
    pub bodies-are : bodies ≡ bf ++ (sizes_at s t ++ bb)
    pub pf-long : length pf ≡ s.number
    pub bf-long : length bf ≡ s.number

  module _ (s : Site) (tag at : ℕ) (body : List ℕ) (x y : Items) (u : ruled s.spot (item tag at body x y) ≡ true) (l : Lie s (item tag at body x y)) where
    q : Plain (item tag at body x y)
    q = ruled-plain (item tag at body x y) s.spot u

    r : Ruled s.spot tag body x y
    r = ruled-parts s.spot tag at body x y u

    abbrev b : ℕ
    b = body_size s.spot.parent tag body x

    xs : List ℕ
    xs = map parent_of (records_at (inner s tag) x)

    ys : List ℕ
    ys = map parent_of (records_at (beyond s tag body x) y)

    parents-here : parents ≡ l.pf ++ (s.up ∷ ((xs ++ ys) ++ l.pb))
    unfolding xs ys
    parents-here =
        l.parents-are
        ∙ ap (λ z. l.pf ++ (z ++ l.pb)) (ap (map parent_of) (records-here s tag at body x y q)
        ∙ ap₂ (λ a c. a ∷ c) (here-parent s tag body) (map-append parent_of (records_at (inner s tag) x) (records_at (beyond s tag body x) y)))

    bodies-here : bodies ≡ l.bf ++ (b ∷ ((body_sizes tag x ++ sizes_at s y) ++ l.bb))
    unfolding body_sizes
    bodies-here = l.bodies-are

    pub parent-here : get_or parents s.number 0 ≡ s.up
    parent-here = ap (λ z. get_or z s.number 0) parents-here ∙ get_or_at l.pf s.up ((xs ++ ys) ++ l.pb) 0 s.number l.pf-long

    pub parent_in : s.number < length parents
    parent_in = omega (arith, ap length parents-here, length-append l.pf (s.up ∷ ((xs ++ ys) ++ l.pb)), l.pf-long)

    pub body-here : get_or bodies s.number 0 ≡ b
    body-here = ap (λ z. get_or z s.number 0) bodies-here ∙ get_or_at l.bf b ((body_sizes tag x ++ sizes_at s y) ++ l.bb) 0 s.number l.bf-long

    pub body-in : s.number < length bodies
    body-in = omega (arith, ap length bodies-here, length-append l.bf (b ∷ ((body_sizes tag x ++ sizes_at s y) ++ l.bb)), l.bf-long)

    pub lie-inside : Lie (inner s tag) x
    unfolding xs below
    lie-inside = record {
      pf = l.pf ++ (s.up ∷ []);
      pb = ys ++ l.pb;
      bf = l.bf ++ (b ∷ []);
      bb = sizes_at s y ++ l.bb;
      parents-are = parents-here ∙ regroup l.pf s.up xs ys l.pb;
      bodies-are = bodies-here ∙ regroup l.bf b (body_sizes tag x) (sizes_at s y) l.bb;
      pf-long = omega (arith, length-append l.pf (s.up ∷ []), l.pf-long);
      bf-long = omega (arith, length-append l.bf (b ∷ []), l.bf-long);
    }
      where
        regroup : (f : List ℕ) (a : ℕ) (m n k : List ℕ) → f ++ (a ∷ ((m ++ n) ++ k)) ≡ (f ++ (a ∷ [])) ++ (m ++ (n ++ k))
        regroup f a m n k = simp append_assoc

    pub lie-after : Lie (beyond s tag body x) y
    unfolding xs ys past
    lie-after =
        let n₁ : length xs ≡ count x = length-map (records_at (inner s tag) x) parent_of ∙ records-length (inner s tag) x q.2 in
        let n₂ : length (body_sizes tag x) ≡ count x = sizes-count x (below s.spot tag) tag r.within in
        record {
          pf = l.pf ++ (s.up ∷ xs);
          pb = l.pb;
          bf = l.bf ++ (b ∷ body_sizes tag x);
          bb = l.bb;
          parents-are = parents-here ∙ regroup l.pf s.up xs ys l.pb;
          bodies-are = bodies-here ∙ regroup l.bf b (body_sizes tag x) (sizes_at s y) l.bb;
          pf-long = omega (arith, length-append l.pf (s.up ∷ xs), l.pf-long);
          bf-long = omega (arith, length-append l.bf (b ∷ body_sizes tag x), l.bf-long);
        }
      where
        regroup : (f : List ℕ) (a : ℕ) (m n k : List ℕ) → f ++ (a ∷ ((m ++ n) ++ k)) ≡ (f ++ (a ∷ m)) ++ (n ++ k)
        regroup f a m n k = simp append_assoc

  pub lie-down : {s : Site} {t t' : Items} {h : Site} {u w : Items} → Swapped s t t' h u w → ruled s.spot t ≡ true → Lie s t → Lie h u
  unfolding below past
  lie-down (here s t t') r l = l
  lie-down (inside s tag at body x x' y h u w o v) r l = lie-down v (ruled-parts s.spot tag at body x y r).within (lie-inside s tag at body x y r l)
  lie-down (after s tag at body x y y' h u w v) r l = lie-down v (ruled-parts s.spot tag at body x y r).beside (lie-after s tag at body x y r l)

  -- the way up from a site to one around it
  pub record Way (s : Site) (h : Site) (u : Items) (gs : List ℕ) : Type 0 where
    pub climbs : (x : ℕ) → x ≤ size_at h u → Climbs parents bodies h.up x
    pub numbers : up_from parents h.up ≡ gs ++ up_from parents s.up

  pub way : {s : Site} {t t' : Items} {h : Site} {u w : Items} (v : Swapped s t t' h u w) → ruled s.spot t ≡ true → Lie s t → 0 < s.number → s.up < s.number
      → ((x : ℕ) → x ≤ size_at s t → Climbs parents bodies s.up x) → Way s h u (path v)
  unfolding path below past
  way (here s t t') r l n up c = record { climbs = c; numbers = refl }
  way (inside s tag at body x x' y h u w o v) r l n up c =
      let q = ruled-parts s.spot tag at body x y r in
      let g = s.number in
      let bx : body_size s.spot.parent tag body x ≡ normal_size tag x = size-open s.spot s.spot.parent tag body x o q.within in
      let bh = body-here s tag at body x y r l in
      let ph = parent-here s tag at body x y r l in
      let total = size-item s.spot tag at body x y q
      ∙ ap (λ v. v + normal_size s.spot.parent y) (open-adds s.spot.parent tag body (body_size s.spot.parent tag body x) o) in
      let outer : Climbs parents bodies (get_or parents g 0) (framed_size (get_or bodies g 0)) =
      subst (λ k. Climbs parents bodies k (framed_size (get_or bodies g 0))) (sym ph)
      (c (framed_size (get_or bodies g 0)) (subst (λ k. framed_size k ≤ size_at s (item tag at body x y)) (sym bh) (omega (arith, total)))) in
      let own : (k : ℕ) → k ≤ normal_size tag x → Climbs parents bodies g k =
      λ k z. step g k n (body-in s tag at body x y r l) (parent_in s tag at body x y r l) (omega (arith, bh, bx)) (omega (arith, ph)) outer in
      let ih = way v q.within (lie-inside s tag at body x y r l) (omega arith) (omega arith) own in
      record {
        climbs = ih.climbs;
        numbers = ih.numbers
            ∙ (ap (λ z. path v ++ z) (up_next parents bodies g 0 (own 0 (omega arith)) n ∙ ap (λ k. g ∷ up_from parents k) ph)
            ∙ sym (append_assoc (path v) (g ∷ []) (up_from parents s.up)));
      }
  way (after s tag at body x y y' h u w v) r l n up c =
      let q = ruled-parts s.spot tag at body x y r in
      let total = size-item s.spot tag at body x y q in
      let ih = way v q.beside (lie-after s tag at body x y r l) (omega arith) (omega arith) (λ k z. c k (omega (arith, total))) in
      record { climbs = ih.climbs; numbers = ih.numbers }

  -- nothing but nothing stands where nothing is
  swapped-end : {s : Site} {t t' : Items} {h : Site} {u w : Items} → Swapped s t t' h u w → end ≡ t → s ≡ h
  unfolding is_end
  swapped-end (here s t t') e = refl
  swapped-end (inside s tag at body x x' y h u w o v) e = absurd (false≢true (sym (ap is_end e)))
  swapped-end (after s tag at body x y y' h u w v) e = absurd (false≢true (sym (ap is_end e)))

  -- from a site below the top up to it
  pub record WholeWay (h : Site) (u : Items) (gs : List ℕ) : Type 0 where
    pub climbs : (x : ℕ) → x ≤ size_at h u → Climbs parents bodies h.up x
    pub numbers : up_from parents h.up ≡ gs

  pub whole-way : {s : Site} {t t' : Items} {h : Site} {u w : Items} (v : Swapped s t t' h u w) → s.spot ≡ at_top → s.number ≡ 0
      → ruled s.spot t ≡ true → eqb h.spot.parent 0 ≡ false → Lie s t
      → WholeWay h u (path v)
  unfolding path below past at_top around
  whole-way (here s t t') a n r f l = absurd (false≢true (sym f ∙ ap (λ k. eqb k.parent 0) a))
  whole-way (after s tag at body x y y' h u w v) a n r f l =
      let q = ruled-parts s.spot tag at body x y r in
      let none : end ≡ y =
      three-end y (past s.spot tag) (ap (λ k. cond (eqb k.parent 0) 3 (stage_after tag)) a) (ruled-order y (past s.spot tag) q.beside) in
      absurd (false≢true (sym f ∙ (ap (λ k. eqb k.spot.parent 0) (sym (swapped-end v none)) ∙ ap (λ k. eqb k.parent 0) a)))
  whole-way (inside s tag at body x x' y h u w o v) a n r f l =
      let q = ruled-parts s.spot tag at body x y r in
      let bx : body_size s.spot.parent tag body x ≡ normal_size tag x = size-open s.spot s.spot.parent tag body x o q.within in
      let bh = body-here s tag at body x y r l in
      let here-body = body-in s tag at body x y r l in
      let b0 : get_or bodies 0 0 ≡ get_or bodies s.number 0 = ap (λ k. get_or bodies k 0) (sym n) in
      let own : (k : ℕ) → k ≤ normal_size tag x → Climbs parents bodies s.number k =
      λ k z. subst (λ j. Climbs parents bodies j k) (sym n) (top k (omega arith) (omega (arith, bh, bx))) in
      let ih = way v q.within (lie-inside s tag at body x y r l) (omega arith) (omega arith) own in
      record { climbs = ih.climbs; numbers = ih.numbers ∙ ap (λ z. path v ++ z) (ap (up_from parents) n ∙ ap {B = List ℕ} (λ k. k ∷ []) (sym n)) }
