-- A tree in which the items from one site on were swapped for others: its rules, its shape and its count.
use mathlib.Core.Path.{◌≡◌, refl, ◌∙◌}
use mathlib.Core.Bool.{true, false, ◌||◌, false≢true, and-true as and_yes}
use mathlib.Core.List.{List}
use Prim.Native.Nat.{ℕ, ◌+◌}
use native.Mathlib.Omega.{arith}
use lib.Dec.{eqb}
use Rattle.format.specs.Tree.{Items, count}
use Rattle.format.specs.Tree.Items.{end, item}
use Rattle.format.specs.Meaning.{opens}
use Rattle.format.specs.Writer.{Spot, below, past, is_end, ruled}
use Rattle.format.proofs.Kept.{Ruled, ruled-parts, keeps-tag}
use Rattle.format.proofs.Tabled.{count-item}
use Rattle.edits.specs.Sites.{Site, Swapped}
use Rattle.edits.specs.Sites.Swapped.{here, inside, after}

-- ---- the shape: no token table, and only elements that hold items have items inside
abbrev pub Plain : Items → Type 0
Plain end = Unit {0}
Plain (item tag at body x y) = (eqb tag 4 ≡ false) × (opens tag || is_end x ≡ true) × Plain x × Plain y

pub ruled-plain : (t : Items) (s : Spot) → ruled s t ≡ true → Plain t
ruled-plain end s h = tt
ruled-plain (item tag at body x y) s h =
    let u = ruled-parts s tag at body x y h in
    (keeps-tag s tag body u.rules, u.holder, ruled-plain x (below s tag) u.within, ruled-plain y (past s tag) u.beside)

-- ---- the rules: what stands at the site keeps them, and the new tree keeps them exactly where what stands there then does
pub record RulesSwapped (s : Site) (t' : Items) (h : Site) (u w : Items) : Type 0 where
  pub kept : ruled h.spot u ≡ true
  pub same : ruled s.spot t' ≡ ruled h.spot w

rules-inside : (s : Spot) (tag at : ℕ) (body : List ℕ) (x x' y : Items) → opens tag ≡ true → Ruled s tag body x y
    → ruled s (item tag at body x' y) ≡ ruled (below s tag) x'
unfolding ruled
rules-inside s tag at body x x' y o u = rw (o, u.rules, u.beside) (and_yes (ruled (below s tag) x'))

rules-after : (s : Spot) (tag at : ℕ) (body : List ℕ) (x y y' : Items) → Ruled s tag body x y → ruled s (item tag at body x y') ≡ ruled (past s tag) y'
unfolding ruled
rules-after s tag at body x y y' u = rw (u.holder, u.rules, u.within)

pub swapped-rules : {s : Site} {t t' : Items} {h : Site} {u w : Items} → Swapped s t t' h u w → ruled s.spot t ≡ true → RulesSwapped s t' h u w
swapped-rules (here s t t') r = record { kept = r; same = refl }
swapped-rules (inside s tag at body x x' y h u w o v) r =
    let q = ruled-parts s.spot tag at body x y r in
    let g = swapped-rules v q.within in
    record { kept = g.kept; same = rules-inside s.spot tag at body x x' y o q ∙ g.same }
swapped-rules (after s tag at body x y y' h u w v) r =
    let q = ruled-parts s.spot tag at body x y r in
    let g = swapped-rules v q.beside in
    record { kept = g.kept; same = rules-after s.spot tag at body x y y' q ∙ g.same }

-- ---- the shape and the count of the new tree
pub record PlainSwapped (t' u w : Items) : Type 0 where
  pub old : Plain u
  pub new : Plain w → Plain t'

pub swapped-plain : {s : Site} {t t' : Items} {h : Site} {u w : Items} → Swapped s t t' h u w → Plain t → PlainSwapped t' u w
swapped-plain (here s t t') p = record { old = p; new = λ q. q }
swapped-plain (inside s tag at body x x' y h u w o v) p = let g = swapped-plain v p.2 in record { old = g.old; new = λ q. (p.0, rw o, g.new q, p.3) }
swapped-plain (after s tag at body x y y' h u w v) p = let g = swapped-plain v p.3 in record { old = g.old; new = λ q. (p.0, p.1, p.2, g.new q) }

pub swapped-count : {s : Site} {t t' : Items} {h : Site} {u w : Items} → Swapped s t t' h u w → Plain t → count t' + count u ≡ count t + count w
swapped-count (here s t t') p = omega arith
swapped-count (inside s tag at body x x' y h u w o v) p =
    omega (arith, count-item tag at body x y p.0, count-item tag at body x' y p.0, swapped-count v p.2)
swapped-count (after s tag at body x y y' h u w v) p =
    omega (arith, count-item tag at body x y p.0, count-item tag at body x y' p.0, swapped-count v p.3)

-- no items stand at a site in none
pub swapped-none : {s : Site} {t t' : Items} {h : Site} {u w : Items} → Swapped s t t' h u w → is_end t ≡ true → is_end u ≡ true
unfolding is_end
swapped-none (here s t t') e = e
swapped-none (inside s tag at body x x' y h u w o v) e = absurd (false≢true e)
swapped-none (after s tag at body x y y' h u w v) e = absurd (false≢true e)

-- one site in another
pub swapped-then : {s : Site} {t t' : Items} {h : Site} {u w : Items} {k : Site} {v z : Items} → Swapped s t t' h u w → Swapped h u w k v z → Swapped s t t' k v z
swapped-then (here s t t') b = b
swapped-then {k = k} {v = v} {z = z} (inside s tag at body x x' y h u w o a) b = inside s tag at body x x' y k v z o (swapped-then a b)
swapped-then {k = k} {v = v} {z = z} (after s tag at body x y y' h u w a) b = after s tag at body x y y' k v z (swapped-then a b)
