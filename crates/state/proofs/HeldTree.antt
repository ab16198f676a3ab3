-- The tree that memory holds: what is known of it, and that a tree that is packed and fits is held where it was laid.
use mathlib.Core.Path.{◌≡◌, refl, sym, ap, ◌∙◌, subst}
use mathlib.Core.Bool.{Bool, true, false, cond, ◌&&◌, false≢true}
use mathlib.Core.Option.{Option, none, some, some-injective, none-ne-some}
use mathlib.Core.List.{List, [], ◌++◌}
use Prim.Native.Nat.{ℕ, ◌≤◌, ◌<◌}
use native.Mathlib.Omega.{arith}
use native.Mathlib.Nat.{min-le_left, min-le_right, zero-add}
use lib.Dec.{eqb, leb}
use lib.ListN.{length, take, drop, length-append}
use lib.Seq.{sets, sets-eq, length-sets, take_at}
use borrow.Author.Tests.{leb-true, le-leb, eqb-true, eq-eqb}
use Rattle.octets.specs.Numbers.{Octets}
use Rattle.octets.proofs.Tests.{and_left, and_right}
use Rattle.format.specs.Tree.{Items, count, records_of}
use Rattle.format.specs.Tree.Items.{end, item}
use Rattle.format.specs.Judge.{judge}
use Rattle.format.specs.Judge.Judged.{accepted}
use Rattle.format.specs.Meaning.{means, encode}
use Rattle.format.specs.Writer.{Spot, below, past, at_top, rebuilt, ruled}
use Rattle.format.specs.Loaded.{loaded_of}
use Rattle.format.specs.Same.{same_octets}
use Rattle.format.specs.Calls.{places, row, lay, tree_given}
use Rattle.format.specs.State.{Memory, places_in, body_sizes, packed, packed_store, lay_tree, same_items, kept, in_order, tree_held}
use Rattle.format.proofs.Kept.{ruled-parts, keeps-tag}
use Rattle.format.proofs.Spans.{Located, records-count}
use Rattle.format.proofs.Loading.{loaded-stored, loaded-ruled, loaded-count}
use Rattle.format.proofs.Rebuilt.{Whole, rebuilt-whole, whole-rebuilt}
use Rattle.format.proofs.Tabled.{count-item}
use Rattle.format.proofs.Lays.{places-lay, tabled-laid}
use Rattle.format.proofs.Same.{same-octets, octets-same}
use Rattle.format.proofs.Calls.{some-record}
use Rattle.state.proofs.Packed.{accepted-packs}

-- ---- two trees that are the same
pub same-items : (t u : Items) → same_items t u ≡ true → t ≡ u
unfolding same_items
same-items end end h = refl
same-items end (item tag at body x y) h = absurd (false≢true h)
same-items (item tag at body x y) end h = absurd (false≢true h)
same-items (item tag at body x y) (item tag' at' body' x' y') h =
    let a = eqb tag tag' in
    let b = eqb at at' in
    let c = same_octets body body' in
    let d = same_items x x' in
    let e = same_items y y' in
    let h₁ = and_left (a && b && c && d) e h in
    let h₂ = and_left (a && b && c) d h₁ in
    let h₃ = and_left (a && b) c h₂ in
    let p = eqb-true tag tag' (and_left a b h₃) in
    let q = eqb-true at at' (and_right a b h₃) in
    let r = same-octets body body' (and_right (a && b) c h₂) in
    let v = same-items x x' (and_right (a && b && c) d h₁) in
    let w = same-items y y' (and_right (a && b && c && d) e h) in
    λ i. item (p i) (q i) (r i) (v i) (w i)

pub items-same : (t : Items) → same_items t t ≡ true
unfolding same_items
items-same end = refl
items-same (item tag at body x y) = rw (eq-eqb tag tag refl, eq-eqb at at refl, octets-same body, items-same x, items-same y)

-- ---- a size for each record
pub sizes-count : (t : Items) (s : Spot) (p : ℕ) → ruled s t ≡ true → length (body_sizes p t) ≡ count t
unfolding body_sizes count
sizes-count end s p h = refl
sizes-count (item tag at body x y) s p h =
    let u = ruled-parts s tag at body x y h in
    let n = length-append (body_sizes tag x) (body_sizes p y) in
    omega (arith, count-item tag at body x y (keeps-tag s tag body u.rules), sizes-count x (below s tag) tag u.within, sizes-count y (past s tag) p u.beside)

-- ---- what is held
pub record Held (n : ℕ) (m : Memory) (t : Items) : Type 0 where
  pub given : tree_given n m.lists m.store ≡ some t
  pub whole : Whole (row m.lists) n m.store t
  pub packs : packed t ≡ t
  pub sizes : take n m.bodies ≡ body_sizes 0 t
  pub small : length (encode (means [] t)) ≤ 32_768
  pub fewer : n ≤ length m.bodies

pub kept-is : (f : Items → Bool) (o : Option Items) (t : Items) → kept f o ≡ some t → (o ≡ some t) × (f t ≡ true)
unfolding kept
kept-is f none t h = absurd (none-ne-some t h)
kept-is f (some u) t h = go (f u) refl h
  where
    go : (b : Bool) → f u ≡ b → cond b (some u) none ≡ some t → (some u ≡ some t) × (f t ≡ true)
    go true q g = (g, subst (λ v. f v ≡ true) (some-injective u t g) q)
    go false q g = absurd (none-ne-some t g)

cond-some : (b : Bool) (o : Option Items) (t : Items) → cond b o none ≡ some t → (b ≡ true) × (o ≡ some t)
cond-some true o t h = (refl, h)
cond-some false o t h = absurd (none-ne-some t h)

module _ (n : ℕ) (m : Memory) (t : Items) where
  pub held : tree_held n m ≡ some t → Held n m t
  unfolding tree_held in_order tree_given
  held h =
      let k = kept-is (in_order n m.bodies) (cond (leb n (length m.bodies)) (tree_given n m.lists m.store) none) t h in
      let g = cond-some (leb n (length m.bodies)) (tree_given n m.lists m.store) t k.0 in
      let r = cond-some (leb n (places m.lists)) (rebuilt (row m.lists) n m.store) t g.1 in
      let w = rebuilt-whole (row m.lists) n m.store t r.1 in
      let a = same_items t (packed t) in
      let b = same_octets (take n m.bodies) (body_sizes 0 t) in
      let d = leb (length (encode (means [] t))) 32_768 in
      let q = and_right a (b && d) k.1 in
      record {
        given = g.1;
        whole = w;
        packs = sym (same-items t (packed t) (and_left a (b && d) k.1));
        sizes = same-octets (take n m.bodies) (body_sizes 0 t) (and_left b d q);
        small = leb-true (length (encode (means [] t))) 32_768 (and_right b d q);
        fewer = leb-true n (length m.bodies) g.0;
      }

  pub is_held : Whole (row m.lists) n m.store t → packed t ≡ t → take n m.bodies ≡ body_sizes 0 t → length (encode (means [] t)) ≤ 32_768 → n ≤ places m.lists → n ≤ length m.bodies → tree_held n m ≡ some t
  unfolding tree_held in_order tree_given kept
  is_held w p z small f g =
      let a : leb n (length m.bodies) ≡ true = le-leb n (length m.bodies) g in
      let b : leb n (places m.lists) ≡ true = le-leb n (places m.lists) f in
      let c : same_items t (packed t) ≡ true = subst (λ u. same_items t u ≡ true) (sym p) (items-same t) in
      let d : same_octets (take n m.bodies) (body_sizes 0 t) ≡ true = subst (λ u. same_octets u (body_sizes 0 t) ≡ true) (sym z) (octets-same (body_sizes 0 t)) in
      rw (a, b, whole-rebuilt (row m.lists) n m.store t w, c, d, le-leb (length (encode (means [] t))) 32_768 small)

-- ---- what is laid is held
-- a tree for which there is room
pub record Fits (m : Memory) (t : Items) : Type 0 where
  pub records : count t ≤ places_in m
  pub store : length (packed_store t) ≤ length m.store
  pub small : length (encode (means [] t)) ≤ 32_768

front : (l o : List ℕ) → length o ≤ length l → sets l 0 o ≡ o ++ drop (length o) l
front l o h = sets-eq o l 0 (omega arith) ∙ rw zero-add

-- of a tree that is packed, keeps the rules and has a record
pub laid-held : (m : Memory) (t : Items) → packed t ≡ t → ruled at_top t ≡ true → 0 < count t → Fits m t → tree_held (count t) (lay_tree t m) ≡ some t
unfolding lay_tree places_in
laid-held m t packs rules one f =
    let n = count t in
    let rs = records_of t in
    let few : n ≤ places m.lists = omega (arith, f.records, min-le_left (places m.lists) (length m.bodies)) in
    let fewer : n ≤ length m.bodies = omega (arith, f.records, min-le_right (places m.lists) (length m.bodies)) in
    let size : length (body_sizes 0 t) ≡ n = sizes-count t at_top 0 rules in
    let l = lay 0 rs m.lists in
    let store = sets m.store 0 (packed_store t) in
    let lies : Located store (packed t) = loaded-stored [] t 0 0 [] (drop (length (packed_store t)) m.store) store (front m.store (packed_store t) f.store) refl in
    let w : Whole (row l) n store t = record {
      some = one;
      records = sym (tabled-laid rs m.lists l n refl (sym (records-count t 1 0 0)) few);
      located = subst (Located store) packs lies;
      rules = rules;
    } in
    let z : take n (sets m.bodies 0 (body_sizes 0 t)) ≡ body_sizes 0 t =
    ap (take n) (front m.bodies (body_sizes 0 t) (omega arith)) ∙ take_at (body_sizes 0 t) (drop (length (body_sizes 0 t)) m.bodies) n size in
    is_held n (lay_tree t m) t w packs z f.small (omega (arith, few, places-lay 0 rs m.lists)) (omega (arith, fewer, length-sets m.bodies 0 (body_sizes 0 t)))

-- so the loaded tree of an accepted object is held wherever there is room for it
pub accepted-held : (o : List ℕ) (t : Items) → Octets o → judge o ≡ accepted t → (m : Memory) → Fits m (loaded_of t) → tree_held (count t) (lay_tree (loaded_of t) m) ≡ some (loaded_of t)
accepted-held o t os h m f =
    let e = loaded-count o t os h in
    subst (λ n. tree_held n (lay_tree (loaded_of t) m) ≡ some (loaded_of t)) e
    (laid-held m (loaded_of t) (accepted-packs o t os h) (loaded-ruled o t os h) (omega (arith, e, some-record o t os h)) f)
