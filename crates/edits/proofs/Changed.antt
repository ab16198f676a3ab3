-- The tree after an edit: its bodies are octets, there is a record in it, and packed it means what it meant.
use mathlib.Core.Path.{◌≡◌, refl, sym, subst}
use mathlib.Core.Bool.{Bool, true, false, cond, ◌||◌, false≢true}
use mathlib.Core.Option.{Option, none, some, map, some-injective, none-ne-some}
use mathlib.Core.List.{List, [], ◌∷◌}
use Prim.Native.Nat.{ℕ, zero, suc, ◌-◌, ◌<◌}
use native.Mathlib.Omega.{arith}
use lib.Dec.{eqb, ltb}
use lib.ListN.{length}
use Rattle.octets.specs.Numbers.{Octets}
use Rattle.octets.proofs.Places.{body-octets, later-octets}
use Rattle.octets.proofs.Tests.{and_left}
use Rattle.values.specs.Table.{attribute}
use Rattle.format.specs.Tree.{Items, count}
use Rattle.format.specs.Tree.Items.{end, item}
use Rattle.format.specs.Judge.{Context, read}
use Rattle.format.specs.Judge.Judged.{accepted}
use Rattle.format.specs.Meaning.{means}
use Rattle.format.specs.Loaded.{loaded_in}
use Rattle.format.specs.State.{packed, kept}
use Rattle.format.specs.Writer.{Spot, at_top, is_end, ruled}
use Rattle.format.proofs.Induction.{Cases, accepted-all}
use Rattle.format.proofs.Kept.{ruled-parts, keeps-tag}
use Rattle.format.proofs.Tabled.{count-item}
use Rattle.format.proofs.Written.{Bytes}
use Rattle.edits.specs.Tree.{Edit, record_at, change_at, with_body, without, holding, before, put_child, is_there, inside_of, element_of, changed}
use Rattle.edits.specs.Tree.Edit.{replace, remove, insert}
use Rattle.edits.specs.Calls.{edited}
use Rattle.edits.specs.Runs.{BringsOctets}
use Rattle.state.proofs.HeldTree.{kept-is}
use Rattle.edits.proofs.Standing.{Standing, packed-means, packed-stands}
use Rattle.edits.proofs.Elements.{element-whole}

-- ---- bodies
-- what is accepted is made of octets
abbrev Made : Context → ℕ → List ℕ → Items → Type 0
Made c at part t = Octets part → Bytes t

made-cases : Cases Made
made-cases = record {
  at_end = λ c at q os. tt;
  at_unknown = λ c at tag rest u q e later os. later (later-octets (tag ∷ rest) os);
  at_element = λ c at tag rest s u q e inside later os. (body-octets (tag ∷ rest) os, inside (body-octets (tag ∷ rest) os), later (later-octets (tag ∷ rest) os));
  at_leaf = λ c at tag rest u k q e l later os. (body-octets (tag ∷ rest) os, tt, later (later-octets (tag ∷ rest) os));
}

read-bytes : (c : Context) (o : List ℕ) (t : Items) → Octets o → read c 0 o ≡ accepted t → Bytes t
read-bytes c o t os h = accepted-all Made made-cases (suc (length o)) c 0 o t h os

pub element-bytes : (c : Context) (o : List ℕ) (e : Items) → Octets o → element_of c o ≡ some e → Bytes e
element-bytes c o e os h = read-bytes c o e os (element-whole c o e h).reads

change-bytes : (f : Items → Items) → ((t : Items) → Bytes t → Bytes (f t)) → (t : Items) (i : ℕ) → Bytes t → Bytes (change_at f i t)
unfolding change_at
change-bytes f g end i b = tt
change-bytes f g (item tag at body x y) zero b = g (item tag at body x y) b
change-bytes f g (item tag at body x y) (suc i) b = go (ltb i (count x)) (change-bytes f g x i b.1) (change-bytes f g y (i - count x) b.2)
  where
    go : (c : Bool) → Bytes (change_at f i x) → Bytes (change_at f (i - count x) y)
        → Bytes (cond c (item tag at body (change_at f i x) y) (item tag at body x (change_at f (i - count x) y)))
    go true p q = (b.0, p, b.2)
    go false p q = (b.0, b.1, q)

with-bytes : (o : List ℕ) → Octets o → (t : Items) → Bytes t → Bytes (with_body o t)
unfolding with_body
with-bytes o os end b = tt
with-bytes o os (item tag at body x y) b = (os, b.1, b.2)

without-bytes : (t : Items) → Bytes t → Bytes (without t)
unfolding without
without-bytes end b = tt
without-bytes (item tag at body x y) b = b.2

holding-bytes : (f : Items → Items) → ((t : Items) → Bytes t → Bytes (f t)) → (t : Items) → Bytes t → Bytes (holding f t)
unfolding holding
holding-bytes f g end b = tt
holding-bytes f g (item tag at body x y) b = (b.0, g x b.1, b.2)

before-bytes : (e t : Items) → Bytes e → Bytes t → Bytes (before e t)
unfolding before
before-bytes end t b c = c
before-bytes (item tag at body x y) t b c = (b.0, b.1, before-bytes y t b.2 c)

put-bytes : (e : Items) → Bytes e → (t : Items) (k : ℕ) → Bytes t → Bytes (put_child k e t)
unfolding put_child
put-bytes e be end k b = be
put-bytes e be (item tag at body x y) k b = go (attribute tag) (eqb k 0 || eqb tag 1) (put-bytes e be y k b.2) (put-bytes e be y (k - 1) b.2)
  where
    go : (c d : Bool) → Bytes (put_child k e y) → Bytes (put_child (k - 1) e y)
        → Bytes (cond c (item tag at body x (put_child k e y)) (cond d (before e (item tag at body x y)) (item tag at body x (put_child (k - 1) e y))))
    go true d p q = (b.0, b.1, p)
    go false true p q = before-bytes e (item tag at body x y) be b
    go false false p q = (b.0, b.1, q)

pub map_is : {A B : Type 0} (f : A → B) (o : Option A) (v : B) → map f o ≡ some v → (a : A) × (o ≡ some a) × (f a ≡ v)
map_is f none v h = absurd (none-ne-some v h)
map_is f (some a) v h = (a, refl, some-injective (f a) v h)

pub changed-bytes : (e : Edit) (t v : Items) → Bytes t → BringsOctets e → changed e t ≡ some v → Bytes v
unfolding changed
changed-bytes (replace i o) t v b os h = subst Bytes (some-injective _ v h) (change-bytes (with_body o) (with-bytes o os) t i b)
changed-bytes (remove i) t v b os h = subst Bytes (some-injective _ v h) (change-bytes without without-bytes t i b)
changed-bytes (insert i k o) t v b os h =
    let w = map_is (λ e. change_at (holding (put_child k e)) i t) (element_of (inside_of (record_at i t)) o) v h in
    let bytes = element-bytes (inside_of (record_at i t)) o w.0 os w.1 in
    subst Bytes w.2 (change-bytes (holding (put_child k w.0)) (holding-bytes (put_child k w.0) (λ x c. put-bytes w.0 bytes x k c)) t i b)

-- ---- a record is left
change-later : (f : Items → Items) (t : Items) (i : ℕ) → is_end t ≡ false → is_end (change_at f (suc i) t) ≡ false
unfolding change_at is_end
change-later f end i h = h
change-later f (item tag at body x y) i h = go (ltb i (count x))
  where
    go : (c : Bool) → is_end (cond c (item tag at body (change_at f i x) y) (item tag at body x (change_at f (i - count x) y))) ≡ false
    go true = refl
    go false = refl

change-any : (f : Items → Items) → ((t : Items) → is_end t ≡ false → is_end (f t) ≡ false) → (t : Items) (i : ℕ) → is_end t ≡ false → is_end (change_at f i t) ≡ false
unfolding change_at
change-any f g end i h = h
change-any f g (item tag at body x y) zero h = g (item tag at body x y) h
change-any f g (item tag at body x y) (suc i) h = change-later f (item tag at body x y) i h

with-some : (o : List ℕ) (t : Items) → is_end t ≡ false → is_end (with_body o t) ≡ false
unfolding with_body is_end
with-some o end h = h
with-some o (item tag at body x y) h = refl

holding-some : (f : Items → Items) (t : Items) → is_end t ≡ false → is_end (holding f t) ≡ false
unfolding holding is_end
holding-some f end h = h
holding-some f (item tag at body x y) h = refl

changed-some : (e : Edit) (t v : Items) → is_end t ≡ false → is_there e t ≡ true → changed e t ≡ some v → is_end v ≡ false
unfolding changed is_there
changed-some (replace i o) t v n q h = subst (λ u. is_end u ≡ false) (some-injective _ v h) (change-any (with_body o) (with-some o) t i n)
changed-some (remove zero) t v n q h = absurd (false≢true (and_left (ltb 0 zero) (ltb zero (count t)) q))
changed-some (remove (suc i)) t v n q h = subst (λ u. is_end u ≡ false) (some-injective _ v h) (change-later without t i n)
changed-some (insert i k o) t v n q h =
    let w = map_is (λ e. change_at (holding (put_child k e)) i t) (element_of (inside_of (record_at i t)) o) v h in
    subst (λ u. is_end u ≡ false) w.2 (change-any (holding (put_child k w.0)) (holding-some (put_child k w.0)) t i n)

some-record : (t : Items) (s : Spot) → ruled s t ≡ true → is_end t ≡ false → 0 < count t
unfolding is_end
some-record end s h n = absurd (false≢true (sym n))
some-record (item tag at body x y) s h n = omega (arith, count-item tag at body x y (keeps-tag s tag body (ruled-parts s tag at body x y h).rules))

record-some : (t : Items) → 0 < count t → is_end t ≡ false
unfolding is_end count
record-some end h = absurd (omega arith)
record-some (item tag at body x y) h = refl

-- ---- the tree that an edit leaves: it stands, and it has the content of the changed one
pub record Outcome (e : Edit) (t u : Items) : Type 0 where
  pub tree : Items
  pub is : changed e t ≡ some tree
  pub rules : ruled at_top tree ≡ true
  pub packs : packed tree ≡ u
  pub means-same : means [] u ≡ means [] tree
  pub stands : Standing u

pub edit-outcome : (e : Edit) (t u : Items) → Bytes t → BringsOctets e → Standing t → is_there e t ≡ true → edited e t ≡ some u → Outcome e t u
unfolding edited
edit-outcome e t u b os s q h =
    let w = map_is (loaded_in [] 0 0) (kept (ruled at_top) (changed e t)) u h in
    let k = kept-is (ruled at_top) (changed e t) w.0 w.1 in
    let bytes = changed-bytes e t w.0 b os k.0 in
    let one = some-record w.0 at_top k.1 (changed-some e t w.0 (record-some t s.one) q k.0) in
    record {
      tree = w.0;
      is = k.0;
      rules = k.1;
      packs = w.2;
      means-same = subst (λ v. means [] v ≡ means [] w.0) w.2 (packed-means w.0 bytes k.1);
      stands = subst Standing w.2 (packed-stands w.0 bytes k.1 one);
    }
