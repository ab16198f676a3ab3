-- Request 2026-10, of the children of two elements that become one: "Basic's other children first, then Advanced's, 0x06 before all", each of Advanced's children
-- consumed once. Said of any two lists of children, and so of those of the tops and of every pair of partners below them.
use Rattle.std.specs.Prelude.{◌≡◌, true, false, cond, ◌⊎◌, List, ℕ, ◌+◌, ◌≤◌}
use Rattle.std.proofs.Math.Option.{Option}
use Rattle.values.specs.Values.{Value}
use Rattle.format.specs.Meaning.{Meaning}
use Rattle.format.specs.Meaning.Meaning.{nothing, element, leaf}
use Rattle.merge.specs.declared.Services.{Services}
use Rattle.merge.specs.Keys.{merges, partners, has_partner, has_equal}
use Rattle.merge.specs.Merged.{either, united, then, new_language, added, merged, twice}

-- how many among elements are partners of this one
unfoldable pub partners_among : Services → (tag : ℕ) (f : ℕ → Option Value) (children : Meaning) → Meaning → ℕ
partners_among by tag f m nothing = 0
partners_among by tag f m (element tag' g n cdata after) = cond (partners by tag tag' f g m n) 1 0 + partners_among by tag f m after
partners_among by tag f m (leaf tag' o after) = partners_among by tag f m after

-- partners are one to one: where neither list holds a key twice, an element has at most one partner in the other, so no two of Advanced's become one with the same of
-- Basic's, nor the other way round
abbrev pub OneToOne : Type 0
OneToOne = (by : Services) (tag : ℕ) (f : ℕ → Option Value) (children others : Meaning) → twice by others ≡ false → partners_among by tag f children others ≤ 1

-- this partner of an element is one of Advanced's
abbrev pub Held : Services → (tag : ℕ) (f : ℕ → Option Value) (m : Meaning) (g : ℕ → Option Value) (n : Meaning) (d : Option (List ℕ)) → Meaning → Type 0
Held by tag f m g n d nothing = ⊥
Held by tag f m g n d (element tag' h x e after) = ((partners by tag tag' f g m n ≡ true) × (g ≡ h) × (n ≡ x) × (d ≡ e)) ⊎ Held by tag f m g n d after
Held by tag f m g n d (leaf tag' o after) = Held by tag f m g n d after

-- what becomes of Basic's elements: each stands in its place, as it was where Advanced has no partner of it, else as one with a partner of Advanced's, with the
-- children that these two become
pub data Becomes (by : Services) (advanced : Meaning) : Meaning → Meaning → Type 0 where
  done : Becomes by advanced nothing nothing
  alone : {tag : ℕ} {f : ℕ → Option Value} {m : Meaning} {c : Option (List ℕ)} {after r : Meaning} → has_partner by tag f m advanced ≡ false → Becomes by advanced after r
      → Becomes by advanced (element tag f m c after) (element tag f m c r)
  joins : {tag : ℕ} {f : ℕ → Option Value} {m : Meaning} {c : Option (List ℕ)} {after r : Meaning} (g : ℕ → Option Value) (n : Meaning) (d : Option (List ℕ))
      → Held by tag f m g n d advanced → Becomes by advanced after r
      → Becomes by advanced (element tag f m c after) (element tag (united f g) (then (new_language m n) (then (merged by m n) (added by m n))) (either c d) r)
  leaf-stays : {tag : ℕ} {o : List ℕ} {after r : Meaning} → Becomes by advanced after r → Becomes by advanced (leaf tag o after) (leaf tag o r)

-- Advanced's elements that come behind these: each of those without a partner, once and in their own order, and no other. One that can have no partner isn't repeated
-- where Basic has one of equal meaning; 0x06 stands before all
pub data Follow (by : Services) (basic : Meaning) : Meaning → Meaning → Type 0 where
  done : Follow by basic nothing nothing
  joined : {tag : ℕ} {f : ℕ → Option Value} {m : Meaning} {c : Option (List ℕ)} {after r : Meaning} → merges tag ≡ true → has_partner by tag f m basic ≡ true
      → Follow by basic after r → Follow by basic (element tag f m c after) r
  equal : {tag : ℕ} {f : ℕ → Option Value} {m : Meaning} {c : Option (List ℕ)} {after r : Meaning} → merges tag ≡ false → has_equal (element tag f m c nothing) basic ≡ true
      → Follow by basic after r → Follow by basic (element tag f m c after) r
  follows : {tag : ℕ} {f : ℕ → Option Value} {m : Meaning} {c : Option (List ℕ)} {after r : Meaning} → has_partner by tag f m basic ≡ false
      → (merges tag ≡ false → has_equal (element tag f m c nothing) basic ≡ false) → Follow by basic after r → Follow by basic (element tag f m c after) (element tag f m c r)
  language : {o : List ℕ} {after r : Meaning} → Follow by basic after r → Follow by basic (leaf 6 o after) r
  leaf-equal : {tag : ℕ} {o : List ℕ} {after r : Meaning} → has_equal (leaf tag o nothing) basic ≡ true → Follow by basic after r → Follow by basic (leaf tag o after) r
  leaf-follows : {tag : ℕ} {o : List ℕ} {after r : Meaning} → has_equal (leaf tag o nothing) basic ≡ false → Follow by basic after r
      → Follow by basic (leaf tag o after) (leaf tag o r)

pub record ChildrenMerged (by : Services) (basic advanced : Meaning) : Type 0 where
  pub first : Becomes by advanced basic (merged by basic advanced)
  pub behind : Follow by basic advanced (added by basic advanced)

abbrev pub MergedChildren : Type 0
MergedChildren = (by : Services) (basic advanced : Meaning) → ChildrenMerged by basic advanced
