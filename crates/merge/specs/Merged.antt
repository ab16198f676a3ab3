-- Two meanings merged, and what is refused (change request 2026-10; 002, clauses 5.3 and 5.4). What stands in quotes is the request's.
use Rattle.std.specs.Prelude.{Bool, true, false, cond, not, ◌&&◌, ◌||◌, List, ℕ, zero, suc, eqb}
use Rattle.std.proofs.Math.Option.{Option, none, some}
use Rattle.values.specs.Values.{Value}
use Rattle.format.specs.Meaning.{Meaning}
use Rattle.format.specs.Meaning.Meaning.{nothing, element, leaf}
use Rattle.format.specs.Same.{same_octets, same_value}
use Rattle.merge.specs.declared.Services.{Services}
use Rattle.merge.specs.Keys.{merges, partners, has_partner, has_equal}

-- what one of the two has; where both have it, what the first has
unfoldable pub either : {A : Type 0} → Option A → Option A → Option A
either none b = b
either (some a) b = some a

-- "attributes united, a default read as absent": a meaning has no default (format/specs/Meaning, attributes_in)
unfoldable pub united : (f g : ℕ → Option Value) → ℕ → Option Value
united f g a = either (f a) (g a)

-- elements, then others
unfoldable pub then : Meaning → Meaning → Meaning
then nothing n = n
then (element tag f children cdata after) n = element tag f children cdata (then after n)
then (leaf tag o after) n = leaf tag o (then after n)

-- whether 0x06 is among elements, and the 0x06 among them
unfoldable pub has_language : Meaning → Bool
has_language nothing = false
has_language (element tag f children cdata after) = has_language after
has_language (leaf tag o after) = eqb tag 6 || has_language after

unfoldable pub languages : Meaning → Meaning
languages nothing = nothing
languages (element tag f children cdata after) = languages after
languages (leaf tag o after) = cond (eqb tag 6) (leaf tag o (languages after)) (languages after)

-- "0x06 before all": Advanced's, where Basic has none. Basic's own stands first already
unfoldable pub new_language : (basic advanced : Meaning) → Meaning
new_language m n = cond (has_language m) nothing (languages n)

-- Advanced's elements that come behind Basic's: those "without a partner follow in their own order", and one that can have none "isn't repeated where Basic's
-- partner has a child of equal meaning"
unfoldable pub added : Services → (basic advanced : Meaning) → Meaning
added by m nothing = nothing
added by m (element tag f children cdata after) =
    let stays = cond (merges tag) (has_partner by tag f children m) (has_equal (element tag f children cdata nothing) m) in
    cond stays (added by m after) (element tag f children cdata (added by m after))
added by m (leaf tag o after) = cond (eqb tag 6 || has_equal (leaf tag o nothing) m) (added by m after) (leaf tag o (added by m after))

-- one of Basic's elements, before the others: become one with the first of Advanced's that is its partner, with the children that the function makes of that
-- one's, or as it stands where there is none
unfoldable pub paired : Services → (tag : ℕ) (f : ℕ → Option Value) (children : Meaning) (cdata : Option (List ℕ)) (after : Meaning) → (Meaning → Meaning) → Meaning → Meaning
paired by tag f m c after inside nothing = element tag f m c after
paired by tag f m c after inside (element tag' g n d more) =
    let one = element tag (united f g) (inside n) (either c d) after in
    cond (partners by tag tag' f g m n) one (paired by tag f m c after inside more)
paired by tag f m c after inside (leaf tag' o more) = paired by tag f m c after inside more

-- Basic's elements in one element, each become one with its partner among those of Advanced in that element's partner. Of two objects these are the tops. The
-- children of partners: "Basic's other children first, then Advanced's, 0x06 before all"
unfoldable pub merged : Services → (basic advanced : Meaning) → Meaning
merged by nothing a = nothing
merged by (element tag f m c after) a = paired by tag f m c (merged by after a) (λ n. then (new_language m n) (then (merged by m n) (added by m n))) a
merged by (leaf tag o after) a = leaf tag o (merged by after a)

-- ---- 20

-- "one attribute with two different values"
unfoldable pub apart : Option Value → Option Value → Bool
apart none w = false
apart (some v) none = false
apart (some v) (some w) = not (same_value v w)

unfoldable pub any_apart : ℕ → ℕ → (f g : ℕ → Option Value) → Bool
any_apart zero a f g = false
any_apart (suc k) a f g = apart (f a) (g a) || any_apart k (suc a) f g

-- "two CDATA for one element", the same or not
unfoldable pub both_there : {A : Type 0} → Option A → Option A → Bool
both_there none b = false
both_there (some a) none = false
both_there (some a) (some b) = true

-- "two different default languages"
unfoldable pub other_language : List ℕ → Meaning → Bool
other_language o nothing = false
other_language o (element tag f children cdata after) = other_language o after
other_language o (leaf tag p after) = (eqb tag 6 && not (same_octets o p)) || other_language o after

-- one of Basic's elements and any of Advanced's that has its key can't become one, or what is below them can't, which the function says
unfoldable pub clashing : Services → (tag : ℕ) (f : ℕ → Option Value) (children : Meaning) (cdata : Option (List ℕ)) → (Meaning → Bool) → Meaning → Bool
clashing by tag f m c below nothing = false
clashing by tag f m c below (element tag' g n d more) =
    (partners by tag tag' f g m n && (any_apart 128 0x80 f g || both_there c d || below n)) || clashing by tag f m c below more
clashing by tag f m c below (leaf tag' o more) = clashing by tag f m c below more

unfoldable pub clash : Services → (basic advanced : Meaning) → Bool
clash by nothing a = false
clash by (element tag f m c after) a = clashing by tag f m c (clash by m) a || clash by after a
clash by (leaf tag o after) a = (eqb tag 6 && other_language o a) || clash by after a

-- one top in each, of the same tag; else "top tags differ"
unfoldable pub same_top : (basic advanced : Meaning) → Bool
same_top nothing a = false
same_top (leaf tag o after) a = false
same_top (element tag f m c after) nothing = false
same_top (element tag f m c after) (leaf tag' o more) = false
same_top (element tag f m c after) (element tag' g n d more) = eqb tag tag'

-- ---- 21: "one object holds the same merging key twice under one parent", anywhere in it
unfoldable pub twice : Services → Meaning → Bool
twice by nothing = false
twice by (element tag f m c after) = has_partner by tag f m after || twice by m || twice by after
twice by (leaf tag o after) = twice by after
