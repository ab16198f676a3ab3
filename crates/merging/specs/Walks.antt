-- What the functions say that walk over two objects: of every two trees that their octets have at a depth. So many levels of elements may still open: depth
-- and they make 17.
use Rattle.std.specs.Prelude.{◌≡◌, Bool, true, List, ℕ, ◌+◌, ◌≤◌}
use Rattle.octets.specs.Counts.{as_octets}
use Rattle.text.specs.Tokens.{Entries, entries}
use Rattle.text.specs.Index.{Indexes, entries_by}
use Rattle.format.specs.Tree.{Items}
use Rattle.format.specs.Tree.Items.{end, item}
use Rattle.format.specs.Judge.{judge}
use Rattle.format.specs.Judge.Judged.{accepted}
use Rattle.format.specs.Meaning.{Meaning, opens, attributes_in, cdata_in, means, meaning_of}
use Rattle.reader.specs.Filling.{Accepts}
use Rattle.compare.specs.Walks.{is_meant}
use Rattle.merge.specs.declared.Services.{Services}
use Rattle.merge.specs.Merged.{either, united, then, new_language, added, merged}
use Rattle.merging.specs.declared.counting.Needs.{Needs}
use Rattle.merging.specs.declared.partners.Role.{Role}
use Rattle.merging.specs.Takes.{Piece, with, held, if_there, piece_of, attributes_of, Adds}
use Rattle.merging.specs.Roles.{chosen, is_put}

-- the children of two partners, and all that they hold
abbrev pub children_of : Services → (basic advanced : Meaning) → Meaning
children_of by m n = then (new_language m n) (then (merged by m n) (added by m n))

abbrev pub inside_of : Services → (tag : ℕ) → Entries → Entries → Items → Items → Piece
inside_of by tag es fs t u =
    with (attributes_of (united (attributes_in es tag t) (attributes_in fs tag u))) (with (piece_of (children_of by (means es t) (means fs u))) (if_there 1 (either (cdata_in es t) (cdata_in fs u))))

unfoldable pub ElementsPut : (emit : Bool) (by : Services) (left : ℕ) (index table a index' table' b : List ℕ) (n : Needs) (before after : List ℕ) (r : Needs) → Type 0
ElementsPut emit by left index table a index' table' b n before after r =
    (p q d i j : ℕ) (t u : Items) → d + left ≡ 17 → Indexes (entries table) index → Indexes (entries table') index' → Accepts p d i a t → Accepts q d j b u
    → Adds emit (piece_of (children_of by (means (entries_by index table) t) (means (entries_by index' table') u))) n before after r

unfoldable pub InsidePut : (emit : Bool) (by : Services) (tag left : ℕ) (index table a index' table' b : List ℕ) (n : Needs) (before after : List ℕ) (r : Needs) → Type 0
InsidePut emit by tag left index table a index' table' b n before after r =
    (d i j : ℕ) (t u : Items) → d + left ≡ 17 → Indexes (entries table) index → Indexes (entries table') index' → Accepts tag d i a t → Accepts tag d j b u
    → Adds emit (inside_of by tag (entries_by index table) (entries_by index' table') t u) n before after r

unfoldable pub ElementPut : (emit : Bool) (by : Services) (tag left : ℕ) (index table a index' table' b : List ℕ) (n : Needs) (before after : List ℕ) (r : Needs) → Type 0
ElementPut emit by tag left index table a index' table' b n before after r =
    (d i j : ℕ) (t u : Items) → d + left ≡ 17 → d ≤ 16 → Indexes (entries table) index → Indexes (entries table') index' → Accepts tag (d + 1) i a t → Accepts tag (d + 1) j b u
    → Adds emit (held tag (inside_of by tag (entries_by index table) (entries_by index' table') t u)) n before after r

-- a child element that is walked over, whether it is put or not; one that is; and all of a part
unfoldable pub ChildPut : (emit : Bool) (role : Role) (by : Services) (tag left : ℕ) (index table a index' table' part : List ℕ) (n : Needs) (before after : List ℕ) (r : Needs) → Type 0
ChildPut emit role by tag left index table a index' table' part n before after r =
    (q d i j : ℕ) (t u : Items) → d + left ≡ 17 → Indexes (entries table) index → Indexes (entries table') index' → is_meant tag ≡ true → (opens tag ≡ true → (d ≤ 16) × Accepts tag (d + 1) i a t)
    → Accepts q d j part u → Adds emit (piece_of (chosen role by (means (entries_by index table) (item tag i a t end)) (means (entries_by index' table') u))) n before after r

unfoldable pub ChosenPut : (emit : Bool) (role : Role) (by : Services) (tag left : ℕ) (index table a index' table' part : List ℕ) (n : Needs) (before after : List ℕ) (r : Needs) → Type 0
ChosenPut emit role by tag left index table a index' table' part n before after r =
    is_put role by left (entries_by index table) tag a (entries_by index' table') part ≡ true → ChildPut emit role by tag left index table a index' table' part n before after r

unfoldable pub ChildrenPut : (emit : Bool) (role : Role) (by : Services) (left : ℕ) (index table a index' table' b : List ℕ) (n : Needs) (before after : List ℕ) (r : Needs) → Type 0
ChildrenPut emit role by left index table a index' table' b n before after r =
    (p q d i j : ℕ) (t u : Items) → d + left ≡ 17 → Indexes (entries table) index → Indexes (entries table') index' → Accepts p d i a t → Accepts q d j b u
    → Adds emit (piece_of (chosen role by (means (entries_by index table) t) (means (entries_by index' table') u))) n before after r

-- the merged object
abbrev pub none_yet : Needs
none_yet = record { records = 0; store = as_octets 0; octets = as_octets 0 }

unfoldable pub ObjectPut : (emit : Bool) (by : Services) (basic advanced before after : List ℕ) (r : Needs) → Type 0
ObjectPut emit by basic advanced before after r =
    (t u : Items) → judge basic ≡ accepted t → judge advanced ≡ accepted u → Adds emit (piece_of (merged by (meaning_of t) (meaning_of u))) none_yet before after r
