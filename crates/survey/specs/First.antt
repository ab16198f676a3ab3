-- The first known item, in reading order, that a test of its element's tag and its own picks: of a tree, and its place in the octets. 17 and 19 are given so (requests
-- 2026-02 and 2026-07).
use Rattle.std.specs.Prelude.{Bool, cond, not, ◌&&◌, ◌||◌, List, [], ◌∷◌, ℕ, zero, suc, ◌+◌, ◌*◌, length, take, drop, get_or, Some, None, Result, Ok, Err}
use Rattle.std.specs.Prelude.{Option as Optional}
use Rattle.std.proofs.Math.Option.{Option, none, some}
use Rattle.octets.specs.Numbers.{among}
use Rattle.octets.specs.Header.{header_size, body_size}
use Rattle.values.specs.Table.{known}
use Rattle.format.specs.Tree.{Items}
use Rattle.format.specs.Tree.Items.{end, item}
use Rattle.format.specs.Judge.{Judged, is_known, is_items, judge}
use Rattle.format.specs.Judge.Judged.{refused, accepted}
use Rattle.format.specs.declared.Refusal.{Refusal}

unfoldable pub or_else : {A : Type 0} → Option A → Option A → Option A
or_else none b = b
or_else (some a) b = some a

-- of a tree, which has known items alone: an item, those inside it, those after it. Told are its tag, where its body begins and how many octets that has
unfoldable pub first_in : (ℕ → ℕ → Bool) → (parent : ℕ) → Items → Option (ℕ × ℕ × ℕ)
first_in P parent end = none
first_in P parent (item tag at body inside after) = cond (P parent tag) (some (tag, at, length body)) (or_else (first_in P tag inside) (first_in P parent after))

-- a tree says where bodies begin, not where tags lie; so for the place it is the same walk over the octets, where an unknown item is never picked and never looked into
unfoldable pub picks : (ℕ → ℕ → Bool) → ℕ → ℕ → Bool
picks P parent tag = is_known (known parent tag) && P parent tag

-- the offset of the tag, among the items of an element from an offset on, and inside these. The first number is above the length of the part: it only shows that this ends
unfoldable pub place_in : ℕ → (ℕ → ℕ → Bool) → (parent at : ℕ) → List ℕ → Option ℕ
place_in zero P parent at part = none
place_in (suc k) P parent at [] = none
place_in (suc k) P parent at (tag ∷ rest) =
    let h = header_size (tag ∷ rest) in
    let n = body_size (tag ∷ rest) in
    let inner = place_in k P tag (at + h) (take n (drop h (tag ∷ rest))) in
    let inside = cond (is_items (known parent tag)) inner none in
    let after = place_in k P parent (at + h + n) (drop n (drop h (tag ∷ rest))) in
    let later = or_else inside after in
    cond (picks P parent tag) (some at) later

unfoldable pub place_at : (ℕ → ℕ → Bool) → List ℕ → Option ℕ
place_at P o = place_in (suc (length o)) P 0 0 o

-- the item whose tag lies at a place of the object, told as above: this ties the two walks together (proofs/First, first-told)
abbrev pub item_at : List ℕ → ℕ → ℕ × ℕ × ℕ
item_at o place = (get_or o place 0, place + header_size (drop place o), body_size (drop place o))

unfoldable pub as_item : List ℕ → Option ℕ → Option (ℕ × ℕ × ℕ)
as_item o none = none
as_item o (some place) = some (item_at o place)

-- a test as numbers, since no function can be handed to code: tags of items wherever they stand, and rows, each of them 256 times the tag of an element and the tag of an
-- item directly in it. The object counts as an element with the tag 0
unfoldable pub in_rows : (rows anywhere : List ℕ) (parent tag : ℕ) → Bool
in_rows rows anywhere parent tag = among tag anywhere || among (parent * 256 + tag) rows

-- looked for is the first item that is listed so, or the first that isn't
unfoldable pub sought_by : (listed : Bool) (rows anywhere : List ℕ) (parent tag : ℕ) → Bool
sought_by listed rows anywhere parent tag = cond (in_rows rows anywhere parent tag) listed (not listed)

-- the answer: 1 to 13 by the judgement, else where the tag of the first such item lies
unfoldable pub sought_as : Judged → Option ℕ → Result (Optional ℕ) Refusal
sought_as (refused r) place = Err r
sought_as (accepted t) none = Ok None
sought_as (accepted t) (some place) = Ok (Some place)

unfoldable pub sought_in : (ℕ → ℕ → Bool) → List ℕ → Result (Optional ℕ) Refusal
sought_in P object = sought_as (judge object) (place_at P object)
