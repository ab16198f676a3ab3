-- What the check of records answers (document 01, Refusal numbers: well-formed in 16).
use Rattle.std.specs.Prelude.{Bool, true, false, cond, not, ◌&&◌, List, [], ℕ, suc, ◌+◌, ◌-◌, eqb, leb, length, Option, None, Some, option_map}
use Rattle.std.proofs.Math.Option.{Option as Maybe, none, some}
use Rattle.values.specs.declared.Kind.{Kind}
use Rattle.values.specs.Table.{known}
use Rattle.format.specs.declared.Record.{Record}
use Rattle.format.specs.Tree.{Items, kind_of}
use Rattle.format.specs.Judge.{is_items, allowed, latest, stage_after}
use Rattle.format.specs.Writer.{Spot, body_keeps, body_in, walk}
use Rattle.format.specs.Calls.{Lists, row}
use Rattle.tags.specs.Rules.{within_depth, has_bit, with_bit}
use Rattle.records.specs.declared.check.Parent.{Parent}
use Rattle.records.specs.declared.check.State.{State}
use Rattle.records.specs.declared.check.Held.{Held}
use Rattle.records.specs.declared.check.Held.TheVariants.{Octets, Inner}
use Rattle.records.specs.declared.check.Item.{Item}
use Rattle.records.specs.declared.check.Item.TheVariants.{Past, Single, Nested}

-- a tree was given
unfoldable pub is_given : Maybe Items → Bool
is_given none = false
is_given (some t) = true

-- a body that keeps the rules of its item holds items or octets
unfoldable pub held_as : ℕ → ℕ → List ℕ → Maybe Kind → Option Held
held_as parent tag body k = cond (body_keeps parent tag body k) (Some (cond (is_items k) Inner Octets)) None

-- rules 4, 6, 7 and 8, where the tags before an item are bits
unfoldable pub placed_by : Parent → State → ℕ → Bool
placed_by p s tag = allowed p.tag tag && leb s.stage (latest tag) && within_depth tag p.depth && not (has_bit s.mask tag)

-- what an item leaves behind: after the top nothing may come
unfoldable pub state_after : Parent → State → ℕ → State
state_after p s tag = record { stage = cond (eqb p.tag 0) 3 (stage_after tag); mask = with_bit s.mask tag }

unfoldable pub item_of : Held → ℕ → State → Item
item_of Octets tag s = Single s
item_of Inner tag s = Nested tag s

-- a record by itself but for its body: the kind of its tag, the number of its parent, a body inside the lent octets, its place
unfoldable pub tied : Parent → State → List ℕ → Record → Bool
tied p s lent r = eqb r.kind (kind_of r.tag) && eqb r.parent p.number && leb (r.start + r.size) (length lent) && placed_by p s r.tag

-- a record among the items of an element, where it is good: past the last of them, or an item, by what its body holds
unfoldable pub item_as : Parent → State → List ℕ → Record → Option Item
item_as p s lent r =
    let held = held_as p.tag r.tag (body_in lent r) (known p.tag r.tag) in
    let one = cond (tied p s lent r) (option_map (λ h. item_of h r.tag (state_after p s r.tag)) held) None in
    cond (eqb r.depth p.depth) one (Some Past)

-- where the first item in an element stands
abbrev pub first_in : Parent → Spot
first_in p = record { parent = p.tag; depth = p.depth; stage = 0; seen = [] }

-- record i as a parent of its own, among the items of a parent
abbrev pub parent_at : Parent → (tag i : ℕ) → Parent
parent_at p tag i = record { tag = tag; number = i; depth = p.depth + 1 }

-- the walk of `rebuilt` from any record on; it goes over at most the records that are left
unfoldable pub walked : Lists → ℕ → List ℕ → Spot → (p i : ℕ) → Maybe ℕ
walked l n lent s p i = walk (suc (n - i)) (row l) n lent s p i

unfoldable pub told : Maybe ℕ → Option ℕ
told none = None
told (some j) = Some j
