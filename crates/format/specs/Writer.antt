-- Records that are given to the writer: whether they are a well-formed tree, and which (document 01, Refusal numbers: well-formed in 16).
use Rattle.std.specs.Prelude.{Bool, true, false, cond, not, ◌&&◌, ◌||◌, List, [], ◌∷◌, ℕ, zero, suc, ◌+◌, eqb, leb, ltb, length, take, drop}
use Rattle.std.proofs.Math.Option.{Option, none, some}
use Rattle.octets.specs.Numbers.{among}
use Rattle.text.specs.Text.{text}
use Rattle.text.specs.Tokens.{shown_length}
use Rattle.values.specs.declared.Kind.{Kind}
use Rattle.values.specs.Table.{known, attribute}
use Rattle.format.specs.declared.Record.{Record}
use Rattle.format.specs.Tree.{Items, kind_of}
use Rattle.format.specs.Tree.Items.{end, item}
use Rattle.format.specs.Judge.{is_known, is_tokens, is_text, is_value, allowed, latest, stage_after, shown}
use Rattle.format.specs.Meaning.{opens}

-- where an item stands: the tag of its element (0 for the top), its depth, the stage of the order, and the tags before it in that element
pub record Spot : Type 0 where
  pub parent : ℕ
  pub depth : ℕ
  pub stage : ℕ
  pub seen : List ℕ

unfoldable pub below : Spot → ℕ → Spot
below s tag = record { parent = tag; depth = suc s.depth; stage = 0; seen = [] }

-- after the top nothing may come: its stage is then past every item's latest
unfoldable pub past : Spot → ℕ → Spot
past s tag = record { parent = s.parent; depth = s.depth; stage = cond (eqb s.parent 0) 3 (stage_after tag); seen = tag ∷ s.seen }

unfoldable pub at_top : Spot
at_top = record { parent = 0; depth = 1; stage = 0; seen = [] }

-- rules 4, 6, 7 and 8
unfoldable pub placed : Spot → ℕ → Bool
placed s tag =
    allowed s.parent tag && leb s.stage (latest tag) && (attribute tag || eqb tag 1 || leb s.depth 16) && not (attribute tag && among tag s.seen)

-- a known item other than the token table, and rules 9, 10, 12 and 13: there is no table, so a token octet is a fault of the text
unfoldable pub body_keeps : ℕ → ℕ → List ℕ → Option Kind → Bool
body_keeps parent tag body k =
    is_known k && not (is_tokens k) && is_value k body && (not (is_text k) || text false body && shown parent tag (shown_length [] body))

unfoldable pub keeps : Spot → ℕ → List ℕ → Bool
keeps s tag body = placed s tag && body_keeps s.parent tag body (known s.parent tag)

-- the part of the lent octets that a record names
unfoldable pub body_in : List ℕ → Record → List ℕ
body_in lent r = take r.size (drop r.start lent)

-- one record by itself: the kind of its tag, the number of its parent, a body inside the lent octets, and the rules
unfoldable pub good : Spot → ℕ → List ℕ → Record → Bool
good s p lent r = eqb r.kind (kind_of r.tag) && eqb r.parent p && leb (r.start + r.size) (length lent) && keeps s r.tag (body_in lent r)

-- record i is one of n, and stands at a depth
unfoldable pub here : (ℕ → Record) → (n depth i : ℕ) → Bool
here row n depth i = ltb i n && eqb (row i).depth depth

unfoldable pub onward : Option ℕ → (ℕ → Option ℕ) → Option ℕ
onward none f = none
onward (some j) f = f j

-- the records of the items of one element, from record i on, below the parent of number p: each is good, then those inside it, where it is an element that holds
-- items, then those after it. The answer is the number of the first record past them, none where a record isn't good. The first number only shows that this ends
unfoldable pub walk : ℕ → (ℕ → Record) → ℕ → List ℕ → Spot → (p i : ℕ) → Option ℕ
walk zero row n lent s p i = none
walk (suc k) row n lent s p i =
    let inner = cond (opens (row i).tag) (walk k row n lent (below s (row i).tag) i (suc i)) (some (suc i)) in
    let all = onward inner (walk k row n lent (past s (row i).tag) p) in
    let one = cond (good s p lent (row i)) all none in
    cond (here row n s.depth i) one (some i)

-- the tree that the depths of records say, from record i on, and the number of the first record past it
unfoldable pub tree : ℕ → (ℕ → Record) → ℕ → List ℕ → (depth i : ℕ) → Items × ℕ
tree zero row n lent d i = (end, i)
tree (suc k) row n lent d i =
    let inner : Items × ℕ = cond (opens (row i).tag) (tree k row n lent (suc d) (suc i)) (end, suc i) in
    let rest = tree k row n lent d inner.1 in
    let one : Items × ℕ = (item (row i).tag (row i).start (body_in lent (row i)) inner.0 rest.0, rest.1) in
    cond (here row n d i) one (end, i)

-- the walk came to the last of n records, and there is one
unfoldable pub to_end : ℕ → Option ℕ → Bool
to_end n none = false
to_end n (some j) = ltb 0 n && eqb j n

-- the tree of n records over lent octets, where they are well-formed
unfoldable pub rebuilt : (ℕ → Record) → ℕ → List ℕ → Option Items
rebuilt row n lent = cond (to_end n (walk (suc n) row n lent at_top 0 0)) (some (tree (suc n) row n lent 1 0).0) none

-- the second statement of the same, as theorems say it: the rules of a tree's items, and so many records from one on as a list
unfoldable pub is_end : Items → Bool
is_end end = true
is_end (item tag at body inside after) = false

unfoldable pub ruled : Spot → Items → Bool
ruled s end = true
ruled s (item tag at body inside after) = (opens tag || is_end inside) && keeps s tag body && ruled (below s tag) inside && ruled (past s tag) after

unfoldable pub tabled : (ℕ → Record) → ℕ → ℕ → List Record
tabled row zero i = []
tabled row (suc m) i = row i ∷ tabled row m (suc i)
