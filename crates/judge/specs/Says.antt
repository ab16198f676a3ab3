-- What the code's values say, in the words of the crate format: contracts of the crate's own functions. The one public call is claimed by format's definitions
-- alone (specs/Judge, specs/Calls). Rules are those of document 01, Refusal numbers.
use Rattle.std.specs.Prelude.{◌≡◌, Bool, true, false, ◌&&◌, List, [], ◌∷◌, ◌++◌, ℕ, ◌+◌, ◌-◌, ◌≤◌, eqb, length, take, drop, get_or, Result, Ok, Err, ⊤, Some, None, Option as Optional}
use Rattle.std.proofs.Math.Option.{Option, none, some}
use Rattle.octets.specs.Header.{header_size, body_size}
use Rattle.text.specs.Tokens.{Entries, entries}
use Rattle.text.specs.Weighing.{tags, Marks, Shows}
use Rattle.values.specs.declared.Kind.{Kind}
use Rattle.values.specs.declared.Kind.TheVariants.{HoldsItems, HoldsTokens, HoldsText, HoldsPlain, HoldsTime, HoldsBearer, HoldsNumber}
use Rattle.values.specs.Table.{known}
use Rattle.format.specs.declared.Refusal.{Refusal}
use Rattle.format.specs.declared.Counts.{Counts}
use Rattle.format.specs.Tree.{count}
use Rattle.format.specs.Tree.Items.{end}
use Rattle.format.specs.Judge.{Judged, Context, is_top, first, item_rules, own, broken, late, late_after, waits, stage_after, unless}
use Rattle.format.specs.Judge.Judged.{refused, accepted}
use Rattle.tags.specs.Rules.{with_bit, Seen}
use Rattle.judge.specs.declared.Progress.{Progress}
use Rattle.judge.specs.declared.Sort.{Sort}
use Rattle.judge.specs.declared.Sort.TheVariants.{Skip, Leaf, Table, Element}
use Rattle.judge.specs.declared.Item.{Item}

-- a place in an object, by what the code keeps of it and, in `seen` and `waiting`, what it doesn't keep
abbrev pub ctx : (parent depth stage : ℕ) (seen : List ℕ) (table : Entries) (waiting : List (ℕ × List ℕ)) → Context
ctx parent depth stage seen table waiting = record { parent = parent; depth = depth; stage = stage; seen = seen; table = table; waiting = waiting }

-- all of it that rules 9 to 13 look at
abbrev pub bare : ℕ → Entries → Context
bare parent table = ctx parent 0 0 [] table []

-- what is kept of a token table beside its octets: its tokens as marks, and how many characters are shown for each of the octets that could be tokens
pub record InForce (table : List ℕ) (marks : ℕ) (shows : List ℕ) : Type 0 where
  pub marking : Marks marks (tags (entries table))
  pub showing : Shows 32 (entries table) shows

-- the code counts levels down, the definition counts depth up (document 01, Framing): at depth 1 sixteen levels of elements may begin, at depth 17 none
unfoldable pub depth_of : ℕ → ℕ
depth_of left = 17 - left

-- what the lookup's answer says in the definition's words
unfoldable pub as_kind : Optional Kind → Option Kind
as_kind None = none
as_kind (Some k) = some k

-- the first broken rule that a check found
unfoldable pub checked : Result ⊤ Refusal → Option Refusal
checked (Ok x) = none
checked (Err r) = some r

-- what becomes of an item by its kind: an unknown one gives nothing, the table no record of its own (document 01, Records and meaning)
unfoldable pub sorted : Option Kind → Sort
sorted none = Skip
sorted (some HoldsItems) = Element
sorted (some HoldsTokens) = Table
sorted (some HoldsText) = Leaf
sorted (some HoldsPlain) = Leaf
sorted (some HoldsTime) = Leaf
sorted (some HoldsBearer) = Leaf
sorted (some (HoldsNumber n)) = Leaf

-- where an item's body begins in a part, how large it is, and that its header lies in the part
pub record Framed (s : List ℕ) (start size : ℕ) : Type 0 where
  pub is_start : header_size s ≡ start
  pub is_size : body_size s ≡ size
  pub in_part : start ≤ length s

-- rules 6 to 13 say what a check says, whatever tags the mask stands for and whatever waits
unfoldable pub ItemSays : (parent tag left : ℕ) (progress : Progress) (place : ℕ) (table body : List ℕ) → Result ⊤ Refusal → Type 0
ItemSays parent tag left progress place table body r =
    (seen : List ℕ) (waiting : List (ℕ × List ℕ)) → Seen parent progress.mask seen
    → item_rules (ctx parent (depth_of left) progress.stage seen (entries table) waiting) place tag body ≡ checked r

-- what is broken at the first item of a part: of its own rules, of these and the late 12 just after it, and of all
unfoldable pub own_of : Context → ℕ → List ℕ → Option Refusal
own_of c at s = own c at (get_or s 0 0) (header_size s) (body_size s) (length s) (take (body_size s) (drop (header_size s) s))

unfoldable pub behind_of : Context → ℕ → List ℕ → Option Refusal
behind_of c at s = first (own_of c at s ∷ late_after c (get_or s 0 0) (take (body_size s) (drop (header_size s) s)) ∷ [])

unfoldable pub broken_of : Context → ℕ → List ℕ → Option Refusal
broken_of c at s = broken c at (get_or s 0 0) (header_size s) (body_size s) (length s) (take (body_size s) (drop (header_size s) s))

-- for the late 12: the attributes of a part from one place up to another, and their texts that wait for the table
pub data Waits : (parent base : ℕ) (part : List ℕ) (stop j : ℕ) → List (ℕ × List ℕ) → Type 0 where
  done : (parent base : ℕ) (part : List ℕ) (stop j : ℕ) (ws : List (ℕ × List ℕ)) → j ≡ stop → ws ≡ [] → Waits parent base part stop j ws
  more : (parent base : ℕ) (part : List ℕ) (stop j : ℕ) (ws : List (ℕ × List ℕ)) (start size : ℕ) (later : List (ℕ × List ℕ))
      → 2 ≤ start → Framed (drop j part) start size → j + start + size ≤ stop → stop ≤ length part
      → ws ≡ waits (known parent (get_or (drop j part) 0 0)) [] (base + j) (take size (drop start (drop j part))) ++ later
      → Waits parent base part stop (j + start + size) later → Waits parent base part stop j ws

-- what waits in an element at a place: while only attributes of the top were read their texts, all from the element's start on, and else nothing
unfoldable pub WaitsWhen : Bool → (parent base : ℕ) (part : List ℕ) (at : ℕ) → List (ℕ × List ℕ) → Type 0
WaitsWhen true parent base part at ws = Waits parent base part at 0 ws
WaitsWhen false parent base part at ws = ws ≡ []

-- the late rule says what a check says, of all that waits
unfoldable pub LateSays : Bool → (part : List ℕ) (run parent base : ℕ) (table : List ℕ) → Result ⊤ Refusal → Type 0
LateSays due part run parent base table r = (ws : List (ℕ × List ℕ)) → WaitsWhen due parent base part run ws → late (entries table) ws ≡ checked r

-- each of the three, whatever tags the mask stands for and whatever waits here
unfoldable pub OwnIs : (parent left : ℕ) (progress : Progress) (table : List ℕ) (place : ℕ) (s : List ℕ) → Option Refusal → Type 0
OwnIs parent left progress table place s o =
    (seen : List ℕ) (waiting : List (ℕ × List ℕ)) → Seen parent progress.mask seen
    → own_of (ctx parent (depth_of left) progress.stage seen (entries table) waiting) place s ≡ o

unfoldable pub BehindIs : (parent left : ℕ) (progress : Progress) (table : List ℕ) (base at : ℕ) (part : List ℕ) → Option Refusal → Type 0
BehindIs parent left progress table base at part o =
    (seen : List ℕ) (waiting : List (ℕ × List ℕ)) → Seen parent progress.mask seen → WaitsWhen (is_top parent && eqb progress.stage 0) parent base part at waiting
    → behind_of (ctx parent (depth_of left) progress.stage seen (entries table) waiting) (base + at) (drop at part) ≡ o

unfoldable pub AllIs : (parent left : ℕ) (progress : Progress) (table : List ℕ) (base at : ℕ) (part : List ℕ) → Option Refusal → Type 0
AllIs parent left progress table base at part o =
    (seen : List ℕ) (waiting : List (ℕ × List ℕ)) → Seen parent progress.mask seen → WaitsWhen (is_top parent && eqb progress.stage 0) parent base part at waiting
    → broken_of (ctx parent (depth_of left) progress.stage seen (entries table) waiting) (base + at) (drop at part) ≡ o

-- how far an element was read after an item
unfoldable pub after : ℕ → Progress → Progress
after tag progress = record { stage = stage_after tag; mask = with_bit progress.mask tag }

-- an item that breaks no rule: it lies in its part, its sort is that of its kind, and the next progress is told
pub record Passed (parent : ℕ) (progress : Progress) (s : List ℕ) (i : Item) : Type 0 where
  pub framed : Framed s i.start i.size
  pub fits : i.start + i.size ≤ length s
  pub sorts : i.sort ≡ sorted (known parent (get_or s 0 0))
  pub stages : i.next.stage ≡ stage_after (get_or s 0 0)
  pub seens : (seen : List ℕ) → Seen parent progress.mask seen → Seen parent i.next.mask (get_or s 0 0 ∷ seen)

-- what judging an item says, where `R o` says that o is what is broken
abbrev pub Says : (R : Option Refusal → Type 0) (parent : ℕ) (progress : Progress) (s : List ℕ) → Result Item Refusal → Type 0
Says R parent progress s (Err r) = R (some r)
Says R parent progress s (Ok i) = R none × Passed parent progress s i

-- the late 12 is judged just after an item where that is the table
unfoldable pub table_sort : Sort → Bool
table_sort Skip = false
table_sort Leaf = false
table_sort Table = true
table_sort Element = false

-- an item more is judged, and a record more is counted
abbrev pub item_more : Counts → Counts
item_more n = record { records = n.records; items = n.items + 1 }

abbrev pub record_more : Counts → Counts
record_more n = record { records = n.records + 1; items = n.items }

-- what judging items with so many headers answers where so much was counted before them
unfoldable pub counted : Counts → (headers : ℕ) → Judged → Result Counts Refusal
counted before h (refused r) = Err r
counted before h (accepted t) = Ok (record { records = before.records + count t; items = before.items + h })

-- the end of an element's items, at a place: what still waits is judged without a table
unfoldable pub EndSays : (counts : Counts) (part : List ℕ) (at parent stage base : ℕ) → Result Counts Refusal → Type 0
EndSays counts part at parent stage base r =
    (waiting : List (ℕ × List ℕ)) → WaitsWhen (is_top parent && eqb stage 0) parent base part at waiting → r ≡ counted counts 0 (unless (late [] waiting) (accepted end))

-- none of the counts is above a number: each item takes octets, so that no sum passes 64 bits
pub record AtMost (m : ℕ) (counts : Counts) : Type 0 where
  pub records : counts.records ≤ m
  pub items : counts.items ≤ m

abbrev pub CountsAtMost : ℕ → Result Counts Refusal → Type 0
CountsAtMost m (Ok counts) = AtMost m counts
CountsAtMost m (Err r) = Unit {0}

-- an answer counts what was counted before, and no more
abbrev pub CountsAs : Counts → Result Counts Refusal → Type 0
CountsAs before (Ok counts) = counts ≡ before
CountsAs before (Err r) = Unit {0}
