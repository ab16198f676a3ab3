-- The judgement of an object: the refusal with its place, or the located tree (document 01, Framing and Refusal numbers).
use Rattle.std.specs.Prelude.{Bool, true, false, cond, not, ◌&&◌, ◌||◌, List, [], ◌∷◌, ◌++◌, ℕ, zero, suc, ◌+◌, eqb, leb, length, take, drop}
use Rattle.std.proofs.Math.Option.{Option, none, some}
use Rattle.octets.specs.declared.counts.Characters.{Characters}
use Rattle.octets.specs.Counts.{as_characters, characters_within}
use Rattle.octets.specs.Numbers.{among}
use Rattle.octets.specs.Header.{header_size, body_size}
use Rattle.text.specs.Text.{text}
use Rattle.text.specs.Tokens.{Entries, entries, is_table, covered, shown_length}
use Rattle.values.specs.declared.Kind.{Kind}
use Rattle.values.specs.declared.Kind.TheVariants.{HoldsItems, HoldsTokens, HoldsText, HoldsPlain, HoldsTime, HoldsBearer, HoldsNumber}
use Rattle.values.specs.Table.{known, attribute}
use Rattle.values.specs.Values.{fits, wrong_field}
use Rattle.format.specs.declared.Refusal.{Refusal}
use Rattle.format.specs.Answers.{refusal, wrong_value}
use Rattle.format.specs.Tree.{Items}
use Rattle.format.specs.Tree.Items.{end, item}

pub data Judged : Type 0 where
  refused : Refusal → Judged
  accepted : Items → Judged

-- what is asked of a known item's kind; an unknown item has none
unfoldable pub is_known : Option Kind → Bool
is_known none = false
is_known (some k) = true

unfoldable pub is_items : Option Kind → Bool
is_items none = false
is_items (some HoldsItems) = true
is_items (some HoldsTokens) = false
is_items (some HoldsText) = false
is_items (some HoldsPlain) = false
is_items (some HoldsTime) = false
is_items (some HoldsBearer) = false
is_items (some (HoldsNumber n)) = false

unfoldable pub is_tokens : Option Kind → Bool
is_tokens none = false
is_tokens (some HoldsItems) = false
is_tokens (some HoldsTokens) = true
is_tokens (some HoldsText) = false
is_tokens (some HoldsPlain) = false
is_tokens (some HoldsTime) = false
is_tokens (some HoldsBearer) = false
is_tokens (some (HoldsNumber n)) = false

unfoldable pub is_text : Option Kind → Bool
is_text none = false
is_text (some HoldsItems) = false
is_text (some HoldsTokens) = false
is_text (some HoldsText) = true
is_text (some HoldsPlain) = false
is_text (some HoldsTime) = false
is_text (some HoldsBearer) = false
is_text (some (HoldsNumber n)) = false

unfoldable pub is_value : Option Kind → List ℕ → Bool
is_value none o = true
is_value (some k) o = fits k o

-- which field of them is wrong, where they are none
unfoldable pub wrong_in : Option Kind → List ℕ → ℕ
wrong_in none o = 0
wrong_in (some k) o = wrong_field k o

-- where an item stands: the tag of its element (0 for the top, which has none), its depth, how far the order of that element has come, the tags of the items
-- before it in that element, the entries of the token table so far, and the texts of the top's own attributes, with their places, that wait for the table
pub record Context : Type 0 where
  pub parent : ℕ
  pub depth : ℕ
  pub stage : ℕ
  pub seen : List ℕ
  pub table : Entries
  pub waiting : List (ℕ × List ℕ)

-- epg and serviceInformation
unfoldable pub is_top : ℕ → Bool
is_top tag = eqb tag 2 || eqb tag 3

-- rule 4: the object is one of the two tops, and these stand nowhere else; 0x00 stands nowhere; 0x04 and 0x06 stand only directly in the top
unfoldable pub allowed : ℕ → ℕ → Bool
allowed parent tag = cond (eqb parent 0) (is_top tag) (not (eqb tag 0 || is_top tag) && (is_top parent || not (eqb tag 4 || eqb tag 6)))

-- rule 6: the stages of an element are 0 attributes, 1 after the token table, 2 after any other element, 3 after CDATA. This is the last stage at which an
-- item may come: attributes and 0x04 before all else, 0x06 before any element but 0x04, elements and CDATA before the CDATA
unfoldable pub latest : ℕ → ℕ
latest tag = cond (attribute tag || eqb tag 4) 0 (cond (eqb tag 6) 1 2)

-- and this the stage after it
unfoldable pub stage_after : ℕ → ℕ
stage_after tag = cond (attribute tag) 0 (cond (eqb tag 4) 1 (cond (eqb tag 1) 3 2))

-- rule 13: how many characters, after expansion, the CDATA of shortName, mediumName, longName, shortDescription and longDescription may have (document 01, Lengths
-- of shown text: change request 2026-01 counts them in characters)
unfoldable pub limit : ℕ → Option Characters
limit parent =
    cond (eqb parent 0x10) (some (as_characters 8))
    (cond (eqb parent 0x11) (some (as_characters 16))
    (cond (eqb parent 0x12) (some (as_characters 128))
    (cond (eqb parent 0x1A) (some (as_characters 180)) (cond (eqb parent 0x1B) (some (as_characters 1_200)) none))))

unfoldable pub not_above : Characters → Option Characters → Bool
not_above n none = true
not_above n (some most) = characters_within n most

unfoldable pub shown : ℕ → ℕ → Characters → Bool
shown parent tag n = not (eqb tag 1) || not_above n (limit parent)

-- one of the top's own attributes
unfoldable pub of_top : Context → ℕ → Bool
of_top c tag = attribute tag && is_top c.parent

-- a rule that is broken gives its number and a place
unfoldable pub rule : ℕ → ℕ → Bool → Option Refusal
rule n place true = none
rule n place false = some (refusal n place)

-- rule 9 gives the field besides (change request 2026-04)
unfoldable pub value_rule : (place field : ℕ) → Bool → Option Refusal
value_rule place field true = none
value_rule place field false = some (wrong_value place field)

-- of rules in the order in which they are judged, the first that is broken
unfoldable pub first : List (Option Refusal) → Option Refusal
first [] = none
first (none ∷ rs) = first rs
first (some r ∷ rs) = some r

-- rules 9 to 13 by the kind of an item: a value that isn't one, bad text, a bad token table, a token octet without an entry, shown text too long. The top's own
-- attributes are excused from 12 here: they are held against the table later
unfoldable pub kind_rules : Context → ℕ → ℕ → List ℕ → Option Kind → Option Refusal
kind_rules c at tag body k =
    first (value_rule at (wrong_in k body) (is_value k body)
    ∷ rule 10 at (not (is_text k) || text true body)
    ∷ rule 11 at (not (is_tokens k) || is_table body)
    ∷ rule 12 at (not (is_text k) || (of_top c tag || covered c.table body))
    ∷ rule 13 at (not (is_text k) || shown c.parent tag (shown_length c.table body)) ∷ [])

-- rules 6 to 13: out of order, an element (known or not) below depth 16, a known attribute twice in one element, and those by kind
unfoldable pub item_rules : Context → ℕ → ℕ → List ℕ → Option Refusal
item_rules c at tag body =
    first (rule 6 at (leb c.stage (latest tag))
    ∷ rule 7 at (attribute tag || eqb tag 1 || leb c.depth 16)
    ∷ rule 8 at (not (attribute tag && is_known (known c.parent tag) && among tag c.seen))
    ∷ kind_rules c at tag body (known c.parent tag) ∷ [])

-- an item's own rules, 2 to 13, by rising number: its header of h octets and its body of n lie in the part, of which there are room octets; its tag is allowed;
-- where it is the top, nothing follows it. The place is that of its tag, but for 5 that of the first octet behind it
unfoldable pub own : Context → (at tag h n room : ℕ) → List ℕ → Option Refusal
own c at tag h n room body =
    first (rule 2 at (leb h room)
    ∷ rule 3 at (leb (h + n) room)
    ∷ rule 4 at (allowed c.parent tag)
    ∷ rule 5 (at + h + n) (not (eqb c.parent 0) || leb room (h + n))
    ∷ item_rules c at tag body ∷ [])

-- the late rule 12, for the top's own attributes: the first of those that wait with a token octet that has no entry
unfoldable pub late : Entries → List (ℕ × List ℕ) → Option Refusal
late table [] = none
late table (w ∷ ws) = first (rule 12 w.0 (covered table w.1) ∷ late table ws ∷ [])

-- it is judged as soon as the next item is neither one of these attributes nor the table: there is no table then, so there are no entries
unfoldable pub late_before : Context → ℕ → Option Refusal
late_before c tag = cond (attribute tag || eqb tag 4) none (late [] c.waiting)

-- or just after the table, against its entries
unfoldable pub late_after : Context → ℕ → List ℕ → Option Refusal
late_after c tag body = let l = late (entries body) c.waiting in cond (eqb tag 4) l none

-- all that is judged at an item, in order
unfoldable pub broken : Context → (at tag h n room : ℕ) → List ℕ → Option Refusal
broken c at tag h n room body = first (late_before c tag ∷ own c at tag h n room body ∷ late_after c tag body ∷ [])

-- where the first item inside an element stands
unfoldable pub within : Context → ℕ → Context
within c tag = record { parent = tag; depth = suc c.depth; stage = 0; seen = []; table = c.table; waiting = [] }

-- a text attribute of the top joins those that wait
unfoldable pub waits : Option Kind → List (ℕ × List ℕ) → ℕ → List ℕ → List (ℕ × List ℕ)
waits k ws at body = cond (is_text k) (ws ++ ((at, body) ∷ [])) ws

-- where the item after an item stands
unfoldable pub next : Context → ℕ → ℕ → List ℕ → Context
next c at tag body =
    record {
      parent = c.parent;
      depth = c.depth;
      stage = stage_after tag;
      seen = tag ∷ c.seen;
      table = cond (eqb tag 4) (entries body) c.table;
      waiting = cond (of_top c tag) (waits (known c.parent tag) c.waiting at body) [];
    }

-- a refusal, where there is one, or else the answer of what is judged next
unfoldable pub unless : Option Refusal → Judged → Judged
unless none a = a
unless (some r) a = refused r

unfoldable pub followed : (Items → Items) → Judged → Judged
followed f (refused r) = refused r
followed f (accepted t) = accepted (f t)

unfoldable pub joined : (Items → Items → Items) → Judged → Judged → Judged
joined f (refused r) a = refused r
joined f (accepted t) a = followed (f t) a

-- an item whose own rules hold: one that holds items gives what they give, then what the items after it give; any other known item gives itself; an unknown
-- one isn't looked into and gives nothing
unfoldable pub by_kind : Option Kind → (Items → Items → Items) → Judged → Judged → Judged
by_kind k f inside after = cond (is_items k) (joined f inside after) (cond (is_known k) (followed (f end) after) after)

-- the items of one element, or the object, from an offset on, as they are read: first what is judged at an item itself, then what is inside it. The first number is
-- above the length of the part: it only shows that this ends
unfoldable pub items : ℕ → Context → ℕ → List ℕ → Judged
items zero c at part = refused (refusal 0 0)
items (suc k) c at [] = unless (late [] c.waiting) (accepted end)
items (suc k) c at (tag ∷ rest) =
    let h = header_size (tag ∷ rest) in
    let n = body_size (tag ∷ rest) in
    let body = take n (drop h (tag ∷ rest)) in
    let inside = items k (within c tag) (at + h) body in
    let after = items k (next c at tag body) (at + h + n) (drop n (drop h (tag ∷ rest))) in
    let all = by_kind (known c.parent tag) (item tag (at + h) body) inside after in
    unless (broken c at tag h n (suc (length rest)) body) all

abbrev pub read : Context → ℕ → List ℕ → Judged
read c at part = items (suc (length part)) c at part

-- the object is read like the items of an element with the tag 0 and no other rule than one item of depth 1
unfoldable pub outermost : Context
outermost = record { parent = 0; depth = 1; stage = 0; seen = []; table = []; waiting = [] }

-- rule 1, and then all others
unfoldable pub judge : List ℕ → Judged
judge o = let a = read outermost 0 o in unless (rule 1 0 (leb 1 (length o) && leb (length o) 32_768)) a
