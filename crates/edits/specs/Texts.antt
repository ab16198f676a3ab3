-- A text that becomes another one where it lies, by the lists of memory that holds a tree: whether it is there, whether the new one has room, and what is left. Who reads
-- the request has to believe none of this.
use Rattle.std.specs.Prelude.{◌≡◌, Bool, ◌&&◌, List, ◌++◌, ℕ, suc, ◌+◌, ◌-◌, ◌≤◌, ◌<◌, leb, ltb, length, get_or, set, Result, Ok, Err}
use Rattle.std.proofs.Math.Option.{Option, none, some}
use Rattle.std.proofs.lemmas.List.Edits.{sets}
use Rattle.octets.specs.Places.{between}
use Rattle.values.specs.Table.{known}
use Rattle.format.specs.declared.Refusal.{Refusal}
use Rattle.format.specs.Answers.{refusal}
use Rattle.format.specs.Tree.{Items}
use Rattle.format.specs.Judge.{Judged, is_text}
use Rattle.format.specs.Judge.Judged.{refused, accepted}
use Rattle.format.specs.State.{Memory, packed_store, tree_held}
use Rattle.survey.specs.Normal.{framed_size}
use Rattle.edits.specs.Tree.Edit.{replace}
use Rattle.edits.specs.Calls.{edited_in}
use Rattle.edits.specs.Sites.{shifted_starts}
use Rattle.edits.specs.Sizes.{raised, up_from, Climbs}
use Rattle.edits.specs.Moves.{Shifts}

-- what an edit comes to: 16 where there is no tree, the refusal, or how much of the store the tree takes that is to be edited
unfoldable pub replacement_in : Option Items → Judged → Result ℕ Refusal
replacement_in none j = Err (refusal 16 0)
replacement_in (some t) (refused r) = Err r
replacement_in (some t) (accepted u) = Ok (length (packed_store t))

abbrev pub replacement_of : (n i : ℕ) → List ℕ → Memory → Result ℕ Refusal
replacement_of n i o m = replacement_in (tree_held n m) (edited_in m (replace i o) (tree_held n m))

-- record i of n is a text below the top: its tag and that of its parent's record tell
unfoldable pub is_text_at : (n i : ℕ) → (tags parents : List ℕ) → Bool
is_text_at n i tags parents = (ltb 0 i && ltb i n) && is_text (known (get_or tags (get_or parents i 0) 0) (get_or tags i 0))

-- the sizes of the elements around record i, where its body has so many octets
abbrev pub around : (i long : ℕ) → (parents sizes bodies : List ℕ) → List ℕ
around i long parents sizes bodies = raised (up_from parents (get_or parents i 0)) (framed_size (get_or sizes i 0)) (framed_size long) bodies

-- a text of so many octets has room in the store in place of record i's, and in an object
unfoldable pub text_fits : (i long used room : ℕ) → (parents sizes bodies : List ℕ) → Bool
text_fits i long used room parents sizes bodies =
    leb long 32_768 && (leb (used - get_or sizes i 0 + long) room && leb (framed_size (get_or (around i long parents sizes bodies) 0 0)) 32_768)

-- record i has a size, within what is taken of the store, and elements around it
pub record Sized (i used : ℕ) (parents sizes bodies : List ℕ) : Type 0 where
  pub in-parents : i < length parents
  pub in-sizes : i < length sizes
  pub taken : get_or sizes i 0 ≤ used
  pub short : used ≤ 32_768
  pub climbs : Climbs parents bodies (get_or parents i 0) (framed_size (get_or sizes i 0))

-- what replacing asks, once it is known that the new text has room
pub record Settable (n i used : ℕ) (text tags parents starts sizes bodies store : List ℕ) : Type 0 where
  pub sized : Sized i used parents sizes bodies
  pub number : i < n
  pub in-starts : n ≤ length starts
  pub in-bodies : n ≤ length bodies
  pub within : get_or starts i 0 + get_or sizes i 0 ≤ used
  pub stored : used ≤ length store
  pub long : length text ≤ 32_768
  pub room : used - get_or sizes i 0 + length text ≤ length store
  pub fits : get_or (around i (length text) parents sizes bodies) 0 0 ≤ 32_768
  pub shifts : Shifts (suc i) n (get_or starts i 0 + get_or sizes i 0) (get_or starts i 0 + length text) tags starts

-- and what it leaves
pub record TextSet (n i used : ℕ) (text tags parents starts sizes bodies store starts' sizes' bodies' store' : List ℕ) : Type 0 where
  pub starts-are : starts'
      ≡ sets starts (suc i) (shifted_starts (get_or starts i 0 + get_or sizes i 0) (get_or starts i 0 + length text) (between tags (suc i) n) (between starts (suc i) n))
  pub sizes-are : sizes' ≡ set sizes i (length text)
  pub bodies-are : bodies' ≡ set (around i (length text) parents sizes bodies) i (length text)
  pub store_is : store' ≡ sets store (get_or starts i 0) (text ++ between store (get_or starts i 0 + get_or sizes i 0) used)
