-- Wrong answers of each public call, each refuted at a closed input by what its contract says.
use Rattle.std.specs.Prelude.{Ok, Err}
use mathlib.Core.Path.{◌≡◌, sym, ◌∙◌, ap}
use mathlib.Core.Bool.{Bool, true, false, false≢true}
use mathlib.Core.List.{List, [], ◌∷◌}
use Prim.Native.Nat.{ℕ, ◌^◌, min}
use native.Mathlib.Omega.{arith}
use lib.ListN.{get_or, replicate}
use Rattle.octets.specs.Counts.{as_octets, as_characters}
use Rattle.octets.specs.Numbers.{among}
use Rattle.octets.specs.Puts.{put_answer, put_out, Puts}
use Rattle.octets.proofs.Tests.{never}
use Rattle.octets.specs.declared.PutError.TheVariants.{NoRoom}
use Rattle.text.specs.Text.{layout, token, character, single, goes_on, utf8, text}
use Rattle.text.specs.Tokens.{entries, cut, filled, is_table, entry, or_itself, stands, expanded, present, covers, covered, starts}
use Rattle.text.specs.Leaves.{replaced_by}
use Rattle.text.specs.Index.{start_of, longest, Indexes, usable, place_at, place_by, with_place, entries_below, entries_by}
use Rattle.text.specs.Found.{found}
use Rattle.text.specs.Weighing.{tags, Marks, Widths, Shows, marked, covered_by, width_at, weight, shown_at, shown_by, covered_shown, weighed_by}
use Rattle.text.specs.declared.Weighed.{Weighed}
use Rattle.std.specs.Prelude.{Option, Some, None}

-- one entry: the token 0x01 for the three octets ABC
abbrev abc : List ℕ
abc = 0x01 ∷ 3 ∷ 0x41 ∷ 0x42 ∷ 0x43 ∷ []

-- its index
abbrev abc_index : List ℕ
abc_index = 3 ∷ 2 ∷ replicate 30 0

-- the token 0x01 twice, for A and for B
abbrev twice : List ℕ
twice = 0x01 ∷ 1 ∷ 0x41 ∷ 0x01 ∷ 1 ∷ 0x42 ∷ []

-- check: NUL in two octets passes; a surrogate passes; a private code point passes; the tail of a character may be missing; a token passes where none may stand
pub overlong-passes : true ≡ text true (0xC0 ∷ 0x80 ∷ []) → ⊥
unfolding text utf8 goes_on character
overlong-passes h = false≢true (sym h)

pub surrogate-passes : true ≡ text true (0xED ∷ 0xA0 ∷ 0x80 ∷ []) → ⊥
unfolding text utf8 goes_on character
surrogate-passes h = false≢true (sym h)

pub private-passes : true ≡ text true (0xEF ∷ 0xA3 ∷ 0xBF ∷ []) → ⊥
unfolding text utf8 goes_on character
private-passes h = false≢true (sym h)

pub cut-passes : true ≡ text true (0x41 ∷ 0xC3 ∷ []) → ⊥
unfolding text utf8 single
cut-passes h = false≢true (sym h)

pub token-passes : true ≡ text false (0x01 ∷ []) → ⊥
unfolding text utf8 single layout among
token-passes h = false≢true (sym h)

-- check: the first code point after the private range is refused
pub behind-refused : false ≡ text false (0xEF ∷ 0xA4 ∷ 0x80 ∷ []) → ⊥
unfolding text utf8 goes_on character
behind-refused h = false≢true h

-- is_token: the tab is one; the last of the sixteen is none
pub tab-token : true ≡ token 0x09 → ⊥
unfolding token layout among
tab-token h = false≢true (sym h)

pub last-forgotten : false ≡ token 0x13 → ⊥
unfolding token layout among
last-forgotten h = false≢true h

-- is_table: a repeated tag passes; an entry past the end passes; an empty text is refused
pub twice_passes : true ≡ is_table twice → ⊥
unfolding is_table filled among text utf8 single token layout
twice_passes h = false≢true (sym h)

pub past-passes : true ≡ is_table (0x01 ∷ 2 ∷ 0x41 ∷ []) → ⊥
unfolding is_table filled
past-passes h = false≢true (sym h)

pub empty-refused : false ≡ is_table (0x01 ∷ 0 ∷ []) → ⊥
unfolding is_table filled among text utf8 token layout
empty-refused h = false≢true h

-- index_of: where the entry begins and not its text; the last entry of a token and not the first; the width of an octet for the longest text
pub entry_named : (index : List ℕ) → get_or index 1 0 ≡ 0 → Indexes (entries abc) index → ⊥
unfolding found entries cut replaced_by start_of token layout among
entry_named index h w = let z : ◌≡◌ {A = ℕ} 0 2 = sym h ∙ w.each 1 (omega arith) (omega arith) in omega arith

pub last-named : (index : List ℕ) → get_or index 1 0 ≡ 5 → Indexes (entries twice) index → ⊥
unfolding found entries cut replaced_by start_of token layout among
last-named index h w = let z : ◌≡◌ {A = ℕ} 5 2 = sym h ∙ w.each 1 (omega arith) (omega arith) in omega arith

pub longest-forgotten : (index : List ℕ) → get_or index 0 0 ≡ 1 → Indexes (entries abc) index → ⊥
unfolding longest entries cut
longest-forgotten index h w = let z : ◌≡◌ {A = ℕ} 1 3 = sym h ∙ w.widest in omega arith

-- tokens_of: an entry's token is forgotten; a tag that is no token gets a bit
pub token-forgotten : Marks 0 (tags (entries abc)) → ⊥
unfolding token layout among tags entries cut
token-forgotten h = false≢true (h.bits 0x01)

pub tab-marked : Marks (2 ^ 0x09) (tags (entries (0x09 ∷ 0 ∷ []))) → ⊥
unfolding token layout among tags entries cut
tab-marked h = false≢true (sym (h.bits 0x09))

-- widths_of: a token has the width of an octet; of two entries the last counts
pub width-unexpanded : (w : List ℕ) → get_or w 0x01 0 ≡ 1 → Widths 32 (entries abc) w → ⊥
unfolding stands token layout among entries cut entry or_itself
width-unexpanded w e h = let z : ◌≡◌ {A = ℕ} 1 3 = sym e ∙ h.each 0x01 (omega arith) in omega arith

pub width-of-last : (w : List ℕ) → get_or w 0x01 0 ≡ 0 → Widths 32 (entries (0x01 ∷ 1 ∷ 0x41 ∷ 0x01 ∷ 0 ∷ [])) w → ⊥
unfolding stands token layout among entries cut entry or_itself
width-of-last w e h = let z : ◌≡◌ {A = ℕ} 0 1 = sym e ∙ h.each 0x01 (omega arith) in omega arith

-- characters_of: a token counts as one character; of its entry's text the octets are counted
pub count-unexpanded : (w : List ℕ) → get_or w 0x01 0 ≡ 1 → Shows 32 (entries abc) w → ⊥
unfolding starts stands token layout among entries cut entry or_itself
count-unexpanded w e h = let z : ◌≡◌ {A = ℕ} 1 3 = sym e ∙ h.each 0x01 (omega arith) in omega arith

pub count-of-octets : (w : List ℕ) → get_or w 0x01 0 ≡ 2 → Shows 32 (entries (0x01 ∷ 2 ∷ 0xC3 ∷ 0xA9 ∷ [])) w → ⊥
unfolding starts stands token layout among entries cut entry or_itself
count-of-octets w e h = let z : ◌≡◌ {A = ℕ} 2 1 = sym e ∙ h.each 0x01 (omega arith) in omega arith

-- how many characters an answer of `weigh` says are shown
abbrev shown_in : Option Weighed → ℕ
shown_in None = 0
shown_in (Some x) = x.shown.0

-- and whether each token has an entry
abbrev covered_in : Option Weighed → Bool
covered_in None = false
covered_in (Some x) = x.covered

-- weigh: an overlong form is text; a token counts as one character; octets are counted; a token without a mark passes; the count does not stop at the most that is
-- asked for
pub weighed-overlong : Some (covered_shown true (as_characters 1)) ≡ weighed_by 0 [] (0xC0 ∷ 0x80 ∷ []) (as_characters 9) → ⊥
unfolding weighed_by text utf8 goes_on character
weighed-overlong h = never (cc)

pub weighed-unexpanded : Some (covered_shown true (as_characters 2)) ≡ weighed_by (2 ^ 0x01) (1 ∷ 3 ∷ []) (0x01 ∷ 0x44 ∷ []) (as_characters 9) → ⊥
unfolding weighed_by text utf8 single layout among token covered_by marked shown_by shown_at
weighed-unexpanded h = let z : ◌≡◌ {A = ℕ} 2 4 = ap shown_in h in omega arith

pub weighed-octets : Some (covered_shown true (as_characters 2)) ≡ weighed_by 0 [] (0xC3 ∷ 0xA9 ∷ []) (as_characters 9) → ⊥
unfolding weighed_by text utf8 goes_on character layout among token covered_by marked shown_by shown_at
weighed-octets h = let z : ◌≡◌ {A = ℕ} 2 1 = ap shown_in h in omega arith

pub weighed-bare : Some (covered_shown true (as_characters 1)) ≡ weighed_by 0 (1 ∷ 1 ∷ []) (0x01 ∷ []) (as_characters 9) → ⊥
unfolding weighed_by text utf8 single layout among token covered_by marked shown_by shown_at
weighed-bare h = false≢true (sym (ap covered_in h))

pub weighed-on : Some (covered_shown true (as_characters 2)) ≡ weighed_by 0 [] (0x41 ∷ 0x42 ∷ []) (as_characters 1) → ⊥
unfolding weighed_by text utf8 single layout among token covered_by marked shown_by shown_at
weighed-on h = let z : ◌≡◌ {A = ℕ} 2 1 = ap shown_in h in omega arith

-- is_covered: a token without an entry passes; a tab wants an entry
pub bare-passes : true ≡ covered (entries abc) (0x02 ∷ []) → ⊥
unfolding covered covers token layout among entries cut entry present
bare-passes h = false≢true (sym h)

pub tab-refused : false ≡ covered (entries abc) (0x09 ∷ []) → ⊥
unfolding covered covers token layout among
tab-refused h = false≢true h

-- expanded_size: the token counts as one octet; characters are counted; it does not stop at the most that is asked for
pub size-unexpanded : as_octets 2 ≡ as_octets (min 9 (weight (1 ∷ 3 ∷ []) (0x01 ∷ 0x44 ∷ []))) → ⊥
unfolding weight width_at
size-unexpanded h = let z : ◌≡◌ {A = ℕ} 2 4 = ap (λ n. n.0) h in omega arith

pub characters-counted : as_octets 1 ≡ as_octets (min 9 (weight [] (0xC3 ∷ 0xA9 ∷ []))) → ⊥
unfolding weight width_at
characters-counted h = let z : ◌≡◌ {A = ℕ} 1 2 = ap (λ n. n.0) h in omega arith

pub size-runs-on : as_octets 4 ≡ as_octets (min 3 (weight (1 ∷ 3 ∷ []) (0x01 ∷ 0x44 ∷ []))) → ⊥
unfolding weight width_at
size-runs-on h = let z : ◌≡◌ {A = ℕ} 4 3 = ap (λ n. n.0) h in omega arith

-- expand: a room of just the size is refused; what fits is written there and no more is told than its size; what doesn't fit is written in part; by an index
-- that tells of no entry, one is taken from the table
pub room-refused : (after : List ℕ) → Puts true (expanded (entries_by abc_index abc) (0x01 ∷ [])) 0 (0 ∷ 0 ∷ 0 ∷ []) after (Err NoRoom) → ⊥
unfolding put_answer expanded stands token layout among entry or_itself entries_by entries_below with_place place_by place_at usable
room-refused after h = let e = h.answers in never (cc)

pub size-told : (after : List ℕ) → Puts true (expanded (entries_by abc_index abc) (0x01 ∷ [])) 1 (0 ∷ 0 ∷ 0 ∷ 0 ∷ []) after (Ok 3) → ⊥
unfolding put_answer expanded stands token layout among entry or_itself entries_by entries_below with_place place_by place_at usable
size-told after h = let e = h.answers in let z : ◌≡◌ {A = ℕ} 3 4 = cc in omega arith

pub part-written : Puts true (expanded (entries_by abc_index abc) (0x01 ∷ [])) 0 (0 ∷ 0 ∷ []) (0x41 ∷ 0x42 ∷ []) (Err NoRoom) → ⊥
unfolding put_out expanded stands token layout among entry or_itself entries_by entries_below with_place place_by place_at usable
part-written h = let e = h.leaves in let z : ◌≡◌ {A = ℕ} 0x41 0 = cc in omega arith

pub index-unasked : (after : List ℕ) → Puts true (expanded (entries_by (replicate 32 0) abc) (0x01 ∷ [])) 0 (0 ∷ 0 ∷ 0 ∷ []) after (Ok 3) → ⊥
unfolding put_answer expanded stands token layout among entry or_itself entries_by entries_below with_place place_by place_at usable
index-unasked after h = let e = h.answers in let z : ◌≡◌ {A = ℕ} 3 1 = cc in omega arith
