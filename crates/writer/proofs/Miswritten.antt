-- Answers that `write` doesn't give, refuted at one object: a top with two attributes whose records come by falling tag.
use Rattle.std.specs.Prelude.{Result, Ok, Err}
use mathlib.Core.Path.{◌≡◌, refl, ap, ◌∙◌}
use mathlib.Core.List.{List, [], ◌∷◌}
use Prim.Native.Nat.{ℕ}
use native.Mathlib.Omega.{arith}
use Rattle.octets.specs.Counts.{as_octets}
use Rattle.octets.specs.Numbers.{among, digits}
use Rattle.octets.specs.Header.{length_field, framed}
use Rattle.octets.specs.declared.counts.Octets.{Octets}
use Rattle.text.specs.Text.{layout, token, character, single, goes_on, utf8, text}
use Rattle.text.specs.Tokens.{entry, or_itself, stands, expanded, starts, shown_length}
use Rattle.values.specs.Table.{rows, kind_in, known, attribute, defaults, default_in}
use Rattle.values.specs.Values.{fits, meant, octets_of, is_default}
use Rattle.format.specs.Answers.{refusal}
use Rattle.format.specs.Tree.{find, kind_of}
use Rattle.format.specs.Judge.{is_known, is_items, is_tokens, is_text, is_value, is_top, allowed, latest, stage_after, limit, not_above, shown}
use Rattle.format.specs.Meaning.{opens, is_child, value_in, counted, attributes_in, cdata_in, leaf_octets, means, maybe, rising, encode}
use Rattle.format.specs.Writer.{below, past, at_top, placed, body_keeps, keeps, body_in, good, here, onward, walk, tree, to_end, rebuilt}
use Rattle.format.specs.Loaded.{stored}
use Rattle.format.specs.Calls.{places, roomy, tree_given, write_answer, write_octets}
use Rattle.format.specs.State.{Memory, normal_body, body_sizes, tree_in}
use Rattle.format.specs.declared.Refusal.{Refusal}
use Rattle.state.specs.Taking.{write_sizes, WriteClaim}

-- the list of sizes has a place more than there are records
abbrev given : Memory
given = record {
  lists = record {
    tags = 0x03 ∷ 0x83 ∷ 0x82 ∷ [];
    kinds = 0 ∷ 1 ∷ 1 ∷ [];
    depths = 1 ∷ 2 ∷ 2 ∷ [];
    parents = 0 ∷ 0 ∷ 0 ∷ [];
    starts = 0 ∷ 0 ∷ 1 ∷ [];
    sizes = 0 ∷ 1 ∷ 1 ∷ [];
  };
  bodies = 9 ∷ 9 ∷ 9 ∷ 9 ∷ [];
  store = 0x61 ∷ 0x62 ∷ [];
}

abbrev room : List ℕ
room = 9 ∷ 9 ∷ 9 ∷ 9 ∷ 9 ∷ 9 ∷ 9 ∷ 9 ∷ 9 ∷ []

-- 0x82 before 0x83, eight octets in all, the ninth place as before, and the sizes of three bodies; in a room of seven, nothing, and 15
record Computed : Type 0 where
  count : write_answer (as_octets 9) (tree_in 3 given) ≡ Ok (as_octets 8)
  octets : write_octets (as_octets 9) (tree_in 3 given) ≡ 0x03 ∷ 0x06 ∷ 0x82 ∷ 0x01 ∷ 0x62 ∷ 0x83 ∷ 0x01 ∷ 0x61 ∷ []
  sizes : write_sizes (as_octets 9) (tree_in 3 given) ≡ 6 ∷ 1 ∷ 1 ∷ []
  few : write_answer (as_octets 7) (tree_in 3 given) ≡ Err (refusal 15 0)
  none : write_octets (as_octets 7) (tree_in 3 given) ≡ []
  unsized : write_sizes (as_octets 7) (tree_in 3 given) ≡ []

computed : Computed
unfolding among digits length_field framed layout token character single goes_on utf8 text entry or_itself stands expanded starts shown_length rows kind_in known attribute defaults default_in fits meant octets_of is_default find kind_of is_known is_items is_tokens is_text is_value is_top allowed latest stage_after limit not_above shown opens is_child value_in counted attributes_in cdata_in leaf_octets means maybe rising encode below past at_top placed body_keeps keeps body_in good here onward walk tree to_end rebuilt stored places roomy tree_given normal_body body_sizes write_answer write_octets write_sizes
computed = record { count = refl; octets = refl; sizes = refl; few = refl; none = refl; unsized = refl }

abbrev written : List ℕ
written = 0x03 ∷ 0x06 ∷ 0x82 ∷ 0x01 ∷ 0x62 ∷ 0x83 ∷ 0x01 ∷ 0x61 ∷ 9 ∷ []

abbrev Writes : (bodies' before after : List ℕ) → ℕ → Type 0
Writes bodies' before after k = WriteClaim 3 given bodies' before after (Ok (as_octets k))

-- the count, and no octet stored
pub nothing_stored : (bodies' : List ℕ) → Writes bodies' room room 8 → ⊥
nothing_stored bodies' c = let e : room ≡ written = c.leaves ∙ rw computed.octets in let z : ◌≡◌ {A = ℕ} 9 0x03 = cc in omega arith

-- attributes as their records come
abbrev falling : List ℕ
falling = 0x03 ∷ 0x06 ∷ 0x83 ∷ 0x01 ∷ 0x61 ∷ 0x82 ∷ 0x01 ∷ 0x62 ∷ 9 ∷ []

pub falling-stored : (bodies' : List ℕ) → Writes bodies' room falling 8 → ⊥
falling-stored bodies' c = let e : falling ≡ written = c.leaves ∙ rw computed.octets in let z : ◌≡◌ {A = ℕ} 0x83 0x82 = cc in omega arith

-- the length of the body without its last item
abbrev shorter : List ℕ
shorter = 0x03 ∷ 0x03 ∷ 0x82 ∷ 0x01 ∷ 0x62 ∷ 0x83 ∷ 0x01 ∷ 0x61 ∷ 9 ∷ []

pub length-without-last : (bodies' : List ℕ) → Writes bodies' room shorter 8 → ⊥
length-without-last bodies' c = let e : shorter ≡ written = c.leaves ∙ rw computed.octets in let z : ◌≡◌ {A = ℕ} 0x03 0x06 = cc in omega arith

-- a count that is not that of the octets
abbrev count_of : Result Octets Refusal → ℕ
count_of (Ok n) = n.0
count_of (Err r) = 0

pub other-count : (bodies' after : List ℕ) → Writes bodies' room after 9 → ⊥
other-count bodies' after c = let z : ◌≡◌ {A = ℕ} 9 8 = ap count_of (c.answers ∙ computed.count) in omega arith

-- what fits of the octets, before 15
abbrev small : List ℕ
small = 9 ∷ 9 ∷ 9 ∷ 9 ∷ 9 ∷ 9 ∷ 9 ∷ []

abbrev partly : List ℕ
partly = 0x03 ∷ 0x06 ∷ 0x82 ∷ 0x01 ∷ 0x62 ∷ 0x83 ∷ 0x01 ∷ []

pub partly-stored : (bodies' : List ℕ) → WriteClaim 3 given bodies' small partly (Err (refusal 15 0)) → ⊥
partly-stored bodies' c = let e : partly ≡ small = c.leaves ∙ rw computed.none in let z : ◌≡◌ {A = ℕ} 0x03 9 = cc in omega arith

-- 16 where the room is what is wrong
abbrev number_of : Result Octets Refusal → ℕ
number_of (Ok n) = 0
number_of (Err r) = r.number

pub ill-formed-for-room : (bodies' after : List ℕ) → WriteClaim 3 given bodies' small after (Err (refusal 16 0)) → ⊥
ill-formed-for-room bodies' after c = let e : ◌≡◌ {A = ℕ} 16 15 = ap number_of (c.answers ∙ computed.few) in omega arith

-- a list of sizes as it was, behind octets that are written by them
pub sizes-unstored : (after : List ℕ) → Writes given.bodies room after 8 → ⊥
sizes-unstored after c = let e : given.bodies ≡ 6 ∷ 1 ∷ 1 ∷ 9 ∷ [] = c.sizes ∙ rw computed.sizes in let z : ◌≡◌ {A = ℕ} 9 6 = cc in omega arith

-- sizes stored before the room is known to be too small
pub sizes-on-refusal : (after : List ℕ) → WriteClaim 3 given (6 ∷ 1 ∷ 1 ∷ 9 ∷ []) small after (Err (refusal 15 0)) → ⊥
sizes-on-refusal after c = let e : 6 ∷ 1 ∷ 1 ∷ 9 ∷ [] ≡ given.bodies = c.sizes ∙ rw computed.unsized in let z : ◌≡◌ {A = ℕ} 6 9 = cc in omega arith
