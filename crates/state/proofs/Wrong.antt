-- Wrong answers of `held`, and of what is asked of a size or a record, refuted by computing the definitions at closed memory.
use Rattle.std.specs.Prelude.{Option, Some, None}
use mathlib.Core.Path.{◌≡◌, refl, sym, ◌∙◌}
use mathlib.Core.List.{List, [], ◌∷◌}
use Prim.Native.Nat.{ℕ}
use native.Mathlib.Omega.{arith}
use Rattle.octets.specs.Numbers.{among, value, digits}
use Rattle.octets.specs.Header.{length_field, framed}
use Rattle.values.specs.Table.{rows, kind_in, known, attribute, defaults, default_in}
use Rattle.values.specs.Times.{bits, long_flag, offset_flag, offset_octet, time_of, in_range, is_time, sign, time_octets}
use Rattle.values.specs.Values.{width, fits, meant, octets_of, is_default}
use Rattle.values.specs.Calls.{default_octets}
use Rattle.format.specs.Tree.{find, kind_of}
use Rattle.format.specs.Judge.{is_known, is_items, is_tokens, is_text, is_value, is_top, allowed, latest, stage_after}
use Rattle.format.specs.Meaning.{opens, is_child, value_in, counted, attributes_in, cdata_in, leaf_octets, means, maybe, rising, encode}
use Rattle.format.specs.Writer.{below, past, at_top, placed, body_keeps, keeps, body_in, good, here, onward, walk, tree, to_end, rebuilt}
use Rattle.format.specs.Loaded.{stored, store_in, loaded_in}
use Rattle.format.specs.Same.{same_octets}
use Rattle.format.specs.Calls.{places, tree_given}
use Rattle.format.specs.State.{Memory, normal_body, body_sizes, same_items, kept, in_order, tree_held}
use Rattle.survey.specs.Normal.{framed_size}
use Rattle.state.specs.Order.{held_as, item_adds, added_by}

-- a top, a schedule in it, a programme in that, and the recommendation of the programme, whose octet begins at a place of the store. 1, "no", is its default (request
-- 2026-05) and 2 is "yes"
abbrev day : (start : ℕ) → (bodies store : List ℕ) → Memory
day start bodies store = record {
  lists = record {
    tags = 0x02 ∷ 0x21 ∷ 0x1C ∷ 0x83 ∷ [];
    kinds = 0 ∷ 0 ∷ 0 ∷ 1 ∷ [];
    depths = 1 ∷ 2 ∷ 3 ∷ 4 ∷ [];
    parents = 0 ∷ 0 ∷ 1 ∷ 2 ∷ [];
    starts = 0 ∷ 0 ∷ 0 ∷ start ∷ [];
    sizes = 0 ∷ 0 ∷ 0 ∷ 1 ∷ [];
  };
  bodies = bodies;
  store = store;
}

-- a top with its creation time
abbrev made : (size : ℕ) → (bodies store : List ℕ) → Memory
made size bodies store = record {
  lists = record { tags = 0x03 ∷ 0x81 ∷ []; kinds = 0 ∷ 1 ∷ []; depths = 1 ∷ 2 ∷ []; parents = 0 ∷ 0 ∷ []; starts = 0 ∷ 0 ∷ []; sizes = 0 ∷ size ∷ [] };
  bodies = bodies;
  store = store;
}

record Computed : Type 0 where
  said : held_as (tree_held 4 (day 0 (7 ∷ 5 ∷ 3 ∷ 1 ∷ []) (2 ∷ 9 ∷ []))) ≡ Some 1
  default : held_as (tree_held 4 (day 0 (4 ∷ 2 ∷ 0 ∷ 1 ∷ []) (1 ∷ []))) ≡ Some 1
  counted-in : held_as (tree_held 4 (day 0 (7 ∷ 5 ∷ 3 ∷ 1 ∷ []) (1 ∷ []))) ≡ None
  gap : held_as (tree_held 4 (day 1 (7 ∷ 5 ∷ 3 ∷ 1 ∷ []) (9 ∷ 2 ∷ []))) ≡ None
  short : held_as (tree_held 4 (day 0 (7 ∷ 5 ∷ 3 ∷ []) (2 ∷ []))) ≡ None
  part : held_as (tree_held 3 (day 0 (4 ∷ 2 ∷ 0 ∷ 1 ∷ []) (1 ∷ []))) ≡ Some 0
  timed : held_as (tree_held 2 (made 4 (6 ∷ 4 ∷ []) (0x30 ∷ 0xD4 ∷ 0x00 ∷ 0x00 ∷ []))) ≡ Some 4
  minus-zero : held_as (tree_held 2 (made 5 (7 ∷ 5 ∷ []) (0x30 ∷ 0xD4 ∷ 0x10 ∷ 0x00 ∷ 0x20 ∷ []))) ≡ None

computed : Computed
unfolding among value digits length_field framed rows kind_in known attribute defaults default_in bits long_flag offset_flag offset_octet time_of in_range is_time sign time_octets width fits meant octets_of is_default find kind_of is_known is_items is_tokens is_text is_value is_top allowed latest stage_after opens is_child value_in counted attributes_in cdata_in leaf_octets means maybe rising encode below past at_top placed body_keeps keeps body_in good here onward walk tree to_end rebuilt stored store_in loaded_in same_octets places tree_given normal_body body_sizes same_items kept in_order tree_held held_as
computed = record { said = refl; default = refl; counted-in = refl; gap = refl; short = refl; part = refl; timed = refl; minus-zero = refl }

-- a tree told as none, where a default isn't counted in the sizes of the elements around it
pub default-untold : held_as (tree_held 4 (day 0 (4 ∷ 2 ∷ 0 ∷ 1 ∷ []) (1 ∷ []))) ≡ None → ⊥
default-untold h = let e : ◌≡◌ {A = Option ℕ} None (Some 1) = sym h ∙ computed.default in let z : ◌≡◌ {A = ℕ} 0 1 = cc in omega arith

-- sizes that count a default
pub default-counted : held_as (tree_held 4 (day 0 (7 ∷ 5 ∷ 3 ∷ 1 ∷ []) (1 ∷ []))) ≡ Some 1 → ⊥
default-counted h = let e : ◌≡◌ {A = Option ℕ} None (Some 1) = sym computed.counted-in ∙ h in let z : ◌≡◌ {A = ℕ} 0 1 = cc in omega arith

-- a store with a gap
pub gap-held : held_as (tree_held 4 (day 1 (7 ∷ 5 ∷ 3 ∷ 1 ∷ []) (9 ∷ 2 ∷ []))) ≡ Some 2 → ⊥
gap-held h = let e : ◌≡◌ {A = Option ℕ} None (Some 2) = sym computed.gap ∙ h in let z : ◌≡◌ {A = ℕ} 0 1 = cc in omega arith

-- all of the lent store told as taken
pub whole-store : held_as (tree_held 4 (day 0 (7 ∷ 5 ∷ 3 ∷ 1 ∷ []) (2 ∷ 9 ∷ []))) ≡ Some 2 → ⊥
whole-store h = let e : ◌≡◌ {A = Option ℕ} (Some 2) (Some 1) = sym h ∙ computed.said in let z : ◌≡◌ {A = ℕ} 2 1 = cc in omega arith

-- a value that isn't in its normal octets
pub minus-zero-held : held_as (tree_held 2 (made 5 (7 ∷ 5 ∷ []) (0x30 ∷ 0xD4 ∷ 0x10 ∷ 0x00 ∷ 0x20 ∷ []))) ≡ Some 5 → ⊥
minus-zero-held h = let e : ◌≡◌ {A = Option ℕ} None (Some 5) = sym computed.minus-zero ∙ h in let z : ◌≡◌ {A = ℕ} 0 1 = cc in omega arith

-- the short header still taken for a body of 254 octets, the long one for 253
pub framed-told : (framed_size 253 ≡ 255) × (framed_size 254 ≡ 258)
unfolding digits length_field framed_size
framed-told = (refl, refl)

-- a default counted, or another value left out: the recommendations "no" and "yes" of a programme, by themselves and as records
pub adds-told : (item_adds 0x1C 0x83 (1 ∷ []) 1 ≡ 0) × (item_adds 0x1C 0x83 (2 ∷ []) 1 ≡ 3)
unfolding digits value length_field framed_size rows kind_in known attribute defaults default_in width fits meant octets_of is_default default_octets
adds-told = (refl, refl)

pub added-told : (added_by 0x1C 0x83 0 1 (1 ∷ []) 1 ≡ 0) × (added_by 0x1C 0x83 0 1 (2 ∷ []) 1 ≡ 3)
unfolding digits value length_field framed_size rows kind_in known attribute defaults default_in width fits meant octets_of is_default default_octets added_by
added-told = (refl, refl)
