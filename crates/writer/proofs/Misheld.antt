-- Answers that `write_state` doesn't give, refuted at one memory: a top, a schedule in it, a programme in that, and the recommendation of the programme, whose value 1,
-- "no", is its default (request 2026-05), so that it is held but not written.
use Rattle.std.specs.Prelude.{Ok, Err}
use mathlib.Core.Path.{◌≡◌, refl, ◌∙◌}
use mathlib.Core.List.{List, [], ◌∷◌}
use Prim.Native.Nat.{ℕ}
use native.Mathlib.Omega.{arith}
use Rattle.octets.specs.Counts.{as_octets}
use Rattle.octets.specs.Numbers.{among, value, digits}
use Rattle.octets.specs.Header.{length_field, framed}
use Rattle.values.specs.Table.{rows, kind_in, known, attribute, defaults, default_in}
use Rattle.values.specs.Values.{width, fits, meant, octets_of, is_default}
use Rattle.format.specs.Answers.{refusal}
use Rattle.format.specs.Tree.{find, kind_of}
use Rattle.format.specs.Judge.{is_known, is_items, is_tokens, is_text, is_value, is_top, allowed, latest, stage_after}
use Rattle.format.specs.Meaning.{opens, is_child, value_in, counted, attributes_in, cdata_in, leaf_octets, means, maybe, rising, encode}
use Rattle.format.specs.Writer.{below, past, at_top, placed, body_keeps, keeps, body_in, good, here, onward, walk, tree, to_end, rebuilt}
use Rattle.format.specs.Loaded.{stored, store_in, loaded_in}
use Rattle.format.specs.Same.{same_octets}
use Rattle.format.specs.Calls.{places, roomy, tree_given, write_answer, write_octets}
use Rattle.format.specs.State.{Memory, normal_body, body_sizes, same_items, kept, in_order, tree_held}
use Rattle.state.specs.Taking.{WriteStateClaim}

-- with the sizes of the four bodies
abbrev day : List ℕ → Memory
day bodies = record {
  lists = record {
    tags = 0x02 ∷ 0x21 ∷ 0x1C ∷ 0x83 ∷ [];
    kinds = 0 ∷ 0 ∷ 0 ∷ 1 ∷ [];
    depths = 1 ∷ 2 ∷ 3 ∷ 4 ∷ [];
    parents = 0 ∷ 0 ∷ 1 ∷ 2 ∷ [];
    starts = 0 ∷ 0 ∷ 0 ∷ 0 ∷ [];
    sizes = 0 ∷ 0 ∷ 0 ∷ 1 ∷ [];
  };
  bodies = bodies;
  store = 1 ∷ [];
}

abbrev right : Memory
right = day (4 ∷ 2 ∷ 0 ∷ 1 ∷ [])

-- the recommendation counted as if it were written
abbrev wrong : Memory
wrong = day (7 ∷ 5 ∷ 3 ∷ 1 ∷ [])

abbrev room : List ℕ
room = 9 ∷ 9 ∷ 9 ∷ 9 ∷ 9 ∷ 9 ∷ 9 ∷ []

abbrev written : List ℕ
written = 0x02 ∷ 0x04 ∷ 0x21 ∷ 0x02 ∷ 0x1C ∷ 0x00 ∷ 9 ∷ []

record Computed : Type 0 where
  octets : write_octets (as_octets 7) (tree_held 4 right) ≡ 0x02 ∷ 0x04 ∷ 0x21 ∷ 0x02 ∷ 0x1C ∷ 0x00 ∷ []
  few : write_answer (as_octets 5) (tree_held 4 right) ≡ Err (refusal 15 0)
  apart : write_answer (as_octets 7) (tree_held 4 wrong) ≡ Err (refusal 16 0)

computed : Computed
unfolding among value digits length_field framed rows kind_in known attribute defaults default_in width fits meant octets_of is_default find kind_of is_known is_items is_tokens is_text is_value is_top allowed latest stage_after opens is_child value_in counted attributes_in cdata_in leaf_octets means maybe rising encode below past at_top placed body_keeps keeps body_in good here onward walk tree to_end rebuilt stored store_in loaded_in same_octets places tree_given normal_body body_sizes same_items kept in_order tree_held roomy write_answer write_octets
computed = record { octets = refl; few = refl; apart = refl }

-- the count, and no octet stored
pub state-unstored : WriteStateClaim 4 right room room (Ok (as_octets 6)) → ⊥
state-unstored c = let e : room ≡ written = c.leaves ∙ rw computed.octets in let z : ◌≡◌ {A = ℕ} 9 0x02 = cc in omega arith

-- memory whose sizes are wrong, written by them
pub sizes-believed : (after : List ℕ) → WriteStateClaim 4 wrong room after (Ok (as_octets 6)) → ⊥
sizes-believed after c = let e : Ok (as_octets 6) ≡ Err (refusal 16 0) = c.answers ∙ computed.apart in let z : ◌≡◌ {A = ℕ} 0 1 = cc in omega arith

-- a room that is too small, answered by a count
pub few-written : (after : List ℕ) → WriteStateClaim 4 right (9 ∷ 9 ∷ 9 ∷ 9 ∷ 9 ∷ []) after (Ok (as_octets 6)) → ⊥
few-written after c = let e : Ok (as_octets 6) ≡ Err (refusal 15 0) = c.answers ∙ computed.few in let z : ◌≡◌ {A = ℕ} 0 1 = cc in omega arith
