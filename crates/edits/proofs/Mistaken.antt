-- Wrong answers of `take_in`, refuted by computing its claim at one object: a top, a schedule in it, a programme in that, and the programme's recommendation "no", which is
-- its default (request 2026-05).
use Rattle.std.specs.Prelude.{Result, Ok, Err}
use mathlib.Core.Path.{◌≡◌, refl, ap, ◌∙◌}
use mathlib.Core.List.{List, [], ◌∷◌}
use Prim.Native.Nat.{ℕ}
use native.Mathlib.Omega.{arith}
use lib.ListN.{get_or}
use Rattle.octets.specs.Counts.{as_octets}
use Rattle.octets.specs.Numbers.{among, value, digits}
use Rattle.octets.specs.Header.{header_size, body_size, length_field, framed}
use Rattle.values.specs.Table.{rows, kind_in, known, attribute, defaults, default_in}
use Rattle.values.specs.Values.{width, fits, meant, octets_of, is_default}
use Rattle.values.specs.Calls.{default_octets}
use Rattle.format.specs.Answers.{refusal}
use Rattle.format.specs.Tree.{Items, count, find, kind_of, records}
use Rattle.format.specs.Tree.Items.{end, item}
use Rattle.format.specs.Judge.{is_known, is_items, is_tokens, is_text, is_value, is_top, allowed, latest, stage_after, of_top, rule, value_rule, first, kind_rules, item_rules, own, late, late_before, late_after, broken, within, waits, next, unless, followed, joined, by_kind, items, outermost, judge}
use Rattle.format.specs.Judge.Judged.{refused, accepted}
use Rattle.format.specs.Meaning.{table_in, opens, is_child, value_in, counted, attributes_in, cdata_in, leaf_octets, means, maybe, rising, encode}
use Rattle.format.specs.Loaded.{stored, store_in, loaded_in}
use Rattle.format.specs.Calls.{places, lay, roomy, edit_answer}
use Rattle.format.specs.State.{Memory, places_in, normal_body, body_sizes, lay_tree}
use Rattle.format.specs.declared.Refusal.{Refusal}
use Rattle.state.specs.Taking.{overflow, settled, taken_in, left, TakeInClaim}

abbrev object : List ℕ
object = 0x02 ∷ 0x07 ∷ 0x21 ∷ 0x05 ∷ 0x1C ∷ 0x03 ∷ 0x83 ∷ 0x01 ∷ 0x01 ∷ []

abbrev nines : List ℕ
nines = 9 ∷ 9 ∷ 9 ∷ 9 ∷ []

-- lists of four places, but for the sizes of bodies, and a store of two octets
abbrev blank : (bodies : List ℕ) → Memory
blank bodies = record { lists = record { tags = nines; kinds = nines; depths = nines; parents = nines; starts = nines; sizes = nines }; bodies = bodies; store = 9 ∷ 9 ∷ [] }

-- what it holds then
abbrev filled : (bodies store : List ℕ) → Memory
filled bodies store = record {
  lists = record {
    tags = 0x02 ∷ 0x21 ∷ 0x1C ∷ 0x83 ∷ [];
    kinds = 0 ∷ 0 ∷ 0 ∷ 1 ∷ [];
    depths = 1 ∷ 2 ∷ 3 ∷ 4 ∷ [];
    parents = 0 ∷ 0 ∷ 1 ∷ 2 ∷ [];
    starts = 0 ∷ 0 ∷ 0 ∷ 0 ∷ [];
    sizes = 0 ∷ 0 ∷ 0 ∷ 1 ∷ [];
  };
  bodies = bodies;
  store = store;
}

-- its loaded tree
abbrev tree : Items
tree = item 0x02 0 [] (item 0x21 0 [] (item 0x1C 0 [] (item 0x83 0 (1 ∷ []) end end) end) end) end

-- the normal form has six octets, in which the default has no part
record Computed : Type 0 where
  taken : taken_in (as_octets 6) (blank nines) (judge object) ≡ accepted tree
  laid : lay_tree tree (blank nines) ≡ filled (4 ∷ 2 ∷ 0 ∷ 1 ∷ []) (1 ∷ 9 ∷ [])
  over : taken_in (as_octets 5) (blank nines) (judge object) ≡ refused (refusal 15 0)
  crowded : taken_in (as_octets 6) (blank (9 ∷ 9 ∷ 9 ∷ [])) (judge object) ≡ refused (refusal 14 0)

computed : Computed
unfolding among value digits header_size body_size length_field framed rows kind_in known attribute defaults default_in width fits meant octets_of is_default default_octets count find kind_of records is_known is_items is_tokens is_text is_value is_top allowed latest stage_after of_top rule value_rule first kind_rules item_rules own late late_before late_after broken within waits next unless followed joined by_kind items outermost judge table_in opens is_child value_in counted attributes_in cdata_in leaf_octets means maybe rising encode stored store_in loaded_in places lay roomy places_in normal_body body_sizes lay_tree overflow settled taken_in
computed = record { taken = refl; laid = refl; over = refl; crowded = refl }

-- what memory is left with
leaves : (m' : Memory) (a : Result ℕ Refusal) → TakeInClaim object (as_octets 6) (blank nines) m' a → m' ≡ filled (4 ∷ 2 ∷ 0 ∷ 1 ∷ []) (1 ∷ 9 ∷ [])
unfolding left
leaves m' a c = c.leaves ∙ (ap (λ j. left j (blank nines)) computed.taken ∙ computed.laid)

-- a default counted in the sizes of the elements around it
pub default-summed : (a : Result ℕ Refusal) → TakeInClaim object (as_octets 6) (blank nines) (filled (7 ∷ 5 ∷ 3 ∷ 1 ∷ []) (1 ∷ 9 ∷ [])) a → ⊥
default-summed a c = let z : ◌≡◌ {A = ℕ} 7 4 = ap (λ m. get_or m.bodies 0 0) (leaves _ a c) in omega arith

-- the sizes of bodies as they were
pub sizes-left : (a : Result ℕ Refusal) → TakeInClaim object (as_octets 6) (blank nines) (filled nines (1 ∷ 9 ∷ [])) a → ⊥
sizes-left a c = let z : ◌≡◌ {A = ℕ} 9 4 = ap (λ m. get_or m.bodies 0 0) (leaves _ a c) in omega arith

abbrev number_of : Result ℕ Refusal → ℕ
number_of (Ok n) = 0
number_of (Err r) = r.number

-- a normal form for which the caller has no room
pub room-passed : (m' : Memory) → TakeInClaim object (as_octets 5) (blank nines) m' (Ok 4) → ⊥
unfolding edit_answer
room-passed m' c = let z : ◌≡◌ {A = ℕ} 0 15 = ap number_of (c.answers ∙ ap edit_answer computed.over) in omega arith

-- memory that is laid over before 15
pub laid-before-15 : (a : Result ℕ Refusal) → TakeInClaim object (as_octets 5) (blank nines) (filled (4 ∷ 2 ∷ 0 ∷ 1 ∷ []) (1 ∷ 9 ∷ [])) a → ⊥
unfolding left
laid-before-15 a c =
    let e = c.leaves ∙ ap (λ j. left j (blank nines)) computed.over in
    let z : ◌≡◌ {A = ℕ} 1 9 = ap (λ m. get_or m.store 0 0) e in
    omega arith

-- the list of the sizes of bodies not counted among the places
pub sizes-uncounted : (m' : Memory) → TakeInClaim object (as_octets 6) (blank (9 ∷ 9 ∷ 9 ∷ [])) m' (Ok 4) → ⊥
unfolding edit_answer
sizes-uncounted m' c = let z : ◌≡◌ {A = ℕ} 0 14 = ap number_of (c.answers ∙ ap edit_answer computed.crowded) in omega arith
