-- Wrong answers of `insert`, refuted by computing its claim at one memory: a top with nothing in it, lists of two places, but for the sizes of bodies, and no store. The
-- element is a service with nothing in it.
use Rattle.std.specs.Prelude.{Result, Ok, Err}
use mathlib.Core.Path.{◌≡◌, refl, ap, ◌∙◌}
use mathlib.Core.List.{List, [], ◌∷◌}
use Prim.Native.Nat.{ℕ}
use native.Mathlib.Omega.{arith}
use lib.ListN.{get_or}
use Rattle.octets.specs.Numbers.{among, value, digits}
use Rattle.octets.specs.Header.{header_size, body_size, length_field, framed}
use Rattle.values.specs.Table.{rows, kind_in, known, attribute, defaults, default_in}
use Rattle.values.specs.Values.{width, fits, meant, octets_of, is_default}
use Rattle.values.specs.Calls.{default_octets}
use Rattle.format.specs.Answers.{refusal}
use Rattle.format.specs.Tree.{Items, count, find, kind_of, records}
use Rattle.format.specs.Tree.Items.{end, item}
use Rattle.format.specs.Judge.{is_known, is_items, is_tokens, is_text, is_value, is_top, allowed, latest, stage_after, of_top, rule, value_rule, first, kind_rules, item_rules, own, late, late_before, late_after, broken, within, waits, next, unless, followed, joined, by_kind, items}
use Rattle.format.specs.Judge.Judged.{refused, accepted}
use Rattle.format.specs.Meaning.{opens, is_child, value_in, counted, attributes_in, cdata_in, leaf_octets, means, maybe, rising, encode}
use Rattle.format.specs.Writer.{below, past, at_top, placed, body_keeps, keeps, is_end, ruled, body_in, good, here, onward, walk, tree, to_end, rebuilt}
use Rattle.format.specs.Loaded.{stored, store_in, loaded_in}
use Rattle.format.specs.Same.{same_octets}
use Rattle.format.specs.Calls.{places, lay, roomy, edit_answer, tree_given}
use Rattle.format.specs.State.{Memory, places_in, normal_body, body_sizes, lay_tree, same_items, kept, in_order, tree_held}
use Rattle.format.specs.declared.Refusal.{Refusal}
use Rattle.state.specs.Taking.{overflow, settled, left}
use Rattle.edits.specs.Tree.{from, change_at, first_tag, first_inside, holding, before, put_child, children, is_there, is_one_item, inside_of, first_element, element_of, changed}
use Rattle.edits.specs.Tree.Edit.{insert}
use Rattle.edits.specs.Calls.{edited, edited_in, EditClaim}

abbrev service : List ℕ
service = 0x28 ∷ 0x00 ∷ []

abbrev topped : (bodies : List ℕ) → Memory
topped bodies = record {
  lists = record { tags = 0x03 ∷ 9 ∷ []; kinds = 0 ∷ 9 ∷ []; depths = 1 ∷ 9 ∷ []; parents = 0 ∷ 9 ∷ []; starts = 0 ∷ 9 ∷ []; sizes = 0 ∷ 9 ∷ [] };
  bodies = bodies;
  store = [];
}

-- what it holds with the service
abbrev filled : (bodies : List ℕ) → Memory
filled bodies = record {
  lists = record { tags = 0x03 ∷ 0x28 ∷ []; kinds = 0 ∷ 0 ∷ []; depths = 1 ∷ 2 ∷ []; parents = 0 ∷ 0 ∷ []; starts = 0 ∷ 0 ∷ []; sizes = 0 ∷ 0 ∷ [] };
  bodies = bodies;
  store = [];
}

abbrev with-service : Items
with-service = item 0x03 0 [] (item 0x28 0 [] end end) end

record Computed : Type 0 where
  put : edited_in (topped (0 ∷ 9 ∷ [])) (insert 0 0 service) (tree_held 1 (topped (0 ∷ 9 ∷ []))) ≡ accepted with-service
  laid : lay_tree with-service (topped (0 ∷ 9 ∷ [])) ≡ filled (2 ∷ 0 ∷ [])
  nowhere : edited_in (topped (0 ∷ 9 ∷ [])) (insert 0 1 service) (tree_held 1 (topped (0 ∷ 9 ∷ []))) ≡ refused (refusal 18 0)
  crowded : edited_in (topped (0 ∷ [])) (insert 0 0 service) (tree_held 1 (topped (0 ∷ []))) ≡ refused (refusal 14 0)

computed : Computed
unfolding among value digits header_size body_size length_field framed rows kind_in known attribute defaults default_in width fits meant octets_of is_default default_octets count find kind_of records is_known is_items is_tokens is_text is_value is_top allowed latest stage_after of_top rule value_rule first kind_rules item_rules own late late_before late_after broken within waits next unless followed joined by_kind items opens is_child value_in counted attributes_in cdata_in leaf_octets means maybe rising encode below past at_top placed body_keeps keeps is_end ruled body_in good here onward walk tree to_end rebuilt stored store_in loaded_in same_octets places lay roomy tree_given places_in normal_body body_sizes lay_tree same_items kept in_order tree_held overflow settled from change_at first_tag first_inside holding before put_child children is_there is_one_item inside_of first_element element_of changed edited edited_in
computed = record { put = refl; laid = refl; nowhere = refl; crowded = refl }

abbrev number_of : Result ℕ Refusal → ℕ
number_of (Ok n) = 0
number_of (Err r) = r.number

-- a place behind the last child element but one that there isn't
pub place-invented : (m' : Memory) → EditClaim (insert 0 1 service) 1 (topped (0 ∷ 9 ∷ [])) m' (Ok 2) → ⊥
unfolding edit_answer
place-invented m' c = let z : ◌≡◌ {A = ℕ} 0 18 = ap number_of (c.answers ∙ ap edit_answer computed.nowhere) in omega arith

-- the size of the element around it as it was
pub size-left : (a : Result ℕ Refusal) → EditClaim (insert 0 0 service) 1 (topped (0 ∷ 9 ∷ [])) (filled (0 ∷ 0 ∷ [])) a → ⊥
unfolding left
size-left a c =
    let e = c.leaves ∙ (ap (λ j. left j (topped (0 ∷ 9 ∷ []))) computed.put ∙ computed.laid) in
    let z : ◌≡◌ {A = ℕ} 0 2 = ap (λ m. get_or m.bodies 0 0) e in
    omega arith

-- the list of the sizes of bodies not counted among the places
pub sizes-uncounted : (m' : Memory) → EditClaim (insert 0 0 service) 1 (topped (0 ∷ [])) m' (Ok 2) → ⊥
unfolding edit_answer
sizes-uncounted m' c = let z : ◌≡◌ {A = ℕ} 0 14 = ap number_of (c.answers ∙ ap edit_answer computed.crowded) in omega arith

-- lists that are changed before 14
pub changed-before-14 : (a : Result ℕ Refusal) → EditClaim (insert 0 0 service) 1 (topped (0 ∷ [])) (filled (2 ∷ [])) a → ⊥
unfolding left
changed-before-14 a c =
    let e = c.leaves ∙ ap (λ j. left j (topped (0 ∷ []))) computed.crowded in
    let z : ◌≡◌ {A = ℕ} 2 0 = ap (λ m. get_or m.bodies 0 0) e in
    omega arith
