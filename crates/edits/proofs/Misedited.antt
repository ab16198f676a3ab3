-- Wrong answers of `replace_text` and of `remove`, refuted by computing the definitions at closed memory.
use Rattle.std.specs.Prelude.{Result, Ok, Err}
use mathlib.Core.Path.{◌≡◌, refl, sym, ap, ◌∙◌}
use mathlib.Core.List.{[], ◌∷◌}
use Prim.Native.Nat.{ℕ}
use native.Mathlib.Omega.{arith}
use lib.ListN.{get_or}
use Rattle.octets.specs.Numbers.{among, value, digits}
use Rattle.octets.specs.Header.{length_field, framed}
use Rattle.text.specs.Text.{layout, token, character, single, goes_on, utf8, text}
use Rattle.text.specs.Tokens.{entry, or_itself, stands, expanded, starts, shown_length}
use Rattle.values.specs.Table.{rows, kind_in, known, attribute, defaults, default_in}
use Rattle.values.specs.Values.{width, fits, meant, octets_of, is_default}
use Rattle.format.specs.declared.Refusal.{Refusal}
use Rattle.format.specs.Answers.{refusal, edit_outcome}
use Rattle.format.specs.Tree.{find, kind_of, count, records}
use Rattle.format.specs.Judge.{is_known, is_items, is_tokens, is_text, is_value, is_top, allowed, latest, stage_after, limit, not_above, shown, first, rule, unless}
use Rattle.format.specs.Meaning.{opens, is_child, value_in, counted, attributes_in, cdata_in, leaf_octets, means, maybe, rising, encode}
use Rattle.format.specs.Writer.{below, past, at_top, placed, body_keeps, keeps, body_in, good, here, onward, walk, tree, to_end, rebuilt, is_end, ruled}
use Rattle.format.specs.Loaded.{stored, store_in, loaded_in}
use Rattle.format.specs.Same.{same_octets}
use Rattle.format.specs.Calls.{places, lay, edit_answer, roomy, tree_given}
use Rattle.format.specs.State.{Memory, places_in, normal_body, body_sizes, lay_tree, same_items, kept, in_order, tree_held}
use Rattle.state.specs.Taking.{overflow, settled, left}
use Rattle.edits.specs.Tree.{Edit, from, change_at, first_tag, with_body, without, is_there, changed}
use Rattle.edits.specs.Tree.Edit.{replace, remove}
use Rattle.edits.specs.Calls.{edited, edited_in, EditClaim}

-- a top with its language, "en", and a schedule in it; in that a programme with its recommendation, which is the default, and with a short name, "ab". There is a place
-- for one octet more in the store
abbrev day : Memory
day = record {
  lists = record {
    tags = 0x02 ∷ 0x06 ∷ 0x21 ∷ 0x1C ∷ 0x83 ∷ 0x10 ∷ 0x01 ∷ [];
    kinds = 0 ∷ 0 ∷ 0 ∷ 0 ∷ 1 ∷ 0 ∷ 2 ∷ [];
    depths = 1 ∷ 2 ∷ 2 ∷ 3 ∷ 4 ∷ 4 ∷ 5 ∷ [];
    parents = 0 ∷ 0 ∷ 0 ∷ 2 ∷ 3 ∷ 3 ∷ 5 ∷ [];
    starts = 0 ∷ 0 ∷ 0 ∷ 0 ∷ 2 ∷ 0 ∷ 3 ∷ [];
    sizes = 0 ∷ 2 ∷ 0 ∷ 0 ∷ 1 ∷ 0 ∷ 2 ∷ [];
  };
  bodies = 14 ∷ 2 ∷ 8 ∷ 6 ∷ 1 ∷ 4 ∷ 2 ∷ [];
  store = 0x65 ∷ 0x6E ∷ 1 ∷ 0x61 ∷ 0x62 ∷ 9 ∷ [];
}

-- the name "abc"
abbrev renames : Edit
renames = replace 6 (0x61 ∷ 0x62 ∷ 0x63 ∷ [])

abbrev after : Edit → Memory
after e = left (edited_in day e (tree_held 7 day)) day

record Computed : Type 0 where
  renamed : edit_answer (edited_in day renames (tree_held 7 day)) ≡ Ok 7
  renamed-sizes : (after renames).bodies ≡ 15 ∷ 2 ∷ 9 ∷ 7 ∷ 1 ∷ 5 ∷ 3 ∷ []
  -- the default gone
  removed-sizes : (after (remove 4)).bodies ≡ 14 ∷ 2 ∷ 8 ∷ 6 ∷ 4 ∷ 2 ∷ 2 ∷ []
  removed-store : (after (remove 4)).store ≡ 0x65 ∷ 0x6E ∷ 0x61 ∷ 0x62 ∷ 0x62 ∷ 9 ∷ []
  -- the name gone with its text
  unnamed : edit_answer (edited_in day (remove 5) (tree_held 7 day)) ≡ Ok 5

computed : Computed
unfolding among value digits length_field framed layout token character single goes_on utf8 text entry or_itself stands expanded starts shown_length rows kind_in known attribute defaults default_in width fits meant octets_of is_default find kind_of count records is_known is_items is_tokens is_text is_value is_top allowed latest stage_after limit not_above shown first rule unless opens is_child value_in counted attributes_in cdata_in leaf_octets means maybe rising encode below past at_top placed body_keeps keeps body_in good here onward walk tree to_end rebuilt is_end ruled stored store_in loaded_in same_octets places lay edit_answer roomy tree_given places_in normal_body body_sizes lay_tree same_items kept in_order tree_held overflow settled left from change_at first_tag with_body without is_there changed edited edited_in
computed = record { renamed = refl; renamed-sizes = refl; removed-sizes = refl; removed-store = refl; unnamed = refl }

-- a text told as none
pub text-untold : (m' : Memory) → EditClaim renames 7 day m' (Err (refusal 18 0)) → ⊥
text-untold m' c = let e : ◌≡◌ {A = Result ℕ Refusal} (Err (refusal 18 0)) (Ok 7) = c.answers ∙ computed.renamed in let z : ◌≡◌ {A = ℕ} 0 1 = cc in omega arith

-- a new text, with the sizes around it as before
pub sizes-unraised : (m' : Memory) → EditClaim renames 7 day m' (Ok 7) → m'.bodies ≡ 14 ∷ 2 ∷ 8 ∷ 6 ∷ 1 ∷ 4 ∷ 3 ∷ [] → ⊥
sizes-unraised m' c h =
    let e : ◌≡◌ {A = ℕ} 14 15 = ap (λ l. get_or l 0 0) (sym h ∙ (ap (λ m. m.bodies) c.leaves ∙ computed.renamed-sizes)) in
    omega arith

-- a default gone, and its octets taken from the sizes around it
pub default-taken-off : (m' : Memory) → EditClaim (remove 4) 7 day m' (Ok 6) → get_or m'.bodies 0 0 ≡ 11 → ⊥
default-taken-off m' c h =
    let e : ◌≡◌ {A = ℕ} 11 14 = sym h ∙ ap (λ l. get_or l 0 0) (ap (λ m. m.bodies) c.leaves ∙ computed.removed-sizes) in
    omega arith

-- an item gone, and its octets left in the store
pub octets-left : (m' : Memory) → EditClaim (remove 4) 7 day m' (Ok 6) → m'.store ≡ day.store → ⊥
octets-left m' c h =
    let e : ◌≡◌ {A = ℕ} 1 0x61 = ap (λ l. get_or l 2 0) (sym h ∙ (ap (λ m. m.store) c.leaves ∙ computed.removed-store)) in
    omega arith

-- an element gone, and what is below it left
pub inside-left : (m' : Memory) → EditClaim (remove 5) 7 day m' (Ok 6) → ⊥
inside-left m' c =
    let e : ◌≡◌ {A = ℕ} 6 5 = ap (λ a. (edit_outcome a).count) (c.answers ∙ computed.unnamed) in
    omega arith
