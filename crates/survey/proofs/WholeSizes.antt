-- The sizes of the items of an accepted object are those of its normal form and of its store.
use Rattle.std.specs.Prelude.{Option as Optional}
use mathlib.Core.Path.{◌≡◌, refl, sym, ap, ap₂, ◌∙◌}
use mathlib.Core.Bool.{Bool, true, false, cond, ◌||◌, false≢true}
use mathlib.Core.Option.{Option, none, some}
use mathlib.Core.List.{List, []}
use Prim.Native.Nat.{ℕ, ◌+◌, ◌≤◌}
use native.Mathlib.Omega.{arith}
use lib.Dec.{eqb}
use lib.ListN.{length, length-append}
use Rattle.reader.proofs.Reading.{whole}
use Rattle.octets.specs.Numbers.{Octets}
use Rattle.text.specs.Tokens.{Entries, entries}
use Rattle.values.specs.declared.Kind.{Kind}
use Rattle.values.specs.Table.{known}
use Rattle.values.specs.Calls.{default_octets}
use Rattle.octets.proofs.Answers.{size-two}
use Rattle.format.specs.Tree.{Items}
use Rattle.format.specs.Tree.Items.{end, item}
use Rattle.format.specs.Judge.{is_value, judge}
use Rattle.format.specs.Judge.Judged.{accepted}
use Rattle.format.specs.Meaning.{opens, table_of, normal_of}
use Rattle.format.specs.Writer.{Spot, below, past, at_top}
use Rattle.format.specs.Loaded.{stored, store_in, store_of}
use Rattle.format.proofs.Told.{Told, accepted-told}
use Rattle.format.proofs.Defaults.{default-attribute, own_defaults, own-none, own-few}
use Rattle.format.proofs.Takes.{takes, in_form, normal-takes}
use Rattle.format.proofs.Means.{attribute-shut}
use Rattle.survey.specs.Normal.{framed_size}
use Rattle.survey.specs.Places.{table_body}
use Rattle.survey.specs.Measure.{measured_of, Measures}
use Rattle.survey.specs.Sizes.{taken, room_in, size_in, sizes_of, sizes_in, ItemsMeasured}
use Rattle.survey.proofs.Adding.{taken-one}
use Rattle.survey.proofs.Tables.{table-told}
use Rattle.survey.specs.declared.measure.Sizes.{Sizes}

-- an item that is told keeps rule 9, so that all its octets are taken
all-taken : (T : Entries) (k : Option Kind) (body : List ℕ) → is_value k body ≡ true → taken T k body ≡ stored T k body
unfolding taken stored is_value
all-taken T none body h = refl
all-taken T (some k) body h = rw h

-- ---- the store

pub room-item : (T : Entries) (p tag at : ℕ) (body : List ℕ) (x u : Items) → is_value (known p tag) body ≡ true → room_in T tag x ≡ length (store_in T tag x) → room_in T p u ≡ length (store_in T p u)
    → room_in T p (item tag at body x u) ≡ length (store_in T p (item tag at body x u))
unfolding room_in store_in
room-item T p tag at body x u v inside later = rw (length-append, inside, later, all-taken T (known p tag) body v) (go (eqb tag 4) (opens tag))
  where
    go : (b c : Bool)
        → cond b 0 (cond c (length (store_in T tag x)) (length (stored T (known p tag) body))) + length (store_in T p u)
        ≡ length (cond b [] (cond c (store_in T tag x) (stored T (known p tag) body))) + length (store_in T p u)
    go true c = refl
    go false true = refl
    go false false = refl

room-told : (T : Entries) (t : Items) (s : Spot) → Told T s t → room_in T s.parent t ≡ length (store_in T s.parent t)
unfolding room_in store_in below past
room-told T end s h = refl
room-told T (item tag at body x u) s h = room-item T s.parent tag at body x u h.0.kind.value (room-told T x (below s tag) h.1) (room-told T u (past s tag) h.2)

-- ---- the normal form

size-item : (T : Entries) (p tag at : ℕ) (body : List ℕ) (x u : Items) → is_value (known p tag) body ≡ true → size_in T tag x ≡ takes in_form T tag x → size_in T p u ≡ takes in_form T p u
    → size_in T p (item tag at body x u) ≡ takes in_form T p (item tag at body x u)
unfolding size_in takes framed_size
size-item T p tag at body x u v inside later = rw (inside, later, all-taken T (known p tag) body v) (go (eqb tag 4 || default_octets p tag body) (opens tag))
  where
    go : (b c : Bool)
        → cond b 0 (framed_size (cond c (takes in_form T tag x) (length (stored T (known p tag) body)))) + takes in_form T p u
        ≡ cond b 0 (cond c (framed_size (takes in_form T tag x)) (framed_size (length (stored T (known p tag) body)))) + takes in_form T p u
    go true c = refl
    go false true = refl
    go false false = refl

size-told : (T : Entries) (t : Items) (s : Spot) → Told T s t → size_in T s.parent t ≡ takes in_form T s.parent t
unfolding size_in takes below past
size-told T end s h = refl
size-told T (item tag at body x u) s h = size-item T s.parent tag at body x u h.0.kind.value (size-told T x (below s tag) h.1) (size-told T u (past s tag) h.2)

-- ---- the store is no larger than the normal form

-- each text and value of the store stands in the normal form too, behind a header, but for defaults
abbrev Fewer : Entries → ℕ → Items → Type 0
Fewer T p t = room_in T p t ≤ size_in T p t + own_defaults p t

-- an element has at most two of these, which its header outweighs
room-item-less : (T : Entries) (p tag at : ℕ) (body : List ℕ) (x u : Items) → own_defaults tag x ≤ 2 → Fewer T tag x → Fewer T p u → Fewer T p (item tag at body x u)
unfolding room_in size_in framed_size own_defaults
room-item-less T p tag at body x u few inside later = go (eqb tag 4) (default_octets p tag body) refl (opens tag) refl
  where
    own : ℕ
    own = length (taken T (known p tag) body)

    go : (b d : Bool) → default_octets p tag body ≡ d → (c : Bool) → opens tag ≡ c
        → cond b 0 (cond c (room_in T tag x) own) + room_in T p u
        ≤ (cond (b || d) 0 (framed_size (cond c (size_in T tag x) own)) + size_in T p u) + (cond d 1 0 + own_defaults p u)
    go true d e c o = omega arith
    go false true e true o = absurd (false≢true (sym (attribute-shut tag (default-attribute p tag body e)) ∙ o))
    go false true e false o = omega (arith, taken-one T p tag body e)
    go false false e true o = omega (arith, size-two (size_in T tag x))
    go false false e false o = omega arith

room-less : (T : Entries) (t : Items) (s : Spot) → Told T s t → Fewer T s.parent t
unfolding room_in below past
room-less T end s h = omega arith
room-less T (item tag at body x u) s h =
    room-item-less T s.parent tag at body x u (own-few T x (below s tag) h.1) (room-less T x (below s tag) h.1) (room-less T u (past s tag) h.2)

-- ---- an accepted object

module _ (o : List ℕ) (t : Items) (os : Octets o) (h : judge o ≡ accepted t) where
  pub room_whole : room_in (table_of t) 0 t ≡ length (store_of t)
  unfolding at_top
  room_whole = room-told (table_of t) t at_top (accepted-told o t os h)

  pub size-normal : size_in (table_of t) 0 t ≡ length (normal_of t)
  unfolding at_top
  size-normal = size-told (table_of t) t at_top (accepted-told o t os h) ∙ sym (normal-takes o t os h)

  pub store-less : length (store_of t) ≤ length (normal_of t)
  unfolding at_top
  store-less = omega (arith, room-less (table_of t) t at_top (accepted-told o t os h), own-none t, room_whole, size-normal)

  pub sizes-whole : sizes_in (table_of t) 0 t ≡ measured_of t
  unfolding sizes_of measured_of
  sizes-whole = ap₂ sizes_of room_whole size-normal

-- measure: the items of the object, under the table that was found in it
pub measures : (o table : List ℕ) (r : Optional Sizes) → Octets o → table ≡ table_body o → ItemsMeasured (entries table) 0 16 o r → Measures o r
unfolding Measures
measures o table r os f m t h = m.told 1 0 t refl (whole o t h) ∙ ap (λ T. sizes_in T 0 t) (ap entries f ∙ table-told o t h) ∙ sizes-whole o t os h
