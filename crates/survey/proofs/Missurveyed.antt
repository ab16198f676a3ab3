-- Wrong answers of the calls, each refuted by what its contract says.
use Rattle.std.specs.Prelude.{Some, None, Result, Ok, Err, Option as Optional}
use mathlib.Core.Path.{◌≡◌, refl, sym, ap, ◌∙◌}
use mathlib.Core.Bool.{true, false}
use mathlib.Core.Option.{Option}
use mathlib.Core.List.{List, [], ◌∷◌}
use Prim.Native.Nat.{ℕ, ◌+◌, ◌<◌}
use native.Mathlib.Omega.{arith}
use lib.ListN.{length, get_or}
use borrow.Author.Tests.{lt-leb}
use Rattle.octets.specs.Numbers.{among, digits, value}
use Rattle.octets.specs.Header.{header_size, body_size, length_field, framed}
use Rattle.octets.specs.Counts.{as_octets}
use Rattle.octets.proofs.Tests.{never}
use Rattle.octets.specs.Places.{from_to}
use Rattle.values.specs.declared.Kind.TheVariants.{HoldsItems, HoldsTokens, HoldsNumber}
use Rattle.values.specs.declared.NumberKind.TheVariants.{Enumerated}
use Rattle.values.specs.Table.{rows, kind_in, known, attribute, defaults, default_in}
use Rattle.values.specs.Values.{fits, width, meant, octets_of}
use Rattle.values.specs.Calls.{as_known, default_octets}
use Rattle.format.specs.declared.Refusal.{Refusal}
use Rattle.format.specs.Answers.{refusal, wrong_value}
use Rattle.format.specs.Tree.{Items, count}
use Rattle.format.specs.Tree.Items.{end, item}
use Rattle.format.specs.Judge.{is_known, is_items}
use Rattle.format.specs.Judge.Judged.{refused, accepted}
use Rattle.format.specs.Meaning.{opens, maybe}
use Rattle.format.specs.Loaded.{stored, store_in}
use Rattle.format.specs.Calls.{Lent}
use Rattle.survey.specs.Normal.{value_octets, written_as, item_octets, normal_size}
use Rattle.survey.specs.Sizes.{sizes_of}
use Rattle.survey.specs.Makers.{store_octets}
use Rattle.survey.specs.Measure.{measured_in, measured_of}
use Rattle.survey.specs.Survey.{surveyed, needed_of, needed_by, records_sizes}
use Rattle.survey.specs.First.{or_else, picks, place_in, place_at, in_rows, sought_by, sought_as}
use Rattle.survey.specs.Places.{table_within, first_table, table_body, span_within, span_of_tag}
use Rattle.survey.specs.declared.measure.Sizes.{Sizes}
use Rattle.survey.specs.declared.Needs.{Needs}
use Rattle.survey.specs.declared.Unfit.TheVariants.{Bad, Misfit}

-- ---- survey

-- that an object fits which is refused
pub fits_refused : (lent : Lent) (r : Refusal) → surveyed lent (refused r) ≡ Ok tt → ⊥
unfolding surveyed
fits_refused lent r h = let w : (Err (Bad r)) ≡ (Ok tt) = h in never (cc)

-- the refusal of a time without its field
pub field-left-out : (lent : Lent) (place field : ℕ) → 0 < field → surveyed lent (refused (wrong_value place field)) ≡ Err (Bad (refusal 9 place)) → ⊥
unfolding surveyed
field-left-out lent place field h e =
    let w : (Err (Bad (wrong_value place field))) ≡ (Err (Bad (refusal 9 place))) = e in
    let y : wrong_value place field ≡ refusal 9 place = cc in
    absurd (omega (arith, ap (λ x. x.field) y))

-- 15 where the places don't suffice: 14 comes before it
pub store-before-places : (lent : Lent) (t : Items) → lent.records < count t → surveyed lent (accepted t) ≡ Err (Misfit (refusal 15 0)) → ⊥
unfolding surveyed
store-before-places lent t h e =
    let w : (Err (Misfit (refusal 14 0))) ≡ (Err (Misfit (refusal 15 0))) = rw (lt-leb (count t) lent.records h) at e in
    let y : refusal 14 0 ≡ refusal 15 0 = cc in
    absurd (omega (arith, ap (λ x. x.number) y))

-- ---- survey_inside

-- what is refused takes nothing
pub refused-taken : (element n : ℕ) (m : Optional Sizes) (r : Refusal) → needed_by element (refused r) ≡ Ok (records_sizes n m) → ⊥
unfolding needed_by
refused-taken element n m r h = let w : Err r ≡ (Ok (records_sizes n m)) = h in never (cc)

-- ---- needs_of

-- what is refused needs nothing
pub refused-needed : (n : ℕ) (m : Optional Sizes) (r : Refusal) → needed_of (refused r) ≡ Ok (records_sizes n m) → ⊥
unfolding needed_of
refused-needed n m r h = let w : Err r ≡ (Ok (records_sizes n m)) = h in never (cc)

-- a record more than there are
pub record-more : (t : Items) (m : Optional Sizes) → needed_of (accepted t) ≡ Ok (records_sizes (count t + 1) m) → ⊥
unfolding needed_of
record-more t m h = let w : records_sizes (count t) (measured_of t) ≡ records_sizes (count t + 1) m = cc h in let z = ap (λ n. n.records) w in omega (arith, z)

-- ---- survey_inside, measured

-- an attribute with its default, and with another value
abbrev recommended : (body : List ℕ) → Items
recommended body = item 0x83 2 body end end

record Taken : Type 0 where
  of_default : measured_in 0x1C (recommended (1 ∷ [])) ≡ Some (store_octets (as_octets 1) (as_octets 0))
  of_other : measured_in 0x1C (recommended (2 ∷ [])) ≡ Some (store_octets (as_octets 1) (as_octets 3))

measured : Taken
unfolding measured_in sizes_of store_in stored normal_size item_octets written_as value_octets maybe opens is_items framed length_field default_octets default_in defaults known rows kind_in attribute fits width meant octets_of digits value
measured = record { of_default = refl; of_other = refl }

octets_told : Optional Sizes → ℕ
octets_told None = 0
octets_told (Some sizes) = sizes.octets.0

octets_in : Result Needs Refusal → ℕ
octets_in (Err r) = 0
octets_in (Ok needs) = octets_told needs.sizes

-- a default counted in the normal form
pub default-counted : needed_by 0x1C (accepted (recommended (1 ∷ []))) ≡ Ok (records_sizes 1 (Some (store_octets (as_octets 1) (as_octets 3)))) → ⊥
unfolding needed_by octets_in octets_told
default-counted h = let z : ◌≡◌ {A = ℕ} 3 0 = sym (ap octets_in h)
    ∙ ap (λ m. octets_in (Ok (records_sizes (count (recommended (1 ∷ []))) m))) measured.of_default in omega arith

-- a header not counted
pub header-uncounted : needed_by 0x1C (accepted (recommended (2 ∷ []))) ≡ Ok (records_sizes 1 (Some (store_octets (as_octets 1) (as_octets 1)))) → ⊥
unfolding needed_by octets_in octets_told
header-uncounted h = let z : ◌≡◌ {A = ℕ} 1 3 = sym (ap octets_in h)
    ∙ ap (λ m. octets_in (Ok (records_sizes (count (recommended (2 ∷ []))) m))) measured.of_other in omega arith

-- ---- find_item

-- an item inside another one found
pub inner-found : span_of_tag 0x29 (0x28 ∷ 0x02 ∷ 0x29 ∷ 0x00 ∷ []) ≡ Some (from_to 4 4) → ⊥
unfolding span_of_tag span_within attribute header_size body_size
inner-found h = let z : None ≡ (Some (from_to 4 4)) = h in never (cc)

-- an attribute found behind an element
pub late-found : span_of_tag 0x80 (0x10 ∷ 0x00 ∷ 0x80 ∷ 0x01 ∷ 0x61 ∷ []) ≡ Some (from_to 4 5) → ⊥
unfolding span_of_tag span_within attribute header_size body_size
late-found h = let z : None ≡ (Some (from_to 4 5)) = h in never (cc)

-- ---- find_first

-- nothing found in an object that is refused
pub refused-searched : (r : Refusal) (place : Option ℕ) → sought_as (refused r) place ≡ Ok None → ⊥
unfolding sought_as
refused-searched r place h = let w : Err r ≡ (Ok None) = h in never (cc)

-- an unknown item that isn't listed
pub unknown-sought : (t : Items) → sought_as (accepted t) (place_at (sought_by false (0x00_03 ∷ []) []) (0x03 ∷ 0x02 ∷ 0x7F ∷ 0x00 ∷ [])) ≡ Ok (Some 2) → ⊥
unfolding sought_as place_at place_in picks sought_by in_rows among or_else header_size body_size is_known is_items known rows kind_in attribute
unknown-sought t h = let w : ◌≡◌ {A = Result (Optional ℕ) Refusal} (Ok None) (Ok (Some 2)) = h in never (cc)

-- the last of two
pub last-sought : (t : Items) → sought_as (accepted t) (place_at (sought_by true (0x03_28 ∷ []) []) (0x03 ∷ 0x04 ∷ 0x28 ∷ 0x00 ∷ 0x28 ∷ 0x00 ∷ []))
    ≡ Ok (Some 4) → ⊥
unfolding sought_as place_at place_in picks sought_by in_rows among or_else header_size body_size is_known is_items known rows kind_in attribute
last-sought t h = let w : ◌≡◌ {A = Result (Optional ℕ) Refusal} (Ok (Some 2)) (Ok (Some 4)) = h in let z : ◌≡◌ {A = ℕ} 2 4 = cc in omega arith

-- ---- table_of

-- tops with a table inside another item of theirs alone, and with two tables
abbrev deeper : List ℕ
deeper = 0x03 ∷ 0x05 ∷ 0x10 ∷ 0x03 ∷ 0x04 ∷ 0x01 ∷ 0xAA ∷ []

abbrev twice : List ℕ
twice = 0x03 ∷ 0x06 ∷ 0x04 ∷ 0x01 ∷ 0xAA ∷ 0x04 ∷ 0x01 ∷ 0xBB ∷ []

record Tables : Type 0 where
  of_deeper : table_body deeper ≡ []
  of_twice : table_body twice ≡ 0xAA ∷ []

tables : Tables
unfolding table_body first_table table_within header_size body_size
tables = record { of_deeper = refl; of_twice = refl }

-- a table that isn't directly in the top
pub deeper-found : table_body deeper ≡ 0xAA ∷ [] → ⊥
deeper-found h = let z : ◌≡◌ {A = ℕ} 1 0 = ap length (sym h ∙ tables.of_deeper) in omega arith

-- the last of two
pub last_found : table_body twice ≡ 0xBB ∷ [] → ⊥
last_found h = let z : ◌≡◌ {A = ℕ} 0xBB 0xAA = ap (λ o. get_or o 0 0) (sym h ∙ tables.of_twice) in omega arith

-- ---- written_as

-- the token table
pub table-written : as_known (written_as 0x03 0x04 []) ≡ Some HoldsTokens → ⊥
unfolding as_known written_as
table-written h = let w : None ≡ Some HoldsTokens = h in never (cc)

-- elements that hold items left out, where only values are looked for
pub element-left-out : as_known (written_as 0x03 0x28 []) ≡ None → ⊥
unfolding as_known written_as default_octets known rows kind_in attribute
element-left-out h = let w : Some HoldsItems ≡ None = h in never (cc)

-- a default
pub default-written : as_known (written_as 0x1C 0x83 (1 ∷ [])) ≡ Some (HoldsNumber Enumerated) → ⊥
unfolding as_known written_as default_octets default_in defaults
default-written h = let w : None ≡ Some (HoldsNumber Enumerated) = h in never (cc)

-- an attribute that has a default and another value left out
pub value-left-out : as_known (written_as 0x1C 0x83 (2 ∷ [])) ≡ None → ⊥
unfolding as_known written_as default_octets default_in defaults known rows kind_in attribute
value-left-out h = let w : Some (HoldsNumber Enumerated) ≡ None = h in never (cc)

-- ---- value_size

-- octets that are no value of their kind, counted
pub no-value-counted : length (value_octets (HoldsNumber Enumerated) (1 ∷ 2 ∷ [])) ≡ 2 → ⊥
unfolding value_octets fits width
no-value-counted h = let w : ◌≡◌ {A = ℕ} 0 2 = h in omega arith

-- a value left out
pub value-uncounted : length (value_octets (HoldsNumber Enumerated) (2 ∷ [])) ≡ 0 → ⊥
unfolding value_octets fits width meant octets_of digits value
value-uncounted h = let w : ◌≡◌ {A = ℕ} 1 0 = h in omega arith
