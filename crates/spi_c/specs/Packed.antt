-- An answer as one number of 64 bits, and how it is read back.
use Rattle.std.specs.Prelude.{cond, ℕ, ◌+◌, ◌*◌, ◌/◌, ◌%◌, ◌<◌, eqb, Option, Some, None}
use Rattle.octets.specs.Counts.{as_octets}
use Rattle.format.specs.declared.Outcome.{Outcome}
use Rattle.format.specs.declared.SameOutcome.{SameOutcome}
use Rattle.format.specs.declared.Span.{Span}
use Rattle.merge.specs.declared.MergeOutcome.{MergeOutcome}
use Rattle.survey.specs.declared.measure.Sizes.{Sizes}

-- bits 63 to 56: the number of a refusal, 0 for none; 55 to 48: the object that is refused, told by `same` and `merge` alone; 47 to 40: the field of a time
-- that is wrong, told by 9 alone (change request 2026-04); 39 to 0: a place or a count. Where nothing is refused, bits 55 to 40 have a second count: of reading
-- the number of items judged (2026-09), of merging that of the records in memory (2026-10)
unfoldable pub packed : (number object field value : ℕ) → ℕ
packed number object field value = number * 0x100_0000_0000_0000 + object * 0x1_0000_0000_0000 + field * 0x100_0000_0000 + value

abbrev pub number_in : ℕ → ℕ
number_in a = a / 0x100_0000_0000_0000

abbrev pub object_in : ℕ → ℕ
object_in a = a / 0x1_0000_0000_0000 % 0x100

abbrev pub field_in : ℕ → ℕ
field_in a = a / 0x100_0000_0000 % 0x100

abbrev pub value_in : ℕ → ℕ
value_in a = a % 0x100_0000_0000

-- the second count and the first, where nothing is refused
abbrev pub packed_counts : (second first : ℕ) → ℕ
packed_counts second first = packed 0 (second / 0x100) (second % 0x100) first

abbrev pub second_in : ℕ → ℕ
second_in a = object_in a * 0x100 + field_in a

-- the place and the field of a refusal, or the count and the items where there is none
unfoldable pub packed_outcome : Outcome → ℕ
packed_outcome o = cond (eqb o.number 0) (packed_counts o.items o.count) (packed o.number 0 o.field o.place)

unfoldable pub outcome_in : ℕ → Outcome
outcome_in a =
    let counts : Outcome = record { number = 0; place = 0; field = 0; count = value_in a; items = second_in a } in
    let refuses : Outcome = record { number = number_in a; place = value_in a; field = field_in a; count = 0; items = 0 } in
    cond (eqb (number_in a) 0) counts refuses

-- the place of a refusal, or 1 where the objects mean the same
unfoldable pub packed_same : SameOutcome → ℕ
packed_same o = packed o.number o.which o.field (cond (eqb o.number 0) (cond o.same 1 0) o.place)

unfoldable pub same_in : ℕ → SameOutcome
same_in a = record { same = eqb a 1; which = object_in a; number = number_in a; place = cond (eqb (number_in a) 0) 0 (value_in a); field = field_in a }

-- the place of a refusal, its field and the object that is refused, or the octets of the room and the records of memory where there is none (2026-10)
unfoldable pub packed_merge : MergeOutcome → ℕ
packed_merge o = cond (eqb o.number 0) (packed_counts o.records o.size.0) (packed o.number o.which o.field o.place)

unfoldable pub merge_in : ℕ → MergeOutcome
merge_in a =
    let merges : MergeOutcome = record { which = 0; number = 0; place = 0; field = 0; records = second_in a; size = as_octets (value_in a) } in
    let refuses : MergeOutcome = record { which = object_in a; number = number_in a; place = value_in a; field = field_in a; records = 0; size = as_octets 0 } in
    cond (eqb (number_in a) 0) merges refuses

-- the start in the upper half, the size in the lower
unfoldable pub packed_span : Span → ℕ
packed_span s = s.start * 0x1_0000_0000 + s.size

-- the octets of a store and of the normal form likewise; one more than an object may have where the normal form has more (change request 2026-09)
unfoldable pub packed_sizes : Option Sizes → ℕ
packed_sizes None = 32_769
packed_sizes (Some sizes) = packed_span (record { start = sizes.store.0; size = sizes.octets.0 })

unfoldable pub span_in : ℕ → Span
span_in a = record { start = a / 0x1_0000_0000; size = a % 0x1_0000_0000 }

-- what fits its bits
pub record Small (o : Outcome) : Type 0 where
  pub place : o.place < 0x100_0000_0000
  pub count : o.count < 0x100_0000_0000
  pub items : o.items < 0x1_0000

pub record SmallSame (o : SameOutcome) : Type 0 where
  pub place : o.place < 0x100_0000_0000

pub record SmallMerge (o : MergeOutcome) : Type 0 where
  pub place : o.place < 0x100_0000_0000
  pub records : o.records < 0x1_0000
  pub size : o.size.0 < 0x100_0000_0000

pub record SmallSpan (s : Span) : Type 0 where
  pub start : s.start < 0x1_0000_0000
  pub size : s.size < 0x1_0000_0000

abbrev pub SmallSizes : Option Sizes → Type 0
SmallSizes None = Unit {0}
SmallSizes (Some sizes) = SmallSpan (record { start = sizes.store.0; size = sizes.octets.0 })
