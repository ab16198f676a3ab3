-- What the answers' numbers are, and what they are not: wrong outcomes and wrong counts, refuted by computation.
use Rattle.std.specs.Prelude.{Ok, Err}
use mathlib.Core.Path.{◌≡◌, refl, ap}
use mathlib.Core.Bool.{false}
use mathlib.Core.List.{List, [], ◌∷◌}
use Prim.Native.Nat.{ℕ}
use native.Mathlib.Omega.{arith}
use Rattle.octets.specs.Counts.{as_octets}
use Rattle.octets.specs.Numbers.{value}
use Rattle.octets.specs.Header.{header_size, body_size}
use Rattle.values.specs.Table.{rows, kind_in, known, attribute}
use Rattle.format.specs.Answers.{refusal, wrong_value, read_outcome, edit_outcome, write_outcome, same_outcome}
use Rattle.format.specs.Judge.{is_items}
use Rattle.format.specs.Headers.{headers_in, headers_of}
use Rattle.format.specs.declared.SameRefusal.TheVariants.{First, Second}

-- after a refusal both counts are 0, and where there is none so are number, place and field
pub read-outcomes : (read_outcome (Err (refusal 13 412)) ≡ record { number = 13; place = 412; field = 0; count = 0; items = 0 })
    × (read_outcome (Err (wrong_value 412 3)) ≡ record { number = 9; place = 412; field = 3; count = 0; items = 0 })
    × (read_outcome (Ok (record { records = 7; items = 9 })) ≡ record { number = 0; place = 0; field = 0; count = 7; items = 9 })
read-outcomes = (refl, refl, refl)

pub edit-outcomes : (edit_outcome (Err (refusal 18 0)) ≡ record { number = 18; place = 0; field = 0; count = 0; items = 0 })
    × (edit_outcome (Ok 7) ≡ record { number = 0; place = 0; field = 0; count = 7; items = 0 })
edit-outcomes = (refl, refl)

pub write-outcomes : (write_outcome (Err (refusal 15 0)) ≡ record { number = 15; place = 0; field = 0; count = 0; items = 0 })
    × (write_outcome (Ok (as_octets 6)) ≡ record { number = 0; place = 0; field = 0; count = 6; items = 0 })
write-outcomes = (refl, refl)

-- which object was refused is told, its field too, and a refusal is not told as two meanings
pub same-outcomes : (same_outcome (Err (Second (refusal 2 0))) ≡ same_outcome (Err (First (refusal 2 0))) → ⊥)
    × (same_outcome (Err (Second (refusal 2 0))) ≡ record { same = false; which = 0; number = 0; place = 0; field = 0 } → ⊥)
    × (same_outcome (Err (First (wrong_value 2 3))) ≡ same_outcome (Err (First (refusal 9 2))) → ⊥)
same-outcomes = (
  (λ e. let z : ◌≡◌ {A = ℕ} 2 1 = ap (λ x. x.which) e in omega arith),
  (λ e. let z : ◌≡◌ {A = ℕ} 2 0 = ap (λ x. x.number) e in omega arith),
  (λ e. let z : ◌≡◌ {A = ℕ} 3 0 = ap (λ x. x.field) e in omega arith),
)

-- ---- the count of headers

-- a top with a token table and a language that uses it
abbrev tabled : List ℕ
tabled = 0x03 ∷ 0x09 ∷ 0x04 ∷ 0x04 ∷ 0x01 ∷ 0x02 ∷ 0x65 ∷ 0x6E ∷ 0x06 ∷ 0x01 ∷ 0x01 ∷ []

-- a top with an unknown element, in which octets lie that could be two items, and CDATA
abbrev unknown_inside : List ℕ
unknown_inside = 0x03 ∷ 0x09 ∷ 0x05 ∷ 0x04 ∷ 0x10 ∷ 0x00 ∷ 0x10 ∷ 0x00 ∷ 0x01 ∷ 0x01 ∷ 0x61 ∷ []

-- the bench cases P9, P10 and P11 of document 01, and that of the unknown element: it counts, and what is in it doesn't
pub counted-headers : (headers_of (0x03 ∷ 0x00 ∷ []) ≡ 1) × (headers_of (0x03 ∷ 0xFE ∷ 0x00 ∷ 0x04 ∷ 0x06 ∷ 0x02 ∷ 0x65 ∷ 0x6E ∷ []) ≡ 2)
    × (headers_of tabled ≡ 3) × (headers_of unknown_inside ≡ 3)
unfolding headers_in header_size body_size value rows kind_in known attribute is_items
counted-headers = (refl, refl, refl, refl)

-- the token table is left out, as of the records; its entry counts too
pub table-counts : (headers_of tabled ≡ 2 → ⊥) × (headers_of tabled ≡ 4 → ⊥)
table-counts = let n = counted-headers.2 in ((λ h. omega arith), (λ h. omega arith))

-- the unknown element is left out; what is in it counts too
pub unknown-counts : (headers_of unknown_inside ≡ 2 → ⊥) × (headers_of unknown_inside ≡ 5 → ⊥)
unknown-counts = let n = counted-headers.3 in ((λ h. omega arith), (λ h. omega arith))
