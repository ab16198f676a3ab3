-- The seam of the two length forms that are written (document 01, Run: bodies of 253 and 254) and the third, which is read, computed. Modules are checked by their
-- names, so a wrong definition falls here first.
use mathlib.Core.Path.{◌≡◌, refl}
use mathlib.Core.List.{[], ◌∷◌}
use Rattle.octets.specs.Numbers.{value, digits}
use Rattle.octets.specs.Header.{header_size, body_size, length_field}

pub seams : (length_field 253 ≡ 0xFD ∷ []) × (length_field 254 ≡ 0xFE ∷ 0x00 ∷ 0xFE ∷ []) × (length_field 65_535 ≡ 0xFE ∷ 0xFF ∷ 0xFF ∷ [])
unfolding length_field digits
seams = (refl, refl, refl)

-- a long form with a small size is read
pub needless : (header_size (0x03 ∷ 0xFF ∷ 0x00 ∷ 0x00 ∷ 0x02 ∷ []) ≡ 5) × (body_size (0x03 ∷ 0xFF ∷ 0x00 ∷ 0x00 ∷ 0x02 ∷ []) ≡ 2)
unfolding header_size body_size value
needless = (refl, refl)
