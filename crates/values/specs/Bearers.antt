-- DAB bearers (document 01, Values: DAB bearer; 002, clause 4.7.6.1). The third bit carries nothing (docs/DIFFERENCES.md).
use Rattle.std.specs.Prelude.{Bool, cond, List, [], ◌∷◌, ◌++◌, ℕ, ◌+◌, ◌*◌, ◌/◌, ◌%◌, eqb, length, take, drop, get_or, Option, Some, None}
use Rattle.octets.specs.Numbers.{value, digits}
use Rattle.values.specs.declared.Ensemble.{Ensemble}
use Rattle.values.specs.declared.Bearer.{Bearer}

-- the first octet, from the most significant bit: reserved 1, flag of the ensemble 1, reserved 1, flag of a 32-bit service id 1, SCIdS 4
unfoldable pub ensemble_flag : List ℕ → ℕ
ensemble_flag o = get_or o 0 0 / 64 % 2

unfoldable pub long_sid_flag : List ℕ → ℕ
long_sid_flag o = get_or o 0 0 / 16 % 2

abbrev pub ecc_eid : ℕ → ℕ → Ensemble
ecc_eid ecc eid = record { ecc = ecc; eid = eid }

-- with the ensemble flag, ECC of 8 bits and EId of 16 follow the first octet
unfoldable pub ensemble_of : List ℕ → Option Ensemble
ensemble_of o = cond (eqb (ensemble_flag o) 1) (Some (ecc_eid (get_or o 1 0) (value (take 2 (drop 2 o))))) None

-- what the octets of a bearer mean: the ensemble, if any, the service id with its width, and SCIdS
unfoldable pub bearer_of : List ℕ → Bearer
bearer_of o =
    record { ensemble = ensemble_of o; long = eqb (long_sid_flag o) 1; sid = value (drop (1 + 3 * ensemble_flag o) o); scids = get_or o 0 0 % 16 }

-- rule 9 for a bearer: the length is exactly what the two flags say, 3 to 8
unfoldable pub is_bearer : List ℕ → Bool
is_bearer o = eqb (length o) (3 + 3 * ensemble_flag o + 2 * long_sid_flag o)

unfoldable pub ensemble_bit : Option Ensemble → ℕ
ensemble_bit None = 0
ensemble_bit (Some e) = 64

unfoldable pub ensemble_octets : Option Ensemble → List ℕ
ensemble_octets None = []
ensemble_octets (Some e) = e.ecc ∷ digits 2 e.eid

-- the normal octets of a bearer: reserved bits 0
unfoldable pub bearer_octets : Bearer → List ℕ
bearer_octets b = (ensemble_bit b.ensemble + cond b.long 16 0 + b.scids) ∷ ensemble_octets b.ensemble ++ digits (cond b.long 4 2) b.sid
