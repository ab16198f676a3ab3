-- What the check and the plain packer answer, and what the lent room then holds (request 2026-11). Refusal 22, at zero: the check says no, or the packer is
-- given no normal form. 15: the packed object is above the room.
use Rattle.std.specs.Prelude.{◌≡◌, Bool, cond, ◌&&◌, List, [], ℕ, Result, Ok, Err}
use Rattle.std.proofs.Math.Option.{Option, none, some}
use Rattle.std.proofs.lemmas.List.Edits.{sets}
use Rattle.octets.specs.declared.counts.Octets.{Octets as OctetCount}
use Rattle.octets.specs.Counts.{size_of, octets_within}
use Rattle.format.specs.Answers.{refusal}
use Rattle.format.specs.Judge.{judge}
use Rattle.format.specs.Same.{has_normal, is_normal}
use Rattle.format.specs.Calls.{roomy}
use Rattle.format.specs.declared.Refusal.{Refusal}
use Rattle.fold.specs.Packed.{packed}

-- the check: the first octets are a normal form, and the packed ones are accepted, have that very normal form and aren't longer
unfoldable pub passes : (plain packed : List ℕ) → Bool
passes plain p = is_normal plain && has_normal plain (judge p) && octets_within (size_of p) (size_of plain)

unfoldable pub check_answer : (plain packed : List ℕ) → Result (Unit {0}) Refusal
check_answer plain p = cond (passes plain p) (Ok tt) (Err (refusal 22 0))

-- pack: 22 without a normal form, else 15, else the octets of the packed object
unfoldable pub pack_answer : OctetCount → Option (List ℕ) → Result OctetCount Refusal
pack_answer room none = Err (refusal 22 0)
pack_answer room (some p) = cond (roomy room p) (Ok (size_of p)) (Err (refusal 15 0))

unfoldable pub pack_octets : OctetCount → Option (List ℕ) → List ℕ
pack_octets room none = []
pack_octets room (some p) = cond (roomy room p) p []

pub record PackClaim (object before after : List ℕ) (answer : Result OctetCount Refusal) : Type 0 where
  pub answers : answer ≡ pack_answer (size_of before) (packed object)
  pub leaves : after ≡ sets before 0 (pack_octets (size_of before) (packed object))
