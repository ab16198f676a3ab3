-- The normal octets of a bearer are a bearer and mean it, and the octets of a bearer mean one whose fields fit.
use mathlib.Core.Path.{◌≡◌, refl}
use mathlib.Core.Bool.{Bool, true, false, cond}
use mathlib.Core.List.{List}
use Prim.Native.Nat.{ℕ, ◌+◌, ◌*◌, ◌/◌, ◌%◌, ◌<◌}
use native.Mathlib.Omega.{arith}
use lib.Dec.{eqb}
use lib.ListN.{length, take, drop, get_or, length-append, length-drop}
use lib.Seq.{take_at, drop_at, length-take-le}
use borrow.Author.Tests.{eqb-true, eqb-false}
use Rattle.octets.specs.Numbers.{value, digits, Octets}
use Rattle.values.specs.declared.Ensemble.{Ensemble}
use Rattle.std.specs.Prelude.{Option, Some, None}
use Rattle.values.specs.declared.Bearer.{Bearer}
use Rattle.values.specs.Bearers.{ecc_eid, ensemble_flag, long_sid_flag, ensemble_of, bearer_of, is_bearer, ensemble_bit, ensemble_octets, bearer_octets}
use Rattle.values.specs.Proper.{BearerOk, EnsembleOk, SidOk}
use Rattle.octets.proofs.Numbers.{length_digits, value-digits, value-of-length, octets-take, octets-drop}

abbrev make : Option Ensemble → Bool → ℕ → ℕ → Bearer
make e l sid scids = record { ensemble = e; long = l; sid = sid; scids = scids }

-- a bearer whose flags, ensemble and SId are read back is read back, and has its length
record Back (e : Option Ensemble) (l : Bool) (sid scids : ℕ) : Type 0 where
  means : bearer_of (bearer_octets (make e l sid scids)) ≡ make e l sid scids
  fits : is_bearer (bearer_octets (make e l sid scids)) ≡ true

back : (e : Option Ensemble) (l : Bool) (sid scids : ℕ) → EnsembleOk e → SidOk l sid → scids < 16 → Back e l sid scids
unfolding bearer_of bearer_octets is_bearer ensemble_flag long_sid_flag ensemble_of ensemble_bit ensemble_octets
back None true sid scids p q r =
    let x : (0 + 16 + scids) / 64 % 2 ≡ 0 = omega arith in
    let y : (0 + 16 + scids) / 16 % 2 ≡ 1 = omega arith in
    let z : (0 + 16 + scids) % 16 ≡ scids = omega arith in
    record { means = rw (x, y, z, value-digits 4 sid q); fits = rw (x, y, length_digits 4 sid) }
back None false sid scids p q r =
    let x : (0 + 0 + scids) / 64 % 2 ≡ 0 = omega arith in
    let y : (0 + 0 + scids) / 16 % 2 ≡ 0 = omega arith in
    let z : (0 + 0 + scids) % 16 ≡ scids = omega arith in
    record { means = rw (x, y, z, value-digits 2 sid q); fits = rw (x, y, length_digits 2 sid) }
back (Some e) true sid scids p q r =
    let x : (64 + 16 + scids) / 64 % 2 ≡ 1 = omega arith in
    let y : (64 + 16 + scids) / 16 % 2 ≡ 1 = omega arith in
    let z : (64 + 16 + scids) % 16 ≡ scids = omega arith in
    let front = take_at (digits 2 e.eid) (digits 4 sid) 2 (length_digits 2 e.eid) in
    let behind = drop_at (digits 2 e.eid) (digits 4 sid) 2 (length_digits 2 e.eid) in
    record {
      means = rw (x, y, z) (rw (front, behind, value-digits 2 e.eid p.1, value-digits 4 sid q));
      fits = rw (x, y, length-append, length_digits 2 e.eid, length_digits 4 sid);
    }
back (Some e) false sid scids p q r =
    let x : (64 + 0 + scids) / 64 % 2 ≡ 1 = omega arith in
    let y : (64 + 0 + scids) / 16 % 2 ≡ 0 = omega arith in
    let z : (64 + 0 + scids) % 16 ≡ scids = omega arith in
    let front = take_at (digits 2 e.eid) (digits 2 sid) 2 (length_digits 2 e.eid) in
    let behind = drop_at (digits 2 e.eid) (digits 2 sid) 2 (length_digits 2 e.eid) in
    record {
      means = rw (x, y, z) (rw (front, behind, value-digits 2 e.eid p.1, value-digits 2 sid q));
      fits = rw (x, y, length-append, length_digits 2 e.eid, length_digits 2 sid);
    }

pub bearer-means : (b : Bearer) → BearerOk b → bearer_of (bearer_octets b) ≡ b
bearer-means b ok = (back b.ensemble b.long b.sid b.scids ok.ensemble ok.sid ok.scids).means

pub bearer-fits : (b : Bearer) → BearerOk b → is_bearer (bearer_octets b) ≡ true
bearer-fits b ok = (back b.ensemble b.long b.sid b.scids ok.ensemble ok.sid ok.scids).fits

pub bearer-ok : (o : List ℕ) → Octets o → is_bearer o ≡ true → BearerOk (bearer_of o)
unfolding is_bearer bearer_of ensemble_of ensemble_flag long_sid_flag
bearer-ok o h q = record { ensemble = ensemble (eqb (ensemble_flag o) 1) refl; sid = sid (eqb (long_sid_flag o) 1) refl; scids = omega arith }
  where
    size : length o ≡ 3 + 3 * ensemble_flag o + 2 * long_sid_flag o
    size = eqb-true (length o) (3 + 3 * ensemble_flag o + 2 * long_sid_flag o) q

    ensemble : (b : Bool) → eqb (ensemble_flag o) 1 ≡ b → EnsembleOk (cond b (Some (ecc_eid (get_or o 1 0) (value (take 2 (drop 2 o))))) None)
    ensemble false e = tt
    ensemble true e = (h 1, value-of-length 2 (take 2 (drop 2 o)) (octets-take 2 (drop 2 o) (octets-drop 2 o h)) (length-take-le 2 (drop 2 o) (simp length-drop (omega (arith, size, eqb-true (ensemble_flag o) 1 e)))))

    sid : (b : Bool) → eqb (long_sid_flag o) 1 ≡ b → SidOk b (value (drop (1 + 3 * ensemble_flag o) o))
    sid true e = value-of-length 4 (drop (1 + 3 * ensemble_flag o) o) (octets-drop (1 + 3 * ensemble_flag o) o h) (simp length-drop (omega (arith, size, eqb-true (long_sid_flag o) 1 e)))
    sid false e = value-of-length 2 (drop (1 + 3 * ensemble_flag o) o) (octets-drop (1 + 3 * ensemble_flag o) o h) (simp length-drop (omega (arith, size, eqb-false (long_sid_flag o) 1 e)))
