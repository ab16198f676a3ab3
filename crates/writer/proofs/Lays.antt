-- Octets that fit a room, one part after another.
use mathlib.Core.List.{List, ◌++◌}
use Prim.Native.Nat.{ℕ}
use native.Mathlib.Omega.{arith}
use lib.ListN.{length, length-append}
use Rattle.octets.specs.Puts.{Lays}
use Rattle.octets.proofs.Left.{lays-length}
use Rattle.writer.specs.Steps.{Fitting}

pub fitting-left : (a b : List ℕ) (to room : ℕ) → Fitting (a ++ b) to room → Fitting a to room
fitting-left a b to room f =
    let x = f.in_room in
    let y = f.in_object in
    let l = length-append a b in
    record { in_room = omega arith; in_object = omega arith }

pub fitting-right : (a b : List ℕ) (to : ℕ) (before after : List ℕ) (end : ℕ) → Fitting (a ++ b) to (length before) → Lays a to before after end → Fitting b end (length after)
fitting-right a b to before after end f h =
    let x = f.in_room in
    let y = f.in_object in
    let l = length-append a b in
    let e = h.ends in
    let n = lays-length a to before after end h in
    record { in_room = omega arith; in_object = omega arith }
