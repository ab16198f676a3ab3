-- Wrong answers of the calls, refuted at an input: what a slip in the definitions or in the code would answer.
use Rattle.std.specs.Prelude.{Some, None, Result, Ok, Err}
use Rattle.octets.specs.Places.{from_to}
use Rattle.octets.specs.Calls.{span}
use mathlib.Core.Path.{◌≡◌, refl, sym, ap, ◌∙◌}
use mathlib.Core.Bool.{Bool, true, false, false≢true}
use mathlib.Core.List.{List, [], ◌∷◌}
use Prim.Native.Nat.{ℕ, suc, ◌+◌, ◌^◌}
use native.Mathlib.Omega.{arith}
use lib.Dec.{leb, ltb}
use lib.ListN.{length, take, drop, get_or}
use Rattle.octets.specs.Counts.{as_octets}
use Rattle.octets.specs.Numbers.{value, digits}
use Rattle.octets.specs.Header.{header_size, body_size, length_field}
use Rattle.octets.specs.Places.{lies_in, lies_at, moved_up}
use Rattle.octets.specs.Calls.{header_of, number_of, fits_width}
use Rattle.octets.specs.Puts.{put_answer, put_out, Puts}
use Rattle.octets.specs.declared.Span.{Span}
use Rattle.octets.specs.declared.PutError.{PutError}
use Rattle.octets.specs.declared.PutError.TheVariants.{NoRoom, Invalid}
use Rattle.octets.proofs.Tests.{never}
use Rattle.octets.proofs.Lists.{part-of-sets}
use Rattle.octets.proofs.Puts.{put-done, put-no-room}

-- ---- read_header: 0xFE taken for a size; the least significant octet first; a header that is cut off; a body that is, which isn't for the header to say
long-header : header_of (0x03 ∷ 0xFE ∷ 0x01 ∷ 0x02 ∷ []) ≡ Some (span 4 0x0102)
unfolding header_of header_size body_size value
long-header = refl

pub header-announced : header_of (0x03 ∷ 0xFE ∷ 0x01 ∷ 0x02 ∷ []) ≡ Some (span 2 0xFE) → ⊥
header-announced h = let z : span 4 0x0102 ≡ span 2 0xFE = cc (long-header, h) in omega (arith, ap (λ s. s.start) z)

pub header-backwards : header_of (0x03 ∷ 0xFE ∷ 0x01 ∷ 0x02 ∷ []) ≡ Some (span 4 0x0201) → ⊥
header-backwards h = let z : span 4 0x0102 ≡ span 4 0x0201 = cc (long-header, h) in omega (arith, ap (λ s. s.size) z)

pub header-cut : header_of (0x03 ∷ 0xFF ∷ 0x00 ∷ 0x00 ∷ []) ≡ Some (span 5 0) → ⊥
unfolding header_of header_size body_size
header-cut h = never (cc h)

pub header-body : header_of (0x03 ∷ 0x05 ∷ []) ≡ None → ⊥
unfolding header_of header_size body_size
header-body h = never (cc h)

-- ---- item_at: an item that runs past the part; places counted from where the item begins, and not from where the part does
pub past-lies : lies_at (0x06 ∷ 0x02 ∷ 0x65 ∷ []) 0 ≡ Some (from_to 2 4) → ⊥
unfolding lies_at lies_in header_size body_size
past-lies h = let z : ◌≡◌ {A = ℕ} 0 1 = cc h in omega arith

pub counted-from-item : lies_at (0x10 ∷ 0x00 ∷ 0x06 ∷ 0x01 ∷ 0x65 ∷ []) 2 ≡ Some (from_to 2 3) → ⊥
unfolding lies_at lies_in header_size body_size
counted-from-item h = let z : from_to 4 5 ≡ from_to 2 3 = cc h in omega (arith, ap (λ b. b.from) z)

-- ---- header_size: the long form from 253 on; the length octet itself for 254; a third form for 65,536
pub size-early : as_octets 4 ≡ as_octets (suc (length (length_field 0xFD))) → ⊥
unfolding length_field
size-early h = omega (arith, ap (λ n. n.0) h)

pub size-late : as_octets 2 ≡ as_octets (suc (length (length_field 0xFE))) → ⊥
unfolding length_field digits
size-late h = omega (arith, ap (λ n. n.0) h)

pub size-third : as_octets 5 ≡ as_octets (suc (length (length_field 0x10000))) → ⊥
unfolding length_field digits
size-third h = omega (arith, ap (λ n. n.0) h)

-- ---- write_header: no room where the octets just fit; what fits of it written; 65,536 cut to two octets; 65,536 in the third form, and a length that has a
-- shorter form in it
pub written-just : (after : List ℕ) → Puts (ltb 2 (256 ^ 2)) (0x03 ∷ length_field 2) 1 (9 ∷ 9 ∷ 9 ∷ []) after (Err NoRoom) → ⊥
unfolding length_field put_answer
written-just after p = let h = p.answers in never (cc h)

pub written-part : Puts (ltb 0xFE (256 ^ 2)) (0x03 ∷ length_field 0xFE) 0 (9 ∷ 9 ∷ 9 ∷ []) (0x03 ∷ 0xFE ∷ 0x00 ∷ []) (Err NoRoom) → ⊥
unfolding length_field digits put_out
written-part p = let z : ◌≡◌ {A = ℕ} 0x03 9 = ap (λ l. get_or l 0 0) p.leaves in omega arith

pub written-cut : (after : List ℕ) → Puts (ltb 0x10000 (256 ^ 2)) (0x03 ∷ length_field 0x10000) 0 (9 ∷ 9 ∷ 9 ∷ 9 ∷ []) after (Ok 4) → ⊥
unfolding put_answer
written-cut after p = let h = p.answers in never (cc h)

pub written-third : (answer : Result ℕ PutError) → Puts (ltb 0x10000 (256 ^ 2)) (0x03 ∷ length_field 0x10000) 0 (9 ∷ 9 ∷ 9 ∷ 9 ∷ 9 ∷ []) (0x03 ∷ 0xFF ∷ 0x01 ∷ 0x00 ∷ 0x00 ∷ []) answer → ⊥
unfolding put_out
written-third answer p = let z : ◌≡◌ {A = ℕ} 0x03 9 = ap (λ l. get_or l 0 0) p.leaves in omega arith

pub written-needless : (answer : Result ℕ PutError) → Puts (ltb 0xFE (256 ^ 2)) (0x03 ∷ length_field 0xFE) 0 (9 ∷ 9 ∷ 9 ∷ 9 ∷ 9 ∷ []) (0x03 ∷ 0xFF ∷ 0x00 ∷ 0x00 ∷ 0xFE ∷ []) answer → ⊥
unfolding length_field digits put_out
written-needless answer p = let z : ◌≡◌ {A = ℕ} 0xFF 0xFE = ap (λ l. get_or l 1 0) p.leaves in omega arith

-- ---- read_number: the least significant octet first; five octets for the zeros before a small number
pub number-backwards : number_of (0x01 ∷ 0x02 ∷ []) ≡ Some 0x0201 → ⊥
unfolding number_of value
number-backwards h = let z : ◌≡◌ {A = ℕ} 0x0102 0x0201 = cc h in omega arith

pub number-five : number_of (0 ∷ 0 ∷ 0 ∷ 0 ∷ 7 ∷ []) ≡ Some 7 → ⊥
unfolding number_of
number-five h = never (cc h)

-- ---- put_number: the least significant octet first; a number cut to its width; the octets' count for the place behind them
pub put-backwards : (answer : Result ℕ PutError) → Puts (fits_width 2 0x0102) (digits 2 0x0102) 0 (9 ∷ 9 ∷ []) (0x02 ∷ 0x01 ∷ []) answer → ⊥
unfolding fits_width digits put_out
put-backwards answer p = let z : ◌≡◌ {A = ℕ} 2 1 = ap (λ l. get_or l 0 0) p.leaves in omega arith

pub put-cut : (after : List ℕ) → Puts (fits_width 1 0x0102) (digits 1 0x0102) 0 (9 ∷ 9 ∷ []) after (Ok 1) → ⊥
unfolding fits_width put_answer
put-cut after p = let h = p.answers in never (cc h)

pub put_count : (after : List ℕ) → Puts (fits_width 1 7) (digits 1 7) 1 (9 ∷ 9 ∷ []) after (Ok 1) → ⊥
unfolding fits_width digits put_answer
put_count after p = let h = p.answers in let z : ◌≡◌ {A = ℕ} 1 2 = cc h in omega arith

-- ---- has_room: none for octets that just fit; as much at every place as at the first
pub room-just : false ≡ leb (1 + 2) 3 → ⊥
room-just h = false≢true h

pub room-anywhere : true ≡ leb (1 + 2) 2 → ⊥
room-anywhere h = false≢true (sym h)

-- ---- copy_into: as much as fits; at the start and not at the place; the place behind the lent slice for room
pub copied-clipped : (answer : Result ℕ PutError) → Puts true (1 ∷ 2 ∷ []) 1 (9 ∷ 9 ∷ []) (9 ∷ 1 ∷ []) answer → ⊥
unfolding put_out
copied-clipped answer p = let z : ◌≡◌ {A = ℕ} 1 9 = ap (λ l. get_or l 1 0) p.leaves in omega arith

pub copied-start : (answer : Result ℕ PutError) → Puts true (1 ∷ []) 1 (9 ∷ 9 ∷ []) (1 ∷ 9 ∷ []) answer → ⊥
unfolding put_out
copied-start answer p = let z : ◌≡◌ {A = ℕ} 1 9 = ap (λ l. get_or l 0 0) p.leaves in omega arith

pub copied-end : (after : List ℕ) → Puts true (1 ∷ []) 2 (9 ∷ 9 ∷ []) after (Ok 3) → ⊥
unfolding put_answer
copied-end after p = let h = p.answers in never (cc h)

-- ---- move_up: from the first octet on, so that it is written over the others; as much as fits
pub moved-smeared : moved_up (1 ∷ 2 ∷ 9 ∷ []) 0 2 1 ≡ 1 ∷ 1 ∷ 1 ∷ [] → ⊥
unfolding moved_up
moved-smeared h = let z : ◌≡◌ {A = ℕ} 2 1 = ap (λ l. get_or l 2 0) h in omega arith

pub moved-clipped : moved_up (1 ∷ 2 ∷ []) 0 2 1 ≡ 1 ∷ 1 ∷ [] → ⊥
unfolding moved_up
moved-clipped h = let z : ◌≡◌ {A = ℕ} 2 1 = ap (λ l. get_or l 1 0) h in omega arith

-- ---- two answers that no call may give which puts octets, whatever they are: that they were put, though they don't stand there; and that there is no room,
-- though a part of them was left
module _ (valid : Bool) (octets : List ℕ) (at : ℕ) (out : List ℕ) where
  pub not-put : (n : ℕ) → (take (length octets) (drop at out) ≡ octets → ⊥) → Puts valid octets at out out (Ok n) → ⊥
  not-put n h p =
      let d = put-done valid octets at out out (Ok n) p n refl in
      h (ap (λ o. take (length octets) (drop at o)) d.laid ∙ part-of-sets out at octets d.inside)

  pub part_left : (out' : List ℕ) → (out' ≡ out → ⊥) → Puts valid octets at out out' (Err NoRoom) → ⊥
  part_left out' h p = h (put-no-room valid octets at out out' (Err NoRoom) p refl).2
