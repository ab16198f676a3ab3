-- Octets put into a lent slice: what a call has to show for the claim, and what an answer says to whoever matches on it. The crates above cite this for every
-- call that puts.
use Rattle.std.specs.Prelude.{Result, Ok, Err}
use mathlib.Core.Path.{◌≡◌, refl, sym, ap, ◌∙◌}
use mathlib.Core.Bool.{Bool, true, false}
use mathlib.Core.List.{List}
use Prim.Native.Nat.{ℕ, ◌+◌, ◌-◌, ◌^◌, ◌≤◌, ◌<◌}
use native.Mathlib.Omega.{arith}
use lib.Dec.{leb}
use lib.ListN.{length}
use lib.Seq.{sets, length-sets}
use mir.Syntax.{w64}
use mir.Val.{Fits}
use borrow.Author.Tests.{le-leb, lt-leb, leb-true, leb-false, not-true, not-false}
use Rattle.octets.specs.Counts.{as_octets}
use Rattle.octets.specs.declared.counts.Octets.{Octets}
use Rattle.octets.specs.Puts.{put_answer, put_out, Puts, Lays}
use Rattle.octets.specs.declared.PutError.{PutError}
use Rattle.octets.specs.declared.PutError.TheVariants.{NoRoom, Invalid}
use Rattle.octets.proofs.Tests.{never}

-- ---- what a call has to show
module _ (valid : Bool) (octets : List ℕ) (at : ℕ) (before : List ℕ) where
  pub puts-invalid : valid ≡ false → Puts valid octets at before before (Err Invalid)
  unfolding put_answer put_out
  puts-invalid h = record { answers = rw h; leaves = rw h }

  module _ (h : valid ≡ true) where
    pub puts_none : length before < at + length octets → Puts valid octets at before before (Err NoRoom)
    unfolding put_answer put_out
    puts_none k = let e : leb (at + length octets) (length before) ≡ false = lt-leb (at + length octets) (length before) k in record { answers = rw (h, e); leaves = rw (h, e) }

    pub puts-done : (after : List ℕ) (end : ℕ) → at + length octets ≤ length before → after ≡ sets before at octets → end ≡ at + length octets → Puts valid octets at before after (Ok end)
    unfolding put_answer put_out
    puts-done after end k p q =
        let e : leb (at + length octets) (length before) ≡ true = le-leb (at + length octets) (length before) k in
        record { answers = rw (h, e) (ap Ok q); leaves = rw (h, e) p }

-- ---- the ways through a call that asks for room first
module _ (room at size : ℕ) where
  pub room-outside : room < at → false ≡ leb (at + size) room
  room-outside h = sym (lt-leb (at + size) room (omega arith))

  pub room-rest : at ≤ room → leb size (room - at) ≡ leb (at + size) room
  room-rest h = go (leb size (room - at)) refl
    where
      go : (b : Bool) → leb size (room - at) ≡ b → leb size (room - at) ≡ leb (at + size) room
      go true e = e ∙ sym (le-leb (at + size) room (omega (arith, leb-true size (room - at) e)))
      go false e = e ∙ sym (lt-leb (at + size) room (omega (arith, leb-false size (room - at) e)))

pub ruleset room-ways = (room-outside, room-rest)

module _ (room at size : ℕ) (b : Bool) (k : b ≡ leb (at + size) room) (q : b ≡ true) where
  pub room_in : at + size ≤ room
  room_in = leb-true (at + size) room (sym k ∙ q)

  pub room_fits : room < 2 ^ 64 → Fits w64 (at + size)
  room_fits h = record { fits = omega (arith, room_in) }

pub counted : (size : Octets) (n : ℕ) → size ≡ as_octets n → size.0 ≡ n
counted size n e = ap (λ m. m.0) e

-- what `has_room` answers of octets of a known size
module _ (valid : Bool) (octets : List ℕ) (at : ℕ) (before : List ℕ) (size : ℕ) (s : size ≡ length octets) (b : Bool) (k : b ≡ leb (at + size) (length before)) where
  module _ (q : b ≡ true) where
    pub asked-room : at + length octets ≤ length before
    asked-room = omega (arith, s, room_in (length before) at size b k q)

    pub asked-done : valid ≡ true → (after : List ℕ) → after ≡ sets before at octets → Puts valid octets at before after (Ok (at + size))
    asked-done h after p = puts-done valid octets at before h after (at + size) asked-room p (ap (λ n. at + n) s)

  pub asked-none : valid ≡ true → b ≡ false → Puts valid octets at before before (Err NoRoom)
  asked-none h q = puts_none valid octets at before h (omega (arith, s, leb-false (at + size) (length before) (sym k ∙ q)))

pub ruleset asked-ways = (counted, room_fits, asked-room, asked-done, asked-none, not-true, not-false)

-- what holds of octets holds of the same octets
pub puts-same : (valid valid' : Bool) (octets octets' : List ℕ) → valid ≡ valid' → octets ≡ octets' → (at : ℕ) (before after : List ℕ) (answer : Result ℕ PutError)
    → Puts valid octets at before after answer → Puts valid' octets' at before after answer
puts-same valid valid' octets octets' e f at before after answer p = rw (sym e, sym f) p

-- ---- what an answer says
pub record PutDone (valid : Bool) (octets : List ℕ) (at : ℕ) (before after : List ℕ) (end : ℕ) : Type 0 where
  pub is : valid ≡ true
  pub place : end ≡ at + length octets
  pub inside : at + length octets ≤ length before
  pub laid : after ≡ sets before at octets

module _ (valid : Bool) (octets : List ℕ) (at : ℕ) (before after : List ℕ) (answer : Result ℕ PutError) (p : Puts valid octets at before after answer) where
  pub put-done : (end : ℕ) → answer ≡ Ok end → PutDone valid octets at before after end
  unfolding put_answer put_out
  put-done end q = go valid (leb (at + length octets) (length before)) refl refl
    where
      go : (a b : Bool) → valid ≡ a → leb (at + length octets) (length before) ≡ b → PutDone valid octets at before after end
      go true true f g =
          let r : Ok end ≡ Ok (at + length octets) = sym q ∙ rw (f, g) at p.answers in
          record { is = f; place = cc; inside = leb-true (at + length octets) (length before) g; laid = rw (f, g) at p.leaves }
      go true false f g = never (cc (rw (f, g) at p.answers))
      go false b f g = never (cc (rw f at p.answers))

  -- the place behind the octets lies in the slice
  pub put-within : (end : ℕ) → answer ≡ Ok end → end ≤ length after
  put-within end q = let d = put-done end q in omega (arith, d.place, d.inside, ap length d.laid ∙ length-sets before at octets)

  pub put-no-room : answer ≡ (Err NoRoom) → (valid ≡ true) × (length before < at + length octets) × (after ≡ before)
  unfolding put_answer put_out
  put-no-room q = go valid (leb (at + length octets) (length before)) refl refl
    where
      go : (a b : Bool) → valid ≡ a → leb (at + length octets) (length before) ≡ b → (valid ≡ true) × (length before < at + length octets) × (after ≡ before)
      go true true f g = never (cc (rw (f, g) at p.answers))
      go true false f g = (f, leb-false (at + length octets) (length before) g, rw (f, g) at p.leaves)
      go false b f g = never (cc (rw f at p.answers))

  pub put-invalid : answer ≡ (Err Invalid) → (valid ≡ false) × (after ≡ before)
  unfolding put_answer put_out
  put-invalid q = go valid (leb (at + length octets) (length before)) refl refl
    where
      go : (a b : Bool) → valid ≡ a → leb (at + length octets) (length before) ≡ b → (valid ≡ false) × (after ≡ before)
      go true true f g = never (cc (rw (f, g) at p.answers))
      go true false f g = never (cc (rw (f, g) at p.answers))
      go false b f g = (f, rw f at p.leaves)

  pub put-laid : (end : ℕ) → answer ≡ Ok end → Lays octets at before after end
  put-laid end q = let d = put-done end q in record { leaves = d.laid; ends = d.place }

  -- where there are such octets and the room suffices, they are put
  pub put-there : {A : Type 0} → valid ≡ true → answer ≡ (Err Invalid) → A
  put-there e q = never (cc (put-invalid q).0)

  pub put-room : {A : Type 0} → at + length octets ≤ length before → answer ≡ (Err NoRoom) → A
  put-room h q = absurd (omega (arith, (put-no-room q).1))

  pub laid-room : at + length octets ≤ length before → answer ≡ (Err NoRoom) → Lays octets at before after at
  laid-room h q = put-room h q

  pub laid-there : valid ≡ true → answer ≡ (Err Invalid) → Lays octets at before after at
  laid-there e q = put-there e q

pub ruleset laid-ways = (put-laid, laid-room, laid-there)
