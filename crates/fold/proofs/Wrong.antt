-- Wrong answers, refuted by computing the definitions: for each public call two and more, of the kind that slips make.
use Rattle.std.specs.Prelude.{Result, Ok, Err}
use mathlib.Core.Path.{◌≡◌, sym, ap, ◌∙◌}
use mathlib.Core.Bool.{true, false, cond}
use mathlib.Core.Option.{none, some}
use mathlib.Core.List.{List, [], ◌∷◌}
use Prim.Native.Nat.{ℕ}
use native.Mathlib.Omega.{arith}
use lib.ListN.{get_or}
use lib.Seq.{sets}
use Rattle.octets.specs.Counts.{as_octets, size_of}
use Rattle.octets.proofs.Tests.{never}
use Rattle.octets.specs.declared.counts.Octets.{Octets}
use Rattle.format.specs.Answers.{refusal, write_outcome, check_outcome}
use Rattle.format.specs.Calls.{roomy}
use Rattle.format.specs.declared.Refusal.{Refusal}
use Rattle.fold.specs.Packed.{packed}
use Rattle.fold.specs.Calls.{passes, check_answer, pack_answer, pack_octets, PackClaim}
use Rattle.fold.proofs.Examples.{one_word, one-word-packed, by-saving, by-saving-packed, saves-one, language, tabled, computed}

-- `check`: a longer object of that very normal form passed; a shorter one refused
pub longer-passes : check_answer language tabled ≡ Ok tt → ⊥
unfolding check_answer
longer-passes h =
    let e : passes language tabled ≡ false = ap (λ l. get_or l 4 true) computed.checked in
    let z : (Ok tt) ≡ Err (refusal 22 0) = sym h ∙ ap (λ b. cond b (Ok tt) (Err (refusal 22 0))) e in
    never (cc)

pub shorter-fails : check_answer one_word one-word-packed ≡ Err (refusal 22 0) → ⊥
unfolding check_answer
shorter-fails h =
    let e : passes one_word one-word-packed ≡ true = ap (λ l. get_or l 0 false) computed.checked in
    let z : Err (refusal 22 0) ≡ (Ok tt) = sym h ∙ ap (λ b. cond b (Ok tt) (Err (refusal 22 0))) e in
    never (cc)

-- a room of 64 octets
abbrev pub room : List ℕ
room = 0 ∷ 0 ∷ 0 ∷ 0 ∷ 0 ∷ 0 ∷ 0 ∷ 0 ∷ 0 ∷ 0 ∷ 0 ∷ 0 ∷ 0 ∷ 0 ∷ 0 ∷ 0 ∷ 0 ∷ 0 ∷ 0 ∷ 0 ∷ 0 ∷ 0 ∷ 0 ∷ 0 ∷ 0 ∷ 0 ∷ 0 ∷ 0 ∷ 0 ∷ 0 ∷ 0 ∷ 0 ∷ 0 ∷ 0 ∷ 0 ∷ 0 ∷ 0 ∷ 0 ∷ 0 ∷ 0 ∷ 0 ∷ 0 ∷ 0 ∷ 0 ∷ 0 ∷ 0 ∷ 0 ∷ 0 ∷ 0 ∷ 0 ∷ 0 ∷ 0 ∷ 0 ∷ 0 ∷ 0 ∷ 0 ∷ 0 ∷ 0 ∷ 0 ∷ 0 ∷ 0 ∷ 0 ∷ 0 ∷ 0 ∷ []

-- `pack`: the normal form itself where the packed object is shorter; a tie by the later word first; an object that is no normal form packed; 15 where it fits
pub unpacked : (after : List ℕ) → PackClaim one_word room after (Ok (as_octets 26)) → ⊥
unfolding pack_answer roomy
unpacked after c =
    let e : packed one_word ≡ some one-word-packed = ap (λ l. get_or l 0 none) computed.packs in
    let z : ◌≡◌ {A = ℕ} 26 25 = ap (λ a. (write_outcome a).count) (c.answers ∙ ap (pack_answer (size_of room)) e) in
    omega arith

pub later_first : (after : List ℕ) (a : Result Octets Refusal) → get_or after 14 0 ≡ 0x61 → PackClaim by-saving room after a → ⊥
unfolding pack_octets roomy
later_first after a h c =
    let e : packed by-saving ≡ some by-saving-packed = ap (λ l. get_or l 4 none) computed.packs in
    let z : ◌≡◌ {A = ℕ} 0x61 0x7A = sym h ∙ ap (λ o. get_or o 14 0) (c.leaves ∙ ap (λ p. sets room 0 (pack_octets (size_of room) p)) e) in
    omega arith

pub packs-any : (after : List ℕ) → PackClaim tabled room after (Ok (as_octets 11)) → ⊥
unfolding pack_answer
packs-any after c =
    let e : packed tabled ≡ none = ap (λ l. get_or l 10 none) computed.packs in
    let z : ◌≡◌ {A = ℕ} 11 0 = ap (λ a. (write_outcome a).count) (c.answers ∙ ap (pack_answer (size_of room)) e) in
    omega arith

pub no_room : (after : List ℕ) → PackClaim saves-one room after (Err (refusal 15 0)) → ⊥
unfolding pack_answer roomy
no_room after c =
    let e : packed saves-one ≡ some saves-one = ap (λ l. get_or l 2 none) computed.packs in
    let z : ◌≡◌ {A = ℕ} 15 0 = ap (λ a. (write_outcome a).number) (c.answers ∙ ap (pack_answer (size_of room)) e) in
    omega arith

-- the check's answer as an Outcome: a refusal without its number; one told as a count
pub refusal-unnumbered : (check_outcome (Err (refusal 22 0))).number ≡ 0 → ⊥
refusal-unnumbered h = omega (arith, h)

pub refusal-counted : (check_outcome (Err (refusal 22 0))).count ≡ 22 → ⊥
refusal-counted h = omega (arith, h)
