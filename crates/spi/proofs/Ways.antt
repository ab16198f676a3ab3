-- The ways through the program's functions that aren't arithmetic alone: where octets first differ, what is handed out within its room, items of a part.
use Rattle.std.specs.Prelude.{Some, Result, Ok, Err, Option as Optional}
use mathlib.Core.Path.{◌≡◌, refl, ap}
use mathlib.Core.List.{List, []}
use Prim.Native.Nat.{ℕ, suc, ◌+◌, ◌-◌, ◌^◌, ◌≤◌, ◌<◌, min}
use mathlib.Core.Bool.{Bool, true, false, cond}
use mathlib.Core.Option.{Option, none, some}
use native.Mathlib.Omega.{arith}
use lib.ListN.{length, take, drop, get_or, drop_of_length-le}
use lib.Dec.{leb}
use mir.Syntax.{w64}
use mir.Val.{Fits}
use borrow.Author.Tests.{eq-eqb, ne_eqb, leb-true, leb-false}
use Rattle.octets.specs.declared.counts.Octets.{Octets}
use Rattle.octets.specs.Counts.{size_of}
use Rattle.octets.specs.Places.{lies_at}
use Rattle.octets.proofs.Lists.{drop-next, length_part}
use Rattle.octets.proofs.Places.{Lying, lying, bounds, nearer}
use Rattle.octets.specs.declared.Lies.{Lies}
use Rattle.format.specs.Answers.{write_outcome, refusal}
use Rattle.format.specs.State.{Memory, places_in, tree_held}
use Rattle.state.specs.Taking.{NormaliseClaim, WriteStateClaim}
use Rattle.format.specs.Tree.{Items}
use Rattle.format.specs.Meaning.{means, encode}
use Rattle.format.specs.Calls.{roomy, write_answer}
use Rattle.format.specs.declared.Refusal.{Refusal}
use Rattle.fold.specs.Packed.{packed}
use Rattle.fold.specs.Calls.{pack_answer, PackClaim}
use Rattle.xml.specs.Export.{ExportClaim}
use Rattle.xml.proofs.Objects.{export-inside}
use Rattle.writer.proofs.Normalised.{written-inside}
use Rattle.merge.specs.declared.Services.{Services}
use Rattle.merge.specs.Calls.{MergeClaim}
use Rattle.merge.specs.declared.Merged.{Merged}
use Rattle.merge.specs.declared.MergeRefusal.{MergeRefusal}
use Rattle.merging.proofs.Deciding.{merge-size}
use Rattle.spi.specs.Common.{common}

-- ---- octets compared

-- the octets up to a place are shared
pub record Shared (a b : List ℕ) (i : ℕ) : Type 0 where
  pub first : i ≤ length a
  pub second : i ≤ length b
  pub rest : common a b ≡ i + common (drop i a) (drop i b)

pub shared-begin : (a b : List ℕ) → Shared a b 0
shared-begin a b = record { first = omega arith; second = omega arith; rest = omega arith }

module _ (a b : List ℕ) (i : ℕ) (v : Shared a b i) where
  shared-first : length a ≤ i → i ≡ common a b
  unfolding common
  shared-first h = let none : common (drop i a) (drop i b) ≡ 0 = rw (drop_of_length-le a h) in omega (arith, v.rest)

  shared-second : i < length a → length b ≤ i → i ≡ common a b
  unfolding common
  shared-second h g =
      let none : common (drop i a) (drop i b) ≡ 0 = rw (drop-next a i 0 h, drop_of_length-le b g) in
      omega (arith, v.rest)

  pub shared-end : (least : ℕ) → least ≡ min (length a) (length b) → least ≤ i → least ≡ common a b
  shared-end least e h = go (leb (length a) i) refl
    where
      go : (long : Bool) → leb (length a) i ≡ long → least ≡ common a b
      go true q = let first = leb-true (length a) i q in omega (arith, v.first, v.second, shared-first first)
      go false q = let more = leb-false (length a) i q in omega (arith, v.first, v.second, shared-second (omega (arith, more)) (omega (arith, more)))

  module _ (h : i < length a) (g : i < length b) where
    pub shared-differ : (get_or a i 0 ≡ get_or b i 0 → ⊥) → i ≡ common a b
    unfolding common
    shared-differ n =
        let parted = ne_eqb (get_or a i 0) (get_or b i 0) n in
        let none : common (drop i a) (drop i b) ≡ 0 = rw (drop-next a i 0 h, drop-next b i 0 g, parted) in
        omega (arith, v.rest)

    pub shared-again : get_or a i 0 ≡ get_or b i 0 → Shared a b (i + 1)
    unfolding common
    shared-again e =
        let alike = eq-eqb (get_or a i 0) (get_or b i 0) e in
        let rest = suc (common (drop (i + 1) a) (drop (i + 1) b)) in
        let next : common (drop i a) (drop i b) ≡ rest = rw (drop-next a i 0 h, drop-next b i 0 g, alike) in
        record { first = omega arith; second = omega arith; rest = omega (arith, v.rest) }

pub ruleset shared_ways = (shared-begin, shared-end, shared-differ, shared-again)

-- ---- an XML and a normal form, packed, merged or neither

-- what is handed out lies in the room
pub normal_within : (o : List ℕ) (m m' : Memory) (room room' : List ℕ) (answer : Result Octets Refusal) → NormaliseClaim o m m' room room' answer
    → length room' ≡ length room → (write_outcome answer).count ≤ length room'
normal_within o m m' room room' (Ok n) c e = omega (arith, written-inside o m m' room room' n c)
normal_within o m m' room room' (Err r) c e = omega arith

pub xml_within : (o room room' : List ℕ) (answer : Result Octets Refusal) → ExportClaim o room room' answer → length room' ≡ length room
    → (write_outcome answer).count ≤ length room'
xml_within o room room' (Ok n) c e = omega (arith, export-inside o room room' n c)
xml_within o room room' (Err r) c e = omega arith

-- octets that are handed out where the room, and an object, has as many
fits : (room octets : List ℕ)
    → (write_outcome (cond (leb (length octets) (min (length room) 32_768)) (Ok (size_of octets)) (Err (refusal 15 0)))).count ≤ length room
fits room octets = go (leb (length octets) (min (length room) 32_768)) refl
  where
    go : (b : Bool) → leb (length octets) (min (length room) 32_768) ≡ b
        → (write_outcome (cond b (Ok (size_of octets)) (Err (refusal 15 0)))).count ≤ length room
    go true h = omega (arith, leb-true (length octets) (min (length room) 32_768) h)
    go false h = omega arith

pub pack_within : (o room room' : List ℕ) (answer : Result Octets Refusal) → PackClaim o room room' answer → length room' ≡ length room
    → (write_outcome answer).count ≤ length room'
unfolding pack_answer roomy
pack_within o room room' answer c e = omega (arith, ap (λ a. (write_outcome a).count) c.answers, few (packed o))
  where
    few : (p : Option (List ℕ)) → (write_outcome (pack_answer (size_of room) p)).count ≤ length room
    few none = omega arith
    few (some p) = fits room p

pub state_within : (n : ℕ) (m : Memory) (room room' : List ℕ) (answer : Result Octets Refusal) → WriteStateClaim n m room room' answer
    → length room' ≡ length room → (write_outcome answer).count ≤ length room'
unfolding write_answer roomy
state_within n m room room' answer c e = omega (arith, ap (λ a. (write_outcome a).count) c.answers, few (tree_held n m))
  where
    few : (o : Option Items) → (write_outcome (write_answer (size_of room) o)).count ≤ length room
    few none = omega arith
    few (some t) = fits room (encode (means [] t))

pub merged_within : (by : Services) (basic advanced : List ℕ) (m m' : Memory) (room room' : List ℕ) (answer : Result Merged MergeRefusal)
    → MergeClaim by basic advanced m m' room room' answer → length room' ≡ length room → (done : Merged) → answer ≡ Ok done → done.size.0 ≤ length room'
merged_within by basic advanced m m' room room' answer c e done q =
    let inside = merge-size by basic advanced (places_in m) (size_of m.store) room room answer (record { answers = c.answers; leaves = refl }) _ _ q in
    omega (arith, e, inside)

-- ---- items in a part

module _ (part : List ℕ) (at : ℕ) (r : Optional Lies) (e : r ≡ lies_at part at) (h : at < length part) (lies : Lies) (q : r ≡ Some lies) where
  here : Lying part at lies.from lies.to
  here = lying part at r e _ _ q

  within : (lies.from ≤ lies.to) × (lies.to ≤ length part)
  within = let b = bounds here (omega arith) in (b.1, b.2)

  pub item-ordered : lies.from ≤ lies.to
  item-ordered = within.0

  pub item-inside : lies.to ≤ length part
  item-inside = within.1

  pub item-nearer : length part - lies.to < length part - at
  item-nearer = nearer here (omega arith)

  pub item-body : (offset : ℕ) → offset + length part < 2 ^ 63 → offset + lies.from + length (take (lies.to - lies.from) (drop lies.from part)) < 2 ^ 63
  item-body offset b = omega (arith, length_part part lies.from (lies.to - lies.from) (omega (arith, within)), within)

  pub item_from : (offset : ℕ) → offset + length part < 2 ^ 63 → Fits w64 (offset + lies.from)
  item_from offset b = omega (arith, within)

pub ruleset item_ways = (item-ordered, item-inside, item-nearer, item-body, item_from)
