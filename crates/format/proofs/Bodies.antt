-- The bodies in what is written: none is longer than all of it, so none needs a length of 24 bits (change request 2026-08).
use Rattle.std.specs.Prelude.{Ok, Err}
use mathlib.Core.Path.{◌≡◌, refl, sym}
use mathlib.Core.Bool.{Bool, true, false, cond, ◌&&◌}
use mathlib.Core.Option.{Option, none, some}
use mathlib.Core.List.{List, [], ◌++◌}
use Prim.Native.Nat.{ℕ, zero, suc, ◌+◌, ◌≤◌, ◌<◌, min}
use native.Mathlib.Nat.{min-le_right}
use native.Mathlib.Omega.{arith}
use lib.Dec.{eqb, leb}
use lib.ListN.{length, length-append}
use borrow.Author.Tests.{leb-true, eqb-true, eqb-false}
use Rattle.octets.specs.declared.counts.Octets.{Octets as OctetCount}
use Rattle.octets.specs.Header.{framed}
use Rattle.octets.proofs.Answers.{framed-length}
use Rattle.octets.proofs.Tests.{and_right, chosen, never}
use Rattle.values.specs.Values.{Value, octets_of}
use Rattle.format.specs.Answers.{refusal}
use Rattle.format.specs.Tree.{Items, count}
use Rattle.format.specs.Judge.{Judged}
use Rattle.format.specs.Judge.Judged.{refused, accepted}
use Rattle.format.specs.Meaning.{Meaning, means, meaning_of, maybe, rising, encode, normal_of}
use Rattle.format.specs.Meaning.Meaning.{nothing, element, leaf}
use Rattle.format.specs.Loaded.{store_of}
use Rattle.format.specs.Calls.{roomy, write_answer, Lent, stored_within, fits_lent, misfit, normal_answer}
use Rattle.format.specs.Bodies.{Bodies}

framed-within : {A : Type 0} (tag : ℕ) (octets : A → List ℕ) (o : Option A) → length (maybe octets o) ≤ length (maybe (λ v. framed tag (octets v)) o)
unfolding maybe
framed-within tag octets none = omega arith
framed-within tag octets (some v) = omega (arith, framed-length tag (octets v))

rising-within : (k a : ℕ) (f : ℕ → Option Value) (b : ℕ) → a ≤ b → b < a + k → length (maybe octets_of (f b)) ≤ length (rising k a f)
unfolding rising
rising-within zero a f b l m = absurd (omega arith)
rising-within (suc k) a f b l m = go (rising-within k (suc a) f b) (eqb b a) refl
  where
    own : List ℕ
    own = maybe (λ v. framed a (octets_of v)) (f a)

    go : (suc a ≤ b → b < suc a + k → length (maybe octets_of (f b)) ≤ length (rising k (suc a) f)) → (s : Bool) → eqb b a ≡ s → length (maybe octets_of (f b)) ≤ length (own ++ rising k (suc a) f)
    go ih true e = rw (eqb-true b a e) (omega (arith, framed-within a octets_of (f a), length-append own (rising k (suc a) f)))
    go ih false e = let q = eqb-false b a e in omega (arith, ih (omega arith) (omega arith), length-append own (rising k (suc a) f))

-- no body has more octets than the whole
pub bodies : (n : ℕ) (m : Meaning) → length (encode m) ≤ n → Bodies n m
unfolding encode
bodies n nothing h = tt
bodies n (element tag f kids cdata after) h =
    let text = maybe (framed 1) cdata in
    let body = rising 128 0x80 f ++ (encode kids ++ text) in
    let all = length-append (framed tag body) (encode after) in
    let own = framed-length tag body in
    let inside = length-append (rising 128 0x80 f) (encode kids ++ text) in
    let rest = length-append (encode kids) text in (
      omega arith,
      (λ a l m. omega (arith, rising-within 128 0x80 f a l (omega arith))),
      bodies n kids (omega arith),
      omega (arith, framed-within 1 (λ o. o) cdata),
      bodies n after (omega arith),
    )
bodies n (leaf tag o after) h =
    let all = length-append (framed tag o) (encode after) in
    let own = framed-length tag o in
    (omega arith, bodies n after (omega arith))

-- what isn't refused with 15 has at most 32,768 octets
roomy-bodies : (room : OctetCount) (m : Meaning) → roomy room (encode m) ≡ true → Bodies 32_768 m
unfolding roomy
roomy-bodies room m h = bodies 32_768 m (omega (arith, leb-true (length (encode m)) (min room.0 32_768) h, min-le_right room.0 32_768))

-- whatever is written, of records as they came or of a tree that was edited, is the normal form of a tree without such bodies: the calls' claims say `write_answer`
pub written-bodies : (room : OctetCount) (o : Option Items) (size : OctetCount) → write_answer room o ≡ Ok size → (t : Items) × (o ≡ some t) × Bodies 32_768 (means [] t)
unfolding write_answer
written-bodies room none size h = never (cc h)
written-bodies room (some t) size h =
    let w = chosen (roomy room (encode (means [] t))) (sym h) (λ z. never (cc z)) in
    (t, refl, roomy-bodies room (means [] t) w.0)

fits-room : (lent : Lent) (t : Items) → fits_lent lent t ≡ true → roomy lent.room (normal_of t) ≡ true
unfolding fits_lent stored_within
fits-room lent t h =
    let stores = leb (length (store_of t)) lent.store.0 in
    let room = roomy lent.room (normal_of t) in
    and_right stores room (and_right (leb (count t) lent.records) (stores && room) h)

misfit-no : (lent : Lent) (t : Items) (size : OctetCount) → Ok size ≡ misfit lent t → ⊥
unfolding misfit
misfit-no lent t size = go (leb (count t) lent.records)
  where
    go : (b : Bool) → Ok size ≡ cond b (Err (refusal 15 0)) (Err (refusal 14 0)) → ⊥
    go true h = never (cc h)
    go false h = never (cc h)

-- and so is what normalise writes
pub normal-bodies : (lent : Lent) (j : Judged) (size : OctetCount) → normal_answer lent j ≡ Ok size → (t : Items) × (j ≡ accepted t) × Bodies 32_768 (meaning_of t)
unfolding normal_answer
normal-bodies lent (refused r) size h = never (cc h)
normal-bodies lent (accepted t) size h =
    let w = chosen (fits_lent lent t) (sym h) (misfit-no lent t size) in
    (t, refl, roomy-bodies lent.room (meaning_of t) (fits-room lent t w.0))
