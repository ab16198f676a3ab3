-- The answers of the calls fit their bits, and are read back from the number that packs them.
use Rattle.std.specs.Prelude.{Ok, Err}
use mathlib.Core.Path.{◌≡◌, refl, subst}
use mathlib.Core.Bool.{Bool, true, false, cond, ◌&&◌}
use mathlib.Core.Option.{Option, none, some}
use mathlib.Core.List.{List, [], ◌∷◌}
use Prim.Native.Nat.{ℕ, ◌≤◌, ◌<◌, min}
use native.Mathlib.Omega.{arith}
use lib.Dec.{eqb, leb}
use lib.ListN.{length}
use borrow.Author.Tests.{ne_eqb, leb-true}
use Rattle.octets.specs.declared.counts.Octets.{Octets as OctetCount}
use Rattle.octets.specs.Counts.{as_octets, size_of}
use Rattle.octets.specs.Numbers.{Octets as AreOctets}
use Rattle.octets.proofs.Tests.{and_left, and_right, never}
use Rattle.format.specs.declared.Refusal.{Refusal}
use Rattle.format.specs.declared.Outcome.{Outcome}
use Rattle.format.specs.declared.SameOutcome.{SameOutcome}
use Rattle.format.specs.Answers.{refusal, read_outcome, edit_outcome, write_outcome, same_outcome, check_outcome}
use Rattle.format.specs.Tree.{Items, count}
use Rattle.format.specs.Headers.{headers_of}
use Rattle.format.specs.Judge.{Judged, rule, first, unless, outermost, read, judge}
use Rattle.format.specs.Judge.Judged.{refused, accepted}
use Rattle.format.specs.Meaning.{Meaning, means, meaning_of, encode, normal_of}
use Rattle.format.specs.Loaded.{store_of}
use Rattle.format.specs.Calls.{counts_of, judge_answer, read_answer, edit_answer, roomy, write_answer, Lent, stored_within, fits_lent, misfit, normal_answer}
use Rattle.format.specs.Same.{same_meaning, same_answer}
use Rattle.format.specs.State.{Memory, tree_held}
use Rattle.format.proofs.Headers.{few-headers, few}
use Rattle.format.proofs.Refusals.{refusal-inside}
use Rattle.format.proofs.Rules.{accepted-size}
use Rattle.format.proofs.Loading.{loaded-count}
use Rattle.format.proofs.Written.{located-bytes}
use Rattle.state.specs.Taking.{taken_in}
use Rattle.state.proofs.HeldTree.{held}
use Rattle.state.proofs.Taken.{Fitting, taken-ends}
use Rattle.state.proofs.Taken.Fitting.{crowded, overfull, fits}
use Rattle.edits.specs.Tree.{Edit}
use Rattle.edits.specs.Calls.{edited_in}
use Rattle.edits.specs.Runs.{BringsOctets}
use Rattle.edits.proofs.Standing.{held-stands}
use Rattle.edits.proofs.Changed.{edit-outcome}
use Rattle.edits.proofs.FewRecords.{tree-few}
use Rattle.edits.proofs.Only.{Ends, edit-ends}
use Rattle.edits.proofs.Only.Ends.{nowhere, unruled, ruled}
use Rattle.survey.specs.First.{place_at, sought_as, sought_in}
use Rattle.survey.proofs.First.{place_inside}
use Rattle.pocket.specs.declared.DataType.{DataType}
use Rattle.pocket.specs.Gate.{offends, gate_answer, gate_of}
use Rattle.fold.specs.Calls.{passes, check_answer, pack_answer}
use Rattle.merge.specs.declared.Services.{Services}
use Rattle.merge.specs.declared.MergeOutcome.{MergeOutcome}
use Rattle.merge.specs.Merged.{merged}
use Rattle.merge.specs.Sizes.{records_in}
use Rattle.merge.specs.Calls.{conflict, misfit as merge_misfit, unless_refused, merged_into, outcome, answer_of, refused_as, merge_outcome}
use Rattle.merge.specs.Calls.Outcome.{gives}
use Rattle.merge.proofs.Results.{small, merge-result}
use Rattle.xml.specs.Xml.{xml}
use Rattle.xml.specs.Named.{plain_at}
use Rattle.xml.specs.Export.{unless_plain, export_of, export_answer}
use Rattle.xml.proofs.NamedOnly.{plain-inside}
use Rattle.spi_c.specs.Packed.{packed, number_in, object_in, field_in, value_in, packed_outcome, outcome_in, packed_same, same_in, packed_merge, merge_in, Small, SmallSame, SmallMerge}
use Rattle.spi_c.proofs.Packing.{packed-number, packed-object, packed-field, packed-value, counts-number, counts-second, counts-first}

-- what every refusal of a call is
pub record Kept (r : Refusal) : Type 0 where
  pub least : 1 ≤ r.number
  pub most : r.number ≤ 24
  pub place : r.place ≤ 32_768
  pub field : r.field ≤ 5

-- a refusal, of the object of that number, is read back
module _ (w : ℕ) (r : Refusal) (l : w < 0x100) (k : Kept r) where
  low : r.field < 0x100
  low = omega (arith, k.field)

  near : r.place < 0x100_0000_0000
  near = omega (arith, k.place)

  refusal-numbered : eqb r.number 0 ≡ false
  refusal-numbered = ne_eqb r.number 0 (λ z. omega (arith, k.least))

  refusal-number : number_in (packed r.number w r.field r.place) ≡ r.number
  refusal-number = packed-number r.number w r.field r.place l low near

  refusal-object : object_in (packed r.number w r.field r.place) ≡ w
  refusal-object = packed-object r.number w r.field r.place l low near

  refusal-field : field_in (packed r.number w r.field r.place) ≡ r.field
  refusal-field = packed-field r.number w r.field r.place l low near

  refusal-place : value_in (packed r.number w r.field r.place) ≡ r.place
  refusal-place = packed-value r.number w r.field r.place l low near

-- the outcomes that calls have: a count and no refusal, or a refusal and no count
pub data Told : Outcome → Type 0 where
  counts : (n i : ℕ) → n < 0x100_0000_0000 → i < 0x1_0000 → Told (record { number = 0; place = 0; field = 0; count = n; items = i })
  refuses : (r : Refusal) → Kept r → Told (record { number = r.number; place = r.place; field = r.field; count = 0; items = 0 })

pub told-small : {o : Outcome} → Told o → Small o
told-small (counts n i l m) = record { place = omega arith; count = omega arith; items = m }
told-small (refuses r k) = record { place = omega arith; count = omega arith; items = omega arith }

-- number, place, field, count and items are read back
pub told_back : {o : Outcome} → Told o → outcome_in (packed_outcome o) ≡ o
unfolding packed_outcome outcome_in
told_back (counts n i l m) = rw (counts-number i n m l, counts-second i n m l, counts-first i n m l)
told_back (refuses r k) =
    let none : 0 < 0x100 = omega arith in
    let e = refusal-numbered 0 r none k in
    rw (e, refusal-number 0 r none k, refusal-field 0 r none k, refusal-place 0 r none k, e)

-- the same of a comparison
pub data ToldSame : SameOutcome → Type 0 where
  decides : (b : Bool) → ToldSame (record { same = b; which = 0; number = 0; place = 0; field = 0 })
  refuses : (w : ℕ) (r : Refusal) → w < 0x100 → Kept r → ToldSame (record { same = false; which = w; number = r.number; place = r.place; field = r.field })

pub told-same-small : {o : SameOutcome} → ToldSame o → SmallSame o
told-same-small (decides b) = record { place = omega arith }
told-same-small (refuses w r l k) = record { place = omega arith }

packed-refusal : (n w f v : ℕ) → 1 ≤ n → eqb (packed n w f v) 1 ≡ false
unfolding packed
packed-refusal n w f v l = ne_eqb (packed n w f v) 1 (λ z. omega arith)

same-refused : (w : ℕ) (r : Refusal) → w < 0x100 → Kept r
    → same_in (packed_same (record { same = false; which = w; number = r.number; place = r.place; field = r.field })) ≡ record { same = false; which = w; number = r.number; place = r.place; field = r.field }
unfolding packed_same same_in
same-refused w r l k =
    let e = refusal-numbered w r l k in
    rw (e, packed-refusal r.number w r.field r.place k.least, refusal-object w r l k, refusal-number w r l k, refusal-field w r l k, refusal-place w r l k, e)

pub told-same-back : {o : SameOutcome} → ToldSame o → same_in (packed_same o) ≡ o
unfolding packed_same same_in packed
told-same-back (decides false) = refl
told-same-back (decides true) = refl
told-same-back (refuses w r l k) = same-refused w r l k

-- the same of merging
pub data ToldMerge : MergeOutcome → Type 0 where
  counts : (n s : ℕ) → n < 0x1_0000 → s < 0x100_0000_0000 → ToldMerge (record { which = 0; number = 0; place = 0; field = 0; records = n; size = as_octets s })
  refuses : (w : ℕ) (r : Refusal) → w < 0x100 → Kept r → ToldMerge (refused_as w r)

pub told-merge-small : {o : MergeOutcome} → ToldMerge o → SmallMerge o
told-merge-small (counts n s l m) = record { place = omega arith; records = l; size = m }
told-merge-small (refuses w r l k) = record { place = omega arith; records = omega arith; size = omega arith }

pub told-merge-back : {o : MergeOutcome} → ToldMerge o → merge_in (packed_merge o) ≡ o
unfolding packed_merge merge_in
told-merge-back (counts n s l m) = rw (counts-number n s l m, counts-second n s l m, counts-first n s l m)
told-merge-back (refuses w r l k) =
    let e = refusal-numbered w r l k in
    rw (e, refusal-number w r l k, refusal-object w r l k, refusal-field w r l k, refusal-place w r l k, e)

-- ---- an object: rule 1 bounds its size, and with it places and counts
module _ (o : List ℕ) where
  abbrev sized : Bool
  sized = leb 1 (length o) && leb (length o) 32_768

  judged-kept : (r : Refusal) → judge o ≡ refused r → Kept r
  unfolding judge rule unless
  judged-kept r h = go sized refl h
    where
      inside : sized ≡ true → Kept r
      inside e =
          let a = leb-true 1 (length o) (and_left (leb 1 (length o)) (leb (length o) 32_768) e) in
          let b = leb-true (length o) 32_768 (and_right (leb 1 (length o)) (leb (length o) 32_768) e) in
          let i = refusal-inside o r a h in
          record { least = i.least; most = omega (arith, i.most); place = omega (arith, i.place); field = i.field }

      go : (b : Bool) → sized ≡ b → unless (rule 1 0 b) (read outermost 0 o) ≡ refused r → Kept r
      go true e q = inside e
      go false e q = let p : refusal 1 0 ≡ r = cc in subst (λ x. Kept x) p (record { least = omega arith; most = omega arith; place = omega arith; field = omega arith })

  accepted-few : (t : Items) → judge o ≡ accepted t → count t ≤ 32_768
  accepted-few t h = omega (arith, (accepted-size o t h).1, few o t h)

late-refusal : (n : ℕ) → 1 ≤ n → n ≤ 24 → Kept (refusal n 0)
late-refusal n l m = record { least = l; most = omega arith; place = omega arith; field = omega arith }

-- ---- read
counts-told : (o : List ℕ) (t : Items) → judge o ≡ accepted t → Told (read_outcome (Ok (counts_of (headers_of o) t)))
counts-told o t h = counts (count t) (headers_of o) (omega (arith, accepted-few o t h)) (omega (arith, (few-headers o t h).half, (accepted-size o t h).1))

read-cases : (n : ℕ) (o : List ℕ) (j : Judged) → judge o ≡ j → Told (read_outcome (read_answer n (headers_of o) j))
unfolding read_answer
read-cases n o (refused r) h = refuses r (judged-kept o r h)
read-cases n o (accepted t) h = go (leb (count t) n)
  where
    go : (b : Bool) → Told (read_outcome (cond b (Ok (counts_of (headers_of o) t)) (Err (refusal 14 0))))
    go true = counts-told o t h
    go false = refuses (refusal 14 0) (late-refusal 14 (omega arith) (omega arith))

pub read_told : (n : ℕ) (o : List ℕ) → Told (read_outcome (read_answer n (headers_of o) (judge o)))
read_told n o = read-cases n o (judge o) refl

-- ---- scan
scan-cases : (o : List ℕ) (j : Judged) → judge o ≡ j → Told (read_outcome (judge_answer (headers_of o) j))
unfolding judge_answer
scan-cases o (refused r) h = refuses r (judged-kept o r h)
scan-cases o (accepted t) h = counts-told o t h

pub scan-told : (o : List ℕ) → Told (read_outcome (judge_answer (headers_of o) (judge o)))
scan-told o = scan-cases o (judge o) refl

-- ---- write
roomy-small : (room : OctetCount) (o : List ℕ) → roomy room o ≡ true → length o ≤ 32_768
unfolding roomy
roomy-small room o h = omega (arith, leb-true (length o) (min room.0 32_768) h)

pub write-told : (room : OctetCount) (t : Option Items) → Told (write_outcome (write_answer room t))
unfolding write_answer
write-told room none = refuses (refusal 16 0) (late-refusal 16 (omega arith) (omega arith))
write-told room (some t) = go (roomy room (encode (means [] t))) refl
  where
    go : (b : Bool) → roomy room (encode (means [] t)) ≡ b → Told (write_outcome (cond b (Ok (size_of (encode (means [] t)))) (Err (refusal 15 0))))
    go true e = counts (length (encode (means [] t))) 0 (omega (arith, roomy-small room (encode (means [] t)) e)) (omega arith)
    go false e = refuses (refusal 15 0) (late-refusal 15 (omega arith) (omega arith))

-- ---- normalise
misfit-told : (lent : Lent) (t : Items) → Told (write_outcome (misfit lent t))
unfolding misfit
misfit-told lent t = go (leb (count t) lent.records)
  where
    go : (b : Bool) → Told (write_outcome (cond b (Err (refusal 15 0)) (Err (refusal 14 0))))
    go true = refuses (refusal 15 0) (late-refusal 15 (omega arith) (omega arith))
    go false = refuses (refusal 14 0) (late-refusal 14 (omega arith) (omega arith))

fits-small : (lent : Lent) (t : Items) → fits_lent lent t ≡ true → length (normal_of t) ≤ 32_768
unfolding fits_lent stored_within
fits-small lent t h =
    let a = leb (length (store_of t)) lent.store.0 in
    let b = roomy lent.room (normal_of t) in
    roomy-small lent.room (normal_of t) (and_right a b (and_right (leb (count t) lent.records) (a && b) h))

normal-cases : (lent : Lent) (o : List ℕ) (j : Judged) → judge o ≡ j → Told (write_outcome (normal_answer lent j))
unfolding normal_answer
normal-cases lent o (refused r) h = refuses r (judged-kept o r h)
normal-cases lent o (accepted t) h = go (fits_lent lent t) refl
  where
    go : (b : Bool) → fits_lent lent t ≡ b → Told (write_outcome (cond b (Ok (size_of (normal_of t))) (misfit lent t)))
    go true e = counts (length (normal_of t)) 0 (omega (arith, fits-small lent t e)) (omega arith)
    go false e = misfit-told lent t

pub normal-told : (lent : Lent) (o : List ℕ) → Told (write_outcome (normal_answer lent (judge o)))
normal-told lent o = normal-cases lent o (judge o) refl

-- ---- taking in and editing: a tree that is laid has as many records as an object may have, or at most two for each octet of its normal form
fitting-told : {most : OctetCount} {m : Memory} {u : Items} {j : Judged} → Fitting most m u j → count u < 0x100_0000_0000 → Told (edit_outcome (edit_answer j))
unfolding edit_answer
fitting-told (crowded a) l = refuses (refusal 14 0) (late-refusal 14 (omega arith) (omega arith))
fitting-told (overfull a b) l = refuses (refusal 15 0) (late-refusal 15 (omega arith) (omega arith))
fitting-told {u = u} (fits f g) l = counts (count u) 0 l (omega arith)

taken-cases : (most : OctetCount) (m : Memory) (o : List ℕ) → AreOctets o → (j : Judged) → judge o ≡ j → Told (edit_outcome (edit_answer (taken_in most m j)))
unfolding taken_in edit_answer
taken-cases most m o os (refused r) h = refuses r (judged-kept o r h)
taken-cases most m o os (accepted t) h = fitting-told (taken-ends most m t) (omega (arith, accepted-few o t h, loaded-count o t os h))

pub taken-told : (most : OctetCount) (m : Memory) (o : List ℕ) → AreOctets o → Told (edit_outcome (edit_answer (taken_in most m (judge o))))
taken-told most m o os = taken-cases most m o os (judge o) refl

edit-cases : (e : Edit) (n : ℕ) (m : Memory) → AreOctets m.store → BringsOctets e → (t : Items) → tree_held n m ≡ some t → {j : Judged} → Ends m e t j
    → Told (edit_outcome (edit_answer j))
unfolding edit_answer
edit-cases e n m os b t h (nowhere p) = refuses (refusal 18 0) (late-refusal 18 (omega arith) (omega arith))
edit-cases e n m os b t h (unruled p q) = refuses (refusal 16 0) (late-refusal 16 (omega arith) (omega arith))
edit-cases e n m os b t h (ruled u j p q (crowded a)) = refuses (refusal 14 0) (late-refusal 14 (omega arith) (omega arith))
edit-cases e n m os b t h (ruled u j p q (overfull a c)) = refuses (refusal 15 0) (late-refusal 15 (omega arith) (omega arith))
edit-cases e n m os b t h (ruled u j p q (fits f g)) =
    let held = held n m t h in
    let o = edit-outcome e t u (located-bytes m.store os t held.whole.located) b (held-stands n m t held) p q in
    counts (count u) 0 (omega (arith, tree-few u o.stands.rules, f.small)) (omega arith)

pub edit-told : (e : Edit) (n : ℕ) (m : Memory) → AreOctets m.store → BringsOctets e → Told (edit_outcome (edit_answer (edited_in m e (tree_held n m))))
unfolding edited_in edit_answer
edit-told e n m os b = go (tree_held n m) refl
  where
    go : (o : Option Items) → tree_held n m ≡ o → Told (edit_outcome (edit_answer (edited_in m e o)))
    go none h = refuses (refusal 16 0) (late-refusal 16 (omega arith) (omega arith))
    go (some t) h = edit-cases e n m os b t h (edit-ends m e t)

-- ---- same
decided : (b : Bool) → ToldSame (same_outcome (cond b (Ok true) (Ok false)))
decided true = decides true
decided false = decides false

same_cases : (o p : List ℕ) (i j : Judged) → judge o ≡ i → judge p ≡ j → ToldSame (same_outcome (same_answer i j))
unfolding same_answer
same_cases o p (refused r) j h g = refuses 1 r (omega arith) (judged-kept o r h)
same_cases o p (accepted t) (refused r) h g = refuses 2 r (omega arith) (judged-kept p r g)
same_cases o p (accepted t) (accepted u) h g = decided (same_meaning (meaning_of t) (meaning_of u))

pub same-told : (o p : List ℕ) → ToldSame (same_outcome (same_answer (judge o) (judge p)))
same-told o p = same_cases o p (judge o) (judge p) refl refl

-- ---- gate
pub gate-told : (d : DataType) (o : List ℕ) → Told (check_outcome (gate_of d o))
unfolding gate_of gate_answer sought_in sought_as
gate-told d o = go (judge o) refl (place_at (offends d) o) refl
  where
    go : (j : Judged) → judge o ≡ j → (p : Option ℕ) → place_at (offends d) o ≡ p → Told (check_outcome (gate_answer (sought_as j p)))
    go (refused r) h p e = refuses r (judged-kept o r h)
    go (accepted t) h none e = counts 0 0 (omega arith) (omega arith)
    go (accepted t) h (some place) e =
        refuses (refusal 19 place) (record { least = omega arith; most = omega arith; place = omega (arith, place_inside (offends d) o place e, (accepted-size o t h).1); field = omega arith })

-- ---- export
export-cases : (o : List ℕ) (room : OctetCount) → room.0 < 0x100_0000_0000 → (j : Judged) → judge o ≡ j → Told (write_outcome (export_answer room (export_of o j)))
unfolding export_of export_answer unless_plain
export-cases o room l (refused r) h = refuses r (judged-kept o r h)
export-cases o room l (accepted t) h = plain (plain_at o) refl
  where
    fits : (x : List ℕ) (b : Bool) → leb (length x) room.0 ≡ b → Told (write_outcome (cond b (Ok (size_of x)) (Err (refusal 15 0))))
    fits x true e = counts (length x) 0 (omega (arith, leb-true (length x) room.0 e)) (omega arith)
    fits x false e = refuses (refusal 15 0) (late-refusal 15 (omega arith) (omega arith))

    plain : (p : Option ℕ) → plain_at o ≡ p → Told (write_outcome (export_answer room (unless_plain p (xml (meaning_of t)))))
    plain none e = fits (xml (meaning_of t)) (leb (length (xml (meaning_of t))) room.0) refl
    plain (some place) e = refuses (refusal 17 place) (record { least = omega arith; most = omega arith; place = omega (arith, plain-inside o place e, (accepted-size o t h).1); field = omega arith })

pub export-told : (o : List ℕ) (room : OctetCount) → room.0 < 0x100_0000_0000 → Told (write_outcome (export_answer room (export_of o (judge o))))
export-told o room l = export-cases o room l (judge o) refl

-- ---- check_packed and pack
pub check-told : (o p : List ℕ) → Told (check_outcome (check_answer o p))
unfolding check_answer
check-told o p = go (passes o p)
  where
    go : (b : Bool) → Told (check_outcome (cond b (Ok tt) (Err (refusal 22 0))))
    go true = counts 0 0 (omega arith) (omega arith)
    go false = refuses (refusal 22 0) (late-refusal 22 (omega arith) (omega arith))

pub pack-told : (room : OctetCount) (p : Option (List ℕ)) → Told (write_outcome (pack_answer room p))
unfolding pack_answer
pack-told room none = refuses (refusal 22 0) (late-refusal 22 (omega arith) (omega arith))
pack-told room (some p) = go (roomy room p) refl
  where
    go : (b : Bool) → roomy room p ≡ b → Told (write_outcome (cond b (Ok (size_of p)) (Err (refusal 15 0))))
    go true e = counts (length p) 0 (omega (arith, roomy-small room p e)) (omega arith)
    go false e = refuses (refusal 15 0) (late-refusal 15 (omega arith) (omega arith))

-- ---- merge
two-rules : (a b : ℕ) (x y : Bool) (r : Refusal) → Kept (refusal a 0) → Kept (refusal b 0) → first (rule a 0 x ∷ rule b 0 y ∷ []) ≡ some r → Kept r
unfolding first rule
two-rules a b false y r k l h = let e : refusal a 0 ≡ r = cc in subst (λ q. Kept q) e k
two-rules a b true false r k l h = let e : refusal b 0 ≡ r = cc in subst (λ q. Kept q) e l
two-rules a b true true r k l h = never (cc)

conflict-kept : (by : Services) (m n : Meaning) (r : Refusal) → conflict by m n ≡ some r → Kept r
unfolding conflict
conflict-kept by m n r h = two-rules 20 21 _ _ r (late-refusal 20 (omega arith) (omega arith)) (late-refusal 21 (omega arith) (omega arith)) h

misfit-kept : (lent : Lent) (m : Meaning) (r : Refusal) → merge_misfit lent m ≡ some r → Kept r
unfolding merge_misfit
misfit-kept lent m r h = two-rules 14 15 _ _ r (late-refusal 14 (omega arith) (omega arith)) (late-refusal 15 (omega arith) (omega arith)) h

module _ (by : Services) (lent : Lent) (o p : List ℕ) (os : AreOctets o) (ps : AreOctets p) where
  -- the result is an object, so its records are few
  gives-told : (w : Meaning) → outcome by lent (judge o) (judge p) ≡ gives w → ToldMerge (merge_outcome (answer_of (gives w)))
  unfolding answer_of
  gives-told w h =
      let result = merge-result by lent o p w os ps h in
      let again = result.again in
      counts (records_in w) (length (encode w)) (omega (arith, accepted-few (encode w) again.tree again.accepts, again.records)) (omega (arith, small lent w result.both.fits))

  pair-told : (t u : Items) → judge o ≡ accepted t → judge p ≡ accepted u → (c f : Option Refusal) → conflict by (meaning_of t) (meaning_of u) ≡ c
      → merge_misfit lent (merged by (meaning_of t) (meaning_of u)) ≡ f
      → ToldMerge (merge_outcome (answer_of (unless_refused c (unless_refused f (gives (merged by (meaning_of t) (meaning_of u)))))))
  unfolding outcome merged_into unless_refused answer_of
  pair-told t u h g (some r) f e k = refuses 0 r (omega arith) (conflict-kept by (meaning_of t) (meaning_of u) r e)
  pair-told t u h g none (some r) e k = refuses 0 r (omega arith) (misfit-kept lent (merged by (meaning_of t) (meaning_of u)) r k)
  pair-told t u h g none none e k = gives-told (merged by (meaning_of t) (meaning_of u)) (rw (h, g, e, k))

  merge-cases : (i j : Judged) → judge o ≡ i → judge p ≡ j → ToldMerge (merge_outcome (answer_of (outcome by lent i j)))
  unfolding outcome merged_into answer_of
  merge-cases (refused r) j h g = refuses 1 r (omega arith) (judged-kept o r h)
  merge-cases (accepted t) (refused r) h g = refuses 2 r (omega arith) (judged-kept p r g)
  merge-cases (accepted t) (accepted u) h g = pair-told t u h g _ _ refl refl

  pub merge-told : ToldMerge (merge_outcome (answer_of (outcome by lent (judge o) (judge p))))
  merge-told = merge-cases (judge o) (judge p) refl refl
