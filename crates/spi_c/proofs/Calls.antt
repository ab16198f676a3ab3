-- From the claims of the library's calls to those of the calls for C.
use Rattle.std.specs.Prelude.{Option, Some, None, Result, Ok, Err}
use mathlib.Core.Path.{◌≡◌, refl, sym, ap, subst, ◌∙◌}
use mathlib.Core.Bool.{Bool, true, false, cond, ◌&&◌}
use mathlib.Core.List.{List, [], ◌++◌}
use Prim.Native.Nat.{ℕ, ◌+◌, ◌-◌, ◌≤◌, ◌<◌, min}
use native.Mathlib.Omega.{arith}
use lib.Dec.{leb, ltb}
use borrow.Author.Tests.{leb-true}
use lib.ListN.{length, take, drop, get_or, take-append-drop}
use lib.Seq.{sets, length-take-le}
use Rattle.octets.specs.declared.counts.Octets.{Octets as OctetCount}
use Rattle.octets.specs.Counts.{as_octets, size_of}
use Rattle.format.specs.declared.Outcome.{Outcome}
use Rattle.format.specs.declared.lent.RecordsMut.{RecordsMut}
use Rattle.format.specs.Lent.{six, lent_lists}
use Rattle.format.specs.declared.SameOutcome.{SameOutcome}
use Rattle.format.specs.declared.Span.{Span}
use Rattle.format.specs.Answers.{read_outcome, edit_outcome, write_outcome, same_outcome, check_outcome}
use Rattle.format.specs.Headers.{headers_of}
use Rattle.format.specs.Calls.{Lists, places, judge_answer, ReadClaim, span_of, edit_answer}
use Rattle.format.specs.Judge.{judge, Judged}
use Rattle.format.specs.Same.{same_answer}
use Rattle.format.specs.State.{Memory, tree_in, tree_held}
use Rattle.state.specs.Taking.{lent_by, NormaliseClaim, Leaves, WriteClaim, WriteStateClaim}
use Rattle.spi_c.specs.Packed.{packed_outcome, packed_same, packed_merge, packed_span, packed_sizes, Small, SmallSame, SmallMerge, SmallSpan, SmallSizes}
use Rattle.octets.specs.Numbers.{Octets}
use Rattle.octets.proofs.Lists.{sets-left}
use Rattle.octets.proofs.Tests.{never}
use Rattle.format.specs.declared.Refusal.{Refusal}
use Rattle.format.specs.Tree.{Items, count}
use Rattle.format.specs.Judge.Judged.{refused, accepted}
use Rattle.format.specs.Meaning.{normal_of}
use Rattle.format.specs.Loaded.{store_of}
use Rattle.format.specs.declared.Counts.{Counts}
use Rattle.format.specs.declared.SameRefusal.{SameRefusal}
use Rattle.survey.specs.Measure.{measured_of}
use Rattle.survey.specs.Survey.{needed_of, records_sizes}
use Rattle.survey.proofs.WholeSizes.{store-less}
use Rattle.survey.specs.declared.measure.Sizes.{Sizes}
use Rattle.survey.specs.declared.Needs.{Needs}
use Rattle.survey.specs.Makers.{store_octets}
use Rattle.pocket.specs.declared.DataType.{DataType}
use Rattle.pocket.specs.Table.{data_type}
use Rattle.pocket.specs.Gate.{gate_of}
use Rattle.fold.specs.Packed.{packed as folded_object}
use Rattle.fold.specs.Calls.{check_answer, PackClaim}
use Rattle.merge.specs.declared.Services.{Services}
use Rattle.merge.specs.declared.MergeOutcome.{MergeOutcome}
use Rattle.merge.specs.Calls.{MergeClaim, merge_outcome}
use Rattle.merge.specs.declared.Merged.{Merged}
use Rattle.merge.specs.declared.MergeRefusal.{MergeRefusal}
use Rattle.xml.specs.Export.{Exported, export_of, export_answer, export_octets, ExportClaim}
use Rattle.xml.specs.Export.Exported.{refuses, shows}
use Rattle.spi_c.specs.Claims.{ReadsC, ScansC, WritesC, NormalisesC, LeavesC, WritesStateC, GatesC, SameC, room_for, ExportsC, ChecksPackedC, PacksC, packed_needs, SizesC, services_of, MergesC}
use Rattle.spi_c.proofs.Told.{Told, told-small, told-same-small, told-merge-small, read_told, scan-told, write-told, normal-told, same-told, gate-told, export-told, check-told, pack-told, merge-told}

-- what lent slices hold, by the struct of them that was lent on
module _ (r : RecordsMut) (P : Lists → Type 0) (p : P (lent_lists r)) (tags kinds depths parents starts sizes : List ℕ) where
  pub held-lists : tags ≡ r.tags.now → kinds ≡ r.kinds.now → depths ≡ r.depths.now → parents ≡ r.parents.now → starts ≡ r.starts.now → sizes ≡ r.sizes.now
      → P (six tags kinds depths parents starts sizes)
  held-lists a b c d e f = rw (a, b, c, d, e, f) p

-- an answer is known, and with it its outcome and the number
module _ {A O : Type 0} (outcome : A → O) (answer known : A) (e : answer ≡ known) (o : O) (told : o ≡ outcome answer) where
  outcome-known : o ≡ outcome known
  outcome-known = told ∙ ap outcome e

  outcome-packed : (pack : O → ℕ) (a : ℕ) → a ≡ pack o → a ≡ pack (outcome known)
  outcome-packed pack a h = h ∙ ap pack outcome-known

  outcome-is : (P : O → Type 0) → P (outcome known) → P o
  outcome-is P h = subst P (sym outcome-known) h

module _ (object : List ℕ) (before after : Lists) (answer : Result Counts Refusal) (claim : ReadClaim object before after answer) (o : Outcome)
    (told : o ≡ read_outcome answer) where
  pub read_small : Small o
  read_small = outcome-is read_outcome _ _ claim.answers o told Small (told-small (read_told (places before) object))

  pub read-says : (a : ℕ) → a ≡ packed_outcome o → ReadsC object before after a
  read-says a h = record { answers = outcome-packed read_outcome _ _ claim.answers o told packed_outcome a h; leaves = record { answers = refl; leaves = claim.leaves } }

module _ (object : List ℕ) (answer : Result Counts Refusal) (claim : answer ≡ judge_answer (headers_of object) (judge object)) (o : Outcome)
    (told : o ≡ read_outcome answer) where
  pub scan-small : Small o
  scan-small = outcome-is read_outcome _ _ claim o told Small (told-small (scan-told object))

  pub scan-says : (a : ℕ) → a ≡ packed_outcome o → ScansC object a
  scan-says a h = record { answers = outcome-packed read_outcome _ _ claim o told packed_outcome a h }

module _ (n : ℕ) (m : Memory) (bodies' before after : List ℕ) (answer : Result OctetCount Refusal) (claim : WriteClaim n m bodies' before after answer)
    (o : Outcome) (told : o ≡ write_outcome answer) where
  pub write-small : Small o
  write-small = outcome-is write_outcome _ _ claim.answers o told Small (told-small (write-told (size_of before) (tree_in n m)))

  pub write-says : (a : ℕ) → a ≡ packed_outcome o → WritesC n m bodies' before after a
  write-says a h =
      record { answers = outcome-packed write_outcome _ _ claim.answers o told packed_outcome a h; leaves = record { answers = refl; sizes = claim.sizes; leaves = claim.leaves } }

module _ (object : List ℕ) (m m' : Memory) (room room' : List ℕ) (answer : Result OctetCount Refusal) (claim : NormaliseClaim object m m' room room' answer)
    (o : Outcome)
    (told : o ≡ write_outcome answer) where
  pub normal-small : Small o
  normal-small = outcome-is write_outcome _ _ claim.answers o told Small (told-small (normal-told (lent_by m room) object))

  pub normal-says : (a : ℕ) → a ≡ packed_outcome o → NormalisesC object m m' room room' a
  normal-says a h =
      record {
        answers = outcome-packed write_outcome _ _ claim.answers o told packed_outcome a h;
        leaves = record { answers = refl; leaves = claim.leaves; writes = claim.writes };
      }

-- taking in and editing, whose outcomes are told by the laws of Told
module _ (outcome : Judged) (m m' : Memory) (answer : Result ℕ Refusal) (claim : Leaves outcome m m' answer)
    (tells : Told (edit_outcome (edit_answer outcome))) (o : Outcome)
    (told : o ≡ edit_outcome answer) where
  pub leaves-small : Small o
  leaves-small = outcome-is edit_outcome _ _ claim.answers o told Small (told-small tells)

  pub leaves-says : (a : ℕ) → a ≡ packed_outcome o → LeavesC outcome m m' a
  leaves-says a h = record { answers = outcome-packed edit_outcome _ _ claim.answers o told packed_outcome a h; leaves = record { answers = refl; leaves = claim.leaves } }

module _ (n : ℕ) (m : Memory) (before after : List ℕ) (answer : Result OctetCount Refusal) (claim : WriteStateClaim n m before after answer) (o : Outcome)
    (told : o ≡ write_outcome answer) where
  pub write-state-small : Small o
  write-state-small = outcome-is write_outcome _ _ claim.answers o told Small (told-small (write-told (size_of before) (tree_held n m)))

  pub write-state-says : (a : ℕ) → a ≡ packed_outcome o → WritesStateC n m before after a
  write-state-says a h = record { answers = outcome-packed write_outcome _ _ claim.answers o told packed_outcome a h; leaves = record { answers = refl; leaves = claim.leaves } }

module _ (a b : List ℕ) (answer : Result Bool SameRefusal) (claim : answer ≡ same_answer (judge a) (judge b)) (o : SameOutcome)
    (told : o ≡ same_outcome answer) where
  pub same-small : SmallSame o
  same-small = outcome-is same_outcome _ _ claim o told SmallSame (told-same-small (same-told a b))

  pub same-says : (n : ℕ) → n ≡ packed_same o → SameC a b n
  same-says n h = record { answers = outcome-packed same_outcome _ _ claim o told packed_same n h }

module _ (object : List ℕ) (number : ℕ) (d : DataType) (de : d ≡ data_type number) (answer : Result (Unit {0}) Refusal) (claim : answer ≡ gate_of d object)
    (o : Outcome) (told : o ≡ check_outcome answer) where
  by_number : answer ≡ gate_of (data_type number) object
  by_number = claim ∙ ap (λ e. gate_of e object) de

  pub gate-small : Small o
  gate-small = outcome-is check_outcome _ _ by_number o told Small (told-small (gate-told (data_type number) object))

  pub gate-says : (a : ℕ) → a ≡ packed_outcome o → GatesC object number a
  gate-says a h = record { answers = outcome-packed check_outcome _ _ by_number o told packed_outcome a h }

module _ (object before : List ℕ) (most : ℕ) (m : most ≡ min (length before) 0xFF_FFFF_FFFF) (part : List ℕ) (answer : Result OctetCount Refusal)
    (claim : ExportClaim object (take (most - 0) (drop 0 before)) part answer) (o : Outcome) (told : o ≡ write_outcome answer) where
  room-is : size_of (take (most - 0) (drop 0 before)) ≡ room_for before
  room-is = ap as_octets (length-take-le (most - 0) (drop 0 before) (omega arith) ∙ (let z : most - 0 ≡ (room_for before).0 = omega arith in z))

  answer-is : answer ≡ export_answer (room_for before) (export_of object (judge object))
  answer-is = claim.answers ∙ ap (λ n. export_answer n (export_of object (judge object))) room-is

  pub export-small : Small o
  export-small = outcome-is write_outcome _ _ answer-is o told Small (told-small (export-told object (room_for before) (omega arith)))

  octets-fit : (s : Exported) → length (export_octets (room_for before) s) ≤ (room_for before).0
  unfolding export_octets
  octets-fit (refuses r) = omega arith
  octets-fit (shows x) = go (leb (length x) (room_for before).0) refl
    where
      go : (b : Bool) → leb (length x) (room_for before).0 ≡ b → length (cond b x []) ≤ (room_for before).0
      go true e = leb-true (length x) (room_for before).0 e
      go false e = omega arith

  -- what the part holds, before what lies behind it
  room-holds : part ++ drop (most - 0) (drop 0 before) ≡ sets before 0 (export_octets (room_for before) (export_of object (judge object)))
  room-holds =
      let x = export_octets (room_for before) (export_of object (judge object)) in
      let p : part ≡ sets (take (most - 0) before) 0 x = claim.leaves ∙ ap (λ n. sets (take (most - 0) before) 0 (export_octets n (export_of object (judge object)))) room-is in
      ap (λ u. u ++ drop (most - 0) before) p
      ∙ sym (sets-left (take (most - 0) before) (drop (most - 0) before) 0 x (omega (arith, octets-fit (export_of object (judge object)), ap (λ n. n.0) room-is)))
      ∙ ap (λ l. sets l 0 x) (take-append-drop (most - 0) before)

  pub export-says : (a : ℕ) → a ≡ packed_outcome o → ExportsC object before (part ++ drop (most - 0) (drop 0 before)) a
  export-says a h = record { answers = outcome-packed write_outcome _ _ answer-is o told packed_outcome a h; leaves = room-holds }

module _ (normal packed : List ℕ) (answer : Result (Unit {0}) Refusal) (claim : answer ≡ check_answer normal packed) (o : Outcome)
    (told : o ≡ check_outcome answer) where
  pub check-small : Small o
  check-small = outcome-is check_outcome _ _ claim o told Small (told-small (check-told normal packed))

  pub check-says : (a : ℕ) → a ≡ packed_outcome o → ChecksPackedC normal packed a
  check-says a h = record { answers = outcome-packed check_outcome _ _ claim o told packed_outcome a h }

module _ (object before after : List ℕ) (answer : Result OctetCount Refusal) (claim : PackClaim object before after answer) (o : Outcome)
    (told : o ≡ write_outcome answer) where
  pub pack-small : Small o
  pack-small = outcome-is write_outcome _ _ claim.answers o told Small (told-small (pack-told (size_of before) (folded_object object)))

  pub pack-says : (a : ℕ) → a ≡ packed_outcome o → PacksC object before after a
  pack-says a h = record { answers = outcome-packed write_outcome _ _ claim.answers o told packed_outcome a h; leaves = record { answers = refl; leaves = claim.leaves } }

module _ (bearers : Bool) (by : Services) (e : by ≡ services_of bearers) (basic advanced : List ℕ) (os : Octets basic) (ps : Octets advanced) (m m' : Memory)
    (room room' : List ℕ) (answer : Result Merged MergeRefusal) (claim : MergeClaim by basic advanced m m' room room' answer) (o : MergeOutcome)
    (told : o ≡ merge_outcome answer) where
  pub merge-small : SmallMerge o
  merge-small = outcome-is merge_outcome _ _ claim.answers o told SmallMerge (told-merge-small (merge-told by (lent_by m room) basic advanced os ps))

  pub merge-says : (a : ℕ) → a ≡ packed_merge o → MergesC (services_of bearers) basic advanced m m' room room' a
  merge-says a h =
      subst (λ x. MergesC x basic advanced m m' room room' a) e
      (record {
        answers = outcome-packed merge_outcome _ _ claim.answers o told packed_merge a h;
        leaves = record { answers = refl; writes = claim.writes; leaves = claim.leaves };
      })

-- ---- what an object needs: no more of a store than of a room, and of that no more than an object may have
measured-small : (o : List ℕ) → Octets o → (t : Items) → judge o ≡ accepted t → SmallSizes (measured_of t)
unfolding measured_of
measured-small o os t h = go (leb (length (normal_of t)) 32_768) refl
  where
    go : (b : Bool) → leb (length (normal_of t)) 32_768 ≡ b → SmallSizes (cond b (Some (store_octets (size_of (store_of t)) (size_of (normal_of t)))) None)
    go true q =
        let l = leb-true (length (normal_of t)) 32_768 q in
        record { start = omega (arith, store-less o t os h); size = omega arith }
    go false q = tt

module _ (o : List ℕ) (v : Result Needs Refusal) (e : v ≡ needed_of (judge o)) where
  pub needs-none : (r : Refusal) → v ≡ Err r → SizesC o 0
  unfolding packed_needs
  needs-none r f = record { answers = sym (ap packed_needs (sym e ∙ f)) }

  module _ (needs : Needs) (f : v ≡ Ok needs) where
    pub needs-small : Octets o → SmallSizes needs.sizes
    unfolding needed_of
    needs-small os = go (judge o) refl
      where
        go : (j : Judged) → judge o ≡ j → SmallSizes needs.sizes
        go (refused r) h = let w : Ok needs ≡ Err r = sym f ∙ e ∙ ap needed_of h in never (cc)
        go (accepted t) h =
            let w : Ok needs ≡ needed_of (accepted t) = sym f ∙ e ∙ ap needed_of h in
            let same : needs ≡ records_sizes (count t) (measured_of t) = cc in
            subst SmallSizes (sym (ap (λ k. k.sizes) same)) (measured-small o os t h)

    pub needs-told : (a : ℕ) → a ≡ packed_sizes needs.sizes → SizesC o a
    unfolding packed_needs
    needs-told a g = record { answers = g ∙ ap packed_needs (sym f ∙ e) }

-- ---- packed_sizes
module _ (m : Option Sizes) where
  pub sizes-over : m ≡ None → 32_769 ≡ packed_sizes m
  unfolding packed_sizes
  sizes-over q = rw q

  module _ (sizes : Sizes) (q : m ≡ Some sizes) where
    pub sizes-fit : SmallSizes m → SmallSpan (record { start = sizes.store.0; size = sizes.octets.0 })
    sizes-fit h = rw q at h

    pub sizes-packed : (a : ℕ) → a ≡ packed_span (record { start = sizes.store.0; size = sizes.octets.0 }) → a ≡ packed_sizes m
    unfolding packed_sizes
    sizes-packed a e = e ∙ sym (ap packed_sizes q)

pub ruleset sizes-ways = (sizes-over, sizes-fit, sizes-packed)

-- numbers of 16 bits make a small span
pub span_small : (object starts sizes : List ℕ) (i : ℕ) → get_or starts i 0 < 0x1_0000 → get_or sizes i 0 < 0x1_0000 → (s : Span) → s ≡ span_of object starts sizes i → SmallSpan s
unfolding span_of
span_small object starts sizes i f g s e = subst SmallSpan (sym e) (go (ltb i (min (length starts) (length sizes)) && leb (get_or starts i 0 + get_or sizes i 0) (length object)))
  where
    go : (b : Bool) → SmallSpan (cond b (record { start = get_or starts i 0; size = get_or sizes i 0 }) (record { start = 0; size = 0 }))
    go true = record { start = omega arith; size = omega arith }
    go false = record { start = omega arith; size = omega arith }
