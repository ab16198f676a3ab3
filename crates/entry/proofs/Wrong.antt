-- Wrong answers of read_records, refuted at the object of reader's proofs/Wrong: what a slip in the claim or in the code would answer or leave.
use Rattle.std.specs.Prelude.{Result, Ok, Err}
use mathlib.Core.Path.{◌≡◌, sym, ap, ◌∙◌}
use mathlib.Core.List.{List, [], ◌∷◌}
use Prim.Native.Nat.{ℕ}
use native.Mathlib.Omega.{arith}
use lib.ListN.{get_or}
use Rattle.octets.proofs.Tests.{never}
use Rattle.values.specs.Table.{attribute}
use Rattle.format.specs.declared.Record.{Record}
use Rattle.format.specs.Answers.{refusal}
use Rattle.format.specs.Tree.{kind_of, count, records}
use Rattle.format.specs.Calls.{Lists, places, read_answer, read_records, ReadRecordsClaim}
use Rattle.format.specs.declared.Counts.{Counts}
use Rattle.format.specs.declared.Refusal.{Refusal}
use Rattle.reader.proofs.Wrong.{object, judged, one, two, top, inner}

-- a record that stands in the slice before the call
abbrev old : Record
old = record { tag = 9; kind = 9; depth = 9; parent = 9; start = 9; size = 9 }

abbrev short : List Record
short = old ∷ []

abbrev long : List Record
long = old ∷ old ∷ old ∷ []

module _ (after : Lists) (slice' : List Record) (r : Result Counts Refusal) where
  with-short : ReadRecordsClaim object two after short slice' r → (r ≡ Err (refusal 14 0)) × (slice' ≡ short)
  unfolding read_answer read_records places count
  with-short c = (rw judged at c.answers, rw judged at c.fills)

  with-one : ReadRecordsClaim object one after long slice' r → slice' ≡ long
  unfolding read_records places count
  with-one c = rw judged at c.fills

  with-long : ReadRecordsClaim object two after long slice' r → slice' ≡ top ∷ inner ∷ old ∷ []
  unfolding read_records places count records kind_of attribute
  with-long c = rw judged at c.fills

-- the lists have places, and the slice has not
pub slice-not-counted : (after : Lists) (slice' : List Record) → ReadRecordsClaim object two after short slice' (Ok (record { records = 2; items = 2 })) → ⊥
slice-not-counted after slice' c =
    let h = (with-short after slice' (Ok (record { records = 2; items = 2 })) c).0 in
    never (cc h)

-- one record stored and then refused: the slice is too short, or a list
pub slice-begun : (after : Lists) (r : Result Counts Refusal) → ReadRecordsClaim object two after short (top ∷ []) r → ⊥
slice-begun after r c = let z : ◌≡◌ {A = ℕ} 3 9 = ap (λ s. (get_or s 0 old).tag) (with-short after (top ∷ []) r c).1 in omega arith

pub slice-filled-alone : (after : Lists) (r : Result Counts Refusal) → ReadRecordsClaim object one after long (top ∷ inner ∷ old ∷ []) r → ⊥
slice-filled-alone after r c = let z : ◌≡◌ {A = ℕ} 3 9 = ap (λ s. (get_or s 0 old).tag) (with-one after (top ∷ inner ∷ old ∷ []) r c) in omega arith

-- the slice left as it was; its last record not stored; a record behind them cleared
pub slice-left : (after : Lists) (r : Result Counts Refusal) → ReadRecordsClaim object two after long long r → ⊥
slice-left after r c = let z : ◌≡◌ {A = ℕ} 9 3 = ap (λ s. (get_or s 0 old).tag) (with-long after long r c) in omega arith

pub slice-top-alone : (after : Lists) (r : Result Counts Refusal) → ReadRecordsClaim object two after long (top ∷ old ∷ old ∷ []) r → ⊥
slice-top-alone after r c = let z : ◌≡◌ {A = ℕ} 9 6 = ap (λ s. (get_or s 1 old).tag) (with-long after (top ∷ old ∷ old ∷ []) r c) in omega arith

pub slice-cleared : (after : Lists) (slice' : List Record) (r : Result Counts Refusal) → (get_or slice' 2 top).kind ≡ 0 → ReadRecordsClaim object two after long slice' r → ⊥
slice-cleared after slice' r e c = let z : ◌≡◌ {A = ℕ} 9 0 = sym (ap (λ s. (get_or s 2 top).kind) (with-long after slice' r c)) ∙ e in omega arith
