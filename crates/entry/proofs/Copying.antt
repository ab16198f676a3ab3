-- Records copied out of the lists one by one; and read_records, as what the reader leaves in the lists and what is then copied.
use Rattle.std.specs.Prelude.{Result, Ok, Err}
use mathlib.Core.Path.{◌≡◌, refl, sym, ap, ◌∙◌}
use mathlib.Core.Bool.{Bool, true, false, cond}
use mathlib.Core.List.{List, [], ◌++◌}
use Prim.Native.Nat.{ℕ, ◌+◌, ◌≤◌, min}
use native.Mathlib.Nat.{zero-add}
use native.Mathlib.Numerals.{add-one}
use native.Mathlib.Omega.{arith}
use lib.Dec.{leb}
use lib.ListN.{length, take, drop, set}
use lib.Seq.{sets, take_all, length-take-le}
use Rattle.std.proofs.lemmas.List.{take-append-drop}
use borrow.Author.Tests.{leb-true}
use Rattle.octets.proofs.Lists.{sets-none, sets_last, sets-start, sets-left}
use Rattle.format.specs.declared.Record.{Record}
use Rattle.format.specs.Answers.{read_outcome, refusal}
use Rattle.format.specs.Tree.{count, records_of}
use Rattle.format.specs.Judge.{Judged, judge}
use Rattle.format.specs.Judge.Judged.{refused, accepted}
use Rattle.format.specs.Writer.{tabled}
use Rattle.format.specs.Headers.{headers_of}
use Rattle.format.specs.Calls.{Lists, places, row, counts_of, read_answer, read_records, ReadAtMostClaim, ReadRecordsClaim}
use Rattle.format.proofs.Lays.{tabled-more, tabled-laid}
use Rattle.format.proofs.Tabled.{tabled-length}
use Rattle.format.proofs.Spans.{records-count}
use Rattle.format.specs.declared.Counts.{Counts}
use Rattle.format.specs.declared.Refusal.{Refusal}
use Rattle.entry.specs.Copies.{copied}

pub copied_none : (l : Lists) (slice : List Record) → copied l 0 slice ≡ slice
unfolding tabled
copied_none l slice = sets-none slice 0

pub copied_next : (l : Lists) (i : ℕ) (slice : List Record) (r : Record) → r ≡ row l i → set (copied l i slice) i r ≡ copied l (i + 1) slice
copied_next l i slice r e =
    let n : 0 + length (tabled (row l) i 0) ≡ i = zero-add _ ∙ tabled-length (row l) i 0 in
    ap (set (copied l i slice) i) (e ∙ ap (row l) (sym (zero-add i))) ∙ ap (λ k. set (copied l i slice) k (row l (0 + i))) (sym n)
    ∙ sym (sets_last slice 0 (tabled (row l) i 0) (row l (0 + i))) ∙ ap (sets slice 0) (sym (tabled-more (row l) i 0)) ∙ ap (λ k. copied l k slice) (sym (add-one i))

-- all that were to be copied, into the front part of the slice
pub all-copied : (l : Lists) (i many : ℕ) (slice front : List Record) → many ≤ length slice → i ≤ length (take many slice) → length (take many slice) ≤ i
    → front ≡ copied l i (take many slice) → front ++ drop many slice ≡ copied l many slice
all-copied l i many slice front h a b e =
    let n : length (take many slice) ≡ many = length-take-le many slice h in
    let m : i ≡ many = omega arith in
    let rs = tabled (row l) many 0 in
    rw (e, m)
    (sym (sets-left (take many slice) (drop many slice) 0 rs (omega (arith, tabled-length (row l) many 0)))
    ∙ ap (λ s. sets s 0 rs) (take-append-drop many slice))

-- as many records as the answer counts, and no more than the places
many-handed : (n h : ℕ) (j : Judged) → (read_outcome (read_answer n h j)).count ≡ length (read_records n j)
unfolding read_answer read_records
many-handed n h (refused r) = refl
many-handed n h (accepted t) = go (leb (count t) n)
  where
    go : (b : Bool) → (read_outcome (cond b (Ok (counts_of h t)) (Err (refusal 14 0)))).count ≡ length (cond b (records_of t) [])
    go true = sym (records-count t 1 0 0)
    go false = refl

few-handed : (n : ℕ) (j : Judged) → length (read_records n j) ≤ n
unfolding read_records
few-handed n (refused r) = omega arith
few-handed n (accepted t) = go (leb (count t) n) refl
  where
    go : (b : Bool) → leb (count t) n ≡ b → length (cond b (records_of t) []) ≤ n
    go true h = omega (arith, leb-true (count t) n h, records-count t 1 0 0)
    go false h = omega arith

-- after the reader, with no more places than the slice has, and so many records handed out
module _ (o : List ℕ) (slice : List Record) (l l' : Lists) (a : Result Counts Refusal) (c : ReadAtMostClaim o (length slice) l l' a) (many : ℕ) (e : many ≡ (read_outcome a).count) where
  abbrev n : ℕ
  n = min (length slice) (places l)

  abbrev rs : List Record
  rs = read_records n (judge o)

  many_is : many ≡ length rs
  many_is = e ∙ ap (λ r. (read_outcome r).count) c.answers ∙ many-handed n (headers_of o) (judge o)

  pub can-copy : many ≤ length slice
  can-copy = omega (arith, many_is, few-handed n (judge o))

  pub all_read : (slice' : List Record) → slice' ≡ copied l' many slice → ReadRecordsClaim o l l' slice slice' a
  all_read slice' f =
      let few : length rs ≤ n = few-handed n (judge o) in
      record {
        answers = c.answers;
        leaves = c.leaves;
        fills = f ∙ ap (sets slice 0) (tabled-laid rs l l' many c.leaves many_is (omega (arith, many_is))) ∙ sets-start slice rs
            ∙ ap (λ x. x ++ drop (length rs) slice) (take_all (length slice) rs (omega arith));
      }
