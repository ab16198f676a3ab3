-- The ways through read_at_most: refused, too few places, or filled; and read, whose limit is none.
use Rattle.std.specs.Prelude.{Result, Ok, Err}
use mathlib.Core.Path.{◌≡◌, refl, sym, ap, ◌∙◌}
use mathlib.Core.Bool.{true, false}
use mathlib.Core.List.{List}
use Prim.Native.Nat.{ℕ, ◌≤◌, ◌<◌, min}
use native.Mathlib.Omega.{arith}
use lib.Dec.{leb}
use lib.ListN.{length}
use borrow.Author.Tests.{le-leb, lt-leb}
use Rattle.octets.proofs.Tests.{never}
use Rattle.format.specs.declared.Refusal.{Refusal}
use Rattle.format.specs.declared.Counts.{Counts}
use Rattle.format.specs.Answers.{refusal}
use Rattle.format.specs.Tree.{Items, count}
use Rattle.format.specs.Judge.{Judged, judge, outermost}
use Rattle.format.specs.Judge.Judged.{refused, accepted}
use Rattle.format.specs.Headers.{headers_of}
use Rattle.format.specs.Calls.{Lists, places, lay, counts_of, judge_answer, read_answer, read_records, ReadClaim, ReadAtMostClaim}
use Rattle.format.proofs.Rules.{accepted-size, accepted-read}
use Rattle.format.proofs.Headers.{few}
use Rattle.reader.specs.declared.filling.Place.{Place}
use Rattle.reader.specs.Filling.{Accepts, Fillable, Filled, Fills}

-- what the judge's answer says of the judgement
pub was-refused : (h : ℕ) (j : Judged) (r : Refusal) → Err r ≡ judge_answer h j → j ≡ refused r
unfolding judge_answer
was-refused h (refused q) r e = cc
was-refused h (accepted t) r e = never (cc)

pub record Taken (h : ℕ) (j : Judged) (c : Counts) : Type 0 where
  pub tree : Items
  pub is : j ≡ accepted tree
  pub counts : c ≡ counts_of h tree
  pub many : c.records ≡ count tree

pub was-accepted : (h : ℕ) (j : Judged) (c : Counts) → Ok c ≡ judge_answer h j → Taken h j c
unfolding judge_answer
was-accepted h (refused q) c e = never (cc)
was-accepted h (accepted t) c e = let f : c ≡ counts_of h t = cc in record { tree = t; is = refl; counts = f; many = ap (λ x. x.records) f }

-- an accepted object is accepted as the items of the object
pub whole : (o : List ℕ) (t : Items) → judge o ≡ accepted t → Accepts 0 1 0 o t
unfolding outermost
whole o t h = record { context = outermost; is_element = refl; is_depth = refl; reads = accepted-read o t h }

-- where the top stands
abbrev top : Place
top = record { element = 0; number = 0; depth = 1; offset = 0; next = 0 }

module _ (o : List ℕ) (most : ℕ) (l : Lists) (v : Result Counts Refusal) (e : v ≡ judge_answer (headers_of o) (judge o)) where
  pub read-refused : (r : Refusal) → v ≡ Err r → ReadAtMostClaim o most l l (Err r)
  unfolding read_answer read_records lay
  read-refused r f = let j : judge o ≡ refused r = was-refused (headers_of o) (judge o) r (sym f ∙ e) in record { answers = rw j; leaves = rw j }

  module _ (c : Counts) (f : v ≡ Ok c) where
    taken : Taken (headers_of o) (judge o) c
    taken = was-accepted (headers_of o) (judge o) c (sym f ∙ e)

    module _ (there n : ℕ) (et : there ≡ places l) (en : n ≡ min most there) where
      pub read-full : n < c.records → (x : Refusal) → x ≡ refusal 14 0 → ReadAtMostClaim o most l l (Err x)
      unfolding read_answer read_records lay
      read-full h x m =
          let k : leb (count taken.tree) (min most (places l)) ≡ false = lt-leb (count taken.tree) (min most (places l)) (omega (arith, taken.many)) in
          record { answers = rw (m, taken.is, k); leaves = rw (taken.is, k) }

      module _ (h : c.records ≤ n) where
        pub read-can : Fillable top o l
        read-can = record {
          tree = taken.tree;
          accepts = whole o taken.tree taken.is;
          room = record {
            above = omega arith;
            few = omega (arith, few o taken.tree taken.is, (accepted-size o taken.tree taken.is).1);
            low = omega (arith, (accepted-size o taken.tree taken.is).1);
            holds = omega (arith, taken.many);
          };
        }

        pub read-filled : (l' : Lists) (m : ℕ) → Fills top o l l' m → ReadAtMostClaim o most l l' (Ok c)
        unfolding Fills read_answer read_records
        read-filled l' m g =
            let k : leb (count taken.tree) (min most (places l)) ≡ true = le-leb (count taken.tree) (min most (places l)) (omega (arith, taken.many)) in
            let d : Filled top taken.tree l l' m = g taken.tree (whole o taken.tree taken.is) in
            record { answers = rw (taken.is, k) (ap Ok taken.counts); leaves = rw (taken.is, k) d.laid }

-- the places of the tags' list are no limit
pub read_whole : (o : List ℕ) (l l' : Lists) (r : Result Counts Refusal) → ReadAtMostClaim o (length l.tags) l l' r → ReadClaim o l l' r
unfolding places
read_whole o l l' r c = let e : min (length l.tags) (places l) ≡ places l = omega arith in record { answers = rw (sym e) c.answers; leaves = rw (sym e) c.leaves }
