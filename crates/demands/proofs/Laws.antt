-- What the proofs of the demands share: refusals of an object, memory that suffices, records that are a tree, in the words of the statements.
use mathlib.Core.Path.{◌≡◌, refl, sym, ap, ◌∙◌}
use mathlib.Core.Bool.{Bool, true, false, ◌&&◌, false≢true}
use mathlib.Core.Option.{some}
use mathlib.Core.List.{List, [], ◌∷◌, ◌++◌}
use Prim.Native.Nat.{ℕ, ◌+◌, ◌≤◌, ◌<◌, min}
use native.Mathlib.Omega.{arith}
use native.Mathlib.Nat.{min-le_left, min-le_right, le-min}
use lib.Dec.{eqb, leb}
use lib.ListN.{length, take, drop, take-append-drop}
use lib.Seq.{length-take-le}
use borrow.Author.Tests.{eqb-true, eq-eqb, leb-true, le-leb}
use Rattle.writer.proofs.Whole.{given_both}
use Rattle.octets.proofs.Tests.{and_left, and_right, and-true, chosen, never}
use Rattle.format.specs.declared.Refusal.{Refusal}
use Rattle.format.specs.Answers.{refusal}
use Rattle.format.specs.Tree.{Items, count}
use Rattle.format.specs.Tree.Items.{end, item}
use Rattle.format.specs.Judge.{rule, unless, judge}
use Rattle.format.specs.Judge.Judged.{refused, accepted}
use Rattle.format.specs.Meaning.{Meaning, meaning_of, if_accepted, meaning, normal_of}
use Rattle.format.specs.Loaded.{store_of}
use Rattle.format.specs.Calls.{Lists, row, places, Lent, roomy, stored_within, fits_lent, tree_given}
use Rattle.format.specs.State.{Memory, places_in, tree_in}
use Rattle.format.proofs.Normal.{accepted-is}
use Rattle.format.proofs.Refusals.{refusal-inside}
use Rattle.format.proofs.Spans.{Part, part-span, Located}
use Rattle.format.proofs.Rebuilt.{rebuilt-whole, whole-rebuilt}
use Rattle.demands.proofs.RuleOne.{one_only}
use Rattle.demands.specs.One.{OfObject, LiesIn, GivenTree, Suffices}

pub empty-refused : judge [] ≡ refused (refusal 1 0)
unfolding judge rule unless
empty-refused = refl

-- what has no field but with 9 has the number 9 where it has one
pub only-nine : (number field : ℕ) → 0 < field → ((number ≡ 9 → ⊥) → field ≡ 0) → number ≡ 9
only-nine number field l other = go (eqb number 9) refl
  where
    go : (b : Bool) → eqb number 9 ≡ b → number ≡ 9
    go true e = eqb-true number 9 e
    go false e = absurd (omega (arith, other (λ q. false≢true (sym e ∙ eq-eqb number 9 q))))

-- a refusal of an object
pub of-object : (object : List ℕ) (r : Refusal) → judge object ≡ refused r → OfObject object r.number r.place r.field
of-object [] r h =
    let e : r ≡ refusal 1 0 = (let q = empty-refused in cc) in
    let number : r.number ≡ 1 = ap (λ x. x.number) e in
    let field : r.field ≡ 0 = ap (λ x. x.field) e in
    record {
      least = omega arith;
      most = omega arith;
      inside = λ l. absurd (omega arith);
      empty = λ l. ap (λ x. x.place) e;
      one = λ n. ap (λ x. x.place) e;
      few = omega arith;
      nine = λ l. absurd (omega arith);
    }
of-object (b ∷ bs) r h =
    let i = refusal-inside (b ∷ bs) r (omega arith) h in
    record {
      least = i.least;
      most = i.most;
      inside = λ l. i.place;
      empty = λ l. absurd (omega arith);
      one = λ n. (one_only (b ∷ bs) r h n).0;
      few = i.field;
      nine = λ l. only-nine r.number r.field l i.nine;
    }

-- memory that suffices is what `fits_lent` tests
module _ (lent : Lent) (t : Items) where
  pub suffices-fits : Suffices lent t → fits_lent lent t ≡ true
  unfolding fits_lent stored_within roomy
  suffices-fits s =
      let least : length (normal_of t) ≤ min lent.room.0 32_768 = le-min s.room s.object in
      and-true (leb (count t) lent.records) _ (le-leb (count t) lent.records s.records)
      (and-true (leb (length (store_of t)) lent.store.0) _ (le-leb (length (store_of t)) lent.store.0 s.store) (le-leb (length (normal_of t)) (min lent.room.0 32_768) least))

  pub fits-suffices : fits_lent lent t ≡ true → Suffices lent t
  unfolding fits_lent stored_within roomy
  fits-suffices h =
      let a = leb (count t) lent.records in
      let b = leb (length (store_of t)) lent.store.0 in
      let c = leb (length (normal_of t)) (min lent.room.0 32_768) in
      let least = leb-true (length (normal_of t)) (min lent.room.0 32_768) (and_right b c (and_right a (b && c) h)) in
      record {
        records = leb-true (count t) lent.records (and_left a (b && c) h);
        store = leb-true (length (store_of t)) lent.store.0 (and_left b c (and_right a (b && c) h));
        room = omega (arith, min-le_left lent.room.0 32_768);
        object = omega (arith, min-le_right lent.room.0 32_768);
      }

-- a body that lies in octets is a part of them, in the words of format
part_lies : (o : List ℕ) (at : ℕ) (p : List ℕ) → at + length p ≤ length o → take (length p) (drop at o) ≡ p → Part o at p
part_lies o at p l e = (
  take at o,
  drop (length p) (drop at o),
  sym (take-append-drop at o) ∙ ap (◌++◌ (take at o)) (sym (take-append-drop (length p) (drop at o)) ∙ ap (λ x. x ++ drop (length p) (drop at o)) e),
  length-take-le at o (omega arith),
)

pub lies-located : (o : List ℕ) (t : Items) → LiesIn o t → Located o t
lies-located o end l = tt
lies-located o (item tag at body inside after) l = (part_lies o at body l.0 l.1, lies-located o inside l.2, lies-located o after l.3)

pub located-lies : (o : List ℕ) (t : Items) → Located o t → LiesIn o t
located-lies o end l = tt
located-lies o (item tag at body inside after) l =
    let s = part-span o at body l.0 in
    (s.0, s.1, located-lies o inside l.1, located-lies o after l.2)

-- records that are a well-formed tree are those that `tree_in` finds one for
module _ (n : ℕ) (memory : Memory) (t : Items) where
  abbrev lists : Lists
  lists = memory.lists

  abbrev lent : List ℕ
  lent = memory.store

  pub lists-given : GivenTree n memory t → tree_given n lists lent ≡ some t
  unfolding tree_given places_in
  lists-given g =
      rw (le-leb n (places lists) (omega (arith, g.placed, min-le_left (places lists) (length memory.bodies))))
      (whole-rebuilt (row lists) n lent t (record { some = g.some; records = sym g.records; located = lies-located lent t g.lies; rules = g.rules }))

  pub tree-given : GivenTree n memory t → tree_in n memory ≡ some t
  unfolding places_in
  tree-given g = rw (le-leb n (length memory.bodies) (omega (arith, g.placed, min-le_right (places lists) (length memory.bodies)))) (lists-given g)

  pub given-tree : tree_in n memory ≡ some t → GivenTree n memory t
  unfolding places_in
  given-tree h =
      let in_all = chosen (leb n (length memory.bodies)) (sym h) (λ z. never (cc)) in
      let b = given_both n lists lent t (sym in_all.1) in
      let w = rebuilt-whole (row lists) n lent t b.1 in
      record {
        some = w.some;
        placed = le-min b.0 (leb-true n (length memory.bodies) in_all.0);
        records = sym w.records;
        lies = located-lies lent t w.located;
        rules = w.rules;
      }

-- an object that means something is accepted, with a tree that means it
pub has-meaning : (o : List ℕ) (m : Meaning) → meaning o ≡ some m → (t : Items) × (judge o ≡ accepted t) × (meaning_of t ≡ m)
unfolding meaning
has-meaning o m e = accepted-is meaning_of (judge o) m e

-- and an accepted object means what its tree means
pub accepted-means : (o : List ℕ) (t : Items) → judge o ≡ accepted t → meaning o ≡ some (meaning_of t)
unfolding meaning if_accepted
accepted-means o t h = rw h
