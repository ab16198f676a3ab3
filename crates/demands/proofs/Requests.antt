-- The cases of change requests, from format's table of slips, what the check of records answers, and what the calls say of them.
use Rattle.std.specs.Prelude.{Result, Ok, Err}
use mathlib.Core.Path.{◌≡◌, refl, sym, ap, ◌∙◌, subst}
use mathlib.Core.Bool.{Bool, true, false, cond, ◌&&◌, false≢true}
use mathlib.Core.Logic.{◌↔◌}
use mathlib.Core.Option.{Option, none, some, some-injective}
use mathlib.Core.List.{List, [], ◌∷◌}
use Prim.Native.Nat.{ℕ, ◌≤◌}
use native.Mathlib.Omega.{arith}
use lib.Dec.{leb, ltb}
use lib.ListN.{length, get_or}
use borrow.Author.Tests.{ltb-true, le-leb}
use Rattle.octets.specs.Numbers.{Octets}
use Rattle.octets.proofs.Tests.{and_left, and_right}
use Rattle.octets.specs.Counts.{size_of}
use Rattle.octets.proofs.Numbers.{octets-none, octets-cons}
use Rattle.octets.specs.declared.counts.Octets.{Octets as OctetCount}
use Rattle.format.specs.Answers.{refusal, wrong_value}
use Rattle.format.specs.Tree.{Items}
use Rattle.format.specs.Judge.{judge}
use Rattle.format.specs.Meaning.{meaning_of, meaning}
use Rattle.format.specs.Calls.{tree_given}
use Rattle.format.specs.State.{Memory, tree_in}
use Rattle.state.specs.Taking.{WriteClaim}
use Rattle.format.specs.Same.{same_answer}
use Rattle.format.specs.Bench.{Outcome, outcome, accented, slips}
use Rattle.format.specs.Bench.Outcome.{refuses, normally}
use Rattle.format.proofs.Bench.{slipped}
use Rattle.format.proofs.Defaults.{defaults-nothing}
use Rattle.format.proofs.Normal.{normal-bare, same-normal}
use Rattle.format.specs.declared.Counts.{Counts}
use Rattle.format.specs.declared.Refusal.{Refusal}
use Rattle.format.specs.declared.SameRefusal.{SameRefusal}
use Rattle.records.specs.Check.{is_given}
use Rattle.records.proofs.IllFormed.{ill-formed}
use Rattle.xml.specs.Export.{export_of, export_answer}
use Rattle.demands.specs.Requests.{named, named_memory, EightPass, NineFail, TellsField, FieldsTold, DefaultsNothing, recommended, unrecommended, RecommendationNo}
use Rattle.demands.specs.Three.{BothAccepted}
use Rattle.demands.proofs.Laws.{tree-given, given-tree, accepted-means}
use Rattle.demands.proofs.One.{write-in-order, normalise-in-order, same-in-order}
use Rattle.demands.proofs.Three.{same-exactly}
use Rattle.demands.proofs.Headers.{headers-named}
use Rattle.demands.proofs.Bench.{table-refused, table-accepted, bench-read, bench-normalise}

-- two rows of the table
eight_is : outcome true (named 8) ≡ normally 3 (named 8)
unfolding slips accented
eight_is = ap (λ (l : List Outcome). get_or l 5 (refuses (refusal 0 0))) slipped

nine-is : outcome true (named 9) ≡ refuses (refusal 13 4)
unfolding slips accented
nine-is = ap (λ (l : List Outcome). get_or l 6 (refuses (refusal 0 0))) slipped

-- records that are a tree aren't refused with 16, and others are
module _ (n : ℕ) (memory : Memory) (bodies' before after : List ℕ) where
  given-passes : is_given (tree_in n memory) ≡ true → WriteClaim n memory bodies' before after (Err (refusal 16 0)) → ⊥
  unfolding is_given
  given-passes g c = go (tree_in n memory) refl g
    where
      go : (o : Option Items) → tree_in n memory ≡ o → is_given o ≡ true → ⊥
      go none e h = false≢true h
      go (some t) e h = (write-in-order n memory bodies' before after (Err (refusal 16 0)) c).sixteen.0 refl t (given-tree n memory t e)

  not-given-fails : is_given (tree_in n memory) ≡ false → (answer : Result OctetCount Refusal) → WriteClaim n memory bodies' before after answer
      → answer ≡ Err (refusal 16 0)
  unfolding is_given
  not-given-fails g answer c =
      (write-in-order n memory bodies' before after answer c).sixteen.1 (λ t h. false≢true (sym g ∙ ap is_given (tree-given n memory t h)))

-- whether the seventh list has places too
in_all : (n : ℕ) (memory : Memory) → n ≤ length memory.bodies → tree_in n memory ≡ tree_given n memory.lists memory.store
in_all n memory h = rw (le-leb n (length memory.bodies) h)

none_in : (n : ℕ) (memory : Memory) → is_given (tree_given n memory.lists memory.store) ≡ false → is_given (tree_in n memory) ≡ false
unfolding is_given
none_in n memory h = go (leb n (length memory.bodies))
  where
    go : (b : Bool) → is_given (cond b (tree_given n memory.lists memory.store) none) ≡ false
    go true = h
    go false = refl

-- so many records beside so many items
abbrev counting : (n items : ℕ) → Result Counts Refusal
counting n items = Ok (record { records = n; items = items })

pub eight-pass : EightPass
eight-pass = record {
  read = λ before after answer c l. (bench-read (named 8) before after answer c).counting 3 (named 8) eight_is l ∙ ap (counting 3) headers-named.1;
  normalised = λ memory memory' room room' n c. bench-normalise (named 8) memory memory' room room' n c 3 (named 8) eight_is;
  written = λ bodies bodies' before after h c. given-passes 3 (named_memory 8 bodies) bodies' before after (ap is_given (in_all 3 (named_memory 8 bodies) h) ∙ ill-formed.8) c;
}

pub nine-fail : NineFail
nine-fail = record {
  read = λ before after answer c. (bench-read (named 9) before after answer c).refusing (refusal 13 4) nine-is;
  normalised = λ memory memory' room room' answer c.
      ((normalise-in-order (named 9) memory memory' room room' answer c).of_object (refusal 13 4) (omega arith)).1 (table-refused (named 9) (refusal 13 4) nine-is);
  written = λ bodies bodies' before after answer c. not-given-fails 3 (named_memory 9 bodies) bodies' before after (none_in 3 (named_memory 9 bodies) ill-formed.9) answer c;
}

-- the field is told of a row that says so
tells : (object : List ℕ) (place field : ℕ) → outcome true object ≡ refuses (wrong_value place field) → TellsField object place field
unfolding export_of export_answer
tells object place field e = record {
  read = λ before after answer c. (bench-read object before after answer c).refusing (wrong_value place field) e;
  normalised = λ memory memory' room room' answer c.
      ((normalise-in-order object memory memory' room room' answer c).of_object (wrong_value place field) (omega arith)).1 (table-refused object (wrong_value place field) e);
  compared = λ other answer a. ((same-in-order object other answer a).of_first (wrong_value place field)).1 (table-refused object (wrong_value place field) e);
  exported = λ before after answer c. c.answers ∙ ap (λ j. export_answer (size_of before) (export_of object j)) (table-refused object (wrong_value place field) e);
}

-- what the table's row of that number says
unfoldable pub row : ℕ → List Outcome → Outcome
row n l = get_or l n (refuses (refusal 0 0))

pub fields_told : FieldsTold
unfolding slips accented row
fields_told = record {
  length = tells _ 2 1 (ap (row 8) slipped);
  date = tells _ 2 2 (ap (row 9) slipped);
  hours = tells _ 2 3 (ap (row 10) slipped);
  minutes = tells _ 2 4 (ap (row 11) slipped);
  seconds = tells _ 2 5 (ap (row 12) slipped);
  other = tells _ 2 0 (ap (row 13) slipped);
}

pub defaults-are-nothing : DefaultsNothing
defaults-are-nothing = record { means-same = defaults-nothing; left_out = λ object t os h l u e. normal-bare object t u os h l e }

-- two objects of the table whose normal forms are given: same answers by these
module _ (a b : List ℕ) (n m : ℕ) (x y : List ℕ) (oa : Octets a) (ob : Octets b) (ea : outcome true a ≡ normally n x) (eb : outcome true b ≡ normally m y) (short : length x ≤ 32_768) where
  exactly : (answer : Result Bool SameRefusal) → answer ≡ same_answer (judge a) (judge b) → BothAccepted a b × (x ≡ y ↔ meaning a ≡ meaning b)
  exactly answer e =
      let f = table-accepted a n x ea in
      let g = table-accepted b m y eb in
      let fa = accepted-means a f.0 f.1 in
      let gb = accepted-means b g.0 g.1 in
      let same = same-normal a b oa ob (meaning_of f.0) (meaning_of g.0) fa gb (subst (λ o. length o ≤ 32_768) (sym f.3) short) in (
        record { tree_a = f.0; tree_b = g.0; accepted_a = f.1; accepted_b = g.1 },
        (
          (λ q. fa ∙ (ap some (same.0 (f.3 ∙ q ∙ sym g.3)) ∙ sym gb)),
          (λ q. sym f.3 ∙ same.1 (some-injective (meaning_of f.0) (meaning_of g.0) (sym fa ∙ q ∙ gb)) ∙ g.3),
        ),
      )

  pub table_same : x ≡ y → (answer : Result Bool SameRefusal) → answer ≡ same_answer (judge a) (judge b) → answer ≡ Ok true
  table_same q answer e = let w = exactly answer e in (same-exactly a b oa ob answer e).same.1 (w.0, w.1.0 q)

  pub table-different : (x ≡ y → ⊥) → (answer : Result Bool SameRefusal) → answer ≡ same_answer (judge a) (judge b) → answer ≡ Ok false
  table-different q answer e = let w = exactly answer e in (same-exactly a b oa ob answer e).different.1 (w.0, λ z. q (w.1.1 z))

-- numbers that are octets
unfoldable pub are_octets : List ℕ → Bool
are_octets [] = true
are_octets (b ∷ o) = ltb b 256 && are_octets o

pub are-octets : (o : List ℕ) → are_octets o ≡ true → Octets o
unfolding are_octets
are-octets [] h = octets-none
are-octets (b ∷ o) h = octets-cons b o (ltb-true b 256 (and_left (ltb b 256) (are_octets o) h)) (are-octets o (and_right (ltb b 256) (are_octets o) h))

no-is : outcome true (recommended 1) ≡ normally 4 unrecommended
unfolding slips accented row
no-is = ap (row 14) slipped

pub yes-is : outcome true (recommended 2) ≡ normally 4 (recommended 2)
unfolding slips accented row
yes-is = ap (row 15) slipped

none_is : outcome true unrecommended ≡ normally 3 unrecommended
unfolding slips accented row
none_is = ap (row 16) slipped

pub recommendation-no : RecommendationNo
unfolding are_octets
recommendation-no = record {
  read = λ before after answer c l. (bench-read (recommended 1) before after answer c).counting 4 unrecommended no-is l ∙ ap (counting 4) headers-named.2;
  normalised = λ memory memory' room room' n c. bench-normalise (recommended 1) memory memory' room room' n c 4 unrecommended no-is;
  compared = table_same (recommended 1) unrecommended 4 3 unrecommended unrecommended (are-octets (recommended 1) refl) (are-octets unrecommended refl) no-is none_is (omega arith) refl;
  yes-differs = table-different (recommended 2) unrecommended 4 3 (recommended 2) unrecommended (are-octets (recommended 2) refl) (are-octets unrecommended refl) yes-is none_is (omega arith) (λ e. let z : ◌≡◌ {A = ℕ} 9 6 = ap length e in omega arith);
}
