-- A merged object: what it takes, and whether that fits what is lent.
use Rattle.std.specs.Prelude.{Result, Ok, Err}
use mathlib.Core.Path.{◌≡◌, refl, ap, ap₂, ◌∙◌}
use mathlib.Core.Bool.{Bool, true, false}
use mathlib.Core.List.{List}
use Prim.Native.Nat.{ℕ, ◌≤◌, ◌<◌, min}
use native.Mathlib.Omega.{arith}
use lib.Dec.{leb}
use lib.ListN.{length}
use borrow.Author.Tests.{le-leb, lt-leb}
use Rattle.octets.specs.declared.counts.Octets.{Octets}
use Rattle.octets.specs.Counts.{as_octets}
use Rattle.text.specs.Tokens.{entries}
use Rattle.text.specs.Index.{Indexes, entries_by}
use Rattle.format.specs.Answers.{refusal}
use Rattle.format.specs.Judge.{rule, first}
use Rattle.format.specs.Meaning.{Meaning, means, meaning_of, encode}
use Rattle.format.specs.Calls.{roomy}
use Rattle.reader.proofs.Reading.{whole}
use Rattle.survey.specs.Places.{table_body}
use Rattle.compare.proofs.Answering.{found-means}
use Rattle.merge.specs.declared.Services.{Services}
use Rattle.merge.specs.Merged.{merged}
use Rattle.merge.specs.Sizes.{records_in, stored_in}
use Rattle.merge.specs.Calls.{misfit, unless_refused, answer_of, records_size}
use Rattle.merge.specs.Calls.Outcome.{gives}
use Rattle.merge.specs.declared.Merged.{Merged}
use Rattle.merge.specs.declared.MergeRefusal.{MergeRefusal}
use Rattle.merge.specs.declared.MergeRefusal.TheVariants.{Neither}
use Rattle.merging.specs.declared.counting.Needs.{Needs}
use Rattle.merging.specs.declared.partners.Role.TheVariants.{Own}
use Rattle.merging.specs.Takes.{most, piece_of}
use Rattle.merging.specs.Roles.{chosen}
use Rattle.merging.specs.Walks.{ChildrenPut, none_yet, ObjectPut}
use Rattle.merging.specs.Deciding.{Counted, lending, FitTold}
use Rattle.merging.proofs.Adding.{adds_same}

-- ---- put_object

pub object-put : (emit : Bool) (by : Services) (basic advanced table table' index index' before after : List ℕ) (r : Needs) → table ≡ table_body basic → table' ≡ table_body advanced
    → Indexes (entries table) index → Indexes (entries table') index' → ChildrenPut emit Own by 16 index table basic index' table' advanced none_yet before after r
    → ObjectPut emit by basic advanced before after r
unfolding ChildrenPut ObjectPut chosen
object-put emit by basic advanced table table' index index' before after r e f x y p t u g h =
    adds_same emit (piece_of (merged by (means (entries_by index table) t) (means (entries_by index' table') u))) (piece_of (merged by (meaning_of t) (meaning_of u))) none_yet before after r
    (ap₂ (λ m n. piece_of (merged by m n)) (found-means basic t table index g e x) (found-means advanced u table' index' h f y))
    (p 0 0 1 0 0 t u refl x y (whole basic t g) (whole advanced u h))

-- ---- fit

module _ (n : Needs) (places : ℕ) (store room : Octets) where
  module _ (w : Meaning) (c : Counted w n) (lp : places < most) (ls : store.0 < most) where
    abbrev told : Result Merged MergeRefusal
    told = answer_of (unless_refused (misfit (lending places store room) w) (gives w))

    few : n.records ≤ places → leb (records_in w) places ≡ true
    few h = le-leb (records_in w) places (omega (arith, c.records))

    many : places < n.records → leb (records_in w) places ≡ false
    many h = lt-leb (records_in w) places (omega (arith, c.records))

    stored : n.store.0 ≤ store.0 → leb (stored_in w) store.0 ≡ true
    stored h = le-leb (stored_in w) store.0 (omega (arith, c.store))

    unstored : store.0 < n.store.0 → leb (stored_in w) store.0 ≡ false
    unstored h = lt-leb (stored_in w) store.0 (omega (arith, c.store))

    written : n.octets.0 ≤ 32_768 → n.octets.0 ≤ room.0 → leb (length (encode w)) (min room.0 32_768) ≡ true
    written h k = le-leb (length (encode w)) (min room.0 32_768) (omega (arith, c.octets))

    unwritten : min room.0 32_768 < n.octets.0 → leb (length (encode w)) (min room.0 32_768) ≡ false
    unwritten h = lt-leb (length (encode w)) (min room.0 32_768) (omega (arith, c.octets))

    no-records : places < n.records → Err (Neither (refusal 14 0)) ≡ told
    unfolding misfit first rule unless_refused answer_of
    no-records h = rw (many h)

    no_store : n.records ≤ places → store.0 < n.store.0 → Err (Neither (refusal 15 0)) ≡ told
    unfolding misfit first rule unless_refused answer_of
    no_store h k = rw (few h, unstored k)

    no_room : n.records ≤ places → n.store.0 ≤ store.0 → min room.0 32_768 < n.octets.0 → Err (Neither (refusal 15 0)) ≡ told
    unfolding misfit first rule unless_refused answer_of roomy
    no_room h k l = rw (few h, stored k, unwritten l)

    all_fit : n.records ≤ places → n.store.0 ≤ store.0 → n.octets.0 ≤ 32_768 → n.octets.0 ≤ room.0 → Ok (records_size n.records n.octets) ≡ told
    unfolding misfit first rule unless_refused answer_of roomy
    all_fit h k l j =
        let x : n.records ≡ records_in w = omega (arith, c.records) in
        let y : n.octets ≡ as_octets (length (encode w)) = ap as_octets (omega (arith, c.octets)) in
        rw (few h, stored k, written l j) (ap₂ (λ n s. Ok (records_size n s)) x y)

  pub fit-records : (r : MergeRefusal) → r ≡ Neither (refusal 14 0) → places < n.records → FitTold n places store room (Err r)
  unfolding FitTold
  fit-records r e h w c lp ls = ap Err e ∙ no-records w c lp ls h

  module _ (a : n.records ≤ places) where
    pub fit-store : (r : MergeRefusal) → r ≡ Neither (refusal 15 0) → store.0 < n.store.0 → FitTold n places store room (Err r)
    unfolding FitTold
    fit-store r e h w c lp ls = ap Err e ∙ no_store w c lp ls a h

    module _ (b : n.store.0 ≤ store.0) where
      pub fit-large : (r : MergeRefusal) → r ≡ Neither (refusal 15 0) → 32_768 < n.octets.0 → FitTold n places store room (Err r)
      unfolding FitTold
      fit-large r e h w c lp ls = ap Err e ∙ no_room w c lp ls a b (omega arith)

      pub fit-room : (r : MergeRefusal) → r ≡ Neither (refusal 15 0) → room.0 < n.octets.0 → FitTold n places store room (Err r)
      unfolding FitTold
      fit-room r e h w c lp ls = ap Err e ∙ no_room w c lp ls a b (omega arith)

      pub fit_all : n.octets.0 ≤ 32_768 → n.octets.0 ≤ room.0 → FitTold n places store room (Ok (records_size n.records n.octets))
      unfolding FitTold
      fit_all h k w c lp ls = all_fit w c lp ls a b h k

pub ruleset fit-ways = (fit-records, fit-store, fit-large, fit-room, fit_all)
