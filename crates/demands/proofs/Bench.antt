-- The bench, from format's one claim over the table, and what the calls answer of it.
use mathlib.Core.Path.{◌≡◌, refl, sym, ap, ◌∙◌}
use mathlib.Core.Bool.{true}
use mathlib.Core.List.{List, ◌∷◌}
use Prim.Native.Nat.{ℕ}
use native.Mathlib.Omega.{arith}
use lib.ListN.{length}
use Rattle.octets.proofs.Tests.{never}
use Rattle.format.specs.declared.Record.{Record}
use Rattle.format.specs.declared.Refusal.{Refusal}
use Rattle.format.specs.Tree.{Items, count, records_of}
use Rattle.format.specs.Judge.{Judged, judge}
use Rattle.format.specs.Judge.Judged.{refused, accepted}
use Rattle.format.specs.Headers.{headers_of}
use Rattle.format.specs.Meaning.{normal_of}
use Rattle.format.specs.Calls.{places, lay, read_records}
use Rattle.format.specs.Bench.{reported, outcome, listed}
use Rattle.format.specs.Bench.Outcome.{refuses, normally}
use Rattle.format.proofs.Bench.{bench, slipped, listing as listed-is}
use Rattle.format.proofs.Spans.{records-count}
use Rattle.format.proofs.Lays.{tabled-laid}
use Rattle.demands.specs.Bench.{BenchTable, Slips, listed_object, listing, Listing, BenchRead, BenchNormalise, ListingRead}
use Rattle.demands.proofs.Laws.{of-object}
use Rattle.demands.proofs.One.{read-in-order}
use Rattle.demands.proofs.Headers.{headers-named}
use Rattle.demands.proofs.Two.{records-read}
use Rattle.demands.proofs.Three.{normalised}

pub bench-table : BenchTable
bench-table = bench

pub slips-table : Slips
slips-table = slipped

pub the-listing : Listing
the-listing = listed-is

-- what the table says of an object is its judgement
pub table-refused : (object : List ℕ) (r : Refusal) → outcome true object ≡ refuses r → judge object ≡ refused r
unfolding outcome reported
table-refused object r e = go (judge object) refl e
  where
    go : (j : Judged) → judge object ≡ j → reported j ≡ refuses r → judge object ≡ refused r
    go (refused s) h q = cc
    go (accepted t) h q = never (cc)

pub table-accepted : (object : List ℕ) (n : ℕ) (o : List ℕ) → outcome true object ≡ normally n o → (t : Items) × (judge object ≡ accepted t) × (n ≡ count t) × (normal_of t ≡ o)
unfolding outcome reported
table-accepted object n o e = go (judge object) refl e
  where
    go : (j : Judged) → judge object ≡ j → reported j ≡ normally n o → (t : Items) × (judge object ≡ accepted t) × (n ≡ count t) × (normal_of t ≡ o)
    go (refused s) h q = never (cc)
    go (accepted t) h q = (t, h, (cc), (cc))

pub bench-read : BenchRead
bench-read object before after answer c =
    let order = read-in-order object before after answer c in
    record {
      refusing = λ r e. let h = table-refused object r e in (order.of_object r (of-object object r h).most).1 h;
      counting = λ n o e l. let f = table-accepted object n o e in (order.records n (headers_of object)).1 (f.0, f.1, f.2, refl, l);
    }

pub bench-normalise : BenchNormalise
bench-normalise object memory memory' room room' n c k o e =
    let f = table-accepted object k o e in
    let g = normalised object memory memory' room room' n c in
    let same : g.tree ≡ f.0 = (let p = g.is in let q = f.1 in cc) in
    g.octets ∙ ap normal_of same ∙ f.3

-- the records that are listed are those of the tree
listed-tree : (object : List ℕ) (r : Record) (rs : List Record) → listed (judge object) ≡ r ∷ rs → (t : Items) × (judge object ≡ accepted t) × (records_of t ≡ r ∷ rs)
unfolding listed
listed-tree object r rs e = go (judge object) refl e
  where
    go : (j : Judged) → judge object ≡ j → listed j ≡ r ∷ rs → (t : Items) × (judge object ≡ accepted t) × (records_of t ≡ r ∷ rs)
    go (refused s) h q = never (cc)
    go (accepted t) h q = (t, h, q)

pub listing-read : ListingRead
listing-read before after answer c l =
    let f = listed-tree listed_object _ _ listed-is in
    let t = f.0 in
    let many : 2 ≡ count t = sym (ap length f.2) ∙ records-count t 1 0 0 in
    let e = ((read-in-order listed_object before after answer c).records 2 2).1 (t, f.1, many, sym headers-named.0, l) in
    let laid = c.leaves ∙ ap (λ rs. lay 0 rs before) (ap (read_records (places before)) f.1 ∙ records-read (places before) t (omega arith) ∙ f.2) in
    (e, tabled-laid listing before after 2 laid refl l)
