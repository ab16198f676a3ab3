-- The gap of an edit: what is to be moved and raised, by the site, by what is cut and by what is put; what it asks of memory, and what is left where nothing is put in.
use mathlib.Core.Path.{◌≡◌, sym, ap, ◌∙◌}
use mathlib.Core.List.{List, map}
use Prim.Native.Nat.{ℕ, ◌+◌, ◌-◌, ◌≤◌, ◌<◌}
use native.Mathlib.Nat.{add-zero}
use native.Mathlib.Omega.{arith}
use lib.ListN.{length, get_or}
use lib.Seq.{sets}
use Rattle.octets.specs.Counts.{as_octets}
use Rattle.octets.specs.Places.{between}
use Rattle.format.specs.Calls.{places}
use Rattle.format.specs.State.{Memory, places_in}
use Rattle.edits.specs.declared.resite.Gap.{Gap}
use Rattle.edits.specs.Sites.{Site, shifted, shifted_starts}
use Rattle.edits.specs.Sizes.{raised, up_from}
use Rattle.edits.specs.Moves.{Carries}
use Rattle.edits.specs.Resites.{Resites, Resited}
use Rattle.edits.proofs.Holds.{Piece, nothing, number_past, place_past, Holds}
use Rattle.edits.proofs.Climbing.{framed-more}

abbrev pub gap_at : (n used : ℕ) → Site → (gone put : Piece) → Gap
gap_at n used h gone put = record {
  records = record { from = number_past h gone; end = n; to = number_past h put };
  octets = record { from = place_past h gone; end = used; to = place_past h put };
  element = h.up;
  was = as_octets gone.adds-to;
  is = as_octets put.adds-to;
}

-- there is room for all records and octets, and numbers can be stored
pub record Roomy (n used : ℕ) (m : Memory) (h : Site) (gone put : Piece) : Type 0 where
  pub past : number_past h gone ≤ n
  pub all : n ≤ places_in m
  pub room : number_past h put + (n - number_past h gone) ≤ places_in m
  pub past-place : place_past h gone ≤ used
  pub all-store : used ≤ length m.store
  pub room_store : place_past h put + (used - place_past h gone) ≤ length m.store
  pub numbers : (j : ℕ) → number_past h gone ≤ j → j < n → shifted (number_past h gone) (number_past h put) (get_or m.lists.parents j 0) ≤ 65_535
  pub starts : place_past h put + (used - place_past h gone) ≤ 65_535
  pub low : h.up < number_past h gone
  pub small : put.adds-to < 65_536

module _ (n used normal : ℕ) (m m' : Memory) (h : Site) (gone put : Piece) (holds : Holds n used normal m m' h gone put) (r : Roomy n used m h gone put) (short : normal ≤ 32_768) where
  list-carries : (l : List ℕ) → places_in m ≤ length l → Carries (gap_at n used h gone put).records l
  list-carries l e = record { order = r.past; inside = omega (arith, r.all); room = omega (arith, r.room) }

  -- a text or value behind the cut stays within the store
  start-movable : (tag start : ℕ) → (place_past h gone ≤ start) × (start ≤ used) → (place_past h gone ≤ start) × (start - place_past h gone + place_past h put ≤ 65_535)
  start-movable tag start q = (q.0, omega (arith, q.0, q.1, r.starts))

  pub resites : Resites (gap_at n used h gone put) m
  unfolding places_in places
  resites = record {
    tags = list-carries m.lists.tags (omega arith);
    kinds = list-carries m.lists.kinds (omega arith);
    depths = list-carries m.lists.depths (omega arith);
    parents = record { part = list-carries m.lists.parents (omega arith); small = r.numbers };
    starts = list-carries m.lists.starts (omega arith);
    sizes = list-carries m.lists.sizes (omega arith);
    bodies = list-carries m.bodies (omega arith);
    store = record { order = r.past-place; inside = r.all-store; room = r.room_store };
    movable = λ i a b o. start-movable (get_or m.lists.tags i 0) (get_or m.lists.starts i 0) (holds.later i a b o);
    climbs = holds.climbs;
    low = r.low;
    small = r.small;
    fits = omega (arith, holds.whole, framed-more (get_or (raised (up_from m.lists.parents h.up) gone.adds-to put.adds-to m.bodies) 0 0));
  }

-- where nothing is put in, that is all
module _ (n used normal : ℕ) (m m' m'' : Memory) (h : Site) (gone : Piece) (holds : Holds n used normal m m' h gone nothing)
    (long : length gone.records ≡ length gone.sizes) (r : Resited (gap_at n used h gone nothing) m m'') where
  abbrev behind : List ℕ → List ℕ
  behind l = between l (number_past h gone) n

  at_cut : (l a : List ℕ) → sets l (h.number + 0) a ≡ sets l h.number a
  at_cut l a = ap (λ k. sets l k a) (add-zero h.number)

  pub closed : m'' ≡ m'
  closed =
      let l = m.lists in
      let ts = r.tags ∙ (at_cut l.tags (behind l.tags) ∙ sym holds.tags) in
      let ks = r.kinds ∙ (at_cut l.kinds (behind l.kinds) ∙ sym holds.kinds) in
      let ds = r.depths ∙ (at_cut l.depths (behind l.depths) ∙ sym holds.depths) in
      let ps = r.parents ∙ (at_cut l.parents (map (shifted (number_past h gone) (h.number + 0)) (behind l.parents)) ∙ sym holds.parents) in
      let ss = r.starts ∙ (at_cut l.starts (shifted_starts (place_past h gone) (h.place + 0) (behind l.tags) (behind l.starts)) ∙ sym holds.starts) in
      let zs = r.sizes ∙ (at_cut l.sizes (behind l.sizes) ∙ sym holds.sizes) in
      let up = raised (up_from l.parents h.up) gone.adds-to 0 m.bodies in
      let bs = r.bodies ∙ (at_cut up (between m.bodies (number_past h gone) n)
      ∙ (ap (λ k. sets up h.number (between m.bodies (h.number + k) n)) long ∙ sym holds.bodies)) in
      let st = r.store ∙ (ap (λ k. sets m.store k (between m.store (place_past h gone) used)) (add-zero h.place) ∙ sym holds.store) in
      λ i. record { lists = record { tags = ts i; kinds = ks i; depths = ds i; parents = ps i; starts = ss i; sizes = zs i }; bodies = bs i; store = st i }
