-- Request 2026-06 of any memory that holds a tree, by the laws of state and edits.
use Rattle.std.specs.Prelude.{Ok}
use mathlib.Core.Path.{◌≡◌, refl, sym, ap, ap₂, ◌∙◌}
use mathlib.Core.Bool.{Bool, true, false, cond}
use mathlib.Core.Option.{Option, none, some}
use mathlib.Core.List.{List, [], ◌∷◌, ◌++◌}
use Prim.Native.Nat.{ℕ, ◌+◌, min}
use native.Mathlib.Omega.{arith}
use native.Mathlib.Nat.{le-min}
use lib.Dec.{eqb}
use lib.ListN.{length, take, drop, get_or}
use lib.Seq.{sets, length-sets}
use borrow.Author.Tests.{le-leb}
use Rattle.octets.specs.declared.counts.Octets.{Octets as OctetCount}
use Rattle.octets.specs.Counts.{as_octets, size_of}
use Rattle.octets.specs.Numbers.{Octets}
use Rattle.octets.proofs.Numbers.{octets-take}
use Rattle.octets.proofs.Lists.{part-of-sets, drop-sets}
use Rattle.text.specs.Tokens.{Entries}
use Rattle.values.specs.Table.{known}
use Rattle.format.specs.Tree.{Items, count, records_of, bodies_of}
use Rattle.format.specs.Tree.Items.{end, item}
use Rattle.format.specs.Judge.{Judged, judge}
use Rattle.format.specs.Judge.Judged.{refused, accepted}
use Rattle.format.specs.Meaning.{opens, means, encode, meaning, meaning_of, table_of}
use Rattle.format.specs.Loaded.{stored, store_in, loaded_in, store_of, loaded_of}
use Rattle.format.specs.Calls.{row, roomy, edit_answer, write_answer, write_octets}
use Rattle.format.specs.State.{Memory, places_in, body_sizes, packed_store, lay_tree, in_order, tree_in, tree_held}
use Rattle.format.proofs.Loading.{loaded-means, loaded-count}
use Rattle.format.proofs.Lays.{places-lay}
use Rattle.format.proofs.Written.{located-bytes}
use Rattle.format.proofs.Rebuilt.{whole-rebuilt, whole-count}
use Rattle.format.proofs.Calls.{written-means}
use Rattle.format.proofs.Bodies.{bodies}
use Rattle.state.specs.Taking.{overflow, settled, left, loaded_into, lent_by}
use Rattle.state.proofs.Packed.{accepted-store}
use Rattle.state.proofs.HeldTree.{Fits, held, kept-is, accepted-held}
use Rattle.state.proofs.Taken.{refused-kept}
use Rattle.edits.specs.Calls.{edited, edited_in}
use Rattle.edits.proofs.Standing.{held-stands, packed-count, packed-store}
use Rattle.edits.proofs.Changed.{edit-outcome, changed-bytes}
use Rattle.edits.proofs.InsertSizes.{few-records}
use Rattle.edits.proofs.StoreFits.{store-short}
use Rattle.edits.proofs.Runs.{taken-held, edit-leaves}
use Rattle.grammar.proofs.Complete.{complete}
use Rattle.scan.proofs.Theorems.{all-are-enough}
use Rattle.survey.proofs.WholeSizes.{store-less}
use Rattle.demands.specs.One.{Suffices}
use Rattle.demands.specs.Held.{StateReadsBack, stored_bodies, StateHandedOut, TakenStored, Run, RunFromHeld, HoldsAfter, HeldWritesAfresh, RoomUsedAgain, RoomStays, EditAlways, TakeInAlways, HeldBodies}
use Rattle.demands.specs.Held.Run.{begun, changed, stayed}
use Rattle.demands.proofs.Laws.{given-tree, has-meaning, suffices-fits, fits-suffices}
use Rattle.demands.proofs.Two.{bodies-found}
use Rattle.demands.proofs.Three.{normalised as normalised-is}
use Rattle.demands.proofs.Merging.{merge-tree}
use Rattle.demands.proofs.Edits.{edit-in-order, take-in-in-order}

-- ---- what memory holds is written so that it reads back
held-means : (n : ℕ) (m : Memory) (t : Items) → tree_held n m ≡ some t → Octets m.store → meaning (encode (means [] t)) ≡ some (means [] t)
held-means n m t e os =
    let h = held n m t e in
    written-means (row m.lists) n m.store t os (whole-rebuilt (row m.lists) n m.store t h.whole) h.small

pub state-reads-back : StateReadsBack
unfolding write_answer write_octets roomy
state-reads-back n m before after answer os out c t e room =
    let h = held n m t e in
    let o = encode (means [] t) in
    let k = size_of o in
    let fits = le-leb (length o) (min (length before) 32_768) (le-min room h.small) in
    let a : answer ≡ Ok k = c.answers ∙ (ap (write_answer (size_of before)) e ∙ rw fits) in
    let laid : after ≡ sets before 0 o = c.leaves ∙ (ap (λ x. sets before 0 (write_octets (size_of before) x)) e ∙ rw fits) in
    let front : take (length o) after ≡ o = ap (take (length o)) laid ∙ part-of-sets before 0 o (omega arith) in
    let again = has-meaning (take (length o) after) (means [] t) (ap meaning front ∙ held-means n m t e os) in (
      k,
      a,
      record {
        octets = front;
        again = again.0;
        accepts = complete (take (length o) after) again.0 (octets-take (length o) after out) again.1;
        means-same = again.2;
        behind = ap (drop (length o)) laid ∙ drop-sets (length o) before 0 o (omega arith);
      },
    )

-- ---- what memory holds is handed out
bodies-loaded : (T : Entries) (p at : ℕ) (t : Items) → bodies_of (loaded_in T p at t) ≡ stored_bodies T p t
unfolding bodies_of loaded_in stored_bodies
bodies-loaded T p at end = refl
bodies-loaded T p at (item tag from body x u) =
    go (eqb tag 4) refl (opens tag) (bodies-loaded T tag at x) (bodies-loaded T p (at + length (store_in T tag x)) u) (bodies-loaded T p (at + length (stored T (known p tag) body)) u) (bodies-loaded T p at u)
  where
    own : List ℕ
    own = stored T (known p tag) body

    held_one : Items
    held_one = item tag 0 [] (loaded_in T tag at x) (loaded_in T p (at + length (store_in T tag x)) u)

    single : Items
    single = item tag at own end (loaded_in T p (at + length own) u)

    go : (b : Bool) → eqb tag 4 ≡ b → (c : Bool) → bodies_of (loaded_in T tag at x) ≡ stored_bodies T tag x → bodies_of (loaded_in T p (at + length (store_in T tag x)) u) ≡ stored_bodies T p u
        → bodies_of (loaded_in T p (at + length own) u) ≡ stored_bodies T p u → bodies_of (loaded_in T p at u) ≡ stored_bodies T p u
        → bodies_of (cond b (loaded_in T p at u) (cond c held_one single)) ≡ cond b [] (cond c ([] ∷ stored_bodies T tag x) (own ∷ [])) ++ stored_bodies T p u
    go true e c i j k l = l
    go false e true i j k l = rw (e, i, j)
    go false e false i j k l = rw (e, k)

pub state-handed-out : StateHandedOut
unfolding tree_held
state-handed-out n m t e =
    let h = held n m t e in
    let g = given-tree n m t (kept-is (in_order n m.bodies) (tree_in n m) t e).0 in
    let many : n ≡ count t = whole-count (row m.lists) n m.store t h.whole in
    record {
      many = many;
      stand = g.records;
      lies = g.lies;
      found = bodies-found m.store t h.whole.located m.lists n many (unfold places_in in omega (arith, g.placed)) g.records;
      normal = ap bodies_of (sym h.packs) ∙ bodies-loaded [] 0 0 t;
      sizes = h.sizes;
    }

pub taken-stored : TakenStored
taken-stored object most m m' n os c t h i l =
    (state-handed-out n m' (loaded_of t) (taken-held object os t h m m' n most c)).found.body i l ∙ ap (λ b. get_or b i []) (bodies-loaded (table_of t) 0 0 t)

-- ---- runs
run-held : (n₀ : ℕ) (m₀ : Memory) (t₀ : Items) → tree_held n₀ m₀ ≡ some t₀ → {n : ℕ} {m : Memory} {t : Items} → Run n₀ m₀ t₀ n m t → tree_held n m ≡ some t
run-held n₀ m₀ t₀ h begun = h
run-held n₀ m₀ t₀ h (changed e m m' n n' t u r os b c q) =
    let l = edit-leaves e n n' m m' t os b (run-held n₀ m₀ t₀ h r) c in
    l.holds ∙ (sym l.is ∙ q)
run-held n₀ m₀ t₀ h (stayed e m m' n r t g c) = ap (tree_held n) (refused-kept (edited_in m e (tree_held n m)) m m' r c) ∙ run-held n₀ m₀ t₀ h g

pub run-from-held : RunFromHeld
run-from-held n₀ m₀ t₀ h n m t r =
    let e = run-held n₀ m₀ t₀ h r in
    record { holds = e; sizes = (held n m t e).sizes; means-it = λ os. held-means n m t e os }

-- ---- room
settled_same : (most : OctetCount) (m w : Memory) → places_in m ≡ places_in w → length m.store ≡ length w.store → (o : Option Items) → settled most m o ≡ settled most w o
unfolding settled overflow
settled_same most m w p q none = refl
settled_same most m w p q (some t) = rw (p, q)

pub room-used-again : RoomUsedAgain
unfolding edited_in
room-used-again e n k m w t h g p q m' w' a b c d =
    c.answers ∙ (ap (λ o. edit_answer (edited_in m e o)) h ∙ (rw (settled_same (as_octets 32_768) m w p q (edited e t)) refl ∙ sym (d.answers ∙ ap (λ o. edit_answer (edited_in w e o)) g)))

pub room-stays : RoomStays
unfolding left lay_tree places_in
room-stays e n m m' answer c = go (edited_in m e (tree_held n m)) c.leaves
  where
    go : (j : Judged) → m' ≡ left j m → (places_in m' ≡ places_in m) × (length m'.store ≡ length m.store)
    go (refused r) e = (ap places_in e, ap (λ x. length x.store) e)
    go (accepted u) e = (
      ap places_in e ∙ rw (places-lay 0 (records_of u) m.lists, length-sets m.bodies 0 (body_sizes 0 u)),
      ap (λ x. length x.store) e ∙ length-sets m.store 0 (packed_store u),
    )

pub held-writes-afresh : HeldWritesAfresh
unfolding write_answer write_octets
held-writes-afresh n k m w t u h g e room one two a b c d =
    let f : write_answer (size_of room) (some t) ≡ write_answer (size_of room) (some u) = rw e in
    let i : write_octets (size_of room) (some t) ≡ write_octets (size_of room) (some u) = rw e in (
      c.answers ∙ (ap (write_answer (size_of room)) h ∙ (f ∙ sym (d.answers ∙ ap (write_answer (size_of room)) g))),
      c.leaves ∙ (ap (λ o. sets room 0 (write_octets (size_of room) o)) h ∙ (ap (sets room 0) i ∙ sym (d.leaves ∙ ap (λ o. sets room 0 (write_octets (size_of room) o)) g))),
    )

pub held-bodies : HeldBodies
held-bodies n m t h = bodies 32_768 (means [] t) (held n m t h).small

pub edit-always : EditAlways
edit-always e n m m' answer os brings c t u h q d places-enough store-enough short =
    let g = held n m t h in
    let b = located-bytes m.store os t g.whole.located in
    let o = edit-outcome e t u b brings (held-stands n m t g) q d in
    let v = o.tree in
    let bytes = changed-bytes e t v b brings o.is in
    let same : length (encode (means [] u)) ≡ length (encode (means [] v)) = ap (λ x. length (encode x)) o.means-same in
    let many : count u ≡ count v = ap count (sym o.packs) ∙ packed-count v bytes o.rules in
    let stores : length (packed_store u) ≡ length (packed_store v) = ap (λ x. length (packed_store x)) (sym o.packs) ∙ ap length (packed-store v bytes o.rules) in
    let few = few-records v bytes o.rules in
    let less = store-short v bytes o.rules in
    ((edit-in-order.tree e n m m' answer c t h).records (count u)).1 (u, q, d, refl, record { records = omega arith; store = omega arith; room = omega arith; object = short })

pub take-in-always : TakeInAlways
take-in-always object most m m' answer os c t h places-enough store-enough short object-short =
    let same : length (encode (means [] (loaded_of t))) ≡ length (encode (meaning_of t)) = ap (λ x. length (encode x)) (loaded-means object t os h) in
    let many : count (loaded_of t) ≡ count t = loaded-count object t os h in
    let stores : length (packed_store (loaded_of t)) ≡ length (store_of t) = ap length (accepted-store object t os h) in
    let less = store-less object t os h in
    ((take-in-in-order object most m m' answer c).records (count t)).1
    (t, h, sym many, record { records = omega (arith, all-are-enough object (places_in m) places-enough t h); store = omega arith; room = omega arith; object = omega arith })

-- ---- what other calls leave
loaded-fits : (object : List ℕ) (t : Items) → Octets object → judge object ≡ accepted t → (m : Memory) (room : List ℕ) → Suffices (lent_by m room) t → Fits m (loaded_of t)
loaded-fits object t os h m room f =
    let same : length (encode (means [] (loaded_of t))) ≡ length (encode (meaning_of t)) = ap (λ x. length (encode x)) (loaded-means object t os h) in
    let many : count (loaded_of t) ≡ count t = loaded-count object t os h in
    let stores : length (packed_store (loaded_of t)) ≡ length (store_of t) = ap length (accepted-store object t os h) in
    record { records = omega (arith, f.records); store = omega (arith, f.store); small = omega (arith, f.object) }

pub holds_after : HoldsAfter
unfolding loaded_into
holds_after = record {
  taken = λ object most m m' n os c.
      let f = ((take-in-in-order object most m m' (Ok n) c).records n).0 refl in
      (f.0, f.1, taken-held object os f.0 f.1 m m' n most c);
  normalised = λ object m m' room room' k os c.
      let f = normalised-is object m m' room room' k c in
      let t = f.tree in
      let laid : m' ≡ lay_tree (loaded_of t) m = c.leaves ∙ rw (f.is, suffices-fits (lent_by m room) t f.suffices) in
      (t, f.is, ap (tree_held (count t)) laid ∙ accepted-held object t os f.is m (loaded-fits object t os f.is m room f.suffices));
  merges = λ by basic advanced m m' room room' n size os ps out c.
      let f = merge-tree by basic advanced os ps m m' room room' n size c in
      let t = f.tree in
      let o = take size.0 room' in
      let ws = octets-take size.0 room' out in
      (t, f.accepts, ap₂ tree_held f.records f.memory ∙ accepted-held o t ws f.accepts m (loaded-fits o t ws f.accepts m room (fits-suffices (lent_by m room) t f.fits)));
}
