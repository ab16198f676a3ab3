-- The ways through the functions that lay a loaded tree.
use Rattle.std.specs.Prelude.{Option, Some, None}
use mathlib.Core.Path.{◌≡◌, refl, sym, ap, ◌∙◌, subst}
use mathlib.Core.Bool.{Bool, true, false, cond}
use mathlib.Core.Option.{some}
use mathlib.Core.List.{List, [], ◌∷◌}
use Prim.Native.Nat.{ℕ, ◌+◌, ◌-◌, ◌≤◌, ◌<◌}
use native.Mathlib.Nat.{add-zero}
use native.Mathlib.Numerals.{add-one}
use native.Mathlib.Omega.{arith}
use lib.Dec.{leb}
use lib.ListN.{length, take, drop, get_or, set, length-append, drop_of_length-le}
use lib.Seq.{sets, length-sets}
use borrow.Author.Tests.{le-leb}
use mir.Syntax.{w8, w64}
use mir.Val.{Fits}
use Rattle.octets.specs.declared.counts.Octets.{Octets as OctetCount}
use Rattle.octets.specs.Counts.{as_octets}
use Rattle.octets.specs.Places.{lies_at, from_to}
use Rattle.octets.proofs.Lists.{sets-none, set-sets, part-of-sets}
use Rattle.octets.proofs.Places.{Lying, lying, to_inside}
use Rattle.octets.specs.declared.Lies.{Lies}
use Rattle.text.specs.Tokens.{Entries, entries}
use Rattle.values.specs.declared.Kind.{Kind}
use Rattle.values.specs.Table.{known}
use Rattle.values.specs.Calls.{default_octets}
use Rattle.format.specs.declared.Record.{Record}
use Rattle.format.specs.Tree.{Items, count, records}
use Rattle.format.specs.Tree.Items.{end, item}
use Rattle.format.specs.Judge.{is_items, is_value}
use Rattle.format.specs.Loaded.{stored, store_in, loaded_in}
use Rattle.format.specs.Calls.{Lists, places, put, put_whole, lay}
use Rattle.format.specs.State.{Memory, places_in}
use Rattle.format.proofs.Lays.{SameLengths, places_same, put-there}
use Rattle.reader.specs.Filling.{Accepts}
use Rattle.reader.proofs.Laid.{same-laid, places-after}
use Rattle.reader.proofs.Shares.{Written, written-item}
use Rattle.reader.proofs.Opening.{Opened, opened-end, lies-inside, met}
use Rattle.tags.specs.declared.Listed.{Listed}
use Rattle.tags.specs.declared.Listed.TheVariants.{Nothing, Inside, Value}
use Rattle.tags.specs.Listed.{listed_as}
use Rattle.survey.specs.Normal.{framed_size}
use Rattle.edits.specs.declared.lay.Level.{Level}
use Rattle.edits.specs.declared.lay.Laid.{Laid}
use Rattle.state.specs.Order.{item_adds, added_by}
use Rattle.edits.specs.Store.{BodyStorable, BodyStored}
use Rattle.edits.specs.Lay.{added_in, own_sizes, record_at, Narrow, ValueCountable, ValueCounts, InsideCountable, InsideCounts, ValueLayable, ValueLays, loaded_at, share_at, ItemLayable, InsideLayable, ItemLays, ItemsLayable, ItemsLay}
use Rattle.state.proofs.BodySizes.{framed-few}
use Rattle.edits.proofs.Pieces.{Sized, sized-value, sized-items, Splits, splits-share, split-lists, split-store, split-sizes, of-nothing, OfOctets, of-octets, OfItems, of-items}

-- a place in memory is one that the lists and the sizes have
in-lists : (n : ℕ) (m : Memory) → n < places_in m → n < places m.lists
unfolding places_in
in-lists n m h = omega arith

in-bodies : (n : ℕ) (m : Memory) → n < places_in m → n < length m.bodies
unfolding places_in
in-bodies n m h = omega arith

-- ---- count_value and count_inside: no sum wraps

few-added : (element tag start size : ℕ) (store : List ℕ) (body : ℕ) → added_by element tag start size store body ≤ body + 4
unfolding added_by
few-added element tag start size store body = go (leb (start + size) (length store)) (default_octets element tag (take size (drop start store)))
  where
    go : (b d : Bool) → cond b (cond d 0 (framed_size body)) (framed_size body) ≤ body + 4
    go true true = omega arith
    go true false = framed-few body
    go false d = framed-few body

pub value-sum : (element tag : ℕ) (done : Laid) (to : ℕ) (store bodies : List ℕ) → ValueCountable done to bodies
    → (a : OctetCount) → a.0 ≡ added_by element tag done.end (to - done.end) store (to - done.end) → Fits w64 (done.body.0 + a.0)
value-sum element tag done to store bodies can a e = omega (arith, e, can.sum, can.low, few-added element tag done.end (to - done.end) store (to - done.end))

pub inside-sum-fits : (done inner : Laid) (bodies : List ℕ) → InsideCountable done inner bodies → (a : OctetCount) → a.0 ≡ framed_size inner.body.0 → Fits w64 (done.body.0 + a.0)
inside-sum-fits done inner bodies can a e = omega (arith, e, can.sum, can.size, framed-few inner.body.0)

-- ---- lay_value

module _ (table : List ℕ) (kind : Kind) (level : Level) (done : Laid) (body : List ℕ) (m : Memory) (can : ValueLayable (entries table) kind level done body m) where
  abbrev octets : List ℕ
  octets = stored (entries table) (some kind) body

  pub value-storable : BodyStorable table kind body m.store done.end
  value-storable = record { fit = can.fit; room = can.space.room }

  value-within : done.next < places_in m
  value-within = omega (arith, can.space.holds)

  module _ (store' : List ℕ) (to : ℕ) (s : BodyStored octets m.store store' done.end to) where
    pub value-behind : done.end ≤ to
    value-behind = omega (arith, s.ends)

    size_is : to - done.end ≡ length octets
    size_is = omega (arith, s.ends)

    pub value-narrow : Narrow level.number done.end (to - done.end)
    value-narrow =
        let k = can.space in
        record { parent = omega (arith, k.above, k.few); first = omega (arith, k.low); long = omega (arith, k.low, size_is) }

    pub value-countable : ValueCountable done to m.bodies
    value-countable =
        let k = can.space in
        record {
          within = in-bodies done.next m value-within;
          behind = value-behind;
          low = omega (arith, k.low, s.ends);
          few = omega (arith, k.few);
          sum = omega (arith, k.sum);
        }

    -- what was stored tells whether it is a default
    added_is : (element tag : ℕ) → added_by element tag done.end (to - done.end) store' (to - done.end) ≡ item_adds element tag octets (length octets)
    unfolding added_by
    added_is element tag =
        let within : done.end + length octets ≤ length store' = omega (arith, can.space.room, ap length s.holds, length-sets m.store done.end octets) in
        let there : take (length octets) (drop done.end store') ≡ octets =
        ap (λ o. take (length octets) (drop done.end o)) s.holds ∙ part-of-sets m.store done.end octets can.space.room in
        rw (size_is, le-leb (done.end + length octets) (length store') within, there)

    module _ (tag : ℕ) (own : Record) (is : own ≡ record_at level tag done.end (to - done.end)) (l' : Lists) (x : l' ≡ put_whole done.next own m.lists) where
      pub value-lays : (bodies' : List ℕ) (r : Laid) → ValueCounts level.element tag done to store' m.bodies bodies' r
          → ValueLays (entries table) kind tag level done body m (record { lists = l'; bodies = bodies'; store = store' }) r
      value-lays bodies' r c = record {
        lists = put-there done.next own _ m.lists l' (in-lists done.next m value-within) (is ∙ ap (record_at level tag done.end) size_is) x;
        sizes = c.sizes ∙ ap (set m.bodies done.next) size_is;
        holds = s.holds;
        many = c.many;
        ends = c.ends ∙ s.ends;
        adds = c.adds ∙ ap (λ n. done.body.0 + n) (added_is level.element tag);
      }

-- ---- lay_inside and lay_item

module _ (T : Entries) (level : Level) (done : Laid) (tag : ℕ) (body : List ℕ) (m : Memory) where
  abbrev n : ℕ
  n = done.next

  abbrev at : ℕ
  at = done.end

  abbrev parent : ℕ
  parent = level.element

  -- one that holds items
  module _ (can : InsideLayable T level done tag body m) where
    items_of : (offset : ℕ) (u : Items) → OfItems T parent tag offset body u
    items_of offset u = of-items T parent tag offset body u can.holds

    opens : is_items (known parent tag) ≡ true
    opens = (items_of 0 end).holds

    written-items : (x : Items) → Written (item tag 0 [] x end) tag 0 [] x
    written-items x = written-item tag 0 [] x (items_of 0 end).no_table

    sized : (x : Items) → Sized parent (item tag 0 [] x end) (added_in tag x) (framed_size (added_in tag x)) (own_sizes tag x)
    sized x = sized-items parent tag 0 [] x (items_of 0 end).no_table (items_of 0 end).unfolds

    abbrev inside : Items
    inside = can.item.inside

    abbrev own : Items
    own = share_at level tag can.item.offset body inside

    -- what the caller's tree asks for
    record Asked : Type 0 where
      many : count (loaded_in T parent at own) ≡ 1 + count (loaded_in T tag at inside)
      size : length (store_in T parent own) ≡ length (store_in T tag inside)
      adds : added_in parent (loaded_in T parent at own) ≡ framed_size (added_in tag (loaded_in T tag at inside))

    asked : Asked
    asked =
        let w = items_of can.item.offset inside in
        record {
          many = ap count (w.loads at) ∙ (written-items (loaded_in T tag at inside)).many;
          size = ap length w.stores;
          adds = ap (added_in parent) (w.loads at) ∙ (sized (loaded_in T tag at inside)).adds;
        }

    pub inside-deep : level.depth ≤ 16
    inside-deep = can.item.deep opens

    pub inside-deeper : Fits w8 (level.depth + 1)
    inside-deeper = omega (arith, inside-deep)

    pub inside-next : Fits w64 (n + 1)
    inside-next = omega (arith, can.item.space.few, asked.many)

    inside-within : n < places_in m
    inside-within = omega (arith, can.item.space.holds, asked.many)

    pub inside-narrow : Narrow level.number 0 0
    inside-narrow = record { parent = omega (arith, can.item.space.above, can.item.space.few); first = omega arith; long = omega arith }

    abbrev inner : Level
    inner = record { element = tag; number = n; depth = level.depth + 1 }

    abbrev begun : Laid
    begun = record { next = n + 1; end = at; body = as_octets 0 }

    -- no sum inside passes what the whole may have
    inside-sum : added_in tag (loaded_in T tag at inside) ≤ 32_768
    unfolding framed_size
    inside-sum = omega (arith, can.item.space.sum, asked.adds)

    module _ (first : Record) (is : first ≡ record_at level tag 0 0) (l' : Lists) (x : l' ≡ put_whole n first m.lists) where
      there : l' ≡ put n (record_at level tag 0 0) m.lists
      there = put-there n first (record_at level tag 0 0) m.lists l' (in-lists n m inside-within) is x

      abbrev with_first : Memory
      with_first = record { lists = l'; bodies = m.bodies; store = m.store }

      same-places : places_in with_first ≡ places_in m
      unfolding places_in
      same-places = rw (places-after n (record_at level tag 0 0) m.lists l' there)

      pub inside-can : ItemsLayable T inner begun body with_first
      inside-can =
          let k = can.item.space in
          record {
            offset = can.item.offset;
            tree = inside;
            accepts = can.item.accepts opens;
            space = record {
              above = omega arith;
              few = omega (arith, k.few, asked.many);
              holds = omega (arith, k.holds, asked.many, same-places);
              low = omega (arith, k.low, asked.size);
              room = omega (arith, k.room, asked.size);
              sum = omega (arith, inside-sum);
            };
          }

      module _ (m'' : Memory) (r : Laid) (f : ItemsLay T inner begun body with_first m'' r) where
        pub inside-countable : InsideCountable done r m''.bodies
        unfolding ItemsLay
        inside-countable =
            let k = f can.item.offset inside (can.item.accepts opens) in
            let X = loaded_in T tag at inside in
            record {
              within = omega (arith, in-bodies n m inside-within, ap length k.sizes, length-sets m.bodies (n + 1) (own_sizes tag X));
              size = omega (arith, k.adds, inside-sum);
              sum = omega (arith, can.item.space.sum);
            }

        pub inside-laid : (bodies' : List ℕ) (r' : Laid) → InsideCounts done r m''.bodies bodies' r'
            → ItemLays T level done tag body m (record { lists = m''.lists; bodies = bodies'; store = m''.store }) r'
        unfolding ItemLays ItemsLay lay
        inside-laid bodies' r' c offset u a =
            let k = f offset u (a opens) in
            let w = items_of offset u in
            let X = loaded_in T tag at u in
            let more = records (level.depth + 1) n (n + 1) X in
            let laid : records level.depth level.number n (loaded_in T parent at (share_at level tag offset body u)) ≡ _ =
            ap (records level.depth level.number n) (w.loads at) ∙ (written-items X).laid level.depth level.number n in
            let many : count (loaded_in T parent at (share_at level tag offset body u)) ≡ 1 + count X = ap count (w.loads at) ∙ (written-items X).many in
            let sum : r.body.0 ≡ added_in tag X = omega (arith, k.adds) in
            let sizes : own_sizes parent (loaded_in T parent at (share_at level tag offset body u)) ≡ added_in tag X ∷ own_sizes tag X = ap (own_sizes parent) (w.loads at) ∙ (sized X).sizes in
            let adds : added_in parent (loaded_in T parent at (share_at level tag offset body u)) ≡ framed_size (added_in tag X) = ap (added_in parent) (w.loads at) ∙ (sized X).adds in
            record {
              lists = k.lists ∙ ap (lay (n + 1) more) there ∙ ap (λ i. lay i more (put n (record_at level tag 0 0) m.lists)) (add-one n) ∙ sym (ap (λ rs. lay n rs m.lists) laid);
              sizes =
                  c.sizes ∙ ap (λ i. set m''.bodies n i) sum ∙ ap (λ o. set o n (added_in tag X)) k.sizes
                  ∙ set-sets m.bodies (n + 1) (own_sizes tag X) n (added_in tag X) (omega arith)
                  ∙ ap (λ i. sets (set m.bodies n (added_in tag X)) i (own_sizes tag X)) (add-one n) ∙ sym (ap (sets m.bodies n) sizes);
              holds = k.holds ∙ sym (ap (sets m.store at) w.stores);
              many = omega (arith, k.many, c.many);
              ends = c.ends ∙ k.ends ∙ sym (ap (λ o. at + length o) w.stores);
              adds = c.adds ∙ ap (λ i. done.body.0 + framed_size i) sum ∙ sym (ap (λ i. done.body.0 + i) adds);
            }

  -- any item
  module _ (can : ItemLayable T level done tag body m) where
    module _ (g : Listed) (e : g ≡ listed_as (known parent tag)) where
      pub item-nothing : g ≡ Nothing → ItemLays T level done tag body m m done
      unfolding ItemLays lay records count own_sizes added_in
      item-nothing q offset u a =
          let s = of-nothing T parent tag offset body u (sym q ∙ e) in
          record {
            lists = sym (ap (λ t. lay n (records level.depth level.number n t) m.lists) (s.loads at));
            sizes = sym (ap (λ t. sets m.bodies n (own_sizes parent t)) (s.loads at) ∙ sets-none m.bodies n);
            holds = sym (ap (sets m.store at) s.stores ∙ sets-none m.store at);
            many = sym (ap (λ t. n + count t) (s.loads at) ∙ add-zero n);
            ends = sym (ap (λ o. at + length o) s.stores ∙ add-zero at);
            adds = sym (ap (λ t. done.body.0 + added_in parent t) (s.loads at) ∙ add-zero done.body.0);
          }

      -- a value
      module _ (kind : Kind) (q : g ≡ Value kind) where
        octets-of : (offset : ℕ) (u : Items) → OfOctets T parent tag offset body u kind
        octets-of offset u = of-octets T parent tag offset body u kind (sym q ∙ e)

        abbrev stands : List ℕ
        stands = stored T (some kind) body

        written-value : Written (item tag at stands end end) tag at stands end
        written-value = written-item tag at stands end (octets-of 0 end).no_table

        pub item-value-can : ValueLayable T kind level done body m
        unfolding is_value count
        item-value-can =
            let w = octets-of can.offset can.inside in
            let k = can.space in
            let many : count (loaded_in T parent at (share_at level tag can.offset body can.inside)) ≡ 1 = ap count (w.loads at) ∙ written-value.many in
            let size : length (store_in T parent (share_at level tag can.offset body can.inside)) ≡ length stands = ap length w.stores in
            record {
              fit = subst (λ x. is_value x body ≡ true) w.is can.value;
              space = record {
                above = k.above;
                few = omega (arith, k.few);
                holds = omega (arith, k.holds);
                low = omega (arith, k.low);
                room = omega (arith, k.room);
                sum = omega (arith, k.sum);
              };
            }

        pub item-value : (m' : Memory) (r : Laid) → ValueLays T kind tag level done body m m' r → ItemLays T level done tag body m m' r
        unfolding ItemLays lay records count
        item-value m' r v offset u a =
            let w = octets-of offset u in
            let z = sized-value parent tag at stands w.no_table w.shut in
            let laid : records level.depth level.number n (loaded_in T parent at (share_at level tag offset body u)) ≡ _ =
            ap (records level.depth level.number n) (w.loads at) ∙ written-value.laid level.depth level.number n in
            record {
              lists = v.lists ∙ sym (ap (λ rs. lay n rs m.lists) laid);
              sizes = v.sizes ∙ sym (ap (λ t. sets m.bodies n (own_sizes parent t)) (w.loads at) ∙ ap (sets m.bodies n) z.sizes);
              holds = v.holds ∙ sym (ap (sets m.store at) w.stores);
              many = v.many ∙ sym (ap (λ x. n + count x) (w.loads at) ∙ ap (λ k. n + k) written-value.many);
              ends = v.ends ∙ sym (ap (λ o. at + length o) w.stores);
              adds = v.adds ∙ sym (ap (λ t. done.body.0 + added_in parent t) (w.loads at) ∙ ap (λ k. done.body.0 + k) z.adds);
            }

      pub item-inside-can : g ≡ Inside → InsideLayable T level done tag body m
      item-inside-can q = record { holds = sym q ∙ e; item = can }

-- ---- lay_items

module _ (T : Entries) (level : Level) where
  abbrev records_at : (done : Laid) → Items → List Record
  records_at done t = records level.depth level.number done.next (loaded_at T level done t)

  abbrev sizes_at : (done : Laid) → Items → List ℕ
  sizes_at done t = own_sizes level.element (loaded_at T level done t)

same_length : (a b : List ℕ) (i j : ℕ) (o p : List ℕ) → sets a i o ≡ sets b j p → length b ≡ length a
same_length a b i j o p e = sym (length-sets b j p) ∙ ap length (sym e) ∙ length-sets a i o

-- how far the walk has come, for a tree that the whole part has: what is loaded of its rest is still to be laid
pub record Going (T : Entries) (level : Level) (before : Laid) (part : List ℕ) (m₀ : Memory) (offset : ℕ) (whole : Items) (done : Laid) (at : ℕ) (m : Memory) : Type 0 where
  pub rest : Items
  pub accepts : Accepts level.element level.depth (offset + at) (drop at part) rest
  pub lists : lay before.next (records_at T level before whole) m₀.lists ≡ lay done.next (records_at T level done rest) m.lists
  pub sizes : sets m₀.bodies before.next (sizes_at T level before whole) ≡ sets m.bodies done.next (sizes_at T level done rest)
  pub holds : sets m₀.store before.end (store_in T level.element whole) ≡ sets m.store done.end (store_in T level.element rest)
  pub many : before.next + count (loaded_at T level before whole) ≡ done.next + count (loaded_at T level done rest)
  pub ends : before.end + length (store_in T level.element whole) ≡ done.end + length (store_in T level.element rest)
  pub adds : before.body.0 + added_in level.element (loaded_at T level before whole) ≡ done.body.0 + added_in level.element (loaded_at T level done rest)

pub record Walks (T : Entries) (level : Level) (before : Laid) (part : List ℕ) (m₀ : Memory) (done : Laid) (at : ℕ) (m : Memory) : Type 0 where
  pub inside : at ≤ length part
  pub can : ItemsLayable T level before part m₀
  pub above : before.next ≤ done.next
  pub goes : (offset : ℕ) (t : Items) → Accepts level.element level.depth offset part t → Going T level before part m₀ offset t done at m

pub begin : (T : Entries) (level : Level) (before : Laid) (part : List ℕ) (m : Memory) → ItemsLayable T level before part m → Walks T level before part m before 0 m
begin T level before part m f = record {
  inside = omega arith;
  can = f;
  above = omega arith;
  goes = λ offset t a. record { rest = t; accepts = rw add-zero a; lists = refl; sizes = refl; holds = refl; many = refl; ends = refl; adds = refl };
}

module _ (T : Entries) (level : Level) (before : Laid) (part : List ℕ) (m₀ : Memory) (done : Laid) (at : ℕ) (m : Memory) (inv : Walks T level before part m₀ done at m) where
  abbrev element : ℕ
  element = level.element

  -- the tree that the caller speaks of
  sure : Going T level before part m₀ inv.can.offset inv.can.tree done at m
  sure = inv.goes inv.can.offset inv.can.tree inv.can.accepts

  pub kept : SameLengths m₀.lists m.lists
  kept = same-laid before.next done.next (records_at T level before inv.can.tree) (records_at T level done sure.rest) m₀.lists m.lists sure.lists

  pub kept-bodies : length m.bodies ≡ length m₀.bodies
  kept-bodies = same_length m₀.bodies m.bodies before.next done.next (sizes_at T level before inv.can.tree) (sizes_at T level done sure.rest) sure.sizes

  pub kept_store : length m.store ≡ length m₀.store
  kept_store = same_length m₀.store m.store before.end done.end (store_in T element inv.can.tree) (store_in T element sure.rest) sure.holds

  kept-places : places_in m ≡ places_in m₀
  unfolding places_in
  kept-places = rw (places_same kept, kept-bodies)

  pub ended : length part ≤ at → ItemsLay T level before part m₀ m done
  unfolding ItemsLay records count lay store_in loaded_in own_sizes added_in
  ended h offset t a =
      let g = inv.goes offset t a in
      let e : g.rest ≡ end = opened-end element level.depth (offset + at) g.rest (rw (drop_of_length-le part h) at g.accepts) in
      record {
        lists = sym (g.lists ∙ ap (λ x. lay done.next (records_at T level done x) m.lists) e);
        sizes = sym (g.sizes ∙ ap (λ x. sets m.bodies done.next (sizes_at T level done x)) e ∙ sets-none m.bodies done.next);
        holds = sym (g.holds ∙ ap (λ x. sets m.store done.end (store_in T element x)) e ∙ sets-none m.store done.end);
        many = sym (g.many ∙ ap (λ x. done.next + count (loaded_at T level done x)) e ∙ add-zero done.next);
        ends = sym (g.ends ∙ ap (λ x. done.end + length (store_in T element x)) e ∙ add-zero done.end);
        adds = sym (g.adds ∙ ap (λ x. done.body.0 + added_in element (loaded_at T level done x)) e ∙ add-zero done.body.0);
      }

  module _ (h : at < length part) (r : Option Lies) (re : r ≡ lies_at part at) where
    pub no_item : r ≡ None → ItemsLay T level before part m₀ m done
    no_item q = absurd (lies-inside part at r re h q element level.depth (inv.can.offset + at) sure.rest sure.accepts)

    module _ (from to : ℕ) (q : r ≡ Some (from_to from to)) where
      pub here : Lying part at from to
      here = lying part at r re from to q

      abbrev tag : ℕ
      tag = get_or part at 0

      abbrev body : List ℕ
      body = take (to - from) (drop from part)

      abbrev Met : ℕ → Items → Type 0
      Met offset t = Opened element level.depth tag (offset + from) (offset + to) body (drop to part) t

      meet : (offset : ℕ) (t : Items) → Accepts element level.depth (offset + at) (drop at part) t → Met offset t
      meet offset t a = met here inv.inside h element level.depth offset t a

      -- the item at hand, and then the rest
      abbrev own_of : (offset : ℕ) (t : Items) → Met offset t → Items
      own_of offset t o = share_at level tag (offset + from) body o.u

      parted : (offset : ℕ) (t : Items) (o : Met offset t) → Splits T element t (own_of offset t o) o.v
      parted offset t o =
          subst (λ x. Splits T element x (own_of offset t o) o.v) (sym o.tree) (splits-share T element tag (offset + from) body (known element tag) o.u o.v)

      pub item-can : ItemLayable T level done tag body m
      item-can =
          let offset = inv.can.offset in
          let o = meet offset sure.rest sure.accepts in
          let s = parted offset sure.rest o in
          let k = inv.can.space in
          let many = s.many done.end in
          let adds = s.adds done.end in
          let size : length (store_in T element sure.rest) ≡ length (store_in T element (own_of offset sure.rest o)) + length (store_in T element o.v) =
          ap length s.stores ∙ length-append (store_in T element (own_of offset sure.rest o)) (store_in T element o.v) in
          record {
            offset = offset + from;
            inside = o.u;
            value = o.value;
            deep = o.deep;
            accepts = o.inside;
            space = record {
              above = omega (arith, inv.above, k.above);
              few = omega (arith, k.few, sure.many);
              holds = omega (arith, k.holds, sure.many, kept-places);
              low = omega (arith, k.low, sure.ends);
              room = omega (arith, k.room, sure.ends, kept_store);
              sum = omega (arith, k.sum, sure.adds);
            };
          }

      module _ (m' : Memory) (next : Laid) (f : ItemLays T level done tag body m m' next) where
        further : (offset : ℕ) (t : Items) → Going T level before part m₀ offset t done at m → Going T level before part m₀ offset t next to m'
        unfolding ItemLays
        further offset t g =
            let o = meet offset g.rest g.accepts in
            let k = f (offset + from) o.u o.inside in
            let s = parted offset g.rest o in
            let own = own_of offset g.rest o in
            let many = s.many done.end in
            let adds = s.adds done.end in
            let size : length (store_in T element g.rest) ≡ length (store_in T element own) + length (store_in T element o.v) =
            ap length s.stores ∙ length-append (store_in T element own) (store_in T element o.v) in
            let there : count (loaded_in T element (done.end + length (store_in T element own)) o.v) ≡ count (loaded_in T element next.end o.v) =
            ap (λ i. count (loaded_in T element i o.v)) (sym k.ends) in
            let behind : added_in element (loaded_in T element (done.end + length (store_in T element own)) o.v) ≡ added_in element (loaded_in T element next.end o.v) =
            ap (λ i. added_in element (loaded_in T element i o.v)) (sym k.ends) in
            record {
              rest = o.v;
              accepts = o.after;
              lists = g.lists ∙ split-lists s done.end level.depth level.number done.next m.lists ∙ rw (← k.many, ← k.ends, ← k.lists);
              sizes = g.sizes ∙ split-sizes s done.end done.next m.bodies ∙ rw (← k.many, ← k.ends, ← k.sizes);
              holds = g.holds ∙ split-store s done.end m.store ∙ rw (← k.ends, ← k.holds);
              many = omega (arith, g.many, k.many);
              ends = omega (arith, g.ends, k.ends);
              adds = omega (arith, g.adds, k.adds);
            }

        pub again : Walks T level before part m₀ next to m'
        unfolding ItemLays
        again =
            let k = f item-can.offset item-can.inside item-can.accepts in
            record { inside = to_inside here inv.inside; can = inv.can; above = omega (arith, inv.above, k.many); goes = λ offset t a. further offset t (inv.goes offset t a) }
