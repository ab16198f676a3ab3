-- The ways through fill_item and fill_items.
use Rattle.std.specs.Prelude.{Option, Some, None}
use mathlib.Core.Bool.{true}
use mathlib.Core.Path.{◌≡◌, refl, sym, ap, ◌∙◌}
use mathlib.Core.List.{List}
use Prim.Native.Nat.{ℕ, ◌+◌, ◌-◌, ◌≤◌, ◌<◌}
use native.Mathlib.Nat.{add-zero}
use native.Mathlib.Numerals.{add-one}
use native.Mathlib.Omega.{arith}
use lib.ListN.{length, drop, get_or, drop_of_length-le}
use mir.Syntax.{w8, w64}
use mir.Val.{Fits}
use Rattle.octets.specs.Places.{lies_at, between, from_to}
use Rattle.octets.proofs.Lists.{length_part}
use Rattle.octets.proofs.Places.{Lying, lying, bounds, to_inside}
use Rattle.octets.specs.declared.Lies.{Lies}
use Rattle.values.specs.declared.Kind.{Kind}
use Rattle.values.specs.Table.{known}
use Rattle.format.specs.declared.Record.{Record}
use Rattle.format.specs.Tree.{Items, count, record_of, records}
use Rattle.format.specs.Tree.Items.{end}
use Rattle.format.specs.Judge.{is_items}
use Rattle.format.specs.Calls.{Lists, put, put_whole, lay}
use Rattle.reader.specs.declared.filling.Place.{Place}
use Rattle.tags.specs.declared.Listed.{Listed}
use Rattle.tags.specs.declared.Listed.TheVariants.{Nothing, Inside, Value}
use Rattle.tags.specs.Listed.{listed_as}
use Rattle.reader.specs.Filling.{Narrow, Accepts, Fillable, Fills, share_of, ItemFillable, ItemFills}
use Rattle.format.proofs.Lays.{SameLengths, places_same, put-there}
use Rattle.reader.proofs.Laid.{same-lay, same-laid, places-after}
use Rattle.reader.proofs.Shares.{count-share, lay-share, silent, Written, written-alone, written-items, holds-items}
use Rattle.reader.proofs.Opening.{Opened, opened-end, lies-inside, met}

-- ---- one item

module _ (place : Place) (tag : ℕ) (body : List ℕ) (l : Lists) (can : ItemFillable place tag body l) where
  abbrev n : ℕ
  n = place.next

  abbrev own : Record
  own = record_of place.depth place.number tag place.offset body

  pub narrow : Narrow place body
  narrow = record { parent = omega (arith, can.room.above, can.room.few); start = omega (arith, can.room.low); size = omega (arith, can.room.low) }

  module _ (g : Listed) (e : g ≡ listed_as (known place.element tag)) where
    pub item-nothing : g ≡ Nothing → ItemFills place tag body l l n
    unfolding ItemFills lay
    item-nothing q u a =
        let s = silent place.element tag place.offset body u (sym q ∙ e) in
        record { laid = sym (ap (λ rs. lay n rs l) (s.laid place.depth place.number n)); many = omega (arith, s.many) }

    -- one record
    module _ (k : Kind) (q : g ≡ Value k) where
      alone : (u : Items) → Written (share_of place tag body u) tag place.offset body end
      alone u = written-alone place.element tag place.offset body u k (sym q ∙ e)

      pub alone-fits : Fits w64 (n + 1)
      alone-fits = omega (arith, can.room.few, (alone can.inside).many)

      module _ (r : Record) (re : r ≡ own) (l' : Lists) (x : l' ≡ put_whole n r l) where
        there : l' ≡ put n own l
        there = put-there n r own l l' (omega (arith, can.room.holds, (alone can.inside).many)) re x

        pub item-alone : ItemFills place tag body l l' (n + 1)
        unfolding ItemFills lay records count
        item-alone u a = record { laid = there ∙ sym (ap (λ rs. lay n rs l) ((alone u).laid place.depth place.number n)); many = omega (arith, (alone u).many) }

    -- a record, and those of the items inside
    module _ (q : g ≡ Inside) where
      both : (u : Items) → Written (share_of place tag body u) tag place.offset body u
      both u = written-items place.element tag place.offset body u (sym q ∙ e)

      holds : is_items (known place.element tag) ≡ true
      holds = holds-items place.element tag place.offset body end (sym q ∙ e)

      pub both-fits : Fits w64 (n + 1)
      both-fits = omega (arith, can.room.few, (both can.inside).many)

      pub both-deep : place.depth ≤ 16
      both-deep = can.deep holds

      pub both-deeper : Fits w8 (place.depth + 1)
      both-deeper = omega (arith, both-deep)

      abbrev inner : Place
      inner = record { element = tag; number = n; depth = place.depth + 1; offset = place.offset; next = n + 1 }

      module _ (r : Record) (re : r ≡ own) (l' : Lists) (x : l' ≡ put_whole n r l) where
        first : l' ≡ put n own l
        first = put-there n r own l l' (omega (arith, can.room.holds, (both can.inside).many)) re x

        pub both-can : Fillable inner body l'
        both-can = record {
          tree = can.inside;
          accepts = can.accepts holds;
          room = record {
            above = omega arith;
            few = omega (arith, can.room.few, (both can.inside).many);
            low = can.room.low;
            holds = omega (arith, can.room.holds, (both can.inside).many, places-after n own l l' first);
          };
        }

        module _ (l'' : Lists) (m : ℕ) (f : Fills inner body l' l'' m) where
          pub item-both : ItemFills place tag body l l'' m
          unfolding ItemFills Fills lay
          item-both u a =
              let k = f u (a holds) in
              let more = records (place.depth + 1) n (n + 1) u in
              record {
                laid = k.laid ∙ ap (lay (n + 1) more) first ∙ ap (λ i. lay i more (put n own l)) (add-one n)
                    ∙ sym (ap (λ rs. lay n rs l) ((both u).laid place.depth place.number n));
                many = omega (arith, k.many, (both u).many);
              }

  -- no list gets longer or shorter
  pub item-same : (l' : Lists) (m : ℕ) → ItemFills place tag body l l' m → SameLengths l l'
  unfolding ItemFills
  item-same l' m f = same-lay n (records place.depth place.number n (share_of place tag body can.inside)) l l' (f can.inside can.accepts).laid

-- ---- the items of an element

-- how far the filling has come, for a tree that the whole part has: the records of its rest are still to be laid
pub record Going (place : Place) (part : List ℕ) (before : Lists) (whole : Items) (next at : ℕ) (l : Lists) : Type 0 where
  pub rest : Items
  pub accepts : Accepts place.element place.depth (place.offset + at) (drop at part) rest
  pub laid : lay place.next (records place.depth place.number place.next whole) before ≡ lay next (records place.depth place.number next rest) l
  pub many : place.next + count whole ≡ next + count rest

pub record Turns (place : Place) (part : List ℕ) (before : Lists) (next at : ℕ) (l : Lists) : Type 0 where
  pub inside : at ≤ length part
  pub can : Fillable place part before
  pub above : place.next ≤ next
  pub goes : (t : Items) → Accepts place.element place.depth place.offset part t → Going place part before t next at l

pub begin : (place : Place) (part : List ℕ) (l : Lists) → Fillable place part l → Turns place part l place.next 0 l
begin place part l f = record {
  inside = omega arith;
  can = f;
  above = omega arith;
  goes = λ t a. record { rest = t; accepts = rw add-zero a; laid = refl; many = refl };
}

module _ (place : Place) (part : List ℕ) (before : Lists) (next at : ℕ) (l : Lists) (inv : Turns place part before next at l) where
  -- the tree that the caller speaks of
  sure : Going place part before inv.can.tree next at l
  sure = inv.goes inv.can.tree inv.can.accepts

  pub kept : SameLengths before l
  kept =
      same-laid place.next next (records place.depth place.number place.next inv.can.tree) (records place.depth place.number next sure.rest) before l
      sure.laid

  pub ended : length part ≤ at → Fills place part before l next
  unfolding Fills records count lay
  ended h t a =
      let g = inv.goes t a in
      let e : g.rest ≡ end = opened-end place.element place.depth (place.offset + at) g.rest (rw (drop_of_length-le part h) at g.accepts) in
      record { laid = sym (g.laid ∙ ap (λ x. lay next (records place.depth place.number next x) l) e); many = sym (g.many ∙ ap (λ x. next + count x) e ∙ add-zero next) }

  module _ (h : at < length part) (r : Option Lies) (e : r ≡ lies_at part at) where
    pub no_item : r ≡ None → Fills place part before l next
    no_item q = absurd (lies-inside part at r e h q place.element place.depth (place.offset + at) sure.rest sure.accepts)

    module _ (from to : ℕ) (q : r ≡ Some (from_to from to)) where
      pub here : Lying part at from to
      here = lying part at r e from to q

      pub offset-fits : Fits w64 (place.offset + from)
      offset-fits = omega (arith, bounds here inv.inside, inv.can.room.low)

      abbrev tag : ℕ
      tag = get_or part at 0

      abbrev body : List ℕ
      body = between part from to

      abbrev spot : Place
      spot = record { element = place.element; number = place.number; depth = place.depth; offset = place.offset + from; next = next }

      abbrev Met : Items → Type 0
      Met t = Opened place.element place.depth tag (place.offset + from) (place.offset + to) body (drop to part) t

      meet : (t : Items) → Accepts place.element place.depth (place.offset + at) (drop at part) t → Met t
      meet t a = met here inv.inside h place.element place.depth place.offset t a

      met-count : (t : Items) (m : Met t) → count t ≡ count (share_of spot tag body m.u) + count m.v
      met-count t m = ap count m.tree ∙ count-share tag (place.offset + from) body (known place.element tag) m.u m.v

      pub item-can : ItemFillable spot tag body l
      item-can =
          let m = meet sure.rest sure.accepts in
          let b = bounds here inv.inside in
          let k = met-count sure.rest m in
          let r = inv.can.room in
          record {
            inside = m.u;
            accepts = m.inside;
            deep = m.deep;
            room = record {
              above = omega (arith, inv.above, r.above);
              few = omega (arith, r.few, sure.many);
              low = omega (arith, r.low, length_part part from (to - from) (omega (arith, b)));
              holds = omega (arith, r.holds, sure.many, places_same kept);
            };
          }

      module _ (l' : Lists) (m : ℕ) (f : ItemFills spot tag body l l' m) where
        further : (t : Items) → Going place part before t next at l → Going place part before t m to l'
        unfolding ItemFills
        further t g =
            let o = meet g.rest g.accepts in
            let k = f o.u o.inside in
            record {
              rest = o.v;
              accepts = o.after;
              laid = g.laid ∙ ap (λ x. lay next (records place.depth place.number next x) l) o.tree
                  ∙ lay-share tag (place.offset + from) body place.depth place.number next (known place.element tag) o.u o.v l ∙ rw (← k.many, ← k.laid);
              many = omega (arith, g.many, met-count g.rest o, k.many);
            }

        pub again : Turns place part before m to l'
        unfolding ItemFills
        again =
            let k = f item-can.inside item-can.accepts in
            record { inside = to_inside here inv.inside; can = inv.can; above = omega (arith, inv.above, k.many); goes = λ t a. further t (inv.goes t a) }
