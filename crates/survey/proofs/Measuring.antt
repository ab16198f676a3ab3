-- The ways through measure_item and measure_items.
use Rattle.std.specs.Prelude.{Option, Some, None}
use mathlib.Core.Path.{◌≡◌, refl, sym, ap, ap₂, ◌∙◌, subst}
use mathlib.Core.Bool.{Bool, true, false, cond, not, ◌&&◌}
use mathlib.Core.List.{List}
use Prim.Native.Nat.{ℕ, ◌+◌, ◌-◌, ◌*◌, ◌^◌, ◌≤◌, ◌<◌, min}
use native.Mathlib.Nat.{add-zero}
use native.Mathlib.Omega.{arith}
use lib.ListN.{length, take, drop, get_or, length-take, drop_of_length-le}
use borrow.Author.Tests.{eqb-true}
use lib.Dec.{eqb}
use mir.Syntax.{w64}
use mir.Val.{Fits}
use Rattle.octets.specs.declared.counts.Octets.{Octets as OctetCount}
use Rattle.octets.specs.Counts.{as_octets}
use Rattle.octets.specs.Places.{lies_at, from_to}
use Rattle.text.specs.Tokens.{Entries}
use Rattle.values.specs.Table.{known, defaults, default_in}
use Rattle.values.specs.Calls.{default_octets}
use Rattle.octets.proofs.Places.{Lying, lying, to_inside}
use Rattle.octets.proofs.Tests.{and_left, never, not_chosen}
use Rattle.octets.specs.declared.Lies.{Lies}
use Rattle.format.specs.Tree.{Items}
use Rattle.format.specs.Tree.Items.{end}
use Rattle.format.specs.Judge.{is_known, is_items, is_tokens}
use Rattle.reader.specs.Filling.{Accepts, share}
use Rattle.reader.proofs.Opening.{opened-end, lies-inside, met}
use Rattle.survey.specs.Normal.{framed_size}
use Rattle.survey.specs.declared.measure.Part.{Part}
use Rattle.survey.specs.declared.measure.Part.TheVariants.{Nothing, Kept, Inside, Octets}
use Rattle.survey.specs.Sizes.{taken, part_of, part_in, room_in, size_in, sizes_of, sizes_in, Small, ItemMeasured, ItemsMeasured}
use Rattle.survey.specs.Makers.{store_octets}
use Rattle.survey.proofs.Parts.{sizes-over, sizes-are, over-says, sizes-say, small-sizes}
use Rattle.survey.proofs.Adding.{Has, share-adds, adds-nothing, adds-octets, adds-kept, holds-items, adds-inside, cut-same}
use Rattle.survey.specs.declared.measure.Sizes.{Sizes}

-- an item is no shorter than its body
framed-more : (n : ℕ) → n < framed_size n
unfolding framed_size
framed-more n = omega arith

sizes-has : (T : Entries) (p : ℕ) (t : Items) (store octets : ℕ) → Has T p t store octets → sizes_of store octets ≡ sizes_in T p t
sizes-has T p t store octets h = ap₂ sizes_of (sym h.room) (sym h.size)

-- ---- measure_item

-- what isn't kept is no default
plainly : (T : Entries) (p tag : ℕ) (body : List ℕ) (x : Part) → (Kept ≡ x → ⊥) → x ≡ part_in T p tag body → (default_octets p tag body ≡ false) × (x ≡ part_of T (known p tag) body)
unfolding part_in
plainly T p tag body x n e = not_chosen (default_octets p tag body) e (λ z. n (sym z))

kept-only : (T : Entries) (p tag : ℕ) (body : List ℕ) → Kept ≡ part_in T p tag body → default_octets p tag body ≡ true
unfolding part_in part_of
kept-only T p tag body e = go (default_octets p tag body) refl (is_items (known p tag)) (is_known (known p tag) && not (is_tokens (known p tag))) e
  where
    go : (d : Bool) → default_octets p tag body ≡ d → (a b : Bool)
        → Kept ≡ cond d Kept (cond a Inside (cond b (Octets (as_octets (min 32_769 (length (taken T (known p tag) body))))) Nothing)) → d ≡ true
    go true d a b w = refl
    go false d true b w = never (cc)
    go false d false true w = never (cc)
    go false d false false w = never (cc)

module _ (T : Entries) (p tag left : ℕ) (body : List ℕ) (x : Part) (xe : x ≡ part_in T p tag body) where
  pub item-nothing : x ≡ Nothing → ItemMeasured T p tag left body (Some (store_octets (as_octets 0) (as_octets 0)))
  item-nothing q = record {
    small = (omega arith, omega arith);
    told = λ depth offset u l a. sizes-are 0 0 (omega arith) ∙ sizes-has T p (share (known p tag) tag offset body u end) 0 0 (adds-nothing T p tag offset body u part.1);
  }
    where
      part : (default_octets p tag body ≡ false) × (Nothing ≡ part_of T (known p tag) body)
      part = plainly T p tag body Nothing (λ e. never (cc)) (sym q ∙ xe)

  pub item-kept : x ≡ Kept → ItemMeasured T p tag left body (Some (store_octets (as_octets 1) (as_octets 0)))
  unfolding default_octets
  item-kept q = record {
    small = (omega (arith, one), omega arith);
    told = λ depth offset u l a. sizes-are 1 0 (omega arith) ∙ sizes-has T p (share (known p tag) tag offset body u end) 1 0 (adds-kept T p tag offset body u kept);
  }
    where
      kept : default_octets p tag body ≡ true
      kept = kept-only T p tag body (sym q ∙ xe)

      one : length body ≡ 1
      one = eqb-true (length body) 1 (and_left (eqb (length body) 1) (default_in p tag (get_or body 0 0) defaults) kept)

  -- octets of its own
  module _ (n : OctetCount) (q : x ≡ Octets n) where
    octets-part : (default_octets p tag body ≡ false) × (Octets n ≡ part_of T (known p tag) body)
    octets-part = plainly T p tag body (Octets n) (λ e. never (cc)) (sym q ∙ xe)

    abbrev whole : ℕ
    whole = length (taken T (known p tag) body)

    pub octets-few : n.0 ≤ 32_769
    octets-few = omega (arith, (adds-octets T p tag 0 body end octets-part.0 n octets-part.1).0)

    pub item-octets : (r : Option Sizes) → r ≡ sizes_of n.0 (framed_size n.0) → ItemMeasured T p tag left body r
    item-octets r e = record {
      small = subst (Small (length body)) (sym e) (small-sizes (length body) n.0 (framed_size n.0) (omega (arith, framed-more n.0)));
      told = λ depth offset u l a.
          let h = adds-octets T p tag offset body u octets-part.0 n octets-part.1 in
          e ∙ cut-same n.0 whole h.0 ∙ sizes-has T p (share (known p tag) tag offset body u end) whole (framed_size whole) h.1;
    }

  -- the items inside it
  module _ (q : x ≡ Inside) where
    inside-part : (default_octets p tag body ≡ false) × (Inside ≡ part_of T (known p tag) body)
    inside-part = plainly T p tag body Inside (λ e. never (cc)) (sym q ∙ xe)

    holds : is_items (known p tag) ≡ true
    holds = holds-items T p tag 0 body end inside-part.1

    inner : (offset : ℕ) (u : Items) → sizes_of (room_in T tag u) (framed_size (size_in T tag u)) ≡ sizes_in T p (share (known p tag) tag offset body u end)
    inner offset u = sizes-has T p (share (known p tag) tag offset body u end) (room_in T tag u) (framed_size (size_in T tag u)) (adds-inside T p tag offset body u inside-part.0 inside-part.1)

    pub item-deep : left ≡ 0 → ItemMeasured T p tag left body None
    item-deep z = record { small = tt; told = λ depth offset u l a. absurd (omega (arith, (a holds).0)) }

    module _ (z : left ≡ 0 → ⊥) (v : Option Sizes) (m : ItemsMeasured T tag (left - 1) body v) where
      inside-told : (depth offset : ℕ) (u : Items) → depth + left ≡ 17 → (depth ≤ 16) × Accepts tag (depth + 1) offset body u → v ≡ sizes_in T tag u
      inside-told depth offset u l a = m.told (depth + 1) offset u (omega (arith, a.0)) a.1

      pub item-over : v ≡ None → ItemMeasured T p tag left body None
      item-over w = record {
        small = tt;
        told = λ depth offset u l a.
            let k = over-says (room_in T tag u) (size_in T tag u) (sym w ∙ inside-told depth offset u l (a holds)) in
            sizes-over (room_in T tag u) (framed_size (size_in T tag u)) (omega (arith, framed-more (size_in T tag u))) ∙ inner offset u;
      }

      module _ (s n : OctetCount) (w : v ≡ Some (store_octets s n)) where
        bounded : (s.0 ≤ n.0 + length body) × (n.0 ≤ 32_768)
        bounded = subst (Small (length body)) w m.small

        pub item-inside : (r : Option Sizes) → r ≡ sizes_of s.0 (framed_size n.0) → ItemMeasured T p tag left body r
        item-inside r e = record {
          small = subst (Small (length body)) (sym e) (small-sizes (length body) s.0 (framed_size n.0) (omega (arith, bounded.0, framed-more n.0)));
          told = λ depth offset u l a.
              let k = sizes-say (room_in T tag u) (size_in T tag u) s n (sym w ∙ inside-told depth offset u l (a holds)) in
              e ∙ ap₂ (λ b c. sizes_of b (framed_size c)) (sym k.0) (sym k.1) ∙ inner offset u;
        }

-- ---- measure_items

-- how far the measuring has come, for a tree that the whole part has: the sizes of its rest are still to be added
pub record Going (T : Entries) (p depth offset : ℕ) (part : List ℕ) (whole : Items) (store octets at : ℕ) : Type 0 where
  pub rest : Items
  pub accepts : Accepts p depth (offset + at) (drop at part) rest
  pub room : room_in T p whole ≡ store + room_in T p rest
  pub size : size_in T p whole ≡ octets + size_in T p rest

pub record Sums (T : Entries) (p left : ℕ) (part : List ℕ) (store octets at : ℕ) : Type 0 where
  pub inside : at ≤ length part
  pub fewer : store ≤ octets + at
  pub few : octets ≤ 32_768
  pub goes : (depth offset : ℕ) (t : Items) → depth + left ≡ 17 → Accepts p depth offset part t → Going T p depth offset part t store octets at

pub begin : (T : Entries) (p left : ℕ) (part : List ℕ) → Sums T p left part 0 0 0
begin T p left part = record {
  inside = omega arith;
  fewer = omega arith;
  few = omega arith;
  goes = λ depth offset t l a. record { rest = t; accepts = rw add-zero a; room = omega arith; size = omega arith };
}

module _ (T : Entries) (p left : ℕ) (part : List ℕ) (store octets at : ℕ) (inv : Sums T p left part store octets at) where
  pub ended : length part ≤ at → ItemsMeasured T p left part (Some (store_octets (as_octets store) (as_octets octets)))
  unfolding room_in size_in
  ended h = record {
    small = (omega (arith, inv.fewer, inv.inside), inv.few);
    told = λ depth offset t l a.
        let g = inv.goes depth offset t l a in
        let e : g.rest ≡ end = opened-end p depth (offset + at) g.rest (rw (drop_of_length-le part h) at g.accepts) in
        let x : room_in T p t ≡ store = g.room ∙ ap (λ y. store + room_in T p y) e ∙ add-zero store in
        let z : size_in T p t ≡ octets = g.size ∙ ap (λ y. octets + size_in T p y) e ∙ add-zero octets in
        sizes-are store octets inv.few ∙ ap₂ sizes_of (sym x) (sym z);
  }

  module _ (h : at < length part) (r : Option Lies) (re : r ≡ lies_at part at) where
    pub no_item : r ≡ None → ItemsMeasured T p left part None
    no_item q = record {
      small = tt;
      told = λ depth offset t l a.
          let g = inv.goes depth offset t l a in
          absurd (lies-inside part at r re h q p depth (offset + at) g.rest g.accepts);
    }

    module _ (from to : ℕ) (q : r ≡ Some (from_to from to)) where
      pub here : Lying part at from to
      here = lying part at r re from to q

      abbrev tag : ℕ
      tag = get_or part at 0

      abbrev body : List ℕ
      body = take (to - from) (drop from part)

      module _ (v : Option Sizes) (m : ItemMeasured T p tag left body v) where
        -- the item at hand, and then the rest
        record Turn (depth offset : ℕ) (t : Items) : Type 0 where
          u : Items
          w : Items
          after : Accepts p depth (offset + to) (drop to part) w
          own : v ≡ sizes_in T p (share (known p tag) tag (offset + from) body u end)
          room : room_in T p t ≡ store + (room_in T p (share (known p tag) tag (offset + from) body u end) + room_in T p w)
          size : size_in T p t ≡ octets + (size_in T p (share (known p tag) tag (offset + from) body u end) + size_in T p w)

        turn : (depth offset : ℕ) (t : Items) → depth + left ≡ 17 → Accepts p depth offset part t → Turn depth offset t
        turn depth offset t l a =
            let g = inv.goes depth offset t l a in
            let o = met here inv.inside h p depth offset g.rest g.accepts in
            let s = share-adds T p tag (offset + from) body (known p tag) o.u o.v in
            record {
              u = o.u;
              w = o.v;
              after = o.after;
              own = m.told depth (offset + from) o.u l (λ i. (o.deep i, o.inside i));
              room = g.room ∙ ap (λ y. store + y) (ap (room_in T p) o.tree ∙ s.room);
              size = g.size ∙ ap (λ y. octets + y) (ap (size_in T p) o.tree ∙ s.size);
            }

        pub item-too-long : v ≡ None → ItemsMeasured T p left part None
        item-too-long e = record {
          small = tt;
          told = λ depth offset t l a.
              let g = turn depth offset t l a in
              let k = over-says _ _ (sym e ∙ g.own) in
              sizes-over (room_in T p t) (size_in T p t) (omega (arith, g.size));
        }

        module _ (more longer : OctetCount) (e : v ≡ Some (store_octets more longer)) where
          limits : (more.0 ≤ longer.0 + length body) × (longer.0 ≤ 32_768)
          limits = subst (Small (length body)) e m.small

          -- up to here and in this item no more is kept than written, but for octets of the part
          kept-fewer : store + more.0 ≤ octets + longer.0 + to
          kept-fewer = omega (arith, limits.0, inv.fewer, length-take (to - from) (drop from part), here.begins, here.ends)

          pub store-fits : length part * 1 < 2 ^ 63 → Fits w64 (store + more.0)
          store-fits l = omega (arith, kept-fewer, limits.1, inv.few, to_inside here inv.inside)

          pub octets-fit : Fits w64 (octets + longer.0)
          octets-fit = omega (arith, limits, inv.few)

          further : (depth offset : ℕ) (t : Items) → depth + left ≡ 17 → Accepts p depth offset part t → Going T p depth offset part t (store + more.0) (octets + longer.0) to
          further depth offset t l a =
              let g = turn depth offset t l a in
              let k = sizes-say _ _ more longer (sym e ∙ g.own) in
              record { rest = g.w; accepts = g.after; room = omega (arith, g.room, k.0); size = omega (arith, g.size, k.1) }

          pub too_long : 32_768 < octets + longer.0 → ItemsMeasured T p left part None
          too_long k = record {
            small = tt;
            told = λ depth offset t l a. sizes-over (room_in T p t) (size_in T p t) (omega (arith, (further depth offset t l a).size));
          }

          pub again : octets + longer.0 ≤ 32_768 → Sums T p left part (store + more.0) (octets + longer.0) to
          again k = record { inside = to_inside here inv.inside; fewer = kept-fewer; few = k; goes = further }
