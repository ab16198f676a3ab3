-- The whole object folded by a token table: the ways of `top_size` and `emit_top`.
use Rattle.std.specs.Prelude.{Option, Some, None}
use mathlib.Core.Path.{◌≡◌, refl, sym, ap, subst, ◌∙◌}
use mathlib.Core.Bool.{Bool, true, false, cond}
use mathlib.Core.Option.{some}
use mathlib.Core.List.{List, [], ◌∷◌, ◌++◌}
use Prim.Native.Nat.{ℕ, ◌+◌, ◌-◌, ◌≤◌, ◌<◌}
use native.Mathlib.Omega.{arith}
use lib.ListN.{length, get_or, take, drop, length-append, length-drop}
use mir.Syntax.{w64}
use mir.Val.{Fits}
use Rattle.octets.specs.Numbers.{Octets}
use Rattle.octets.specs.Header.{length_field, framed}
use Rattle.octets.proofs.Lists.{length_part, part_to_end}
use Rattle.text.specs.Tokens.{Entries, entries}
use Rattle.values.specs.declared.Kind.TheVariants.{HoldsItems}
use Rattle.values.specs.Table.{known, attribute}
use Rattle.format.specs.Tree.{Items}
use Rattle.format.specs.Tree.Items.{end, item}
use Rattle.format.specs.Judge.{is_items, is_text, judge}
use Rattle.format.specs.Judge.Judged.{accepted}
use Rattle.format.specs.Meaning.{opens}
use Rattle.reader.specs.Filling.{Accepts, share}
use Rattle.survey.specs.Normal.{framed_size}
use Rattle.octets.specs.Places.{lies_at, from_to}
use Rattle.octets.proofs.Places.{Lying, lying, bounds}
use Rattle.octets.specs.declared.Lies.{Lies}
use Rattle.reader.proofs.Opening.{lies-inside, met}
use Rattle.reader.proofs.Reading.{whole}
use Rattle.grammar.proofs.Headers.{begun}
use Rattle.grammar.proofs.Tags.{top-items}
use Rattle.grammar.proofs.Complete.{complete}
use Rattle.survey.proofs.Ways.{framed-length}
use Rattle.fold.specs.Packed.{folded, refolded}
use Rattle.packer.specs.declared.topping.Reached.{Reached}
use Rattle.packer.specs.Sizing.{ItemsSized}
use Rattle.packer.specs.Laying.{Placed}
use Rattle.packer.specs.Emitting.{ItemsEmitted}
use Rattle.packer.specs.Topping.{AttributesEmitted, held_with, folded_with, TopSized, TopEmitted}
use Rattle.packer.proofs.Sized.{framed-few}
use Rattle.packer.proofs.Laid.{placed-join}
use Rattle.packer.proofs.Emitted.{placed-framed}

-- what comes behind the attributes makes the items so much longer
longer : (es : Entries) (table : List ℕ) (p : ℕ) (t : Items) → length (refolded es table p t) ≡ length table + length (refolded es [] p t)
unfolding refolded
longer es table p end = omega arith
longer es table p (item tag at body s v) = go (attribute tag) (longer es table p v)
  where
    b : List ℕ
    b = framed tag (cond (opens tag) (refolded es [] tag s) (cond (is_text (known p tag)) (folded es body) body))

    go : (a : Bool) → length (refolded es table p v) ≡ length table + length (refolded es [] p v)
        → length (cond a [] table ++ (b ++ refolded es (cond a table []) p v)) ≡ length table + length (cond a [] [] ++ (b ++ refolded es (cond a [] []) p v))
    go true h = omega (arith, length-append b (refolded es table p v), length-append b (refolded es [] p v))
    go false h = omega (arith, length-append table (b ++ refolded es [] p v))

-- ---- the top of an accepted object

top-holds : (o : List ℕ) (t : Items) → Octets o → judge o ≡ accepted t → known 0 (get_or o 0 0) ≡ some HoldsItems
top-holds o t os h =
    let a = complete o t os h in
    let b = begun a.tag a.start a.body [] o a.whole in
    ap (λ x. known 0 (get_or x 0 0)) b.1 ∙ top-items a.tag a.top

module _ (object table : List ℕ) (h : 0 < length object) (few : length object ≤ 32_768) (short : length table ≤ 4_112) (l : Option Lies)
    (e : l ≡ lies_at object 0) where
  at-start : (t : Items) → judge object ≡ accepted t → Accepts 0 1 (0 + 0) (drop 0 object) t
  at-start t j = whole object t j

  pub nothing-sized : l ≡ None → TopSized object table 0
  nothing-sized q = record { small = omega arith; told = λ t os j. absurd (lies-inside object 0 l e h q 0 1 (0 + 0) t (at-start t j)) }

  pub nothing-emitted : (size : ℕ) (before : List ℕ) → l ≡ None → TopEmitted object table size before before 0
  nothing-emitted size before q = record { long = refl; told = λ t os j. absurd (lies-inside object 0 l e h q 0 1 (0 + 0) t (at-start t j)) }

  module _ (from to : ℕ) (q : l ≡ Some (from_to from to)) where
    pub there : Lying object 0 from to
    there = lying object 0 l e from to q

    near : (0 + 2 ≤ from) × (from ≤ to) × (to ≤ length object)
    near = bounds there (omega arith)

    pub top-ordered : from ≤ to
    top-ordered = near.1

    pub top-inside : to ≤ length object
    top-inside = near.2

    abbrev tag : ℕ
    tag = get_or object 0 0

    abbrev body : List ℕ
    body = take (to - from) (drop from object)

    abbrev es : Entries
    es = entries table

    long-body : length body ≡ to - from
    long-body = length_part object from (to - from) (omega (arith, near))

    pub top-few : length body < 32_768
    top-few = omega (arith, near, long-body)

    pub rest-few : (place : ℕ) → length (take (length body - place) (drop place body)) < 32_768
    rest-few place = rw (part_to_end body place) (omega (arith, length-drop place body, top-few))

    -- the items of the top, and the folded object by them
    record Opened (t : Items) : Type 0 where
      inside : Items
      accepts : Accepts tag 2 (0 + from) body inside
      holds : held_with table t ≡ refolded es (framed 4 table) tag inside
      folds : folded_with table t ≡ framed tag (refolded es (framed 4 table) tag inside)

    opened : (t : Items) → Octets object → judge object ≡ accepted t → Opened t
    unfolding held_with folded_with share is_items
    opened t os j =
        let o = met there (omega arith) h 0 1 0 t (at-start t j) in
        let k = top-holds object t os j in
        let i : is_items (known 0 tag) ≡ true = ap is_items k in
        let w : share (known 0 tag) tag (0 + from) body o.u o.v ≡ item tag (0 + from) body o.u o.v = rw k in
        record { inside = o.u; accepts = o.inside i; holds = ap (held_with table) (o.tree ∙ w); folds = ap (folded_with table) (o.tree ∙ w) }

    module _ (inner : ℕ) (m : ItemsSized es tag 15 body inner) (fr : ℕ) (f : fr ≡ framed_size (length table)) where
      pub inner-fits : Fits w64 (inner + fr)
      inner-fits = record { fits = omega (arith, m.small, top-few, framed-few (length table)) }

      pub top-sized : TopSized object table (inner + fr)
      top-sized = record {
        small = omega (arith, m.small, near, long-body, framed-few (length table));
        told = λ t os j.
            let o = opened t os j in
            let a = m.told 2 (0 + from) o.inside refl o.accepts in
            omega (arith, longer es (framed 4 table) tag o.inside, framed-length 4 table, ap length o.holds);
      }

    module _ (size : ℕ) (before one two three four five : List ℕ) (begun : ℕ) (reached : Reached) (tabled behind r : ℕ)
        (x : Placed (tag ∷ length_field size) before one 0 begun) (k : AttributesEmitted es tag 15 body one two begun reached)
        (y : Placed (4 ∷ length_field (length table)) two three reached.end tabled) (z : Placed table three four tabled behind)
        (w : ItemsEmitted es tag 15 (take (length body - reached.place) (drop reached.place body)) four five behind r) where
      pub top-emitted : TopEmitted object table size before five r
      top-emitted = record {
        long = w.long ∙ (z.long ∙ (y.long ∙ (k.long ∙ x.long)));
        told = λ t os j n.
            let o = opened t os j in
            let g = k.told 2 (0 + from) o.inside refl o.accepts in
            let p = g.parted in
            let v = w.told 2 (0 + from + reached.place) p.rest refl (subst (λ b. Accepts tag 2 (0 + from + reached.place) b p.rest) (sym (part_to_end body reached.place)) p.accepts) in
            let u = placed-join (framed 4 table) (refolded es [] tag p.rest) two four five reached.end behind r (placed-framed 4 (length table) table two three four reached.end tabled behind refl y z) v in
            let s = placed-join p.done (framed 4 table ++ refolded es [] tag p.rest) one two five begun reached.end r p.lays u in
            let q' : refolded es (framed 4 table) tag o.inside ≡ p.done ++ (framed 4 table ++ refolded es [] tag p.rest) = p.octets (framed 4 table) ∙ ap (λ m. p.done ++ m) (g.front (framed 4 table)) in
            subst (λ m. Placed m before five 0 r) (sym o.folds)
            (placed-framed tag size (refolded es (framed 4 table) tag o.inside) before one five 0 begun r (n ∙ ap length o.holds) x (subst (λ m. Placed m one five begun r) (sym q') s));
      }
