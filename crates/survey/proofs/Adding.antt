-- What an item adds to the sizes of items: its share alone, by what is measured of it, and then the items after it.
use mathlib.Core.Path.{◌≡◌, refl, sym, ap, ◌∙◌}
use mathlib.Core.Bool.{Bool, true, false, cond, not, ◌&&◌}
use mathlib.Core.Option.{Option}
use mathlib.Core.List.{List}
use Prim.Native.Nat.{ℕ, ◌+◌, min}
use native.Mathlib.Omega.{arith}
use lib.Dec.{eqb, leb}
use lib.ListN.{length}
use Rattle.octets.specs.declared.counts.Octets.{Octets as OctetCount}
use Rattle.octets.specs.Counts.{as_octets}
use Rattle.octets.proofs.Tests.{never}
use Rattle.text.specs.Tokens.{Entries}
use Rattle.values.specs.declared.Kind.{Kind}
use Rattle.values.specs.declared.Kind.TheVariants.{HoldsNumber}
use Rattle.values.specs.declared.NumberKind.TheVariants.{Enumerated}
use Rattle.values.specs.Table.{known}
use Rattle.values.specs.Calls.{default_octets}
use Rattle.values.proofs.DefaultValues.{default-enumerated, default-fits, default-length-one}
use Rattle.format.specs.Tree.{Items}
use Rattle.format.specs.Tree.Items.{end, item}
use Rattle.format.specs.Judge.{is_known, is_items, is_tokens}
use Rattle.format.specs.Meaning.{opens}
use borrow.Author.Tests.{leb-true, leb-false}
use Rattle.format.proofs.Means.{items-known, items-opens, attribute-shut}
use Rattle.format.proofs.Force.{attribute-four}
use Rattle.format.proofs.Defaults.{default-attribute}
use Rattle.judge.proofs.AllWays.{tokens-four}
use Rattle.reader.specs.Filling.{share}
use Rattle.survey.specs.Normal.{framed_size}
use Rattle.survey.specs.declared.measure.Part.{Part}
use Rattle.survey.specs.declared.measure.Part.TheVariants.{Nothing, Inside, Octets}
use Rattle.survey.specs.Sizes.{taken, part_of, room_in, size_in, sizes_of}
use Rattle.survey.proofs.Parts.{sizes-over}

-- the sizes of items
pub record Has (T : Entries) (p : ℕ) (t : Items) (store octets : ℕ) : Type 0 where
  pub room : room_in T p t ≡ store
  pub size : size_in T p t ≡ octets

-- a default has one octet
pub taken-one : (T : Entries) (p tag : ℕ) (body : List ℕ) → default_octets p tag body ≡ true → length (taken T (known p tag) body) ≡ 1
unfolding taken
taken-one T p tag body d =
    let e = default-enumerated p tag body d in
    rw (e, default-fits p tag body d) (default-length-one T p tag (HoldsNumber Enumerated) body e d)

module _ (T : Entries) (p tag start : ℕ) (body : List ℕ) where
  -- an item's share, and then the items after it
  pub share-adds : (k : Option Kind) (u v : Items)
      → Has T p (share k tag start body u v) (room_in T p (share k tag start body u end) + room_in T p v) (size_in T p (share k tag start body u end) + size_in T p v)
  unfolding share room_in size_in
  share-adds k u v = go (is_items k) (is_known k)
    where
      go : (a b : Bool)
          → Has T p (cond a (item tag start body u v) (cond b (item tag start body end v) v))
          (room_in T p (cond a (item tag start body u end) (cond b (item tag start body end end) end)) + room_in T p v)
          (size_in T p (cond a (item tag start body u end) (cond b (item tag start body end end) end)) + size_in T p v)
      go true b = record { room = omega arith; size = omega arith }
      go false true = record { room = omega arith; size = omega arith }
      go false false = record { room = omega arith; size = omega arith }

  module _ (u : Items) where
    abbrev own : Items
    own = share (known p tag) tag start body u end

    abbrev partly : (a b c : Bool) → Part
    partly a b c = cond a Inside (cond (b && not c) (Octets (as_octets (min 32_769 (length (taken T (known p tag) body))))) Nothing)

    abbrev shared : (a b : Bool) → Items
    shared a b = cond a (item tag start body u end) (cond b (item tag start body end end) end)

    nothing-by : (a b c : Bool) → c ≡ eqb tag 4 → Nothing ≡ partly a b c → Has T p (shared a b) 0 0
    unfolding room_in size_in
    nothing-by true b c e h = never (cc)
    nothing-by false true true e h = record { room = rw (sym e); size = rw (sym e) }
    nothing-by false true false e h = never (cc)
    nothing-by false false c e h = record { room = refl; size = refl }

    octets-by : (a b c : Bool) → a ≡ opens tag → c ≡ eqb tag 4 → default_octets p tag body ≡ false → (n : OctetCount) → Octets n ≡ partly a b c
        → (n.0 ≡ min 32_769 (length (taken T (known p tag) body))) × Has T p (shared a b) (length (taken T (known p tag) body)) (framed_size (length (taken T (known p tag) body)))
    unfolding room_in size_in
    octets-by true b c o e d n h = never (cc)
    octets-by false true true o e d n h = never (cc)
    octets-by false true false o e d n h = (cc, record { room = rw (sym e, sym o) (omega arith); size = rw (sym e, d, sym o) (omega arith) })
    octets-by false false c o e d n h = never (cc)

    inside-by : (a b c : Bool) → a ≡ opens tag → Inside ≡ partly a b c → a ≡ true
    inside-by true b c o h = refl
    inside-by false true true o h = never (cc)
    inside-by false true false o h = never (cc)
    inside-by false false c o h = never (cc)

    pub adds-nothing : Nothing ≡ part_of T (known p tag) body → Has T p own 0 0
    unfolding part_of share
    adds-nothing h = nothing-by (is_items (known p tag)) (is_known (known p tag)) (is_tokens (known p tag)) (tokens-four p tag) h

    pub adds-octets : default_octets p tag body ≡ false → (n : OctetCount) → Octets n ≡ part_of T (known p tag) body
        → (n.0 ≡ min 32_769 (length (taken T (known p tag) body))) × Has T p own (length (taken T (known p tag) body)) (framed_size (length (taken T (known p tag) body)))
    unfolding part_of share
    adds-octets d n h = octets-by (is_items (known p tag)) (is_known (known p tag)) (is_tokens (known p tag)) (items-opens p tag) (tokens-four p tag) d n h

    pub holds-items : Inside ≡ part_of T (known p tag) body → is_items (known p tag) ≡ true
    unfolding part_of
    holds-items h = inside-by (is_items (known p tag)) (is_known (known p tag)) (is_tokens (known p tag)) (items-opens p tag) h

    pub adds-inside : default_octets p tag body ≡ false → Inside ≡ part_of T (known p tag) body → Has T p own (room_in T tag u) (framed_size (size_in T tag u))
    unfolding share room_in size_in is_tokens
    adds-inside d h =
        let i = holds-items h in
        let o : opens tag ≡ true = sym (items-opens p tag) ∙ i in
        let f : eqb tag 4 ≡ false = sym (tokens-four p tag) ∙ ap is_tokens (items-known (known p tag) i) in
        rw i (record { room = rw (f, o) (omega arith); size = rw (f, d, o) (omega arith) })

    -- a default: an octet of the store
    pub adds-kept : default_octets p tag body ≡ true → Has T p own 1 0
    unfolding share room_in size_in is_items is_known
    adds-kept d =
        let e = default-enumerated p tag body d in
        let a = default-attribute p tag body d in
        let f = attribute-four tag a in
        let o = attribute-shut tag a in
        let one = taken-one T p tag body d in
        rw (ap is_items e, ap is_known e) (record { room = rw (f, o) (omega arith); size = rw (f, d) (omega arith) })

-- a body that is cut where it is too long for any object gives the same answer
pub cut-same : (n m : ℕ) → n ≡ min 32_769 m → sizes_of n (framed_size n) ≡ sizes_of m (framed_size m)
unfolding framed_size
cut-same n m e = go (leb m 32_769) refl
  where
    go : (b : Bool) → leb m 32_769 ≡ b → sizes_of n (framed_size n) ≡ sizes_of m (framed_size m)
    go true q = let same : n ≡ m = omega (arith, leb-true m 32_769 q) in ap (λ x. sizes_of x (framed_size x)) same
    go false q =
        let l = leb-false m 32_769 q in
        sym (sizes-over n (framed_size n) (omega arith)) ∙ sizes-over m (framed_size m) (omega arith)
