-- The ways through the small functions of measuring.
use Rattle.std.specs.Prelude.{Option, Some, None, unwrap_or}
use mathlib.Core.Path.{◌≡◌, refl, sym, ap, ◌∙◌}
use mathlib.Core.Bool.{Bool, true, false, cond, not, ◌&&◌}
use mathlib.Core.Option.{some}
use mathlib.Core.List.{List}
use Prim.Native.Nat.{ℕ, suc, ◌+◌, ◌≤◌, ◌<◌, min}
use native.Mathlib.Omega.{arith}
use lib.Dec.{leb}
use lib.ListN.{length}
use borrow.Author.Tests.{leb-true, leb-false, le-leb, lt-leb}
use mir.Syntax.{w64}
use mir.Val.{Fits}
use Rattle.octets.specs.declared.counts.Octets.{Octets as OctetCount}
use Rattle.octets.specs.Counts.{as_octets}
use Rattle.octets.specs.Header.{length_field}
use Rattle.text.specs.Tokens.{Entries}
use Rattle.text.specs.Weighing.{Widths, weight}
use Rattle.values.specs.declared.Kind.{Kind}
use Rattle.values.specs.declared.Kind.TheVariants.{HoldsItems, HoldsTokens, HoldsText, HoldsPlain, HoldsTime, HoldsBearer, HoldsNumber}
use Rattle.values.specs.declared.NumberKind.{NumberKind}
use Rattle.values.specs.declared.NumberKind.TheVariants.{Enumerated}
use Rattle.values.specs.Table.{known}
use Rattle.values.specs.Values.{fits, meant, octets_of}
use Rattle.values.specs.Calls.{normal_octets, normal_size, default_octets}
use Rattle.octets.proofs.Answers.{size-four}
use Rattle.octets.proofs.Tests.{chosen, not_chosen, never}
use Rattle.text.proofs.Widths.{weight_is}
use Rattle.values.proofs.Laws.{normal-sized, not-sized}
use Rattle.values.proofs.DefaultValues.{default-enumerated}
use Rattle.tags.specs.declared.Listed.{Listed}
use Rattle.tags.specs.declared.Listed.TheVariants as listed
use Rattle.tags.specs.Listed.{listed_as}
use Rattle.tags.proofs.Listing.{is-nothing, is-inside, is-value}
use Rattle.format.specs.Judge.{is_known, is_tokens}
use Rattle.survey.specs.Normal.{framed_size, value_octets}
use Rattle.survey.proofs.Ways.{value-fits}
use Rattle.survey.specs.declared.measure.Part.TheVariants.{Nothing, Kept, Inside, Octets}
use Rattle.survey.specs.Sizes.{taken, part_of, part_in, sizes_of, Small}
use Rattle.survey.specs.Makers.{store_octets}

-- ---- sizes, of a value and of an item, which the writer measures too

module _ (k : Kind) (body : List ℕ) (r : Option OctetCount) (e : r ≡ normal_size k body) where
  value-octets : (n : OctetCount) → r ≡ Some n → n.0 ≡ length (value_octets k body)
  unfolding normal_octets
  value-octets n q = let z = normal-sized k body r e n q in z.size ∙ ap length (sym (value-fits k body z.fit))

  value_none : r ≡ None → 0 ≡ length (value_octets k body)
  unfolding value_octets
  value_none q = rw (not-sized k body r e q)

  pub value-size : (n : OctetCount) → n ≡ unwrap_or r (as_octets 0) → n.0 ≡ length (value_octets k body)
  value-size n x = go r refl
    where
      go : (v : Option OctetCount) → r ≡ v → n.0 ≡ length (value_octets k body)
      go None q = ap (λ m. m.0) x ∙ ap (λ v. (unwrap_or v (as_octets 0)).0) q ∙ value_none q
      go (Some size) q = ap (λ m. m.0) x ∙ ap (λ v. (unwrap_or v (as_octets 0)).0) q ∙ value-octets size q

module _ (n h : OctetCount) (e : h ≡ as_octets (suc (length (length_field n.0)))) where
  header_is : h.0 ≡ suc (length (length_field n.0))
  header_is = ap (λ m. m.0) e

  pub framed-fits : n.0 < 131072 → Fits w64 (h.0 + n.0)
  framed-fits l = omega (arith, header_is, size-four n.0)

  pub framed_is : h.0 + n.0 ≡ framed_size n.0
  unfolding framed_size
  framed_is = rw header_is

-- ---- stopped_size

module _ (size n : ℕ) (e : n ≡ size) where
  pub size-long : 32_769 < n → 32_769 ≡ min 32_769 size
  size-long h = omega arith

  pub size-short : n ≤ 32_769 → n ≡ min 32_769 size
  size-short h = omega arith

-- ---- octets_of

module _ (T : Entries) (k : Kind) (o : List ℕ) (n : OctetCount) where
  pub octets-text : (widths : List ℕ) → Widths 32 T widths → k ≡ HoldsText → n ≡ as_octets (min 32_769 (weight widths o)) → n.0 ≡ min 32_769 (length (taken T (some k) o))
  unfolding taken fits meant octets_of
  octets-text widths h w x = ap (λ m. m.0) x ∙ rw (w, weight_is T widths h o)

  -- a value that is no text has the same octets under every table
  module _ (x : n.0 ≡ min 32_769 (length (value_octets k o))) where
    pub octets-items : k ≡ HoldsItems → n.0 ≡ min 32_769 (length (taken T (some k) o))
    unfolding taken value_octets meant
    octets-items w = x ∙ rw w

    pub octets-tokens : k ≡ HoldsTokens → n.0 ≡ min 32_769 (length (taken T (some k) o))
    unfolding taken value_octets meant
    octets-tokens w = x ∙ rw w

    pub octets-plain : k ≡ HoldsPlain → n.0 ≡ min 32_769 (length (taken T (some k) o))
    unfolding taken value_octets meant
    octets-plain w = x ∙ rw w

    pub octets-time : k ≡ HoldsTime → n.0 ≡ min 32_769 (length (taken T (some k) o))
    unfolding taken value_octets meant
    octets-time w = x ∙ rw w

    pub octets-bearer : k ≡ HoldsBearer → n.0 ≡ min 32_769 (length (taken T (some k) o))
    unfolding taken value_octets meant
    octets-bearer w = x ∙ rw w

    pub octets-number : (m : NumberKind) → k ≡ HoldsNumber m → n.0 ≡ min 32_769 (length (taken T (some k) o))
    unfolding taken value_octets meant
    octets-number m w = x ∙ rw w

pub ruleset octets-ways = (octets-text, octets-items, octets-tokens, octets-plain, octets-time, octets-bearer, octets-number)

-- ---- part_of

module _ (T : Entries) (p tag : ℕ) (o : List ℕ) (r : Listed) (e : r ≡ listed_as (known p tag)) where
  -- a default is a number
  plain-part : (r ≡ listed.Value (HoldsNumber Enumerated) → ⊥) → part_of T (known p tag) o ≡ part_in T p tag o
  unfolding part_in listed_as
  plain-part n = go (default_octets p tag o) refl
    where
      go : (d : Bool) → default_octets p tag o ≡ d → part_of T (known p tag) o ≡ cond d Kept (part_of T (known p tag) o)
      go true d = absurd (n (e ∙ ap listed_as (default-enumerated p tag o d)))
      go false d = refl

  pub part-nothing : r ≡ listed.Nothing → Nothing ≡ part_in T p tag o
  unfolding part_of
  part-nothing q =
      let w = is-nothing (known p tag) (sym q ∙ e) in
      rw (w.0, w.1) (go (is_tokens (known p tag))) ∙ plain-part (λ v. never (cc))
    where
      go : (b : Bool) → Nothing ≡ cond (b && not b) (Octets (as_octets (min 32_769 (length (taken T (known p tag) o))))) Nothing
      go true = refl
      go false = refl

  pub part-inside : r ≡ listed.Inside → Inside ≡ part_in T p tag o
  unfolding part_of
  part-inside q = rw (is-inside (known p tag) (sym q ∙ e)).0 refl ∙ plain-part (λ v. never (cc))

  module _ (b : Bool) (d : b ≡ default_octets p tag o) where
    pub part-kept : b ≡ true → Kept ≡ part_in T p tag o
    unfolding part_in
    part-kept q = rw (sym d ∙ q)

    pub part-octets : b ≡ false → (k : Kind) → r ≡ listed.Value k → (n : OctetCount) → n.0 ≡ min 32_769 (length (taken T (some k) o)) → Octets n ≡ part_in T p tag o
    unfolding part_in part_of is_known
    part-octets q k v n x =
        let w = is-value (known p tag) k (sym v ∙ e) in
        let y : is_known (known p tag) ≡ true = ap is_known w.is in
        rw (sym d ∙ q, w.shut, y, w.no_table) (ap (λ size. Octets (as_octets size)) (x ∙ ap (λ z. min 32_769 (length (taken T z o))) (sym w.is)))

pub ruleset part-ways = (part-nothing, part-inside, part-kept, part-octets)

-- ---- framed

pub sizes-over : (s n : ℕ) → 32_768 < n → None ≡ sizes_of s n
unfolding sizes_of
sizes-over s n h = rw (lt-leb n 32_768 h)

pub sizes-are : (s n : ℕ) → n ≤ 32_768 → Some (store_octets (as_octets s) (as_octets n)) ≡ sizes_of s n
unfolding sizes_of
sizes-are s n h = rw (le-leb n 32_768 h)

module _ (s n h : OctetCount) (e : h ≡ as_octets (suc (length (length_field n.0)))) where
  pub framed-sum : n.0 ≤ 32_769 → Fits w64 (h.0 + n.0)
  framed-sum l = framed-fits n h e (omega arith)

  pub framed-over : 32_768 < h.0 + n.0 → None ≡ sizes_of s.0 (framed_size n.0)
  framed-over l = sizes-over s.0 (framed_size n.0) (omega (arith, framed_is n h e))

  pub framed-sizes : h.0 + n.0 ≤ 32_768 → Some (store_octets s (as_octets (h.0 + n.0))) ≡ sizes_of s.0 (framed_size n.0)
  framed-sizes l = sizes-are s.0 (h.0 + n.0) l ∙ ap (sizes_of s.0) (framed_is n h e)

-- ---- what an answer says

pub over-says : (s n : ℕ) → None ≡ sizes_of s n → 32_768 < n
unfolding sizes_of
over-says s n e = leb-false n 32_768 (not_chosen (leb n 32_768) e (λ z. never (cc))).0

pub sizes-say : (s n : ℕ) (a b : OctetCount) → Some (store_octets a b) ≡ sizes_of s n → (s ≡ a.0) × (n ≡ b.0)
unfolding sizes_of
sizes-say s n a b e =
    let w = chosen (leb n 32_768) e (λ z. never (cc)) in
    let z : store_octets (as_octets s) (as_octets n) ≡ store_octets a b = cc w.1 in
    (ap (λ m. m.store.0) z, ap (λ m. m.octets.0) z)

pub small-sizes : (m s n : ℕ) → s ≤ n + m → Small m (sizes_of s n)
unfolding sizes_of
small-sizes m s n h = go (leb n 32_768) refl
  where
    go : (b : Bool) → leb n 32_768 ≡ b → Small m (cond b (Some (store_octets (as_octets s) (as_octets n))) None)
    go true q = (h, leb-true n 32_768 q)
    go false q = tt
