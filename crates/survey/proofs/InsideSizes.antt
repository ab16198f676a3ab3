-- The sizes of items that are accepted by themselves, with no token table: what they take of the store, and their normal form record by record.
use Rattle.std.specs.Prelude.{Option}
use mathlib.Core.Path.{◌≡◌, refl, sym, ap, ap₂, ◌∙◌}
use mathlib.Core.Bool.{Bool, true, false, cond, ◌||◌, false≢true}
use mathlib.Core.Option.{none, some}
use mathlib.Core.List.{List, [], ◌∷◌}
use Prim.Native.Nat.{ℕ, suc, ◌+◌, ◌-◌}
use native.Mathlib.Omega.{arith}
use lib.Dec.{eqb}
use lib.ListN.{length, take, drop}
use Rattle.octets.specs.Header.{framed}
use Rattle.octets.specs.Places.{first_body}
use Rattle.text.specs.Tokens.{entries}
use Rattle.values.specs.declared.Kind.{Kind}
use Rattle.values.specs.declared.Kind.TheVariants.{HoldsItems}
use Rattle.values.specs.Table.{known}
use Rattle.values.specs.Calls.{default_octets}
use Rattle.format.specs.Tree.{Items}
use Rattle.format.specs.Tree.Items.{end, item}
use Rattle.format.specs.Judge.{Context, is_items, is_tokens, is_value, within, next, read}
use Rattle.format.specs.Meaning.{opens, maybe}
use Rattle.format.specs.Loaded.{store_in}
use Rattle.format.proofs.Induction.{Cases, Unbroken, in_at, accepted-all}
use Rattle.format.proofs.Rules.{held}
use Rattle.format.proofs.Means.{items-opens, attribute-shut}
use Rattle.format.proofs.Defaults.{default-attribute}
use Rattle.judge.specs.Says.{ctx, depth_of}
use Rattle.judge.specs.Inside.{beginning}
use Rattle.judge.proofs.AllWays.{tokens-four, no-entries}
use Rattle.judge.proofs.Inside.{level-same, inside-read}
use Rattle.reader.specs.Filling.{Accepts}
use Rattle.survey.specs.Normal.{framed_size, value_octets, written_as, item_octets, normal_size}
use Rattle.survey.specs.Measure.{measured_in, MeasuresInside}
use Rattle.survey.specs.Sizes.{taken, room_in, size_in, sizes_of, sizes_in, ItemsMeasured}
use Rattle.survey.proofs.Ways.{framed-length}
use Rattle.survey.proofs.WholeSizes.{room-item}
use Rattle.survey.specs.declared.measure.Sizes.{Sizes}

module _ (p tag at : ℕ) (body : List ℕ) (x y : Items) (later : size_in [] p y ≡ normal_size p y) where
  size-single : (k : Kind) → known p tag ≡ some k → opens tag ≡ false → size_in [] p (item tag at body x y) ≡ normal_size p (item tag at body x y)
  unfolding size_in normal_size item_octets written_as maybe taken value_octets
  size-single k e o = rw (o, e, later) (go (eqb tag 4 || default_octets p tag body))
    where
      go : (b : Bool) → cond b 0 (framed_size (length (value_octets k body))) + normal_size p y
          ≡ length (maybe (λ k. framed tag (value_octets k body)) (cond b none (some k))) + normal_size p y
      go true = refl
      go false = ap (λ n. n + normal_size p y) (sym (framed-length tag (value_octets k body)))

  size-held : known p tag ≡ some HoldsItems → opens tag ≡ true → size_in [] tag x ≡ normal_size tag x → size_in [] p (item tag at body x y) ≡ normal_size p (item tag at body x y)
  unfolding size_in normal_size is_tokens
  size-held e o inside = go (default_octets p tag body) refl
    where
      no_table : eqb tag 4 ≡ false
      no_table = sym (tokens-four p tag) ∙ ap is_tokens e

      go : (d : Bool) → default_octets p tag body ≡ d → size_in [] p (item tag at body x y) ≡ normal_size p (item tag at body x y)
      go true d = absurd (false≢true (sym (attribute-shut tag (default-attribute p tag body d)) ∙ o))
      go false d = rw (no_table, d, o, inside, later)

-- what holds of the items of every accepted part
record Sized (p : ℕ) (t : Items) : Type 0 where
  room : room_in [] p t ≡ length (store_in [] p t)
  size : size_in [] p t ≡ normal_size p t

value-kept : (c : Context) (at tag : ℕ) (rest : List ℕ) → Unbroken c at tag rest → is_value (known c.parent tag) (first_body (tag ∷ rest)) ≡ true
value-kept c at tag rest q = (held c at tag _ _ _ (first_body (tag ∷ rest)) q).rules.kind.value

sized-cases : Cases (λ c at part t. Sized c.parent t)
unfolding room_in store_in size_in normal_size within next is_items
sized-cases = record {
  at_end = λ c at q. record { room = refl; size = refl };
  at_unknown = λ c at tag rest u q e later. later;
  at_element = λ c at tag rest s u q e inside later. record {
    room = room-item [] c.parent tag (in_at at (tag ∷ rest)) (first_body (tag ∷ rest)) s u (value-kept c at tag rest q) inside.room later.room;
    size = size-held c.parent tag (in_at at (tag ∷ rest)) (first_body (tag ∷ rest)) s u later.size e (sym (items-opens c.parent tag) ∙ ap is_items e) inside.size;
  };
  at_leaf = λ c at tag rest u k q e l later. record {
    room = room-item [] c.parent tag (in_at at (tag ∷ rest)) (first_body (tag ∷ rest)) end u (value-kept c at tag rest q) refl later.room;
    size = size-single c.parent tag (in_at at (tag ∷ rest)) (first_body (tag ∷ rest)) end u later.size k e (sym (items-opens c.parent tag) ∙ (ap is_items e ∙ l));
  };
}

-- measure_inside: no item is told from one below depth 16 by how much deeper it is
pub measures-inside : (element depth : ℕ) (o : List ℕ) (left : ℕ) (r : Option Sizes) → left ≡ 16 - depth
    → ItemsMeasured (entries (take (0 - 0) (drop 0 o))) element left o r
    → MeasuresInside element depth o r
unfolding MeasuresInside measured_in beginning depth_of
measures-inside element depth o left r l m t h =
    let q = inside-read element depth o t h in
    let s = accepted-all (λ c at part t. Sized c.parent t) sized-cases (suc (length o)) (beginning element depth) 0 o t q in
    let a : Accepts element (depth_of left) 0 o t = record {
      context = ctx element (depth_of left) 0 [] [] [];
      is_element = refl;
      is_depth = refl;
      reads = ap (λ n. read (ctx element (depth_of n) 0 [] [] []) 0 o) l ∙ (level-same element depth o ∙ q);
    } in
    m.told (depth_of left) 0 t (omega arith) a ∙ (ap (λ T. sizes_in T element t) (no-entries o) ∙ ap₂ sizes_of s.room s.size)
