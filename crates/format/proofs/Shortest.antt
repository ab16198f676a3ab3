-- No accepted object without a token table is shorter than its normal form (change request 2026-13): each item of it takes no more octets there than it has.
use mathlib.Core.Path.{◌≡◌, sym, ap, ◌∙◌}
use mathlib.Core.Bool.{Bool, true, false, cond, ◌||◌}
use mathlib.Core.Option.{some}
use mathlib.Core.List.{List, [], ◌∷◌}
use Prim.Native.Nat.{ℕ, suc, ◌+◌, ◌≤◌}
use native.Mathlib.Omega.{arith}
use lib.Dec.{eqb}
use lib.ListN.{length, drop, length-drop}
use lib.Seq.{length-take-le}
use Rattle.octets.specs.Numbers.{Octets}
use Rattle.octets.specs.Header.{header_size, body_size, length_field}
use Rattle.octets.specs.Places.{first_body, after_first}
use Rattle.octets.proofs.Answers.{header-least}
use Rattle.octets.proofs.Places.{body-octets, later-octets}
use Rattle.values.specs.declared.Kind.{Kind}
use Rattle.values.specs.declared.Kind.TheVariants.{HoldsItems}
use Rattle.values.specs.Table.{known}
use Rattle.values.specs.Values.{fits}
use Rattle.values.specs.Calls.{normal_octets, default_octets}
use Rattle.values.proofs.Laws.{normal-shorter}
use Rattle.format.specs.Tree.{Items}
use Rattle.format.specs.Tree.Items.{end, item}
use Rattle.format.specs.Judge.{is_items, is_value, Context, within, next, outermost, judge}
use Rattle.format.specs.Judge.Judged.{accepted}
use Rattle.format.specs.Meaning.{opens, table_of, normal_of}
use Rattle.format.specs.Loaded.{stored}
use Rattle.format.proofs.Rules.{held, fitting}
use Rattle.format.proofs.Induction.{Unbroken, in_at, Cases, judged-all, shorter}
use Rattle.format.proofs.Means.{items-opens}
use Rattle.format.proofs.Takes.{takes, in_form, normal-takes}

-- what the items of a part take in the normal form, without a token table, is no more than the part
abbrev Least : Context → ℕ → List ℕ → Items → Type 0
Least c at part t = Octets part → takes in_form [] c.parent t ≤ length part

module _ (c : Context) (at tag : ℕ) (rest : List ℕ) (q : Unbroken c at tag rest) (os : Octets (tag ∷ rest)) where
  abbrev part : List ℕ
  part = tag ∷ rest

  -- an item takes no more than it has where its body does
  item-least : (n : ℕ) → n ≤ length (first_body part) → suc (length (length_field n)) + n + length (after_first part) ≤ length part
  item-least n l =
      let f = (fitting c at tag (header_size part) (body_size part) (length part) (first_body part) q).body in
      let d = length-drop (header_size part) part in
      let b = length-take-le (body_size part) (drop (header_size part) part) (omega arith) in
      let e = length-drop (body_size part) (drop (header_size part) part) in
      omega (arith, header-least part os n (omega arith))

  -- the token table and a default take nothing
  or_nothing : (b : Bool) (n m : ℕ) → n + m ≤ length part → cond b 0 n + m ≤ length part
  or_nothing true n m l = omega arith
  or_nothing false n m l = l

  least-element : (s u : Items) → known c.parent tag ≡ some HoldsItems → takes in_form [] tag s ≤ length (first_body part) → takes in_form [] c.parent u ≤ length (after_first part)
      → takes in_form [] c.parent (item tag (in_at at part) (first_body part) s u) ≤ length part
  unfolding takes is_items
  least-element s u e inside later =
      let o : opens tag ≡ true = sym (items-opens c.parent tag) ∙ ap is_items e in
      rw o (or_nothing (eqb tag 4 || default_octets c.parent tag (first_body part)) _ _ (omega (arith, item-least (takes in_form [] tag s) inside)))

  least-leaf : (u : Items) (k : Kind) → known c.parent tag ≡ some k → is_items (some k) ≡ false → takes in_form [] c.parent u ≤ length (after_first part)
      → takes in_form [] c.parent (item tag (in_at at part) (first_body part) end u) ≤ length part
  unfolding takes stored normal_octets is_value
  least-leaf u k e l later =
      let o : opens tag ≡ false = sym (items-opens c.parent tag) ∙ (ap is_items e ∙ l) in
      let fit : fits k (first_body part) ≡ true = rw e at (held c at tag (header_size part) (body_size part) (length part) (first_body part) q).rules.kind.value in
      rw (o, e) (or_nothing (eqb tag 4 || default_octets c.parent tag (first_body part)) _ _ (omega (arith, item-least (length (normal_octets k (first_body part))) (normal-shorter k (first_body part) fit))))

least-cases : Cases Least
unfolding takes within next
least-cases = record {
  at_end = λ c at q os. omega arith;
  at_unknown = λ c at tag rest u q e later os. omega (arith, shorter c at tag rest q, later (later-octets (tag ∷ rest) os));
  at_element = λ c at tag rest s u q e inside later os. least-element c at tag rest q os s u e (inside (body-octets (tag ∷ rest) os)) (later (later-octets (tag ∷ rest) os));
  at_leaf = λ c at tag rest u k q e l later os. least-leaf c at tag rest q os u k e l (later (later-octets (tag ∷ rest) os));
}

-- so the normal form of an accepted object without a token table, or with one that has no entries, is no longer than the object
pub plain-least : (o : List ℕ) (t : Items) → Octets o → judge o ≡ accepted t → table_of t ≡ [] → length (normal_of t) ≤ length o
unfolding outermost
plain-least o t os h e = omega (arith, normal-takes o t os h, ap (λ T. takes in_form T 0 t) e, judged-all Least least-cases o t h os)
