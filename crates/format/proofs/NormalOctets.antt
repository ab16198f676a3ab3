-- The normal form of an accepted object is a list of octets, as the object is.
use mathlib.Core.Path.{◌≡◌, refl, sym, ◌∙◌, subst}
use mathlib.Core.Bool.{Bool, true, false, cond, not, ◌||◌, false≢true}
use mathlib.Core.Option.{Option, none, some, some-injective, none-ne-some}
use mathlib.Core.List.{List, ◌++◌}
use Prim.Native.Nat.{ℕ, zero, suc, ◌+◌, ◌^◌, ◌<◌, ◌≤◌}
use native.Mathlib.Omega.{arith}
use lib.Dec.{eqb}
use lib.ListN.{length, length-append}
use Rattle.octets.specs.Numbers.{Octets}
use Rattle.octets.specs.Header.{framed}
use Rattle.octets.proofs.Answers.{framed-length, framed-octets}
use Rattle.octets.proofs.Frames.{framed-longer}
use Rattle.octets.proofs.Numbers.{octets-none, octets-append}
use Rattle.text.specs.Tokens.{Entries, expanded}
use Rattle.text.proofs.Expansion.{Sound}
use Rattle.values.specs.declared.Kind.{Kind}
use Rattle.values.specs.declared.Kind.TheVariants.{HoldsText}
use Rattle.values.specs.Table.{known, attribute}
use Rattle.values.specs.Values.{Value, meant, octets_of}
use Rattle.values.proofs.Known.{known-anywhere}
use Rattle.format.specs.Tree.{Items, find}
use Rattle.format.specs.Tree.Items.{end, item}
use Rattle.format.specs.Judge.{is_text, judge}
use Rattle.format.specs.Judge.Judged.{accepted}
use Rattle.format.specs.Meaning.{Meaning, opens, is_child, value_in, counted, attributes_in, cdata_in, leaf_octets, means, table_of, maybe, rising, encode, normal_of}
use Rattle.format.specs.Meaning.Meaning.{element, leaf}
use Rattle.format.specs.WellFormed.{ValueOk, CdataOk}
use Rattle.format.specs.Writer.{Spot, below, past, at_top}
use Rattle.format.proofs.Means.{text-known}
use Rattle.format.proofs.Told.{Told, ItemTold, accepted-told, accepted-sound}
use Rattle.format.proofs.Fine.{fine, told_text}
use Rattle.format.proofs.Defaults.{counted-some}
use Rattle.format.proofs.OctetLists.{text-octets, proper-octets}

-- the body of an item that is told
found-octets : (T : Entries) (a : ℕ) (o : List ℕ) (t : Items) (s : Spot) → Told T s t → find a t ≡ some o → Octets o
unfolding find
found-octets T a o end s h e = absurd (none-ne-some o e)
found-octets T a o (item tag at body x u) s h e = go (eqb a tag) (λ q. found-octets T a o u (past s tag) h.2 q) e
  where
    go : (b : Bool) → (find a u ≡ some o → Octets o) → cond b (some body) (find a u) ≡ some o → Octets o
    go true later e = subst Octets (some-injective body o e) h.0.octets
    go false later e = later e

module _ (T : Entries) (ok : Sound T) where
  -- an attribute's value
  value-octets : (t : Items) (s : Spot) → Told T s t → (a : ℕ) (v : Value) → attributes_in T s.parent t a ≡ some v → (a < 256) × Octets (octets_of v)
  unfolding attributes_in counted value_in meant octets_of
  value-octets t s h a v e = go (attribute a) refl (find a t) refl (known s.parent a) refl ((fine T ok t s h).attributes a) e
    where
      go : (b : Bool) → attribute a ≡ b → (o : Option (List ℕ)) → find a t ≡ o → (k : Option Kind) → known s.parent a ≡ k → (attribute a ≡ true → ValueOk s.parent a (value_in T o k))
          → cond b (counted s.parent a (value_in T o k)) none ≡ some v → (a < 256) × Octets (octets_of v)
      go false q o r k z g e = absurd (none-ne-some v e)
      go true q none r k z g e = absurd (none-ne-some v e)
      go true q (some o) r none z g e = absurd (none-ne-some v e)
      go true q (some o) r (some k) z g e =
          let w = g q in
          let same : k ≡ w.2.0 = some-injective k w.2.0 (sym z ∙ w.2.1) in (
            w.1,
            subst (λ x. Octets (octets_of x)) (some-injective (meant T k o) v (counted-some s.parent a (some (meant T k o)) v e))
                (proper-octets w.2.2 (λ p. subst (λ x. Octets (octets_of (meant T x o))) (sym (same ∙ p)) (found-octets T a o t s h r))),
          )

cdata-octets : (p : ℕ) (c : Option (List ℕ)) → CdataOk p c → length (maybe (framed 1) c) < 256 ^ 2 → Octets (maybe (framed 1) c)
unfolding maybe
cdata-octets p none c l = octets-none
cdata-octets p (some o) c l = framed-octets 1 o (omega arith) (omega (arith, framed-length 1 o)) (text-octets false o c.0)

rising-octets : (n a : ℕ) (f : ℕ → Option Value) → ((b : ℕ) (v : Value) → f b ≡ some v → (b < 256) × Octets (octets_of v)) → length (rising n a f) < 256 ^ 2 → Octets (rising n a f)
unfolding rising maybe
rising-octets zero a f h l = octets-none
rising-octets (suc n) a f h l = go (f a) refl l (λ q. rising-octets n (suc a) f h q)
  where
    rest : List ℕ
    rest = rising n (suc a) f

    go : (o : Option Value) → f a ≡ o → length (maybe (λ v. framed a (octets_of v)) o ++ rest) < 256 ^ 2 → (length rest < 256 ^ 2 → Octets rest) → Octets (maybe (λ v. framed a (octets_of v)) o ++ rest)
    go none e l ih = ih l
    go (some v) e l ih =
        let w = h a v e in
        let longer = framed-longer a (octets_of v) rest in
        octets-append (framed a (octets_of v)) rest (framed-octets a (octets_of v) w.0 (omega arith) w.1) (ih (omega arith))

pub child-no-attribute : (tag : ℕ) → is_child tag ≡ true → attribute tag ≡ false
unfolding is_child
child-no-attribute tag h = go (attribute tag) (eqb tag 1) (eqb tag 4) h
  where
    go : (a b c : Bool) → not (a || b || c) ≡ true → a ≡ false
    go false b c q = refl
    go true b c q = absurd (false≢true q)

module _ (T : Entries) (ok : Sound T) where
  -- what items mean, written
  abbrev Pure : Items → Type 0
  Pure t = length (encode (means T t)) < 256 ^ 2 → Octets (encode (means T t))

  -- an element that holds items
  element-octets : (s : Spot) (tag : ℕ) (x u : Items) → tag < 256 → Told T (below s tag) x → Pure x → Pure u
      → length (encode (element tag (attributes_in T tag x) (means T x) (cdata_in T x) (means T u))) < 256 ^ 2
      → Octets (encode (element tag (attributes_in T tag x) (means T x) (cdata_in T x) (means T u)))
  unfolding encode below
  element-octets s tag x u o h inside later l =
      let set = rising 128 0x80 (attributes_in T tag x) in
      let cdata = maybe (framed 1) (cdata_in T x) in
      let kids = encode (means T x) in
      let longer = framed-longer tag (set ++ (kids ++ cdata)) (encode (means T u)) in
      let long : length (set ++ (kids ++ cdata)) ≡ length set + (length kids + length cdata) = simp length-append in
      octets-append (framed tag (set ++ (kids ++ cdata))) (encode (means T u))
      (framed-octets tag (set ++ (kids ++ cdata)) o (omega arith)
      (octets-append set (kids ++ cdata) (rising-octets 128 0x80 (attributes_in T tag x) (value-octets T ok x (below s tag) h) (omega arith))
      (octets-append kids cdata (inside (omega arith)) (cdata-octets tag (cdata_in T x) (fine T ok x (below s tag) h).cdata (omega arith)))))
      (later (omega arith))

  -- any other
  leaf-octets : (s : Spot) (tag : ℕ) (body : List ℕ) (x : Items) → ItemTold T s tag body x → attribute tag ≡ false → Octets (leaf_octets T tag body)
  unfolding leaf_octets
  leaf-octets s tag body x i a = go (is_text (known 0 tag)) refl
    where
      go : (b : Bool) → is_text (known 0 tag) ≡ b → Octets (cond b (expanded T body) body)
      go false q = i.octets
      go true q =
          let k : known s.parent tag ≡ some HoldsText = known-anywhere s.parent tag a ∙ text-known (known 0 tag) q in
          text-octets false (expanded T body) (told_text T s.parent tag body ok (rw k at i.kind))

  pure-item : (s : Spot) (tag at : ℕ) (body : List ℕ) (x u : Items) → ItemTold T s tag body x → Told T (below s tag) x → Pure x → Pure u → Pure (item tag at body x u)
  unfolding means encode is_child
  pure-item s tag at body x u i h inside later l = go (is_child tag) (opens tag) refl l
    where
      held : Meaning
      held = element tag (attributes_in T tag x) (means T x) (cdata_in T x) (means T u)

      single : Meaning
      single = leaf tag (leaf_octets T tag body) (means T u)

      go : (b o : Bool) → is_child tag ≡ b → length (encode (cond b (cond o held single) (means T u))) < 256 ^ 2 → Octets (encode (cond b (cond o held single) (means T u)))
      go false o q l = later l
      go true true q l = element-octets s tag x u i.octet h inside later l
      go true false q l =
          let own = leaf_octets T tag body in
          let longer = framed-longer tag own (encode (means T u)) in
          octets-append (framed tag own) (encode (means T u)) (framed-octets tag own i.octet (omega arith) (leaf-octets s tag body x i (child-no-attribute tag q))) (later (omega arith))

  pure : (t : Items) (s : Spot) → Told T s t → Pure t
  unfolding means encode
  pure end s h l = octets-none
  pure (item tag at body x u) s h l = pure-item s tag at body x u h.0 h.1 (pure x (below s tag) h.1) (pure u (past s tag) h.2) l

-- the bound is an object's: a length above 16 bits has no form in which it is written
pub normal-octets : (o : List ℕ) (t : Items) → Octets o → judge o ≡ accepted t → length (normal_of t) ≤ 32_768 → Octets (normal_of t)
normal-octets o t os h l = pure (table_of t) (accepted-sound o t os h) t at_top (accepted-told o t os h) (omega arith)
