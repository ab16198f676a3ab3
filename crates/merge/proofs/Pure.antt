-- What is written of a result are octets, as the two objects are.
use mathlib.Core.Path.{◌≡◌, refl, sym, ◌∙◌, subst}
use mathlib.Core.Bool.{Bool, true, false, cond, ◌||◌}
use mathlib.Core.Option.{Option, none, some, some-injective, none-ne-some}
use mathlib.Core.List.{List, ◌++◌}
use Prim.Native.Nat.{ℕ, zero, suc, ◌+◌, ◌^◌, ◌<◌}
use native.Mathlib.Omega.{arith}
use lib.Dec.{eqb}
use lib.ListN.{length, length-append}
use Rattle.octets.specs.Numbers.{Octets}
use Rattle.octets.specs.Header.{framed}
use Rattle.octets.proofs.Answers.{framed-length, framed-octets}
use Rattle.octets.proofs.Frames.{framed-longer}
use Rattle.octets.proofs.Numbers.{octets-none, octets-append}
use Rattle.text.specs.Tokens.{Entries, expanded}
use Rattle.text.proofs.Expansion.{Sound}
use Rattle.values.specs.declared.Kind.{Kind}
use Rattle.values.specs.declared.Kind.TheVariants.{HoldsText}
use Rattle.values.specs.Table.{known, attribute}
use Rattle.values.specs.Values.{Value, meant, octets_of}
use Rattle.values.proofs.Known.{known-anywhere}
use Rattle.format.specs.Tree.{Items, find}
use Rattle.format.specs.Tree.Items.{end, item}
use Rattle.format.specs.Judge.{is_text, judge}
use Rattle.format.specs.Judge.Judged.{accepted}
use Rattle.format.specs.Meaning.{Meaning, opens, is_child, value_in, counted, attributes_in, cdata_in, leaf_octets, means, table_of, meaning_of, maybe, rising, encode}
use Rattle.format.specs.Meaning.Meaning.{nothing, element, leaf}
use Rattle.format.specs.WellFormed.{ValueOk, CdataOk}
use Rattle.format.specs.Writer.{Spot, below, past, at_top}
use Rattle.format.proofs.Means.{text-known}
use Rattle.format.proofs.Told.{Told, ItemTold, accepted-told, accepted-sound}
use Rattle.format.proofs.Fine.{fine, told_text}
use Rattle.format.proofs.Defaults.{counted-some}
use Rattle.format.proofs.OctetLists.{text-octets, proper-octets}
use Rattle.format.proofs.NormalOctets.{child-no-attribute}
use Rattle.merge.specs.declared.Services.{Services}
use Rattle.merge.specs.Keys.{merges, partners, has_partner, has_equal}
use Rattle.merge.specs.Merged.{either, united, then, has_language, languages, new_language, added, paired, merged}

-- the values, texts and plain octets of elements are octets, and so are the tags
abbrev Valued : (ℕ → Option Value) → Type 0
Valued f = (a : ℕ) (v : Value) → f a ≡ some v → (a < 256) × Octets (octets_of v)

abbrev pub Pure : Meaning → Type 0
Pure nothing = Unit {0}
Pure (element tag f m c after) = (tag < 256) × Valued f × Pure m × ((o : List ℕ) → c ≡ some o → Octets o) × Pure after
Pure (leaf tag o after) = (tag < 256) × Octets o × Pure after

-- ---- of an accepted object

found-octets : (T : Entries) (a : ℕ) (o : List ℕ) (t : Items) (s : Spot) → Told T s t → find a t ≡ some o → Octets o
unfolding find
found-octets T a o end s h e = absurd (none-ne-some o e)
found-octets T a o (item tag at body x u) s h e = go (eqb a tag) (found-octets T a o u (past s tag) h.2) e
  where
    go : (b : Bool) → (find a u ≡ some o → Octets o) → cond b (some body) (find a u) ≡ some o → Octets o
    go true later e = subst Octets (some-injective body o e) h.0.octets
    go false later e = later e

module _ (T : Entries) (ok : Sound T) where
  -- a value of plain octets is the body that it was found in; of any other kind it is octets as such
  valued : (t : Items) (s : Spot) → Told T s t → Valued (attributes_in T s.parent t)
  unfolding attributes_in counted value_in meant octets_of
  valued t s h a v e = go (attribute a) refl (find a t) refl (known s.parent a) refl ((fine T ok t s h).attributes a) e
    where
      go : (b : Bool) → attribute a ≡ b → (o : Option (List ℕ)) → find a t ≡ o → (k : Option Kind) → known s.parent a ≡ k → (attribute a ≡ true → ValueOk s.parent a (value_in T o k))
          → cond b (counted s.parent a (value_in T o k)) none ≡ some v → (a < 256) × Octets (octets_of v)
      go false q o r k z g e = absurd (none-ne-some v e)
      go true q none r k z g e = absurd (none-ne-some v e)
      go true q (some o) r none z g e = absurd (none-ne-some v e)
      go true q (some o) r (some k) z g e =
          let w = g q in
          let same : k ≡ w.2.0 = some-injective k w.2.0 (sym z ∙ w.2.1) in (
            w.1,
            subst (λ x. Octets (octets_of x)) (some-injective (meant T k o) v (counted-some s.parent a (some (meant T k o)) v e))
                (proper-octets w.2.2 (λ p. subst (λ x. Octets (octets_of (meant T x o))) (sym (same ∙ p)) (found-octets T a o t s h r))),
          )

  leaf-octets : (s : Spot) (tag : ℕ) (body : List ℕ) (x : Items) → ItemTold T s tag body x → attribute tag ≡ false → Octets (leaf_octets T tag body)
  unfolding leaf_octets
  leaf-octets s tag body x i a = go (is_text (known 0 tag)) refl
    where
      go : (b : Bool) → is_text (known 0 tag) ≡ b → Octets (cond b (expanded T body) body)
      go false q = i.octets
      go true q =
          let k : known s.parent tag ≡ some HoldsText = known-anywhere s.parent tag a ∙ text-known (known 0 tag) q in
          text-octets false (expanded T body) (told_text T s.parent tag body ok (rw k at i.kind))

  texts : (p : ℕ) (c : Option (List ℕ)) → CdataOk p c → (o : List ℕ) → c ≡ some o → Octets o
  texts p none k o e = absurd (none-ne-some o e)
  texts p (some x) k o e = subst Octets (some-injective x o e) (text-octets false x k.0)

  told-pure : (t : Items) (s : Spot) → Told T s t → Pure (means T t)
  unfolding means below past
  told-pure end s h = tt
  told-pure (item tag at body x u) s h = go (is_child tag) refl (opens tag) (told-pure x (below s tag) h.1) (told-pure u (past s tag) h.2)
    where
      go : (b : Bool) → is_child tag ≡ b → (o : Bool) → Pure (means T x) → Pure (means T u)
          → Pure (cond b (cond o (element tag (attributes_in T tag x) (means T x) (cdata_in T x) (means T u)) (leaf tag (leaf_octets T tag body) (means T u))) (means T u))
      go false q o inside later = later
      go true q true inside later =
          (h.0.octet, valued x (below s tag) h.1, inside, texts tag (cdata_in T x) (fine T ok x (below s tag) h.1).cdata, later)
      go true q false inside later = (h.0.octet, leaf-octets s tag body x h.0 (child-no-attribute tag q), later)

pub accepted-pure : (o : List ℕ) (t : Items) → Octets o → judge o ≡ accepted t → Pure (meaning_of t)
accepted-pure o t os h = told-pure (table_of t) (accepted-sound o t os h) t at_top (accepted-told o t os h)

-- ---- written

rising-octets : (n a : ℕ) (f : ℕ → Option Value) → Valued f → length (rising n a f) < 256 ^ 2 → Octets (rising n a f)
unfolding rising maybe
rising-octets zero a f h l = octets-none
rising-octets (suc n) a f h l = go (f a) refl l (rising-octets n (suc a) f h)
  where
    rest : List ℕ
    rest = rising n (suc a) f

    go : (o : Option Value) → f a ≡ o → length (maybe (λ v. framed a (octets_of v)) o ++ rest) < 256 ^ 2 → (length rest < 256 ^ 2 → Octets rest) → Octets (maybe (λ v. framed a (octets_of v)) o ++ rest)
    go none e l ih = ih l
    go (some v) e l ih =
        let w = h a v e in
        let longer = framed-longer a (octets_of v) rest in
        octets-append (framed a (octets_of v)) rest (framed-octets a (octets_of v) w.0 (omega arith) w.1) (ih (omega arith))

cdata-octets : (c : Option (List ℕ)) → ((o : List ℕ) → c ≡ some o → Octets o) → length (maybe (framed 1) c) < 256 ^ 2 → Octets (maybe (framed 1) c)
unfolding maybe
cdata-octets none h l = octets-none
cdata-octets (some o) h l = framed-octets 1 o (omega arith) (omega (arith, framed-length 1 o)) (h o refl)

pub pure-octets : (m : Meaning) → Pure m → length (encode m) < 256 ^ 2 → Octets (encode m)
unfolding encode
pure-octets nothing p l = octets-none
pure-octets (element tag f m c after) p l =
    let set = rising 128 0x80 f in
    let cdata = maybe (framed 1) c in
    let kids = encode m in
    let longer = framed-longer tag (set ++ (kids ++ cdata)) (encode after) in
    let long : length (set ++ (kids ++ cdata)) ≡ length set + (length kids + length cdata) = simp length-append in
    octets-append (framed tag (set ++ (kids ++ cdata))) (encode after)
    (framed-octets tag (set ++ (kids ++ cdata)) p.0 (omega arith)
    (octets-append set (kids ++ cdata) (rising-octets 128 0x80 f p.1 (omega arith))
    (octets-append kids cdata (pure-octets m p.2 (omega arith)) (cdata-octets c p.3 (omega arith)))))
    (pure-octets after p.4 (omega arith))
pure-octets (leaf tag o after) p l =
    let longer = framed-longer tag o (encode after) in
    octets-append (framed tag o) (encode after) (framed-octets tag o p.0 (omega arith) p.1) (pure-octets after p.2 (omega arith))

-- ---- merged

then-pure : (m n : Meaning) → Pure m → Pure n → Pure (then m n)
unfolding then
then-pure nothing n p q = q
then-pure (element tag f m c after) n p q = (p.0, p.1, p.2, p.3, then-pure after n p.4 q)
then-pure (leaf tag o after) n p q = (p.0, p.1, then-pure after n p.2 q)

languages-pure : (n : Meaning) → Pure n → Pure (languages n)
unfolding languages
languages-pure nothing p = tt
languages-pure (element tag f m c after) p = languages-pure after p.4
languages-pure (leaf tag o after) p = go (eqb tag 6) (languages-pure after p.2)
  where
    go : (b : Bool) → Pure (languages after) → Pure (cond b (leaf tag o (languages after)) (languages after))
    go true h = (p.0, p.1, h)
    go false h = h

new-pure : (m n : Meaning) → Pure n → Pure (new_language m n)
unfolding new_language
new-pure m n p = go (has_language m)
  where
    go : (b : Bool) → Pure (cond b nothing (languages n))
    go true = tt
    go false = languages-pure n p

added-pure : (by : Services) (m n : Meaning) → Pure n → Pure (added by m n)
unfolding added
added-pure by m nothing p = tt
added-pure by m (element tag f n c after) p =
    go (cond (merges tag) (has_partner by tag f n m) (has_equal (element tag f n c nothing) m)) (added-pure by m after p.4)
  where
    go : (b : Bool) → Pure (added by m after) → Pure (cond b (added by m after) (element tag f n c (added by m after)))
    go true h = h
    go false h = (p.0, p.1, p.2, p.3, h)
added-pure by m (leaf tag o after) p = go (eqb tag 6 || has_equal (leaf tag o nothing) m) (added-pure by m after p.2)
  where
    go : (b : Bool) → Pure (added by m after) → Pure (cond b (added by m after) (leaf tag o (added by m after)))
    go true h = h
    go false h = (p.0, p.1, h)

united-valued : (f g : ℕ → Option Value) → Valued f → Valued g → Valued (united f g)
unfolding united either
united-valued f g p q a v e = go (f a) refl e
  where
    go : (o : Option Value) → f a ≡ o → either o (g a) ≡ some v → (a < 256) × Octets (octets_of v)
    go none z e = q a v e
    go (some w) z e = p a v (z ∙ e)

either-texts : (c d : Option (List ℕ)) → ((o : List ℕ) → c ≡ some o → Octets o) → ((o : List ℕ) → d ≡ some o → Octets o) → (o : List ℕ) → either c d ≡ some o → Octets o
unfolding either
either-texts none d p q o e = q o e
either-texts (some x) d p q o e = p o e

paired-pure : (by : Services) (tag : ℕ) (f : ℕ → Option Value) (m : Meaning) (c : Option (List ℕ)) (r : Meaning) (inside : Meaning → Meaning) (a : Meaning) → Pure (element tag f m c r) → Pure a
    → ((n : Meaning) → Pure n → Pure (inside n)) → Pure (paired by tag f m c r inside a)
unfolding paired
paired-pure by tag f m c r inside nothing p q k = p
paired-pure by tag f m c r inside (element tag' g n d more) p q k = go (partners by tag tag' f g m n) (paired-pure by tag f m c r inside more p q.4 k)
  where
    go : (b : Bool) → Pure (paired by tag f m c r inside more) → Pure (cond b (element tag (united f g) (inside n) (either c d) r) (paired by tag f m c r inside more))
    go true h = (p.0, united-valued f g p.1 q.1, k n q.2, either-texts c d p.3 q.3, p.4)
    go false h = h
paired-pure by tag f m c r inside (leaf tag' o more) p q k = paired-pure by tag f m c r inside more p q.2 k

pub merged-pure : (by : Services) (b a : Meaning) → Pure b → Pure a → Pure (merged by b a)
unfolding merged
merged-pure by nothing a p q = tt
merged-pure by (element tag f m c after) a p q =
    paired-pure by tag f m c (merged by after a) (λ n. then (new_language m n) (then (merged by m n) (added by m n))) a
    (p.0, p.1, p.2, p.3, merged-pure by after a p.4 q) q
    (λ n k. then-pure (new_language m n) (then (merged by m n) (added by m n)) (new-pure m n k) (then-pure (merged by m n) (added by m n) (merged-pure by m n p.2 k) (added-pure by m n k)))
merged-pure by (leaf tag o after) a p q = (p.0, p.1, merged-pure by after a p.2 q)
