-- An accepted object without a token table, its words folded: it is accepted too, and means the same. Said by the grammar, constructor by constructor.
use mathlib.Core.Path.{◌≡◌, refl, sym, ap, ap₂, ◌∙◌, subst, fun_ext}
use mathlib.Core.Bool.{Bool, true, false, cond, false≢true}
use mathlib.Core.Option.{none, some, some-ne-none}
use mathlib.Core.List.{List, [], ◌∷◌, ◌++◌, append_assoc, append-nil}
use Prim.Native.Nat.{ℕ, suc, ◌+◌, ◌^◌, ◌≤◌, ◌<◌}
use native.Mathlib.Omega.{arith}
use lib.Dec.{eqb, leb}
use lib.ListN.{length}
use borrow.Author.Tests.{leb-true, eqb-true}
use Rattle.octets.specs.Numbers.{digits}
use Rattle.octets.specs.Header.{length_field, framed}
use Rattle.octets.proofs.Frames.{headed, framed-longer}
use Rattle.text.specs.Tokens.{Entries, covered, shown_length}
use Rattle.text.proofs.Words.{expanded-empty}
use Rattle.text.proofs.Expansion.{text-plain}
use Rattle.values.specs.declared.Kind.{Kind}
use Rattle.values.specs.declared.Kind.TheVariants.{HoldsItems, HoldsTokens, HoldsText, HoldsPlain, HoldsTime, HoldsBearer, HoldsNumber}
use Rattle.values.specs.Table.{known, attribute}
use Rattle.values.specs.Values.{fits, meant}
use Rattle.values.specs.Values.Value.{octets}
use Rattle.values.proofs.Known.{ElementTag, attribute-kind, known-anywhere, known-one, known-six, items-tag, plain-tag, language-tag, not-attribute}
use Rattle.format.specs.Tree.{Items, find}
use Rattle.format.specs.Tree.Items.{end, item}
use Rattle.format.specs.Judge.{is_items, is_text, is_top, limit, not_above}
use Rattle.format.specs.Meaning.{opens, counted, attributes_in, cdata_in, value_in, leaf_octets, means}
use Rattle.format.specs.Meaning.Meaning.{leaf}
use Rattle.format.proofs.Force.{attribute-four, attribute-one, swap-eqb}
use Rattle.format.proofs.Means.{items-opens, opens-items, opens-leaf, value-no-items, means-attribute, means-cdata, means-table, means-element, means-leaf, leaf-text, leaf-plain}
use Rattle.grammar.specs.Grammar.{Begins, TextIn, ValueIn, Part, Child, Inside}
use Rattle.grammar.specs.Grammar.Form.{short, middle}
use Rattle.grammar.specs.Grammar.Part.{attributes, table, language, elements, cdata, nothing}
use Rattle.grammar.specs.Grammar.Inside.{known_attribute, unknown_attribute, attributes_of_top, attributes_of_other, some_table, no_table, some_language, no_language, held_element, plain_element, unknown_element, no_element, some_cdata, no_cdata, filled}
use Rattle.fold.specs.Packed.{tokens, entries_of, table_octets, folded, refolded}
use Rattle.fold.proofs.Tables.{AllWords, table-good, entries-back}
use Rattle.fold.proofs.Bare.{awaits, behind}
use Rattle.fold.proofs.Texts.{folded-expanded, folded-shown, folded-covered, folded-text}

-- ---- one item

-- a framed item begins what stands there
pub framed-begins : (tag : ℕ) (body rest : List ℕ) → length body < 256 ^ 2 → Begins tag body rest (framed tag body ++ rest) (headed (length body))
unfolding framed headed length_field
framed-begins tag body rest h = go (leb n 0xFD) refl
  where
    n : ℕ
    n = length body

    go : (b : Bool) → leb n 0xFD ≡ b → Begins tag body rest (framed tag body ++ rest) (headed n)
    go true e = record { form = short; says = leb-true n 0xFD e; octets = rw e; begins = rw e }
    go false e = record { form = middle; says = h; octets = rw e (ap (λ x. tag ∷ x) (append_assoc (0xFE ∷ digits 2 n) body rest)); begins = rw e }

-- the body of a known item that holds no items: folded where it is text
abbrev pub body_by : Entries → Kind → List ℕ → List ℕ
body_by T k body = cond (is_text (some k)) (folded T body) body

refolded-attribute : (T : Entries) (X : List ℕ) (e tag at : ℕ) (body : List ℕ) (s u : Items) (k : Kind) → attribute tag ≡ true → known e tag ≡ some k
    → refolded T X e (item tag at body s u) ≡ framed tag (body_by T k body) ++ refolded T X e u
unfolding refolded
refolded-attribute T X e tag at body s u k a x =
    let o : opens tag ≡ false = sym (items-opens e tag) ∙ (ap is_items x ∙ value-no-items k (attribute-kind e tag k a x)) in
    rw (a, o, x)

refolded-leaf : (T : Entries) (e tag at : ℕ) (body : List ℕ) (s u : Items) (k : Kind) → attribute tag ≡ false → known 0 tag ≡ some k → is_items (some k) ≡ false
    → refolded T [] e (item tag at body s u) ≡ framed tag (body_by T k body) ++ refolded T [] e u
unfolding refolded
refolded-leaf T e tag at body s u k a x l = rw (a, opens-leaf tag k x l, known-anywhere e tag a ∙ x)

refolded-held : (T : Entries) (e tag at : ℕ) (body : List ℕ) (s u : Items) → attribute tag ≡ false → known 0 tag ≡ some HoldsItems
    → refolded T [] e (item tag at body s u) ≡ framed tag (refolded T [] tag s) ++ refolded T [] e u
unfolding refolded
refolded-held T e tag at body s u a x = rw (a, opens-items tag x)

-- octets that come behind the attributes come first where there is none
refolded-front : (T : Entries) (X : List ℕ) (e tag at : ℕ) (body : List ℕ) (s u : Items) → attribute tag ≡ false
    → refolded T X e (item tag at body s u) ≡ X ++ refolded T [] e (item tag at body s u)
unfolding refolded
refolded-front T X e tag at body s u a = rw a

refolded-end : (T : Entries) (X : List ℕ) (e : ℕ) → refolded T X e end ≡ X ++ refolded T [] e end
unfolding refolded
refolded-end T X e = sym (append-nil X)

-- ---- texts and values

module _ (ws : List (List ℕ)) (good : AllWords ws) where
  text-folds : (body : List ℕ) → TextIn [] body → TextIn (entries_of tokens ws) (folded (entries_of tokens ws) body)
  text-folds body t = record { valid = folded-text ws body (text-plain body t.valid t.covers); covers = folded-covered ws body t.covers }

  value-folds : (k : Kind) (body : List ℕ) → ValueIn [] k body → ValueIn (entries_of tokens ws) k (body_by (entries_of tokens ws) k body)
  unfolding is_text fits
  value-folds k body v = go (is_text (some k)) refl
    where
      T : Entries
      T = entries_of tokens ws

      go : (b : Bool) → is_text (some k) ≡ b → ValueIn T k (cond b (folded T body) body)
      go true q = record { value = fit k q; words = λ e. text-folds body (v.words e) }
        where
          fit : (k : Kind) → is_text (some k) ≡ true → fits k (folded T body) ≡ true
          fit HoldsText q = refl
          fit HoldsItems q = absurd (false≢true q)
          fit HoldsTokens q = absurd (false≢true q)
          fit HoldsPlain q = absurd (false≢true q)
          fit HoldsTime q = absurd (false≢true q)
          fit HoldsBearer q = absurd (false≢true q)
          fit (HoldsNumber n) q = absurd (false≢true q)
      go false q = record { value = v.value; words = λ e. absurd (false≢true (sym q ∙ ap (λ x. is_text (some x)) e)) }

  value-means : (k : Kind) (body : List ℕ) → ValueIn [] k body → meant (entries_of tokens ws) k (body_by (entries_of tokens ws) k body) ≡ meant [] k body
  unfolding meant is_text
  value-means HoldsText body v = ap octets (folded-expanded ws body (v.words refl).covers ∙ sym (expanded-empty body))
  value-means HoldsItems body v = refl
  value-means HoldsTokens body v = refl
  value-means HoldsPlain body v = refl
  value-means HoldsTime body v = refl
  value-means HoldsBearer body v = refl
  value-means (HoldsNumber n) body v = refl

-- ---- items

-- the items of an element and those of the folded one mean the same, each under its own entries
pub record Kept (T : Entries) (e : ℕ) (u u' : Items) : Type 0 where
  pub children : means T u' ≡ means [] u
  pub words : cdata_in T u' ≡ cdata_in [] u
  pub values : (a : ℕ) → attribute a ≡ true → value_in T (find a u') (known e a) ≡ value_in [] (find a u) (known e a)
  pub absent : (a : ℕ) → attribute a ≡ true → find a u ≡ none → find a u' ≡ none

kept-end : (T : Entries) (e : ℕ) → Kept T e end end
unfolding means cdata_in find value_in
kept-end T e = record { children = refl; words = refl; values = λ a p. refl; absent = λ a p q. refl }

-- what is beside an item that is no attribute and not CDATA
kept-beside : (T : Entries) (e tag at at' : ℕ) (body body' : List ℕ) (s s' u u' : Items) → attribute tag ≡ false → eqb tag 1 ≡ false
    → means T (item tag at' body' s' u') ≡ means [] (item tag at body s u) → Kept T e u u' → Kept T e (item tag at body s u) (item tag at' body' s' u')
unfolding cdata_in find
kept-beside T e tag at at' body body' s s' u u' a o m k = record {
  children = m;
  words = rw (swap-eqb tag 1 o) k.words;
  values = λ b p. rw (not-attribute b tag p a) (k.values b p);
  absent = λ b p. rw (not-attribute b tag p a) (k.absent b p);
}

-- the attributes of an element and of the folded one are the same set
attributes-kept : (T : Entries) (tag : ℕ) (s s' : Items) → Kept T tag s s' → attributes_in T tag s' ≡ attributes_in [] tag s
unfolding attributes_in
attributes-kept T tag s s' k = fun_ext (λ a. go a (attribute a) refl)
  where
    go : (a : ℕ) (b : Bool) → attribute a ≡ b → cond b (counted tag a (value_in T (find a s') (known tag a))) none ≡ cond b (counted tag a (value_in [] (find a s) (known tag a))) none
    go a true q = ap (counted tag a) (k.values a q)
    go a false q = refl

pub held-means : (T : Entries) (tag at at' : ℕ) (body body' : List ℕ) (s s' u u' : Items) → known 0 tag ≡ some HoldsItems → Kept T tag s s' → means T u' ≡ means [] u
    → means T (item tag at' body' s' u') ≡ means [] (item tag at body s u)
held-means T tag at at' body body' s s' u u' x k e =
    means-element T tag at' body' s' u' x ∙ (rw (attributes-kept T tag s s' k, k.children, k.words, e) (sym (means-element [] tag at body s u x)))

module _ (ws : List (List ℕ)) (good : AllWords ws) where
  abbrev Es : Entries
  Es = entries_of tokens ws

  abbrev Tab : List ℕ
  Tab = table_octets Es

  -- what comes in an element from a part on, folded, is what may come there; before it comes the table, where it is still to come
  pub record Refolds (p : Part) (e d : ℕ) (u : Items) : Type 0 where
    pub run : (at : ℕ) → (awaits p e ≡ true → find 4 u ≡ none) → length (refolded Es (cond (awaits p e) (framed 4 Tab) []) e u) < 256 ^ 2
        → (u' : Items) × Inside Es p e d at (refolded Es (cond (awaits p e) (framed 4 Tab) []) e u) u' × Kept Es e u u' × (find 4 u' ≡ cond (awaits p e) (some Tab) none)
    pub front : behind p ≡ true → (X : List ℕ) → refolded Es X e u ≡ X ++ refolded Es [] e u

  kept-attribute : (e tag at at' : ℕ) (body : List ℕ) (k : Kind) (u u' : Items) → attribute tag ≡ true → known e tag ≡ some k → ValueIn [] k body → Kept Es e u u'
      → Kept Es e (item tag at body end u) (item tag at' (body_by Es k body) end u')
  unfolding cdata_in find value_in
  kept-attribute e tag at at' body k u u' a x v r = record {
    children = means-attribute Es tag at' (body_by Es k body) end u' a ∙ (r.children ∙ sym (means-attribute [] tag at body end u a));
    words = rw (swap-eqb tag 1 (attribute-one tag a)) r.words;
    values = λ b p. go b p (eqb b tag) refl;
    absent = λ b p. other b p (eqb b tag);
  }
    where
      go : (b : ℕ) → attribute b ≡ true → (z : Bool) → eqb b tag ≡ z
          → value_in Es (cond z (some (body_by Es k body)) (find b u')) (known e b) ≡ value_in [] (cond z (some body) (find b u)) (known e b)
      go b p true q = let y : known e b ≡ some k = ap (known e) (eqb-true b tag q) ∙ x in rw y (ap some (value-means ws good k body v))
      go b p false q = r.values b p

      other : (b : ℕ) → attribute b ≡ true → (z : Bool) → cond z (some body) (find b u) ≡ none → cond z (some (body_by Es k body)) (find b u') ≡ none
      other b p true q = absurd (some-ne-none body q)
      other b p false q = r.absent b p q

  by-known : {e d from tag : ℕ} {body : List ℕ} {k : Kind} {u : Items} → attribute tag ≡ true → known e tag ≡ some k → ValueIn [] k body → find tag u ≡ none
      → Refolds attributes e d u → Refolds attributes e d (item tag from body end u)
  unfolding find
  by-known {e} {d} {from} {tag} {body} {k} {u} a x v n r = record {
    run = λ at w h.
        let X = cond (is_top e) (framed 4 Tab) [] in
        let q = refolded-attribute Es X e tag from body end u k a x in
        let o = body_by Es k body in
        let h' : length (framed tag o ++ refolded Es X e u) < 256 ^ 2 = rw q at h in
        let l = framed-longer tag o (refolded Es X e u) in
        let four = swap-eqb tag 4 (attribute-four tag a) in
        let i = r.run (at + headed (length o) + length o) (λ t. rw four at (w t)) (omega arith) in (
          item tag (at + headed (length o)) o end i.0,
          rw q (known_attribute (framed-begins tag o (refolded Es X e u) (omega arith)) a x (value-folds ws good k body v) (i.2.absent tag a n) i.1),
          kept-attribute e tag from (at + headed (length o)) body k u i.0 a x v i.2,
          rw four i.3,
        );
    front = λ f. absurd (false≢true f);
  }

  by-top : {e d : ℕ} {u : Items} → is_top e ≡ true → Refolds table e d u → Refolds attributes e d u
  by-top {e} {d} {u} t r = record {
    run = λ at w h. rw t (let i = r.run at (λ _. w t) (rw t at h) in (i.0, attributes_of_top t i.1, i.2, i.3));
    front = λ f. absurd (false≢true f);
  }

  by-other : {e d : ℕ} {u : Items} → is_top e ≡ false → Refolds elements e d u → Refolds attributes e d u
  by-other {e} {d} {u} t r = record {
    run = λ at w h. rw t (let i = r.run at (λ f. absurd (false≢true f)) (rw t at h) in (i.0, attributes_of_other t i.1, i.2, i.3));
    front = λ f. absurd (false≢true f);
  }

  by-table : {e d from : ℕ} {body : List ℕ} {u : Items} → Refolds table e d (item 4 from body end u)
  unfolding find
  by-table {e} {d} {from} {body} {u} = record { run = λ at w h. absurd (some-ne-none body (w refl)); front = λ f. absurd (false≢true f) }

  by-no-table : {e d : ℕ} {u : Items} → Refolds language e d u → Refolds table e d u
  unfolding find cdata_in attribute
  by-no-table {e} {d} {u} r = record {
    run = λ at w h.
        let rest = refolded Es [] e u in
        let q = r.front refl (framed 4 Tab) in
        let h' : length (framed 4 Tab ++ rest) < 256 ^ 2 = rw q at h in
        let l = framed-longer 4 Tab rest in
        let i = r.run (at + headed (length Tab) + length Tab) (λ f. absurd (false≢true f)) (omega arith) in (
          item 4 (at + headed (length Tab)) Tab end i.0,
          rw q (some_table (framed-begins 4 Tab rest (omega arith)) (table-good ws good) (entries-back Es) i.1),
          record {
            children = means-table Es (at + headed (length Tab)) Tab end i.0 ∙ i.2.children;
            words = i.2.words;
            values = λ a p. rw (not-attribute a 4 p refl) (i.2.values a p);
            absent = λ a p. rw (not-attribute a 4 p refl) (i.2.absent a p);
          },
          refl,
        );
    front = λ f. absurd (false≢true f);
  }

  -- the same behind the table
  abbrev Runs : Part → ℕ → ℕ → Items → Type 0
  Runs p e d u = (at : ℕ) → length (refolded Es [] e u) < 256 ^ 2 → (u' : Items) × Inside Es p e d at (refolded Es [] e u) u' × Kept Es e u u' × (find 4 u' ≡ none)

  -- an element that holds no items, before what comes after it
  leaf-runs : (p p' : Part) (e d from tag : ℕ) (body : List ℕ) (k : Kind) (u : Items) → ElementTag tag → known 0 tag ≡ some k → is_items (some k) ≡ false
      → leaf_octets Es tag (body_by Es k body) ≡ leaf_octets [] tag body
      → ((at start : ℕ) (rest : List ℕ) (u' : Items) → Begins tag (body_by Es k body) rest (framed tag (body_by Es k body) ++ rest) start → Inside Es p' e d (at + start + length (body_by Es k body)) rest u'
      → Inside Es p e d at (framed tag (body_by Es k body) ++ rest) (item tag (at + start) (body_by Es k body) end u'))
      → Runs p' e d u → Runs p e d (item tag from body end u)
  unfolding find
  leaf-runs p p' e d from tag body k u t x l m step r at h =
      let o = body_by Es k body in
      let rest = refolded Es [] e u in
      let q = refolded-leaf Es e tag from body end u k t.not_attribute x l in
      let h' : length (framed tag o ++ rest) < 256 ^ 2 = rw q at h in
      let s = framed-longer tag o rest in
      let i = r (at + headed (length o) + length o) (omega arith) in (
        item tag (at + headed (length o)) o end i.0,
        rw q (step at (headed (length o)) rest i.0 (framed-begins tag o rest (omega arith)) i.1),
        kept-beside Es e tag from (at + headed (length o)) body o end end u i.0 t.not_attribute t.not_cdata
            (means-leaf Es tag (at + headed (length o)) o end i.0 k t x l ∙ (ap₂ (leaf tag) m i.2.children ∙ sym (means-leaf [] tag from body end u k t x l))) i.2,
        rw (swap-eqb tag 4 t.not_table) i.3,
      )

  held-runs : (e d from tag : ℕ) (body : List ℕ) (s u : Items) → Child tag → d ≤ 16 → known 0 tag ≡ some HoldsItems → Runs attributes tag (suc d) s → Runs elements e d u
      → Runs elements e d (item tag from body s u)
  unfolding find attributes_in
  held-runs e d from tag body s u c l x inside later at h =
      let t = items-tag tag x in
      let o = refolded Es [] tag s in
      let rest = refolded Es [] e u in
      let q = refolded-held Es e tag from body s u t.not_attribute x in
      let h' : length (framed tag o ++ rest) < 256 ^ 2 = rw q at h in
      let g = framed-longer tag o rest in
      let j = inside (at + headed (length o)) (omega arith) in
      let i = later (at + headed (length o) + length o) (omega arith) in (
        item tag (at + headed (length o)) o j.0 i.0,
        rw q (held_element (framed-begins tag o rest (omega arith)) c l x j.1 i.1),
        kept-beside Es e tag from (at + headed (length o)) body o s j.0 u i.0 t.not_attribute t.not_cdata (held-means Es tag from (at + headed (length o)) body o s j.0 u i.0 x j.2 i.2.children) i.2,
        rw (swap-eqb tag 4 t.not_table) i.3,
      )

  -- below the top there is no table
  inner-runs : (e d : ℕ) (s : Items) → is_top e ≡ false → Refolds attributes e d s → Runs attributes e d s
  inner-runs e d s t r at =
      subst (λ b. length (refolded Es (cond b (framed 4 Tab) []) e s) < 256 ^ 2
      → (u' : Items) × Inside Es attributes e d at (refolded Es (cond b (framed 4 Tab) []) e s) u' × Kept Es e s u' × (find 4 u' ≡ cond b (some Tab) none))
      t (r.run at (λ f. absurd (false≢true (sym t ∙ f))))

  by-language : {e d from : ℕ} {body : List ℕ} {u : Items} → TextIn [] body → Refolds elements e d u → Refolds language e d (item 6 from body end u)
  unfolding is_items is_text attribute
  by-language {e} {d} {from} {body} {u} x r = record {
    run = λ at w. leaf-runs language elements e d from 6 body HoldsText u language-tag known-six refl
        (leaf-text Es 6 (folded Es body) known-six ∙ (folded-expanded ws body x.covers ∙ (sym (expanded-empty body) ∙ sym (leaf-text [] 6 body known-six))))
        (λ at start rest u' b i. some_language b (text-folds ws good body x) i) (λ at. r.run at (λ f. absurd (false≢true f))) at;
    front = λ f X. refolded-front Es X e 6 from body end u refl;
  }

  by-no-language : {e d : ℕ} {u : Items} → Refolds elements e d u → Refolds language e d u
  by-no-language r = record { run = λ at w h. let i = r.run at w h in (i.0, no_language i.1, i.2, i.3); front = λ f. r.front refl }

  by-held : {e d from tag : ℕ} {body : List ℕ} {s u : Items} → Child tag → d ≤ 16 → known 0 tag ≡ some HoldsItems → Refolds attributes tag (suc d) s → Refolds elements e d u
      → Refolds elements e d (item tag from body s u)
  by-held {e} {d} {from} {tag} {body} {s} {u} c l x inside later = record {
    run = λ at w. held-runs e d from tag body s u c l x (inner-runs tag (suc d) s c.not_top inside) (λ at. later.run at (λ f. absurd (false≢true f))) at;
    front = λ f X. refolded-front Es X e tag from body s u c.element;
  }

  by-plain : {e d from tag : ℕ} {body : List ℕ} {u : Items} → Child tag → d ≤ 16 → known 0 tag ≡ some HoldsPlain → Refolds elements e d u → Refolds elements e d (item tag from body end u)
  unfolding is_items is_text
  by-plain {e} {d} {from} {tag} {body} {u} c l x r = record {
    run = λ at w. leaf-runs elements elements e d from tag body HoldsPlain u (plain-tag tag x) x refl (leaf-plain Es tag body x ∙ sym (leaf-plain [] tag body x))
        (λ at start rest u' b i. plain_element b c l x i) (λ at. r.run at (λ f. absurd (false≢true f))) at;
    front = λ f X. refolded-front Es X e tag from body end u c.element;
  }

  by-no-element : {e d : ℕ} {u : Items} → Refolds cdata e d u → Refolds elements e d u
  by-no-element r = record { run = λ at w h. let i = r.run at w h in (i.0, no_element i.1, i.2, i.3); front = λ f. r.front refl }

  kept-cdata : (e at at' : ℕ) (body : List ℕ) (u u' : Items) → covered [] body ≡ true → Kept Es e u u' → Kept Es e (item 1 at body end u) (item 1 at' (folded Es body) end u')
  unfolding cdata_in find attribute
  kept-cdata e at at' body u u' c k = record {
    children = means-cdata Es at' (folded Es body) end u' ∙ (k.children ∙ sym (means-cdata [] at body end u));
    words = ap some (folded-expanded ws body c ∙ sym (expanded-empty body));
    values = λ b p. rw (not-attribute b 1 p refl) (k.values b p);
    absent = λ b p. rw (not-attribute b 1 p refl) (k.absent b p);
  }

  by-cdata : {e d from : ℕ} {body : List ℕ} {u : Items} → TextIn [] body → not_above (shown_length [] body) (limit e) ≡ true → Refolds nothing e d u → Refolds cdata e d (item 1 from body end u)
  unfolding is_items is_text attribute find
  by-cdata {e} {d} {from} {body} {u} x n r = record {
    run = λ at w h.
        let o = folded Es body in
        let rest = refolded Es [] e u in
        let q = refolded-leaf Es e 1 from body end u HoldsText refl known-one refl in
        let h' : length (framed 1 o ++ rest) < 256 ^ 2 = rw q at h in
        let s = framed-longer 1 o rest in
        let i = r.run (at + headed (length o) + length o) (λ f. absurd (false≢true f)) (omega arith) in (
          item 1 (at + headed (length o)) o end i.0,
          rw q (some_cdata (framed-begins 1 o rest (omega arith)) (text-folds ws good body x) (ap (λ m. not_above m (limit e)) (folded-shown ws body x.covers) ∙ n) i.1),
          kept-cdata e from (at + headed (length o)) body u i.0 x.covers i.2,
          i.3,
        );
    front = λ f X. refolded-front Es X e 1 from body end u refl;
  }

  by-no-cdata : {e d : ℕ} {u : Items} → Refolds nothing e d u → Refolds cdata e d u
  by-no-cdata r = record { run = λ at w h. let i = r.run at w h in (i.0, no_cdata i.1, i.2, i.3); front = λ f. r.front refl }

  by_end : {e d : ℕ} {u : Items} → u ≡ end → Refolds nothing e d u
  by_end {e} {d} {u} y = subst (λ t. Refolds nothing e d t) (sym y) empty
    where
      empty : Refolds nothing e d end
      empty = record { run = λ at w h. (end, unfold refolded in filled refl refl, kept-end Es e, unfold find in refl); front = λ f X. refolded-end Es X e }

  -- what the grammar takes, folded, it takes too
  pub inside-refolds : {p : Part} {e d at : ℕ} {o : List ℕ} {u : Items} → Inside [] p e d at o u → Refolds p e d u
  inside-refolds (known_attribute b a k v f i) = by-known a k v f (inside-refolds i)
  inside-refolds (unknown_attribute b a k i) = inside-refolds i
  inside-refolds (attributes_of_top t i) = by-top t (inside-refolds i)
  inside-refolds (attributes_of_other t i) = by-other t (inside-refolds i)
  inside-refolds (some_table b x y i) = by-table
  inside-refolds (no_table x i) = by-no-table (inside-refolds i)
  inside-refolds (some_language b x i) = by-language x (inside-refolds i)
  inside-refolds (no_language i) = by-no-language (inside-refolds i)
  inside-refolds (held_element b c l k i j) = by-held c l k (inside-refolds i) (inside-refolds j)
  inside-refolds (plain_element b c l k i) = by-plain c l k (inside-refolds i)
  inside-refolds (unknown_element b c l k i) = inside-refolds i
  inside-refolds (no_element i) = by-no-element (inside-refolds i)
  inside-refolds (some_cdata b x l i) = by-cdata x l (inside-refolds i)
  inside-refolds (no_cdata i) = by-no-cdata (inside-refolds i)
  inside-refolds (filled x y) = by_end y
