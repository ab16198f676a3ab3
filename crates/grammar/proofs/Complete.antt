-- Octets that are accepted are taken by the grammar, with their tree.
use mathlib.Core.Path.{◌≡◌, refl, sym, ap, ◌∙◌, subst}
use mathlib.Core.Bool.{Bool, true, false, cond, not, ◌&&◌, ◌||◌, false≢true, or-true}
use mathlib.Core.Option.{none, some, none-ne-some}
use mathlib.Core.List.{List, [], ◌∷◌, cons≢nil}
use Prim.Native.Nat.{ℕ, zero, suc, ◌+◌, ◌≤◌}
use native.Mathlib.Omega.{arith}
use native.Mathlib.Nat.{zero-add}
use lib.Dec.{eqb, leb, ltb}
use lib.ListN.{length, drop, length-drop, drop_of_length-le}
use borrow.Author.Tests.{leb-true, eqb-true, eq-eqb}
use Rattle.octets.specs.Numbers.{among, Octets}
use Rattle.octets.specs.Header.{header_size, body_size}
use Rattle.octets.specs.Places.{first_body, after_first}
use Rattle.octets.proofs.Tests.{never}
use Rattle.octets.proofs.Places.{body-octets, later-octets}
use Rattle.text.specs.Tokens.{Entries, entries, covered, shown_length}
use Rattle.text.proofs.Expansion.{Sound, sound_empty}
use Rattle.values.specs.declared.Kind.{Kind}
use Rattle.values.specs.declared.Kind.TheVariants.{HoldsItems, HoldsTokens, HoldsText, HoldsPlain}
use Rattle.values.specs.Table.{known, attribute}
use Rattle.values.proofs.Known.{known-anywhere, known-cdata, known-four, known-six, unknown-four, items-no-attribute, not-zero, Stands, stands, plain-tag}
use Rattle.values.proofs.Known.Stands.{stands-items, stands_plain, stands-cdata, stands-table, stands-language}
use Rattle.format.specs.Tree.{Items, find}
use Rattle.format.specs.Tree.Items.{end, item}
use Rattle.format.specs.Judge.{is_known, is_items, is_tokens, is_text, is_value, Context, is_top, allowed, latest, stage_after, limit, not_above, shown, of_top, late, late_after, within, next, outermost, judge}
use Rattle.format.specs.Judge.Judged.{accepted}
use Rattle.format.proofs.Rules.{KindHeld, Held, Fitting, held, fitting, accepted-size}
use Rattle.format.proofs.Induction.{Cases, judged-all, Unbroken, Nexts, in_at}
use Rattle.format.proofs.Force.{settled, settled-after, settled-next, settled-within, not-four, inner-tag, Valid, valid-within, valid-next, quiet-now, quiet-before, quiet-attribute, covered-attribute, forced, in_force, force-next, force-skip, force-after}
use Rattle.format.proofs.Place.{attribute-other}
use Rattle.grammar.specs.Grammar.{Begins, TextIn, Part, Child, Inside, Accepts}
use Rattle.grammar.specs.Grammar.Part.{attributes, language, elements, nothing}
use Rattle.grammar.specs.Grammar.Inside.{known_attribute, unknown_attribute, attributes_of_top, attributes_of_other, some_table, no_table, some_language, no_language, held_element, plain_element, unknown_element, no_element, some_cdata, no_cdata, filled}
use Rattle.grammar.proofs.Headers.{begins, body-length}
use Rattle.grammar.proofs.Tags.{ChildTag, child-tag, Once, top-items}

-- the table and the language stand only in a top
only-top : (p tag : ℕ) → is_top tag ≡ false → eqb tag 4 || eqb tag 6 ≡ true → allowed p tag ≡ true → is_top p ≡ true
unfolding allowed
only-top p tag t s h = go (eqb p 0) (is_top p) (eqb tag 0) (rw (t, s) at h)
  where
    go : (z q n : Bool) → cond z false (not (n || false) && (q || false)) ≡ true → q ≡ true
    go z true n g = refl
    go true false n g = absurd (false≢true g)
    go false false true g = absurd (false≢true g)
    go false false false g = absurd (false≢true g)

-- attributes and the table come first
order-zero : (c : Context) (tag : ℕ) → leb c.stage (latest tag) ≡ true → attribute tag || eqb tag 4 ≡ true → c.stage ≡ 0
unfolding latest
order-zero c tag o a = let g : leb c.stage 0 ≡ true = rw a at o in omega (arith, leb-true c.stage 0 g)

-- where no table can come, none comes
abbrev Settled : Context → Items → Type 0
Settled c t = settled c ≡ true → find 4 t ≡ none

settled-item : (c : Context) (at from tag : ℕ) (body : List ℕ) (s u : Items) → Held c tag body → Settled (next c at tag body) u → Settled c (item tag from body s u)
unfolding find
settled-item c at from tag body s u k n w = rw (not-four c tag body k w) (n (settled-next c at tag body k w))

settled-skip : (c : Context) (at tag : ℕ) (body : List ℕ) (u : Items) → Held c tag body → Settled (next c at tag body) u → Settled c u
settled-skip c at tag body u k n w = n (settled-next c at tag body k w)

-- rule 8, after an unknown item and after a known one
once-skip : (c : Context) (at tag : ℕ) (body : List ℕ) (u : Items) → Once (next c at tag body) u → Once c u
unfolding next among
once-skip c at tag body u n a x y z = n a x y (rw z (or-true (eqb a tag)))

once_item : (c : Context) (at from tag : ℕ) (body : List ℕ) (s u : Items) → Held c tag body → Once (next c at tag body) u → Once c (item tag from body s u)
unfolding find
once_item c at from tag body s u k n a x y z = go (eqb a tag) refl
  where
    go : (b : Bool) → eqb a tag ≡ b → cond b (some body) (find a u) ≡ none
    go false e = once-skip c at tag body u n a x y z
    go true e =
        let h : not (attribute a && is_known (known c.parent a) && among a c.seen) ≡ true = subst (λ m. not (attribute m && is_known (known c.parent m) && among m c.seen) ≡ true) (sym (eqb-true a tag e)) k.rules.once in
        let g : false ≡ true = rw (x, y, z) at h in
        absurd (false≢true g)

-- the entries in force are those that there are where no table comes
force-settled : (T : Entries) (c : Context) (t : Items) → find 4 t ≡ none → in_force c t ≡ T → c.table ≡ T
force-settled T c t n e = ap (forced c.table) (sym n) ∙ e

-- the part of the grammar at a stage
abbrev part_at : ℕ → Part
part_at zero = attributes
part_at (suc zero) = language
part_at (suc (suc zero)) = elements
part_at (suc (suc (suc n))) = nothing

-- what may come from a later part on may come from an earlier one: the parts between are left out, and where the table is, there are no entries
lift-elements : (T : Entries) (s e d at : ℕ) (o : List ℕ) (u : Items) → s ≤ 2 → (not (is_top e) || ltb 0 s ≡ false → T ≡ []) → Inside T elements e d at o u → Inside T (part_at s) e d at o u
lift-elements T zero e d at o u l h i = go (is_top e) refl
  where
    go : (t : Bool) → is_top e ≡ t → Inside T attributes e d at o u
    go true t = attributes_of_top t (no_table (h (rw t)) (no_language i))
    go false t = attributes_of_other t i
lift-elements T (suc zero) e d at o u l h i = no_language i
lift-elements T (suc (suc zero)) e d at o u l h i = i
lift-elements T (suc (suc (suc n))) e d at o u l h i = absurd (omega arith)

lift-language : (T : Entries) (s e d at : ℕ) (o : List ℕ) (u : Items) → s ≤ 1 → is_top e ≡ true → (not (is_top e) || ltb 0 s ≡ false → T ≡ []) → Inside T language e d at o u → Inside T (part_at s) e d at o u
lift-language T zero e d at o u l t h i = attributes_of_top t (no_table (h (rw t)) i)
lift-language T (suc zero) e d at o u l t h i = i
lift-language T (suc (suc n)) e d at o u l t h i = absurd (omega arith)

lift-nothing : (T : Entries) (s e d at : ℕ) (o : List ℕ) (u : Items) → (not (is_top e) || ltb 0 s ≡ false → T ≡ []) → Inside T nothing e d at o u → Inside T (part_at s) e d at o u
lift-nothing T zero e d at o u h i = lift-elements T 0 e d at o u (omega arith) h (no_element (no_cdata i))
lift-nothing T (suc zero) e d at o u h i = lift-elements T 1 e d at o u (omega arith) h (no_element (no_cdata i))
lift-nothing T (suc (suc zero)) e d at o u h i = lift-elements T 2 e d at o u (omega arith) h (no_element (no_cdata i))
lift-nothing T (suc (suc (suc n))) e d at o u h i = i

-- what is shown of an accepted part: the grammar takes it, and each text that waits is covered
record Derived (T : Entries) (c : Context) (at : ℕ) (o : List ℕ) (t : Items) : Type 0 where
  inside : Inside T (part_at c.stage) c.parent c.depth at o t
  covers : late T c.waiting ≡ none

derived-end : (T : Entries) (c : Context) (at : ℕ) → late [] c.waiting ≡ none → Valid c → c.table ≡ T → Derived T c at [] end
derived-end T c at q r e = record {
  inside = lift-nothing T c.stage c.parent c.depth at [] end (λ w. sym e ∙ r.opened w) (filled refl refl);
  covers = quiet-now T c r e q;
}

-- what the rules of an item say of its value
text_in : (T : Entries) (c : Context) (tag : ℕ) (body : List ℕ) → KindHeld c tag body (some HoldsText) → covered T body ≡ true → TextIn T body
unfolding is_text
text_in T c tag body k h = record { valid = k.valid; covers = h }

covered-later : (T : Entries) (c : Context) (tag : ℕ) (body : List ℕ) → KindHeld c tag body (some HoldsText) → of_top c tag ≡ false → c.table ≡ T → covered T body ≡ true
unfolding is_text
covered-later T c tag body k t e = subst (λ X. covered X body ≡ true) e (rw t at k.covers)

-- a part at the stage of its attributes
at-attributes : (T : Entries) (c : Context) (at : ℕ) (o : List ℕ) (u : Items) → c.stage ≡ 0 → Inside T attributes c.parent c.depth at o u
    → Inside T (part_at c.stage) c.parent c.depth at o u
at-attributes T c at o u z i = subst (λ s. Inside T (part_at s) c.parent c.depth at o u) (sym z) i

-- an item, by its kind, before what is derived already
module _ (T : Entries) (c : Context) (at start tag : ℕ) (body later o : List ℕ) (u : Items) (b : Begins tag body later o start) (k : Held c tag body) (r : Valid c)
    (n : Derived T (next c at tag body) (at + start + length body) later u) where
  after-attribute : attribute tag ≡ true → Inside T attributes c.parent c.depth (at + start + length body) later u
  unfolding next stage_after
  after-attribute a = rw a at n.inside

  derived-unknown-attribute : attribute tag ≡ true → known c.parent tag ≡ none → Derived T c at o u
  derived-unknown-attribute a e = record {
    inside = at-attributes T c at o u (order-zero c tag k.rules.order (rw a)) (unknown_attribute b a e (after-attribute a));
    covers = quiet-attribute T c at tag body r a n.covers;
  }

  derived-known-attribute : (kd : Kind) → attribute tag ≡ true → known c.parent tag ≡ some kd → (settled c ≡ true → c.table ≡ T) → find tag u ≡ none
      → Derived T c at o (item tag (at + start) body end u)
  unfolding is_value is_text
  derived-known-attribute kd a e same f =
      let h : KindHeld c tag body (some kd) = rw e at k.rules.kind in
      let words : kd ≡ HoldsText → TextIn T body = λ q.
      let g : KindHeld c tag body (some HoldsText) = rw q at h in
      text_in T c tag body g (covered-attribute T c at tag body a (e ∙ ap some q) g.covers same n.covers)
      in
      record {
        inside = at-attributes T c at o (item tag (at + start) body end u) (order-zero c tag k.rules.order (rw a)) (known_attribute b a e (record { value = h.value; words = words }) f (after-attribute a));
        covers = quiet-attribute T c at tag body r a n.covers;
      }

  -- an element that may stand in any other
  is-child : attribute tag ≡ false → Child tag
  is-child a = let i = inner-tag c.parent tag r.inner k.allow in record { element = a; not_null = i.1; not_top = i.0 }

  not-deep : attribute tag ≡ false → ChildTag tag → c.depth ≤ 16
  not-deep a t = leb-true c.depth 16 (rw (a, t.not_cdata) at k.rules.deep)

  order-child : attribute tag ≡ false → ChildTag tag → c.stage ≤ 2
  unfolding latest
  order-child a t = leb-true c.stage 2 (rw (a, t.not_table, t.not_language) at k.rules.order)

  after-child : attribute tag ≡ false → ChildTag tag → Inside T elements c.parent c.depth (at + start + length body) later u
  unfolding next stage_after
  after-child a t = rw (a, t.not_table, t.not_cdata) at n.inside

  from-child : (v : Items) → attribute tag ≡ false → ChildTag tag → c.table ≡ T → Inside T elements c.parent c.depth at o v → Derived T c at o v
  from-child v a t e i = record {
    inside = lift-elements T c.stage c.parent c.depth at o v (order-child a t) (λ w. sym e ∙ r.opened w) i;
    covers = quiet-before T c tag body k r a t.not_table e;
  }

  derived-unknown-element : attribute tag ≡ false → known 0 tag ≡ none → c.table ≡ T → Derived T c at o u
  unfolding is_text is_tokens
  derived-unknown-element a e same =
      let t = child-tag tag (ap is_text e) (ap is_tokens e) in
      from-child u a t same (unknown_element b (is-child a) (not-deep a t) e (after-child a t))

  derived-plain : attribute tag ≡ false → known 0 tag ≡ some HoldsPlain → c.table ≡ T → Derived T c at o (item tag (at + start) body end u)
  unfolding is_text is_tokens
  derived-plain a e same =
      let t = child-tag tag (ap is_text e) (ap is_tokens e) in
      from-child (item tag (at + start) body end u) a t same (plain_element b (is-child a) (not-deep a t) e (after-child a t))

  derived-held : (s : Items) → attribute tag ≡ false → known 0 tag ≡ some HoldsItems → c.table ≡ T → Derived T (within c tag) (at + start) body s
      → Derived T c at o (item tag (at + start) body s u)
  unfolding is_text is_tokens within
  derived-held s a e same i =
      let t = child-tag tag (ap is_text e) (ap is_tokens e) in
      from-child (item tag (at + start) body s u) a t same (held_element b (is-child a) (not-deep a t) e i.inside (after-child a t))

module _ (T : Entries) (c : Context) (at start : ℕ) (body later o : List ℕ) (u : Items) where
  derived-table : Begins 4 body later o start → Held c 4 body → Valid c → Derived T (next c at 4 body) (at + start + length body) later u → entries body ≡ T
      → Derived T c at o (item 4 (at + start) body end u)
  unfolding next stage_after attribute is_top late_after is_tokens
  derived-table b k r n e =
      let four : known c.parent 4 ≡ some HoldsTokens = known-anywhere c.parent 4 refl ∙ known-four in
      let h : KindHeld c 4 body (some HoldsTokens) = rw four at k.rules.kind in
      record {
        inside = at-attributes T c at o (item 4 (at + start) body end u) (order-zero c 4 k.rules.order refl)
            (attributes_of_top (only-top c.parent 4 refl refl k.allow) (some_table b h.table e n.inside));
        covers = subst (λ X. late X c.waiting ≡ none) e k.later;
      }

  derived-language : Begins 6 body later o start → Held c 6 body → Valid c → Derived T (next c at 6 body) (at + start + length body) later u → c.table ≡ T
      → Derived T c at o (item 6 (at + start) body end u)
  unfolding next stage_after attribute is_top latest of_top
  derived-language b k r n e =
      let six : known c.parent 6 ≡ some HoldsText = known-anywhere c.parent 6 refl ∙ known-six in
      let h : KindHeld c 6 body (some HoldsText) = rw six at k.rules.kind in
      record {
        inside = lift-language T c.stage c.parent c.depth at o (item 6 (at + start) body end u) (leb-true c.stage 1 k.rules.order) (only-top c.parent 6 refl refl k.allow)
            (λ w. sym e ∙ r.opened w) (some_language b (text_in T c 6 body h (covered-later T c 6 body h refl e)) n.inside);
        covers = quiet-before T c 6 body k r refl refl e;
      }

  derived-cdata : Begins 1 body later o start → Held c 1 body → Valid c → Derived T (next c at 1 body) (at + start + length body) later u → c.table ≡ T
      → Derived T c at o (item 1 (at + start) body end u)
  unfolding next stage_after attribute latest of_top is_text shown
  derived-cdata b k r n e =
      let h : KindHeld c 1 body (some HoldsText) = rw (known-cdata c.parent) at k.rules.kind in
      let s : not_above (shown_length T body) (limit c.parent) ≡ true = subst (λ X. not_above (shown_length X body) (limit c.parent) ≡ true) e h.short in
      record {
        inside = lift-elements T c.stage c.parent c.depth at o (item 1 (at + start) body end u) (leb-true c.stage 2 k.rules.order) (λ w. sym e ∙ r.opened w)
            (no_element (some_cdata b (text_in T c 1 body h (covered-later T c 1 body h refl e)) s n.inside));
        covers = quiet-before T c 1 body k r refl refl e;
      }

-- an item that is no attribute and holds no items, by its kind
derived-leaf : (T : Entries) (c : Context) (at start tag : ℕ) (body later o : List ℕ) (u : Items) {kd : Kind} → Begins tag body later o start → Held c tag body → Valid c
    → Derived T (next c at tag body) (at + start + length body) later u → Stands tag kd → is_items (some kd) ≡ false
    → (eqb tag 4 ≡ false → c.table ≡ T) → (eqb tag 4 ≡ true → entries body ≡ T) → Derived T c at o (item tag (at + start) body end u)
unfolding is_items is_text is_tokens
derived-leaf T c at start tag body later o u b k r n (stands-items e) l same new = never (cc)
derived-leaf T c at start tag body later o u b k r n (stands_plain e) l same new =
    derived-plain T c at start tag body later o u b k r n (plain-tag tag e).not_attribute e (same (plain-tag tag e).not_table)
derived-leaf T c at start tag body later o u b k r n stands-table l same new = derived-table T c at start body later o u b k r n (new refl)
derived-leaf T c at start tag body later o u b k r n stands-cdata l same new = derived-cdata T c at start body later o u b k r n (same refl)
derived-leaf T c at start tag body later o u b k r n stands-language l same new = derived-language T c at start body later o u b k r n (same refl)

-- what is shown of every accepted part
record Good (c : Context) (at : ℕ) (part : List ℕ) (t : Items) : Type 0 where
  once : Once c t
  settled : Settled c t
  derived : (T : Entries) → in_force c t ≡ T → Octets part → Valid c → Derived T c at part t

good-end : (c : Context) (at : ℕ) → late [] c.waiting ≡ none → Good c at [] end
unfolding find
good-end c at q = record { once = λ a x y z. refl; settled = λ w. refl; derived = λ T e os r. derived-end T c at q r e }

-- the first item of a part
module _ (c : Context) (at tag : ℕ) (rest : List ℕ) (q : Unbroken c at tag rest) where
  item-held : Held c tag (first_body (tag ∷ rest))
  item-held = held c at tag (header_size (tag ∷ rest)) (body_size (tag ∷ rest)) (suc (length rest)) (first_body (tag ∷ rest)) q

  item-fits : Fitting c (header_size (tag ∷ rest)) (body_size (tag ∷ rest)) (suc (length rest))
  item-fits = fitting c at tag (header_size (tag ∷ rest)) (body_size (tag ∷ rest)) (suc (length rest)) (first_body (tag ∷ rest)) q

  item-begins : Octets (tag ∷ rest) → Begins tag (first_body (tag ∷ rest)) (after_first (tag ∷ rest)) (tag ∷ rest) (header_size (tag ∷ rest))
  item-begins os = begins tag rest os item-fits.header item-fits.body

  -- what is derived of the items after it
  next-derived : (u : Items) → Good (Nexts c at tag rest) (in_at at (tag ∷ rest) + body_size (tag ∷ rest)) (after_first (tag ∷ rest)) u → (T : Entries) → in_force (Nexts c at tag rest) u ≡ T
      → Octets (tag ∷ rest) → Valid c → Derived T (Nexts c at tag rest) (at + header_size (tag ∷ rest) + length (first_body (tag ∷ rest))) (after_first (tag ∷ rest)) u
  next-derived u g T e os r =
      subst (λ m. Derived T (Nexts c at tag rest) (at + header_size (tag ∷ rest) + m) (after_first (tag ∷ rest)) u) (sym (body-length (tag ∷ rest) item-fits.body))
      (g.derived T e (later-octets (tag ∷ rest) os) (valid-next c at tag (first_body (tag ∷ rest)) item-held r))

  good-unknown : (u : Items) → known c.parent tag ≡ none → Good (Nexts c at tag rest) (in_at at (tag ∷ rest) + body_size (tag ∷ rest)) (after_first (tag ∷ rest)) u → Good c at (tag ∷ rest) u
  good-unknown u e g = record {
    once = once-skip c at tag (first_body (tag ∷ rest)) u g.once;
    settled = settled-skip c at tag (first_body (tag ∷ rest)) u item-held g.settled;
    derived = λ T x os r. go T x os r (attribute tag) refl;
  }
    where
      f : eqb tag 4 ≡ false
      f = unknown-four c.parent tag e

      go : (T : Entries) → in_force c u ≡ T → Octets (tag ∷ rest) → Valid c → (b : Bool) → attribute tag ≡ b → Derived T c at (tag ∷ rest) u
      go T x os r true a =
          let y = force-skip c at tag (first_body (tag ∷ rest)) u f ∙ x in
          derived-unknown-attribute T c at (header_size (tag ∷ rest)) tag (first_body (tag ∷ rest)) (after_first (tag ∷ rest)) (tag ∷ rest) u (item-begins os) item-held r (next-derived u g T y os r) a e
      go T x os r false a =
          let y = force-skip c at tag (first_body (tag ∷ rest)) u f ∙ x in
          derived-unknown-element T c at (header_size (tag ∷ rest)) tag (first_body (tag ∷ rest)) (after_first (tag ∷ rest)) (tag ∷ rest) u (item-begins os) item-held r (next-derived u g T y os r)
          a (sym (known-anywhere c.parent tag a) ∙ e) (force-after c at tag (first_body (tag ∷ rest)) u g.settled a f ∙ y)

  within-derived : (T : Entries) (s : Items) → c.table ≡ T → Octets (tag ∷ rest) → Valid c → Good (within c tag) (in_at at (tag ∷ rest)) (first_body (tag ∷ rest)) s
      → Derived T (within c tag) (in_at at (tag ∷ rest)) (first_body (tag ∷ rest)) s
  unfolding within
  within-derived T s same os r g =
      let n : find 4 s ≡ none = g.settled (settled-within c tag (first_body (tag ∷ rest)) item-held r) in
      g.derived T (ap (forced c.table) n ∙ same) (body-octets (tag ∷ rest) os) (valid-within c tag (first_body (tag ∷ rest)) item-held r)

  good-element : (s u : Items) → known c.parent tag ≡ some HoldsItems → Good (within c tag) (in_at at (tag ∷ rest)) (first_body (tag ∷ rest)) s
      → Good (Nexts c at tag rest) (in_at at (tag ∷ rest) + body_size (tag ∷ rest)) (after_first (tag ∷ rest)) u → Good c at (tag ∷ rest) (item tag (in_at at (tag ∷ rest)) (first_body (tag ∷ rest)) s u)
  unfolding is_text is_tokens
  good-element s u e i g =
      let body = first_body (tag ∷ rest) in
      let a = items-no-attribute c.parent tag e in
      let z : known 0 tag ≡ some HoldsItems = sym (known-anywhere c.parent tag a) ∙ e in
      let f = (child-tag tag (ap is_text z) (ap is_tokens z)).not_table in
      record {
        once = once_item c at (in_at at (tag ∷ rest)) tag body s u item-held g.once;
        settled = settled-item c at (in_at at (tag ∷ rest)) tag body s u item-held g.settled;
        derived = λ T x os r.
            let y = force-next c at tag (in_at at (tag ∷ rest)) body s u f ∙ x in
            let same = force-after c at tag body u g.settled a f ∙ y in
            derived-held T c at (header_size (tag ∷ rest)) tag body (after_first (tag ∷ rest)) (tag ∷ rest) u (item-begins os) item-held r (next-derived u g T y os r)
            s a z same (within-derived T s same os r i);
      }

-- the entries of a table are those in force
table-entries : (T : Entries) (c : Context) (from tag : ℕ) (body : List ℕ) (s u : Items) → eqb tag 4 ≡ true → in_force c (item tag from body s u) ≡ T → entries body ≡ T
unfolding find
table-entries T c from tag body s u f e =
    let g : eqb 4 tag ≡ true = eq-eqb 4 tag (sym (eqb-true tag 4 f)) in
    ap (λ b. forced c.table (cond b (some body) (find 4 u))) (sym g) ∙ e

table-next : (T : Entries) (c : Context) (at tag : ℕ) (body : List ℕ) (u : Items) → attribute tag ≡ false → eqb tag 4 ≡ true → Settled (next c at tag body) u → entries body ≡ T
    → in_force (next c at tag body) u ≡ T
unfolding next
table-next T c at tag body u a f n e =
    ap (forced (cond (eqb tag 4) (entries body) c.table)) (n (settled-after c at tag body a)) ∙ (ap (λ b. cond b (entries body) c.table) f ∙ e)

-- an attribute that stands here does not come again
once-next : (c : Context) (at tag : ℕ) (body : List ℕ) (u : Items) (kd : Kind) → attribute tag ≡ true → known c.parent tag ≡ some kd → Once (next c at tag body) u → find tag u ≡ none
unfolding next among is_known
once-next c at tag body u kd a e n = n tag a (ap is_known e) (rw (eq-eqb tag tag refl))

good-leaf : (c : Context) (at tag : ℕ) (rest : List ℕ) (q : Unbroken c at tag rest) (u : Items) (kd : Kind) → known c.parent tag ≡ some kd → is_items (some kd) ≡ false
    → Good (Nexts c at tag rest) (in_at at (tag ∷ rest) + body_size (tag ∷ rest)) (after_first (tag ∷ rest)) u → Good c at (tag ∷ rest) (item tag (in_at at (tag ∷ rest)) (first_body (tag ∷ rest)) end u)
good-leaf c at tag rest q u kd e l g = record { once = once_item c at from tag body end u k g.once; settled = settled; derived = λ T x os r. go T x os r (attribute tag) refl (eqb tag 4) refl }
  where
    from : ℕ
    from = in_at at (tag ∷ rest)

    body : List ℕ
    body = first_body (tag ∷ rest)

    k : Held c tag body
    k = item-held c at tag rest q

    settled : Settled c (item tag from body end u)
    settled = settled-item c at from tag body end u k g.settled

    go : (T : Entries) → in_force c (item tag from body end u) ≡ T → Octets (tag ∷ rest) → Valid c → (b : Bool) → attribute tag ≡ b → (f : Bool) → eqb tag 4 ≡ f
        → Derived T c at (tag ∷ rest) (item tag from body end u)
    go T x os r true a f p =
        let y = force-next c at tag from body end u (attribute-other tag 4 a (omega arith)) ∙ x in
        derived-known-attribute T c at (header_size (tag ∷ rest)) tag body (after_first (tag ∷ rest)) (tag ∷ rest) u (item-begins c at tag rest q os) k r (next-derived c at tag rest q u g T y os r)
        kd a e (λ w. force-settled T c (item tag from body end u) (settled w) x) (once-next c at tag body u kd a e g.once)
    go T x os r false a false p =
        let y = force-next c at tag from body end u p ∙ x in
        derived-leaf T c at (header_size (tag ∷ rest)) tag body (after_first (tag ∷ rest)) (tag ∷ rest) u (item-begins c at tag rest q os) k r (next-derived c at tag rest q u g T y os r)
        (stands tag kd (sym (known-anywhere c.parent tag a) ∙ e)) l (λ _. force-after c at tag body u g.settled a p ∙ y) (λ w. never (cc))
    go T x os r false a true p =
        let z = table-entries T c from tag body end u p x in
        derived-leaf T c at (header_size (tag ∷ rest)) tag body (after_first (tag ∷ rest)) (tag ∷ rest) u (item-begins c at tag rest q os) k r
        (next-derived c at tag rest q u g T (table-next T c at tag body u a p g.settled z) os r) (stands tag kd (sym (known-anywhere c.parent tag a) ∙ e)) l (λ w. never (cc)) (λ _. z)

-- what is shown of the object besides: it is one of the two tops with nothing behind it
record Whole (c : Context) (at : ℕ) (part : List ℕ) (t : Items) : Type 0 where
  good : Good c at part t
  finish : part ≡ [] → t ≡ end
  object : eqb c.parent 0 ≡ true → c.depth ≡ 1 → c.table ≡ [] → at ≡ 0 → Octets part → 1 ≤ length part → length part ≤ 32_768 → Accepts part t

allowed-object : (p tag : ℕ) → eqb p 0 ≡ true → allowed p tag ≡ true → is_top tag ≡ true
unfolding allowed
allowed-object p tag z h = rw z at h

known-object : (p tag : ℕ) → eqb p 0 ≡ true → allowed p tag ≡ true → known p tag ≡ some HoldsItems
known-object p tag z h =
    let k = top-items tag (allowed-object p tag z h) in
    known-anywhere p tag (items-no-attribute 0 tag k) ∙ k

valid-top : (c : Context) (tag : ℕ) → is_top tag ≡ true → c.table ≡ [] → Valid (within c tag)
unfolding within
valid-top c tag t e = record { sound = subst (λ X. Sound X) (sym e) sound_empty; opened = λ w. e; closed = λ w. refl; inner = not-zero tag HoldsItems (top-items tag t) }

-- nothing is behind an object
none-behind : (c : Context) (p : List ℕ) → eqb c.parent 0 ≡ true → Fitting c (header_size p) (body_size p) (length p) → after_first p ≡ []
none-behind c p z f =
    let a : leb (length p) (header_size p + body_size p) ≡ true = rw z at f.alone in
    let l = leb-true (length p) (header_size p + body_size p) a in
    drop_of_length-le (drop (header_size p) p) {i = body_size p} (rw (length-drop (header_size p) p) (omega arith))

-- the top in the words of the grammar
top-inside : (T : Entries) (d at start tag : ℕ) (body : List ℕ) (s : Items) → d ≡ 1 → at ≡ 0 → Inside T attributes tag (suc d) (at + start) body s → Inside T attributes tag 2 start body s
top-inside T d at start tag body s e z i =
    subst (λ m. Inside T attributes tag 2 m body s) (ap (λ m. m + start) z ∙ zero-add start) (subst (λ m. Inside T attributes tag (suc m) (at + start) body s) e i)

top-tree : (at start tag : ℕ) (body : List ℕ) (s u : Items) → at ≡ 0 → u ≡ end → item tag (at + start) body s u ≡ item tag start body s end
top-tree at start tag body s u z e = rw (z, zero-add start, e)

module _ (c : Context) (at tag : ℕ) (rest : List ℕ) (q : Unbroken c at tag rest) where
  top-accepts : (s u : Items) → Good (within c tag) (in_at at (tag ∷ rest)) (first_body (tag ∷ rest)) s → (after_first (tag ∷ rest) ≡ [] → u ≡ end) → eqb c.parent 0 ≡ true → c.depth ≡ 1
      → c.table ≡ [] → at ≡ 0 → Octets (tag ∷ rest) → length (tag ∷ rest) ≤ 32_768 → Accepts (tag ∷ rest) (item tag (in_at at (tag ∷ rest)) (first_body (tag ∷ rest)) s u)
  unfolding within
  top-accepts s u g f p d e z os l =
      let t = allowed-object c.parent tag p (item-held c at tag rest q).allow in
      let n = none-behind c (tag ∷ rest) p (item-fits c at tag rest q) in
      let i = g.derived (in_force (within c tag) s) refl (body-octets (tag ∷ rest) os) (valid-top c tag t e) in
      record {
        tokens = in_force (within c tag) s;
        tag = tag;
        body = first_body (tag ∷ rest);
        start = header_size (tag ∷ rest);
        inside = s;
        small = l;
        top = t;
        whole = subst (λ m. Begins tag (first_body (tag ∷ rest)) m (tag ∷ rest) (header_size (tag ∷ rest))) n (item-begins c at tag rest q os);
        holds = top-inside (in_force (within c tag) s) c.depth at (header_size (tag ∷ rest)) tag (first_body (tag ∷ rest)) s d z i.inside;
        tree = top-tree at (header_size (tag ∷ rest)) tag (first_body (tag ∷ rest)) s u z (f n);
      }

  object-known : eqb c.parent 0 ≡ true → known c.parent tag ≡ some HoldsItems
  object-known z = known-object c.parent tag z (item-held c at tag rest q).allow

whole-cases : Cases Whole
unfolding is_items
whole-cases = record {
  at_end = λ c at q. record { good = good-end c at q; finish = λ x. refl; object = λ z d e y os l m. absurd (omega arith) };
  at_unknown = λ c at tag rest u q e w. record {
    good = good-unknown c at tag rest q u e w.good;
    finish = λ e. absurd (cons≢nil e);
    object = λ z d f y os l m. absurd (none-ne-some HoldsItems (sym e ∙ object-known c at tag rest q z));
  };
  at_element = λ c at tag rest s u q e i w. record {
    good = good-element c at tag rest q s u e i.good w.good;
    finish = λ e. absurd (cons≢nil e);
    object = λ z d f y os l m. top-accepts c at tag rest q s u i.good w.finish z d f y os m;
  };
  at_leaf = λ c at tag rest u k q e l w. record {
    good = good-leaf c at tag rest q u k e l w.good;
    finish = λ e. absurd (cons≢nil e);
    object = λ z d f y os x m. absurd (false≢true (sym l ∙ ap is_items (sym e ∙ object-known c at tag rest q z)));
  };
}

-- an accepted object is one of the grammar, with its tree
pub complete : (o : List ℕ) (t : Items) → Octets o → judge o ≡ accepted t → Accepts o t
unfolding outermost
complete o t os h = (judged-all Whole whole-cases o t h).object refl refl refl refl os (accepted-size o t h).0 (accepted-size o t h).1
