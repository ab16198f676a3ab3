-- Octets that pass the test are the normal form of what they mean, and the normal form passes the test: one induction over accepted parts.
use mathlib.Core.Path.{◌≡◌, refl, sym, ap, ap₂, ◌∙◌, subst}
use mathlib.Core.Bool.{Bool, true, false, cond, not, ◌&&◌, ◌||◌, false≢true, or-true}
use mathlib.Core.Logic.{◌↔◌}
use mathlib.Core.Option.{Option, none, some, some-injective, none-ne-some}
use mathlib.Core.List.{List, [], ◌∷◌, ◌++◌, append_assoc, append-nil, cons≢nil, nil≢cons}
use Prim.Native.Nat.{ℕ, suc, ◌-◌, ◌^◌, ◌≤◌, ◌<◌}
use native.Mathlib.Omega.{arith}
use lib.Dec.{eqb, ltb}
use lib.ListN.{length, get_or}
use borrow.Author.Tests.{eqb-true, eqb-false, ne_eqb, leb-true, ltb-true, lt-ltb}
use Rattle.octets.specs.Numbers.{Octets}
use Rattle.octets.specs.Header.{header_size, body_size, framed}
use Rattle.octets.specs.Places.{first_body, after_first, is_whole}
use Rattle.octets.proofs.Frames.{framed-longer}
use Rattle.octets.proofs.Tests.{and_left, and_right, cond_same}
use Rattle.octets.proofs.Places.{body-octets, later-octets}
use Rattle.text.specs.Tokens.{Entries, expanded}
use Rattle.text.proofs.Words.{expanded-empty}
use Rattle.values.specs.declared.Kind.{Kind}
use Rattle.values.specs.declared.Kind.TheVariants.{HoldsItems, HoldsTokens, HoldsText, HoldsPlain, HoldsTime, HoldsBearer, HoldsNumber}
use Rattle.values.specs.Calls.{normal_octets, default_octets}
use Rattle.values.specs.Table.{known, attribute}
use Rattle.values.specs.Values.{Value, fits, meant, octets_of}
use Rattle.values.proofs.Laws.{as_it_stands}
use Rattle.values.proofs.DefaultValues.{element-keeps}
use Rattle.values.proofs.Known.{ElementTag, items-tag, items-no-attribute, known-anywhere, known-cdata, known-four, attribute-kind, element-kind, element_row, not-attribute}
use Rattle.format.specs.Tree.{Items, find}
use Rattle.format.specs.Tree.Items.{end, item}
use Rattle.format.specs.Judge.{Context, is_known, is_items, is_text, is_value, latest, stage_after, next, within, outermost, judge}
use Rattle.format.specs.Judge.Judged.{accepted}
use Rattle.format.specs.Meaning.{opens, is_child, value_in, counted, attributes_in, cdata_in, leaf_octets, means, table_in, table_of, maybe, rising, encode, normal_of}
use Rattle.format.specs.Meaning.Meaning.{element, leaf}
use Rattle.format.specs.Same.{same_octets}
use Rattle.format.proofs.Rules.{held, accepted-size}
use Rattle.format.proofs.Force.{top-known}
use Rattle.format.proofs.Defaults.{counted-some, present-attribute}
use Rattle.format.proofs.Told.{top}
use Rattle.format.proofs.Means.{items-opens, items-known, value-no-items, child-element, means-attribute, means-cdata, other-attribute, absent-attribute, find_first}
use Rattle.format.proofs.Induction.{Cases, judged-all, Unbroken, in_at, shorter}
use Rattle.survey.specs.Normal.{written_as}
use Rattle.survey.proofs.Rising.{rising_none, rising-same}
use Rattle.compare.specs.Normal.{is_shortest, is_written, is_rising, shaped}
use Rattle.format.proofs.Same.{octets-same, same-octets}
use Rattle.survey.proofs.Seeking.{behind-attributes, stage-behind}
use Rattle.compare.proofs.Shaping.{own_shape, shaped-item, shaped-end, stands-written}
use Rattle.compare.proofs.Frames.{framing, framed-back, rising-first, First, first_of}
use Rattle.compare.proofs.Frames.First.{missing, found}

-- the items of an element in normal form, but for attributes up to a tag
abbrev N : Entries → (p last : ℕ) → Items → List ℕ
N es p last t = rising (255 - last) (suc last) (attributes_in es p t) ++ (encode (means es t) ++ maybe (framed 1) (cdata_in es t))

-- ---- attributes of a tree

-- an attribute that counts is known
attribute-known : (es : Entries) (p : ℕ) (t : Items) (b : ℕ) (v : Value) → attributes_in es p t b ≡ some v → (attribute b ≡ true) × (is_known (known p b) ≡ true)
unfolding attributes_in value_in is_known
attribute-known es p t b v e = go (attribute b) (find b t) (known p b) e
  where
    go : (x : Bool) (o : Option (List ℕ)) (k : Option Kind) → cond x (counted p b (value_in es o k)) none ≡ some v → (x ≡ true) × (is_known k ≡ true)
    go true none k h = absurd (none-ne-some v (counted-some p b none v h))
    go true (some o) none h = absurd (none-ne-some v (counted-some p b none v h))
    go true (some o) (some k) h = (refl, refl)
    go false o k h = absurd (none-ne-some v h)

cdata-later : (es : Entries) (tag from : ℕ) (body : List ℕ) (w u : Items) → (tag ≡ 1 → ⊥) → cdata_in es (item tag from body w u) ≡ cdata_in es u
unfolding cdata_in find
cdata-later es tag from body w u d = rw (ne_eqb 1 tag (λ e. d (sym e)))

find-other : (b tag from : ℕ) (body : List ℕ) (w u : Items) → (b ≡ tag → ⊥) → find b (item tag from body w u) ≡ find b u
unfolding find
find-other b tag from body w u d = rw (ne_eqb b tag d)

-- ---- the first octet of a normal form is the tag of a known item, and of an attribute only if that counts

abbrev AllKnown : ℕ → Items → Type 0
AllKnown p end = Unit {0}
AllKnown p (item tag from body w u) = (is_known (known p tag) ≡ true) × AllKnown p u

pub record Head (p last : ℕ) (f : ℕ → Option Value) (x : ℕ) : Type 0 where
  is_one : is_known (known p x) ≡ true
  not_table : x ≡ 4 → ⊥
  higher : attribute x ≡ true → last < x
  counts : attribute x ≡ true → f x ≡ none → ⊥

child-tag : (tag : ℕ) → is_child tag ≡ true → ElementTag tag
unfolding is_child
child-tag tag h = go (attribute tag) (eqb tag 1) (eqb tag 4) refl refl refl h
  where
    go : (x y z : Bool) → attribute tag ≡ x → eqb tag 1 ≡ y → eqb tag 4 ≡ z → not (x || y || z) ≡ true → ElementTag tag
    go false false false a b c q = record { not_attribute = a; not_cdata = b; not_table = c }
    go false false true a b c q = absurd (false≢true q)
    go false true z a b c q = absurd (false≢true q)
    go true y z a b c q = absurd (false≢true q)

head_of : (x tag : ℕ) (body rest xs : List ℕ) → framed tag body ++ rest ≡ x ∷ xs → tag ≡ x
unfolding framed
head_of x tag body rest xs e = ap (λ o. get_or o 0 0) e

module _ (es : Entries) (p last : ℕ) (f : ℕ → Option Value) where
  cdata-head : (x : ℕ) (xs : List ℕ) (cd : Option (List ℕ)) → maybe (framed 1) cd ≡ x ∷ xs → Head p last f x
  unfolding maybe is_known attribute
  cdata-head x xs none e = absurd (nil≢cons e)
  cdata-head x xs (some o) e =
      let q : 1 ≡ x = head_of x 1 o [] xs (append-nil (framed 1 o) ∙ e) in
      subst (Head p last f) q (record { is_one = ap is_known (known-cdata p); not_table = λ g. omega arith; higher = λ a. absurd (false≢true a); counts = λ a. absurd (false≢true a) })

  child-head : (x : ℕ) (xs : List ℕ) (tag : ℕ) (body rest : List ℕ) → is_child tag ≡ true → is_known (known p tag) ≡ true → framed tag body ++ rest ≡ x ∷ xs → Head p last f x
  child-head x xs tag body rest c k e =
      let g = child-tag tag c in
      subst (Head p last f) (head_of x tag body rest xs e)
      (record { is_one = k; not_table = eqb-false tag 4 g.not_table; higher = λ a. absurd (false≢true (sym g.not_attribute ∙ a)); counts = λ a. absurd (false≢true (sym g.not_attribute ∙ a)) })

  later-head : (t : Items) → AllKnown p t → (x : ℕ) (xs : List ℕ) (cd : Option (List ℕ)) → encode (means es t) ++ maybe (framed 1) cd ≡ x ∷ xs → Head p last f x
  unfolding means encode
  later-head end k x xs cd e = cdata-head x xs cd e
  later-head (item tag from body w u) k x xs cd e = go (is_child tag) (opens tag) refl (later-head u k.1 x xs cd) e
    where
      inner : List ℕ
      inner = rising 128 0x80 (attributes_in es tag w) ++ (encode (means es w) ++ maybe (framed 1) (cdata_in es w))

      go : (b o : Bool) → is_child tag ≡ b → (encode (means es u) ++ maybe (framed 1) cd ≡ x ∷ xs → Head p last f x)
          → encode (cond b (cond o (element tag (attributes_in es tag w) (means es w) (cdata_in es w) (means es u)) (leaf tag (leaf_octets es tag body) (means es u))) (means es u)) ++ maybe (framed 1) cd ≡ x ∷ xs
          → Head p last f x
      go true true c ih q = child-head x xs tag inner (encode (means es u) ++ maybe (framed 1) cd) c k.0 (sym (append_assoc (framed tag inner) (encode (means es u)) (maybe (framed 1) cd)) ∙ q)
      go true false c ih q =
          child-head x xs tag (leaf_octets es tag body) (encode (means es u) ++ maybe (framed 1) cd) c k.0 (sym (append_assoc (framed tag (leaf_octets es tag body)) (encode (means es u)) (maybe (framed 1) cd)) ∙ q)
      go false o c ih q = ih q

module _ (es : Entries) (p last : ℕ) where
  heads : (t : Items) → AllKnown p t → 0x7F ≤ last → last < 256 → (x : ℕ) (xs : List ℕ) → N es p last t ≡ x ∷ xs → Head p last (attributes_in es p t) x
  heads t k l m x xs e = go (first_of (255 - last) (suc last) (attributes_in es p t))
    where
      f : ℕ → Option Value
      f = attributes_in es p t

      R : List ℕ
      R = encode (means es t) ++ maybe (framed 1) (cdata_in es t)

      go : First (255 - last) (suc last) f → Head p last f x
      go (missing h) = later-head es p last f t k x xs (cdata_in es t) (sym (ap (λ o. o ++ R) (rising_none (255 - last) (suc last) f h)) ∙ e)
      go (found b v y z h q) =
          let s : framed b (octets_of v) ++ (rising (255 - b) (suc b) f ++ R) ≡ x ∷ xs =
          sym (append_assoc (framed b (octets_of v)) (rising (255 - b) (suc b) f) R) ∙ sym (ap (λ o. o ++ R) (rising-first last b f v (omega arith) (omega arith) (λ a c d. h a (omega arith) d) q)) ∙ e in
          let g = attribute-known es p t b v q in
          subst (Head p last f) (head_of x b (octets_of v) (rising (255 - b) (suc b) f ++ R) xs s)
          (record { is_one = g.1; not_table = λ i. omega arith; higher = λ a. omega arith; counts = λ a n. none-ne-some v (sym n ∙ q) })

-- ---- what an item adds to the normal form

-- an attribute, where no lower one is behind it
attribute-adds : (es : Entries) (p last tag from : ℕ) (body : List ℕ) (w u : Items) (k : Kind) → attribute tag ≡ true → known p tag ≡ some k → fits k body ≡ true
    → default_octets p tag body ≡ false → last < tag → tag < 256
    → ((a : ℕ) → last < a → a < tag → attributes_in es p (item tag from body w u) a ≡ none)
    → N es p last (item tag from body w u) ≡ framed tag (octets_of (meant es k body)) ++ N es p tag u
unfolding attribute
attribute-adds es p last tag from body w u k a e v c l m h =
    let t = item tag from body w u in
    let R = encode (means es t) ++ maybe (framed 1) (cdata_in es t) in
    let d : tag ≡ 1 → ⊥ = λ q. omega (arith, ltb-true 0x7F tag a) in
    let r : rising (255 - last) (suc last) (attributes_in es p t) ≡ framed tag (octets_of (meant es k body)) ++ rising (255 - tag) (suc tag) (attributes_in es p u) =
    rising-first last tag (attributes_in es p t) (meant es k body) l m h (present-attribute es p t tag k body a e (find_first tag from body w u) v ∙ ap (λ b. cond b none (some (meant es k body))) c)
    ∙ ap (λ o. framed tag (octets_of (meant es k body)) ++ o) (rising-same (255 - tag) (suc tag) (attributes_in es p t) (attributes_in es p u) (λ b y. other-attribute es p tag from body w u b (λ q. omega arith))) in
    let s : R ≡ encode (means es u) ++ maybe (framed 1) (cdata_in es u) = ap₂ (λ x y. encode x ++ maybe (framed 1) y) (means-attribute es tag from body w u a) (cdata-later es tag from body w u d) in
    ap₂ (λ x y. x ++ y) r s ∙ append_assoc (framed tag (octets_of (meant es k body))) (rising (255 - tag) (suc tag) (attributes_in es p u)) (encode (means es u) ++ maybe (framed 1) (cdata_in es u))

-- no attributes
bare : (es : Entries) (p last : ℕ) (t : Items) → ((b : ℕ) → attribute b ≡ true → find b t ≡ none) → N es p last t ≡ encode (means es t) ++ maybe (framed 1) (cdata_in es t)
bare es p last t h = ap (λ o. o ++ (encode (means es t) ++ maybe (framed 1) (cdata_in es t))) (rising_none (255 - last) (suc last) (attributes_in es p t) (λ a l m. absent-attribute es p t a (h a)))

-- what an element has in normal form: its items, or its octets
content : Entries → ℕ → List ℕ → Items → List ℕ
content es tag body w = cond (opens tag) (N es tag 0x7F w) (leaf_octets es tag body)

element-adds : (es : Entries) (p last tag from : ℕ) (body : List ℕ) (w u : Items) → is_child tag ≡ true
    → ((b : ℕ) → attribute b ≡ true → find b (item tag from body w u) ≡ none) → ((b : ℕ) → attribute b ≡ true → find b u ≡ none)
    → N es p last (item tag from body w u) ≡ framed tag (content es tag body w) ++ N es p last u
unfolding means encode content
element-adds es p last tag from body w u c h g =
    let k = child-tag tag c in
    bare es p last (item tag from body w u) h
    ∙ ap (λ y. encode (means es (item tag from body w u)) ++ maybe (framed 1) y) (cdata-later es tag from body w u (eqb-false tag 1 k.not_cdata))
    ∙ rw c (go (opens tag)) ∙ ap (λ o. framed tag (content es tag body w) ++ o) (sym (bare es p last u g))
  where
    R : List ℕ
    R = maybe (framed 1) (cdata_in es u)

    go : (o : Bool) → encode (cond o (element tag (attributes_in es tag w) (means es w) (cdata_in es w) (means es u)) (leaf tag (leaf_octets es tag body) (means es u))) ++ R
        ≡ framed tag (cond o (N es tag 0x7F w) (leaf_octets es tag body)) ++ (encode (means es u) ++ R)
    go true = append_assoc (framed tag (N es tag 0x7F w)) (encode (means es u)) R
    go false = append_assoc (framed tag (leaf_octets es tag body)) (encode (means es u)) R

-- CDATA, which is the last
cdata-adds : (es : Entries) (p last from : ℕ) (body : List ℕ) (w : Items) → ((b : ℕ) → attribute b ≡ true → find b (item 1 from body w end) ≡ none)
    → N es p last (item 1 from body w end) ≡ framed 1 (expanded es body) ++ []
unfolding means encode cdata_in find maybe
cdata-adds es p last from body w h =
    bare es p last (item 1 from body w end) h ∙ ap (λ m. encode m ++ framed 1 (expanded es body)) (means-cdata es from body w end) ∙ sym (append-nil (framed 1 (expanded es body)))

nothing-adds : (es : Entries) (p last : ℕ) → N es p last end ≡ []
unfolding means encode cdata_in find maybe
nothing-adds es p last = bare es p last end (λ b a. refl)

-- ---- one induction

pub record Shape (p stage : ℕ) (part : List ℕ) (t : Items) : Type 0 where
  all_known : AllKnown p t
  ended : part ≡ [] → t ≡ end
  closed : 3 ≤ stage → part ≡ []
  barred : (b : ℕ) → attribute b ≡ true → ltb 0 stage || not (attribute (get_or part 0 0)) ≡ true → find b t ≡ none
  no_table : (last : ℕ) → shaped p last part ≡ true → find 4 t ≡ none
  tableless : (last : ℕ) → shaped p last part ≡ true → table_of t ≡ []
  above : (last b : ℕ) → shaped p last part ≡ true → attribute b ≡ true → b ≤ last → find b t ≡ none
  forth : (last : ℕ) → 0x7F ≤ last → last < 256 → shaped p last part ≡ true → part ≡ N [] p last t
  back : (es : Entries) (last : ℕ) → 0x7F ≤ last → last < 256 → length part < 256 ^ 2 → part ≡ N es p last t → shaped p last part ≡ true

abbrev Shaped : Context → ℕ → List ℕ → Items → Type 0
Shaped c at part t = Octets part → Shape c.parent c.stage part t

shape-end : (p stage : ℕ) → Shape p stage [] end
unfolding find table_of table_in
shape-end p stage = record {
  all_known = tt;
  ended = λ e. refl;
  closed = λ h. refl;
  barred = λ b a h. refl;
  no_table = λ last h. refl;
  tableless = λ last h. refl;
  above = λ last b h a l. refl;
  forth = λ last l m h. sym (nothing-adds [] p last);
  back = λ es last l m s e. shaped-end p last;
}

-- the tests of an item, apart
pub record Own (p last tag : ℕ) (s : List ℕ) : Type 0 where
  whole : is_whole s ≡ true
  shortest : is_shortest s ≡ true
  rises : is_rising last tag ≡ true
  written : is_written (written_as p tag (first_body s)) (first_body s) ≡ true
  inside : cond (is_items (written_as p tag (first_body s))) (shaped tag 0x7F (first_body s)) true ≡ true
  later : shaped p (cond (attribute tag) tag last) (after_first s) ≡ true

module _ (p last tag : ℕ) (rest : List ℕ) where
  abbrev s : List ℕ
  s = tag ∷ rest

  abbrev inner : Bool
  inner = cond (is_items (written_as p tag (first_body s))) (shaped tag 0x7F (first_body s)) true

  abbrev after : Bool
  after = shaped p (cond (attribute tag) tag last) (after_first s)

  own-parts : shaped p last s ≡ true → Own p last tag s
  own-parts h =
      let g : own_shape p last tag s && inner && after ≡ true = sym (shaped-item p last tag rest) ∙ h in
      let o = and_left (own_shape p last tag s) inner (and_left (own_shape p last tag s && inner) after g) in
      let wsr = and_left (is_whole s && is_shortest s && is_rising last tag) (is_written (written_as p tag (first_body s)) (first_body s)) o in
      let ws = and_left (is_whole s && is_shortest s) (is_rising last tag) wsr in
      record {
        whole = and_left (is_whole s) (is_shortest s) ws;
        shortest = and_right (is_whole s) (is_shortest s) ws;
        rises = and_right (is_whole s && is_shortest s) (is_rising last tag) wsr;
        written = and_right (is_whole s && is_shortest s && is_rising last tag) (is_written (written_as p tag (first_body s)) (first_body s)) o;
        inside = and_right (own_shape p last tag s) inner (and_left (own_shape p last tag s && inner) after g);
        later = and_right (own_shape p last tag s && inner) after g;
      }

  own-whole : Own p last tag s → shaped p last s ≡ true
  own-whole o = shaped-item p last tag rest ∙ rw (o.whole, o.shortest, o.rises, o.written, o.inside, o.later)

-- an item that is unknown, the token table or a default
module _ (p tag : ℕ) (rest : List ℕ) (t : Items) where
  no-shape : is_written (written_as p tag (first_body (tag ∷ rest))) (first_body (tag ∷ rest)) ≡ false → (last : ℕ) → shaped p last (tag ∷ rest) ≡ true → ⊥
  no-shape n last h = false≢true (sym n ∙ (own-parts p last tag rest h).written)

  no-normal : AllKnown p t → ((es : Entries) → Head p 0x7F (attributes_in es p t) tag → ⊥) → (es : Entries) (last : ℕ) → 0x7F ≤ last → last < 256 → tag ∷ rest ≡ N es p last t → ⊥
  no-normal k n es last l m e =
      let h = heads es p last t k l m tag rest (sym e) in
      n es (record { is_one = h.is_one; not_table = h.not_table; higher = λ a. omega (arith, h.higher a); counts = h.counts })

latest-two : (tag : ℕ) → latest tag ≤ 2
unfolding latest
latest-two tag = go (attribute tag || eqb tag 4) (eqb tag 6)
  where
    go : (a b : Bool) → cond a 0 (cond b 1 2) ≤ 2
    go true b = omega arith
    go false true = omega arith
    go false false = omega arith

not-rising : (last tag : ℕ) → attribute tag ≡ false → is_rising last tag ≡ true
unfolding is_rising
not-rising last tag e = rw e

rising-higher : (last tag : ℕ) → attribute tag ≡ true → is_rising last tag ≡ true → last < tag
unfolding is_rising
rising-higher last tag a h = ltb-true last tag (rw a at h)

higher-rising : (last tag : ℕ) → attribute tag ≡ true → last < tag → is_rising last tag ≡ true
unfolding is_rising
higher-rising last tag a h = rw (a, lt-ltb last tag h)

-- a value that is its own normal octets under a table is so under none
own-normal : (es : Entries) (k : Kind) (o : List ℕ) → octets_of (meant es k o) ≡ o → octets_of (meant [] k o) ≡ o
unfolding meant octets_of
own-normal es HoldsItems o e = refl
own-normal es HoldsTokens o e = refl
own-normal es HoldsText o e = expanded-empty o
own-normal es HoldsPlain o e = refl
own-normal es HoldsTime o e = e
own-normal es HoldsBearer o e = e
own-normal es (HoldsNumber n) o e = e

written-value : (k : Kind) (o : List ℕ) → fits k o ≡ true → octets_of (meant [] k o) ≡ o → is_written (some k) o ≡ true
unfolding is_written normal_octets
written-value k o f e = rw f (ap (λ x. same_octets x o) e ∙ octets-same o)

value_written : (k : Kind) (o : List ℕ) → is_written (some k) o ≡ true → octets_of (meant [] k o) ≡ o
unfolding is_written normal_octets
value_written k o h = same-octets (octets_of (meant [] k o)) o (and_right (fits k o) (same_octets (octets_of (meant [] k o)) o) h)

-- the octets of an element always stand as they are
element-stands : (tag : ℕ) (k : Kind) → element_row tag k ≡ true → as_it_stands k ≡ true
element-stands tag HoldsItems r = refl
element-stands tag HoldsTokens r = refl
element-stands tag HoldsText r = refl
element-stands tag HoldsPlain r = refl
element-stands tag HoldsTime r = r
element-stands tag HoldsBearer r = r
element-stands tag (HoldsNumber n) r = r

-- which items are written
unwritten : (p tag : ℕ) (o : List ℕ) → known p tag ≡ none → written_as p tag o ≡ none
unfolding written_as
unwritten p tag o e = rw e (cond_same {A = Option Kind} (eqb tag 4 || default_octets p tag o) none)

unwritten-table : (p tag : ℕ) (o : List ℕ) → eqb tag 4 ≡ true → written_as p tag o ≡ none
unfolding written_as
unwritten-table p tag o f = rw f

unwritten-default : (p tag : ℕ) (o : List ℕ) → default_octets p tag o ≡ true → written_as p tag o ≡ none
unfolding written_as
unwritten-default p tag o d = rw (d, or-true (eqb tag 4))

written_known : (p tag : ℕ) (o : List ℕ) → eqb tag 4 ≡ false → default_octets p tag o ≡ false → written_as p tag o ≡ known p tag
unfolding written_as
written_known p tag o f d = rw (f, d)

leaf-itself : (tag : ℕ) (o : List ℕ) → leaf_octets [] tag o ≡ o
unfolding leaf_octets
leaf-itself tag o = go (is_text (known 0 tag))
  where
    go : (b : Bool) → cond b (expanded [] o) o ≡ o
    go true = expanded-empty o
    go false = refl

module _ (c : Context) (at tag : ℕ) (rest : List ℕ) (u : Items) (q : Unbroken c at tag rest) (os : Octets (tag ∷ rest))
    (later : Shape c.parent (stage_after tag) (after_first (tag ∷ rest)) u) where
  abbrev whole : List ℕ
  whole = tag ∷ rest

  abbrev p : ℕ
  p = c.parent

  abbrev from : ℕ
  from = in_at at whole

  abbrev body : List ℕ
  body = first_body whole

  is-closed : 3 ≤ c.stage → whole ≡ []
  is-closed h =
      let o = (held c at tag (header_size whole) (body_size whole) (suc (length rest)) body q).rules.order in
      absurd (omega (arith, leb-true c.stage (latest tag) o, latest-two tag))

  later-bare : attribute tag ≡ false → (b : ℕ) → attribute b ≡ true → find b u ≡ none
  later-bare n b a = later.barred b a (stage-behind tag (get_or (after_first whole) 0 0) n)

  is-barred : (w : Items) (b : ℕ) → attribute b ≡ true → ltb 0 c.stage || not (attribute tag) ≡ true → find b (item tag from body w u) ≡ none
  is-barred w b a h =
      let n = behind-attributes c at tag rest q h in
      find-other b tag from body w u (eqb-false b tag (not-attribute b tag a n)) ∙ later-bare n b a

  later-small : length whole < 256 ^ 2 → length (after_first whole) < 256 ^ 2
  later-small h = omega (arith, shorter c at tag rest q)

  value-here : (k : Kind) → known p tag ≡ some k → fits k body ≡ true
  unfolding is_value
  value-here k e = sym (ap (λ l. is_value l body) e) ∙ (held c at tag (header_size whole) (body_size whole) (suc (length rest)) body q).rules.kind.value

  -- octets that begin with an item that no normal form has
  shape-never : (t : Items) → AllKnown p t → ((b : ℕ) → attribute b ≡ true → ltb 0 c.stage || not (attribute tag) ≡ true → find b t ≡ none)
      → is_written (written_as p tag body) body ≡ false → ((es : Entries) → Head p 0x7F (attributes_in es p t) tag → ⊥) → Shape p c.stage whole t
  shape-never t knows bars n head = record {
    all_known = knows;
    ended = λ z. absurd (cons≢nil z);
    closed = is-closed;
    barred = bars;
    no_table = λ last h. absurd (no last h);
    tableless = λ last h. absurd (no last h);
    above = λ last b h a l. absurd (no last h);
    forth = λ last l m h. absurd (no last h);
    back = λ es last l m s x. absurd (no-normal p tag rest t knows head es last l m x);
  }
    where
      no : (last : ℕ) → shaped p last whole ≡ true → ⊥
      no = no-shape p tag rest u n

  shape-unknown : known p tag ≡ none → Shape p c.stage whole u
  unfolding is_written is_known
  shape-unknown e =
      shape-never u later.all_known (λ b a h. later-bare (behind-attributes c at tag rest q h) b a) (ap (λ k. is_written k body) (unwritten p tag body e))
      (λ fs h. false≢true (sym (ap is_known e) ∙ h.is_one))

  shape-table : eqb tag 4 ≡ true → known p tag ≡ some HoldsTokens → Shape p c.stage whole (item tag from body end u)
  unfolding is_written is_known
  shape-table f e =
      shape-never (item tag from body end u) (ap is_known e, later.all_known) (is-barred end) (ap (λ k. is_written k body) (unwritten-table p tag body f))
      (λ fs h. h.not_table (eqb-true tag 4 f))

  -- an attribute that is its default
  shape-default : (k : Kind) → attribute tag ≡ true → known p tag ≡ some k → default_octets p tag body ≡ true → Shape p c.stage whole (item tag from body end u)
  unfolding is_written is_known
  shape-default k a e d =
      shape-never (item tag from body end u) (ap is_known e, later.all_known) (is-barred end) (ap (λ z. is_written z body) (unwritten-default p tag body d)) (λ fs h. h.counts a (uncounted fs))
    where
      uncounted : (es : Entries) → attributes_in es p (item tag from body end u) tag ≡ none
      uncounted es = present-attribute es p (item tag from body end u) tag k body a e (find_first tag from body end u) (value-here k e) ∙ ap (λ b. cond b none (some (meant es k body))) d

  -- any other
  module _ (k : Kind) (a : attribute tag ≡ true) (e : known p tag ≡ some k) (d : default_octets p tag body ≡ false) where
    abbrev tree : Items
    tree = item tag from body end u

    above_tag : 0x7F < tag
    unfolding attribute
    above_tag = ltb-true 0x7F tag a

    not_table : eqb tag 4 ≡ false
    not_table = ne_eqb tag 4 (λ z. omega (arith, above_tag))

    written-here : written_as p tag body ≡ some k
    written-here = written_known p tag body not_table d ∙ e

    no_items : is_items (written_as p tag body) ≡ false
    no_items = ap is_items written-here ∙ value-no-items k (attribute-kind p tag k a e)

    later_last : (last : ℕ) → cond (attribute tag) tag last ≡ tag
    later_last last = rw a

    -- in octets that begin with it, it is the lowest
    lowest : (es : Entries) (last : ℕ) → last < tag → whole ≡ N es p last tree → (b : ℕ) → last < b → b < tag → attributes_in es p tree b ≡ none
    lowest es last l x = go (first_of (255 - last) (suc last) f)
      where
        f : ℕ → Option Value
        f = attributes_in es p tree

        R : List ℕ
        R = encode (means es tree) ++ maybe (framed 1) (cdata_in es tree)

        go : First (255 - last) (suc last) f → (b : ℕ) → last < b → b < tag → f b ≡ none
        go (missing h) b y z = h b (omega arith) (omega (arith, os 0))
        go (found t v y z h g) b i j =
            let r : framed t (octets_of v) ++ (rising (255 - t) (suc t) f ++ R) ≡ whole =
            sym (append_assoc (framed t (octets_of v)) (rising (255 - t) (suc t) f) R)
            ∙ sym (ap (λ o. o ++ R) (rising-first last t f v (omega arith) (omega arith) (λ n m o. h n (omega arith) o) g)) ∙ sym x in
            let s : t ≡ tag = head_of tag t (octets_of v) (rising (255 - t) (suc t) f ++ R) rest r in
            h b (omega arith) (omega arith)

    attribute-forth : (last : ℕ) → 0x7F ≤ last → last < 256 → shaped p last whole ≡ true → whole ≡ N [] p last tree
    attribute-forth last l m h =
        let o = own-parts p last tag rest h in
        let r = rising-higher last tag a o.rises in
        let y : shaped p tag (after_first whole) ≡ true = subst (λ z. shaped p z (after_first whole) ≡ true) (later_last last) o.later in
        let v : octets_of (meant [] k body) ≡ body = value_written k body (sym (ap (λ z. is_written z body) written-here) ∙ o.written) in
        let none_between : (b : ℕ) → last < b → b < tag → attributes_in [] p tree b ≡ none = λ b i j.
        other-attribute [] p tag from body end u b (λ z. omega arith) ∙ absent-attribute [] p u b (λ g. later.above tag b y g (omega arith)) in
        framed-back whole os o.whole o.shortest
        ∙ ap₂ (λ x z. framed tag x ++ z) (sym v) (later.forth tag (omega (arith, above_tag)) (os 0) y)
        ∙ sym (attribute-adds [] p last tag from body end u k a e (value-here k e) d r (os 0) none_between)

    attribute-back : (es : Entries) (last : ℕ) → 0x7F ≤ last → last < 256 → length whole < 256 ^ 2 → whole ≡ N es p last tree → shaped p last whole ≡ true
    unfolding is_known
    attribute-back es last l m s x =
        let r = (heads es p last tree (ap is_known e, later.all_known) l m tag rest (sym x)).higher a in
        let y : whole ≡ framed tag (octets_of (meant es k body)) ++ N es p tag u = x ∙ attribute-adds es p last tag from body end u k a e (value-here k e) d r (os 0) (lowest es last r x) in
        let f = framing whole tag (octets_of (meant es k body)) (N es p tag u) (omega (arith, ap length y, framed-longer tag (octets_of (meant es k body)) (N es p tag u))) y in
        own-whole p last tag rest
        (record {
          whole = f.whole;
          shortest = f.shortest;
          rises = higher-rising last tag a r;
          written = ap (λ z. is_written z body) written-here ∙ written-value k body (value-here k e) (own-normal es k body (sym f.inside));
          inside = rw no_items;
          later = subst (λ z. shaped p z (after_first whole) ≡ true) (sym (later_last last)) (later.back es tag (omega (arith, above_tag)) (os 0) (later-small s) f.after);
        })

    shape-attribute : Shape p c.stage whole tree
    unfolding is_known table_of table_in find
    shape-attribute = record {
      all_known = (ap is_known e, later.all_known);
      ended = λ z. absurd (cons≢nil z);
      closed = is-closed;
      barred = is-barred end;
      no_table = λ last h. find-other 4 tag from body end u (λ z. omega (arith, above_tag)) ∙ later.no_table tag (subst (λ z. shaped p z (after_first whole) ≡ true) (later_last last) (own-parts p last tag rest h).later);
      tableless = λ last h. refl;
      above = λ last b h g l.
          let o = own-parts p last tag rest h in
          let r = rising-higher last tag a o.rises in
          find-other b tag from body end u (λ z. omega arith) ∙ later.above tag b (subst (λ z. shaped p z (after_first whole) ≡ true) (later_last last) o.later) g (omega arith);
      forth = attribute-forth;
      back = attribute-back;
    }

  -- a child element
  module _ (w : Items) (k : Kind) (ch : is_child tag ≡ true) (e : known p tag ≡ some k) (opened : opens tag ≡ true → Shape tag 0 body w) (shut : opens tag ≡ false → (w ≡ end) × (element_row tag k ≡ true)) where
    abbrev grown : Items
    grown = item tag from body w u

    no-attribute : attribute tag ≡ false
    no-attribute = (child-tag tag ch).not_attribute

    same-last : (last : ℕ) → cond (attribute tag) tag last ≡ last
    same-last last = rw no-attribute

    all-barred : (b : ℕ) → attribute b ≡ true → find b grown ≡ none
    all-barred b a = is-barred w b a (rw no-attribute (or-true (ltb 0 c.stage)))

    adds : (es : Entries) (last : ℕ) → N es p last grown ≡ framed tag (content es tag body w) ++ N es p last u
    adds es last = element-adds es p last tag from body w u ch all-barred (later-bare no-attribute)

    known-here : written_as p tag body ≡ known p tag
    known-here = written_known p tag body (child-tag tag ch).not_table (element-keeps p tag body no-attribute)

    is-items : is_items (written_as p tag body) ≡ opens tag
    is-items = ap is_items known-here ∙ items-opens p tag

    content-open : (es : Entries) → opens tag ≡ true → content es tag body w ≡ N es tag 0x7F w
    unfolding content
    content-open es h = rw h

    content-shut : (es : Entries) → opens tag ≡ false → content es tag body w ≡ leaf_octets es tag body
    unfolding content
    content-shut es h = rw h

    body-forth : (b : Bool) → opens tag ≡ b → cond b (shaped tag 0x7F body) true ≡ true → body ≡ content [] tag body w
    body-forth true h i = (opened h).forth 0x7F (omega arith) (omega arith) i ∙ sym (content-open [] h)
    body-forth false h i = sym (content-shut [] h ∙ leaf-itself tag body)

    child-forth : (last : ℕ) → 0x7F ≤ last → last < 256 → shaped p last whole ≡ true → whole ≡ N [] p last grown
    child-forth last l m h =
        let o = own-parts p last tag rest h in
        let y : shaped p last (after_first whole) ≡ true = subst (λ z. shaped p z (after_first whole) ≡ true) (same-last last) o.later in
        let b : body ≡ content [] tag body w = body-forth (opens tag) refl (subst (λ z. cond z (shaped tag 0x7F body) true ≡ true) is-items o.inside) in
        framed-back whole os o.whole o.shortest ∙ ap₂ (λ x z. framed tag x ++ z) b (later.forth last l m y) ∙ sym (adds [] last)

    opened-kind : opens tag ≡ true → k ≡ HoldsItems
    opened-kind h = some-injective k HoldsItems (sym e ∙ items-known (known p tag) (items-opens p tag ∙ h))

    written-body : (b : Bool) → opens tag ≡ b → is_written (some k) body ≡ true
    written-body false h = stands-written k body (element-stands tag k (shut h).1)
    written-body true h = stands-written k body (ap as_it_stands (opened-kind h))

    body_back : (es : Entries) → length whole < 256 ^ 2 → body ≡ content es tag body w → (b : Bool) → opens tag ≡ b → cond b (shaped tag 0x7F body) true ≡ true
    body_back es s x true h = (opened h).back es 0x7F (omega arith) (omega arith) (omega (arith, shorter c at tag rest q)) (x ∙ content-open es h)
    body_back es s x false h = refl

    child-back : (es : Entries) (last : ℕ) → 0x7F ≤ last → last < 256 → length whole < 256 ^ 2 → whole ≡ N es p last grown → shaped p last whole ≡ true
    child-back es last l m s x =
        let y : whole ≡ framed tag (content es tag body w) ++ N es p last u = x ∙ adds es last in
        let f = framing whole tag (content es tag body w) (N es p last u) (omega (arith, ap length y, framed-longer tag (content es tag body w) (N es p last u))) y in
        own-whole p last tag rest
        (record {
          whole = f.whole;
          shortest = f.shortest;
          rises = not-rising last tag no-attribute;
          written = ap (λ z. is_written z body) (known-here ∙ e) ∙ written-body (opens tag) refl;
          inside = subst (λ z. cond z (shaped tag 0x7F body) true ≡ true) (sym is-items) (body_back es s f.inside (opens tag) refl);
          later = subst (λ z. shaped p z (after_first whole) ≡ true) (sym (same-last last)) (later.back es last l m (later-small s) f.after);
        })

    inner-tableless : (b : Bool) → opens tag ≡ b → cond b (shaped tag 0x7F body) true ≡ true → table_of grown ≡ []
    unfolding table_of table_in find
    inner-tableless true h i = ap table_in ((opened h).no_table 0x7F i)
    inner-tableless false h i = ap (λ z. table_in (find 4 z)) (shut h).0

    shape-child : Shape p c.stage whole grown
    unfolding is_known
    shape-child = record {
      all_known = (ap is_known e, later.all_known);
      ended = λ z. absurd (cons≢nil z);
      closed = is-closed;
      barred = is-barred w;
      no_table = λ last h.
          find-other 4 tag from body w u (λ z. eqb-false tag 4 (child-tag tag ch).not_table (sym z))
          ∙ later.no_table last (subst (λ z. shaped p z (after_first whole) ≡ true) (same-last last) (own-parts p last tag rest h).later);
      tableless = λ last h. inner-tableless (opens tag) refl (subst (λ z. cond z (shaped tag 0x7F body) true ≡ true) is-items (own-parts p last tag rest h).inside);
      above = λ last b h g l. all-barred b g;
      forth = child-forth;
      back = child-back;
    }

-- CDATA, behind which nothing comes
module _ (c : Context) (at : ℕ) (rest : List ℕ) (u : Items) (q : Unbroken c at 1 rest) (os : Octets (1 ∷ rest))
    (later : Shape c.parent (stage_after 1) (after_first (1 ∷ rest)) u) where
  abbrev all : List ℕ
  all = 1 ∷ rest

  abbrev text : List ℕ
  text = first_body all

  abbrev place : ℕ
  place = in_at at all

  last_one : after_first all ≡ []
  unfolding stage_after attribute
  last_one = later.closed (omega arith)

  no_more : u ≡ end
  no_more = later.ended last_one

  one_plain : attribute 1 ≡ false
  unfolding attribute
  one_plain = refl

  no-attributes : (b : ℕ) → attribute b ≡ true → find b (item 1 place text end u) ≡ none
  no-attributes b a = is-barred c at 1 rest u q os later end b a (rw one_plain (or-true (ltb 0 c.stage)))

  cdata-is : (es : Entries) (last : ℕ) → N es c.parent last (item 1 place text end u) ≡ framed 1 (expanded es text) ++ []
  cdata-is es last =
      ap (λ z. N es c.parent last (item 1 place text end z)) no_more
      ∙ cdata-adds es c.parent last place text end (λ b a. sym (ap (λ z. find b (item 1 place text end z)) no_more) ∙ no-attributes b a)

  written-text : written_as c.parent 1 text ≡ some HoldsText
  written-text = written_known c.parent 1 text refl (element-keeps c.parent 1 text one_plain) ∙ known-cdata c.parent

  no-items-one : is_items (written_as c.parent 1 text) ≡ false
  unfolding is_items
  no-items-one = ap is_items written-text

  shape-cdata : Shape c.parent c.stage all (item 1 place text end u)
  unfolding is_known find table_of table_in
  shape-cdata = record {
    all_known = (ap is_known (known-cdata c.parent), later.all_known);
    ended = λ z. absurd (cons≢nil z);
    closed = is-closed c at 1 rest u q os later;
    barred = is-barred c at 1 rest u q os later end;
    no_table = λ last h. ap (find 4) no_more;
    tableless = λ last h. refl;
    above = λ last b h g l. no-attributes b g;
    forth = λ last l m h.
        let o = own-parts c.parent last 1 rest h in
        framed-back all os o.whole o.shortest ∙ ap₂ (λ x z. framed 1 x ++ z) (sym (expanded-empty text)) last_one ∙ sym (cdata-is [] last);
    back = λ es last l m s x.
        let y : all ≡ framed 1 (expanded es text) ++ [] = x ∙ cdata-is es last in
        let f = framing all 1 (expanded es text) [] (omega (arith, ap length y, framed-longer 1 (expanded es text) [])) y in
        own-whole c.parent last 1 rest
        (record {
          whole = f.whole;
          shortest = f.shortest;
          rises = not-rising last 1 one_plain;
          written = ap (λ z. is_written z text) written-text ∙ stands-written HoldsText text refl;
          inside = rw no-items-one;
          later = subst (λ z. shaped c.parent (cond (attribute 1) 1 last) z ≡ true) (sym last_one) (shaped-end c.parent (cond (attribute 1) 1 last));
        });
  }

-- ---- all accepted parts

-- an element that holds items
shape-element : (c : Context) (at tag : ℕ) (rest : List ℕ) (w u : Items) → Unbroken c at tag rest → known c.parent tag ≡ some HoldsItems → Octets (tag ∷ rest)
    → Shape tag 0 (first_body (tag ∷ rest)) w → Shape c.parent (stage_after tag) (after_first (tag ∷ rest)) u
    → Shape c.parent c.stage (tag ∷ rest) (item tag (in_at at (tag ∷ rest)) (first_body (tag ∷ rest)) w u)
unfolding is_items opens
shape-element c at tag rest w u q e os inside later =
    let z : known 0 tag ≡ some HoldsItems = sym (known-anywhere c.parent tag (items-no-attribute c.parent tag e)) ∙ e in
    shape-child c at tag rest u q os later w HoldsItems (child-element tag (items-tag tag z)) e (λ h. inside) (λ h. absurd (false≢true (sym h ∙ ap is_items z)))

-- any other known item
shape-leaf : (c : Context) (at tag : ℕ) (rest : List ℕ) (u : Items) (k : Kind) → Unbroken c at tag rest → known c.parent tag ≡ some k → is_items (some k) ≡ false → Octets (tag ∷ rest)
    → Shape c.parent (stage_after tag) (after_first (tag ∷ rest)) u → Shape c.parent c.stage (tag ∷ rest) (item tag (in_at at (tag ∷ rest)) (first_body (tag ∷ rest)) end u)
unfolding is_child
shape-leaf c at tag rest u k q e l os later = go (attribute tag) refl (eqb tag 4) refl (eqb tag 1) refl
  where
    go : (a : Bool) → attribute tag ≡ a → (f : Bool) → eqb tag 4 ≡ f → (g : Bool) → eqb tag 1 ≡ g
        → Shape c.parent c.stage (tag ∷ rest) (item tag (in_at at (tag ∷ rest)) (first_body (tag ∷ rest)) end u)
    go true a f y g z = held_by (default_octets c.parent tag (first_body (tag ∷ rest))) refl
      where
        held_by : (d : Bool) → default_octets c.parent tag (first_body (tag ∷ rest)) ≡ d → Shape c.parent c.stage (tag ∷ rest) (item tag (in_at at (tag ∷ rest)) (first_body (tag ∷ rest)) end u)
        held_by true d = shape-default c at tag rest u q os later k a e d
        held_by false d = shape-attribute c at tag rest u q os later k a e d
    go false a true y g z = shape-table c at tag rest u q os later y (known-anywhere c.parent tag a ∙ ap (known 0) (eqb-true tag 4 y) ∙ known-four)
    go false a false y true z =
        subst (λ n. Unbroken c at n rest → Octets (n ∷ rest) → Shape c.parent (stage_after n) (after_first (n ∷ rest)) u → Shape c.parent c.stage (n ∷ rest) (item n (in_at at (n ∷ rest)) (first_body (n ∷ rest)) end u))
        (sym (eqb-true tag 1 z)) (λ q os later. shape-cdata c at rest u q os later) q os later
    go false a false y false z =
        shape-child c at tag rest u q os later end k (rw (a, z, y)) e
        (λ h. absurd (false≢true (sym (ap is_items e ∙ l) ∙ items-opens c.parent tag ∙ h)))
        (λ h. (refl, element-kind tag k (sym (known-anywhere c.parent tag a) ∙ e)))

shape-cases : Cases Shaped
unfolding next within
shape-cases = record {
  at_end = λ c at q os. shape-end c.parent c.stage;
  at_unknown = λ c at tag rest u q e later os. shape-unknown c at tag rest u q os (later (later-octets (tag ∷ rest) os)) e;
  at_element = λ c at tag rest w u q e inside later os. shape-element c at tag rest w u q e os (inside (body-octets (tag ∷ rest) os)) (later (later-octets (tag ∷ rest) os));
  at_leaf = λ c at tag rest u k q e l later os. shape-leaf c at tag rest u k q e l os (later (later-octets (tag ∷ rest) os));
}

-- ---- whole objects

-- the top has no brothers, so as the items of an element the object is its element alone
top-alone : (es : Entries) (tag from : ℕ) (body : List ℕ) (w : Items) → ElementTag tag → N es 0 0x7F (item tag from body w end) ≡ encode (means es (item tag from body w end))
unfolding find cdata_in maybe
top-alone es tag from body w g =
    bare es 0 0x7F (item tag from body w end) (λ b a. find-other b tag from body w end (λ z. false≢true (sym g.not_attribute ∙ ap attribute (sym z) ∙ a)))
    ∙ ap (λ y. encode (means es (item tag from body w end)) ++ maybe (framed 1) y) (cdata-later es tag from body w end (eqb-false tag 1 g.not_cdata))
    ∙ append-nil (encode (means es (item tag from body w end)))

module _ (o : List ℕ) (t : Items) (os : Octets o) (h : judge o ≡ accepted t) where
  shape : Shape 0 0 o t
  unfolding outermost
  shape = judged-all Shaped shape-cases o t h os

  alone : (es : Entries) → N es 0 0x7F t ≡ encode (means es t)
  unfolding outermost
  alone es =
      let w = top o t os h in
      subst (λ x. N es 0 0x7F x ≡ encode (means es x)) (sym w.is) (top-alone es w.tag w.from w.body w.inside (items-tag w.tag (top-known w.tag w.held.allow)))

  -- an accepted object passes the test exactly when it is its own normal form
  pub shaped-exactly : shaped 0 0x7F o ≡ true ↔ normal_of t ≡ o
  shaped-exactly = (
    (λ e. ap (λ es. encode (means es t)) (shape.tableless 0x7F e) ∙ sym (shape.forth 0x7F (omega arith) (omega arith) e ∙ alone [])),
    (λ e. shape.back (table_of t) 0x7F (omega arith) (omega arith) (omega (arith, (accepted-size o t h).1)) (sym e ∙ sym (alone (table_of t)))),
  )
