-- Octets that the grammar takes are accepted, with the tree that it gives.
use mathlib.Core.Path.{◌≡◌, refl, sym, ap, ◌∙◌, subst}
use mathlib.Core.Bool.{Bool, true, false, cond, not, ◌&&◌, ◌||◌, false≢true, and-false, or-true}
use mathlib.Core.Option.{Option, none, some, some-ne-none}
use mathlib.Core.List.{List, [], ◌∷◌}
use Prim.Native.Nat.{ℕ, suc, ◌+◌, ◌≤◌}
use native.Mathlib.Omega.{arith}
use native.Mathlib.Nat.{zero-add}
use lib.Dec.{eqb, leb}
use lib.ListN.{length}
use borrow.Author.Tests.{le-leb, eqb-true}
use Rattle.octets.specs.Numbers.{among}
use Rattle.octets.proofs.Tests.{or_elim, or_left, cond_same}
use Rattle.text.specs.Text.{text}
use Rattle.text.specs.Tokens.{Entries, entries, is_table, covered, shown_length}
use Rattle.values.specs.declared.Kind.{Kind}
use Rattle.values.specs.declared.Kind.TheVariants.{HoldsItems, HoldsTokens, HoldsText, HoldsPlain, HoldsTime, HoldsBearer, HoldsNumber}
use Rattle.values.specs.Table.{known, attribute}
use Rattle.values.specs.Values.{fits}
use Rattle.values.proofs.Values.{value_kind}
use Rattle.values.proofs.Known.{attribute-kind, known-anywhere, known-cdata, known-four, known-six, items-tag, not-zero}
use Rattle.format.specs.Tree.{Items, find}
use Rattle.format.specs.Tree.Items.{end, item}
use Rattle.format.specs.Judge.{Judged, is_known, is_items, is_tokens, is_text, is_value, Context, read, is_top, allowed, latest, stage_after, limit, not_above, shown, of_top, late, late_before, late_after, within, waits, next, unless, by_kind, joined, followed, outermost, judge}
use Rattle.format.specs.Judge.Judged.{accepted}
use Rattle.format.proofs.Rules.{KindHeld, Held, Fitting, unbroken, same-tree}
use Rattle.format.proofs.Place.{shown-other, attribute-other, allowed-attribute, allowed-cdata}
use Rattle.format.proofs.Fuel.{read-end, read-item, judge-read}
use Rattle.format.proofs.Late.{late-append}
use Rattle.format.proofs.Means.{value-no-items, find_first}
use Rattle.grammar.specs.Grammar.{Begins, TextIn, ValueIn, Part, Child, Inside, Accepts}
use Rattle.grammar.specs.Grammar.Part.{attributes, table, language, elements, cdata, nothing}
use Rattle.grammar.specs.Grammar.Inside.{known_attribute, unknown_attribute, attributes_of_top, attributes_of_other, some_table, no_table, some_language, no_language, held_element, plain_element, unknown_element, no_element, some_cdata, no_cdata, filled}
use Rattle.grammar.proofs.Headers.{Begun, begun}
use Rattle.grammar.proofs.Tags.{ChildTag, child-tag, allowed-child, allowed-top, Once, top-items}

-- a part that begins with an item whose rules hold is read as that item, its inside and what comes after it
abbrev ItemGives : Context → (at tag start : ℕ) → List ℕ → List ℕ → Judged
ItemGives c at tag start body rest =
    by_kind (known c.parent tag) (item tag (at + start) body) (read (within c tag) (at + start) body) (read (next c at tag body) (at + start + length body) rest)

fitting-begun : (c : Context) (tag start : ℕ) (body rest behind : List ℕ) → Begun tag body rest behind start → not (eqb c.parent 0) || eqb (length rest) 0 ≡ true
    → Fitting c start (length body) (suc (length behind))
fitting-begun c tag start body rest behind g l = record {
  header = omega (arith, g.room);
  body = omega (arith, g.room);
  alone = or_elim (not (eqb c.parent 0)) (eqb (length rest) 0) (λ q. or_left (not (eqb c.parent 0)) (leb (suc (length behind)) (start + length body)) q)
      (λ q. rw (le-leb (suc (length behind)) (start + length body) (omega (arith, g.room, eqb-true (length rest) 0 q))) (or-true (not (eqb c.parent 0)))) l;
}

read_behind : (c : Context) (at tag start : ℕ) (body rest behind : List ℕ) → Begun tag body rest behind start → Held c tag body → not (eqb c.parent 0) || eqb (length rest) 0 ≡ true
    → read c at (tag ∷ behind) ≡ ItemGives c at tag start body rest
unfolding unless
read_behind c at tag start body rest behind g k l =
    read-item c at tag behind start (length body) body rest g.header g.size g.inside g.after
    ∙ rw (unbroken c at tag start (length body) (suc (length behind)) body k (fitting-begun c tag start body rest behind g l))

read-begun : (c : Context) (at tag start : ℕ) (body rest o : List ℕ) → Begins tag body rest o start → Held c tag body → not (eqb c.parent 0) || eqb (length rest) 0 ≡ true
    → read c at o ≡ ItemGives c at tag start body rest
read-begun c at tag start body rest o b k l =
    let g = begun tag start body rest o b in
    subst (λ p. read c at p ≡ ItemGives c at tag start body rest) (sym g.1) (read_behind c at tag start body rest g.0 g.2 k l)

-- the same by what is known of the item
pub reads-element : (c : Context) (at tag start : ℕ) (body rest o : List ℕ) (s u : Items) → Begins tag body rest o start → Held c tag body → not (eqb c.parent 0) || eqb (length rest) 0 ≡ true
    → known c.parent tag ≡ some HoldsItems → read (within c tag) (at + start) body ≡ accepted s → read (next c at tag body) (at + start + length body) rest ≡ accepted u
    → read c at o ≡ accepted (item tag (at + start) body s u)
unfolding by_kind joined followed is_items
reads-element c at tag start body rest o s u b k l e x y = read-begun c at tag start body rest o b k l ∙ rw (e, x, y)

reads-leaf : (c : Context) (at tag start : ℕ) (body rest o : List ℕ) (kd : Kind) (u : Items) → Begins tag body rest o start → Held c tag body → eqb c.parent 0 ≡ false
    → known c.parent tag ≡ some kd → is_items (some kd) ≡ false → read (next c at tag body) (at + start + length body) rest ≡ accepted u
    → read c at o ≡ accepted (item tag (at + start) body end u)
unfolding by_kind followed is_known
reads-leaf c at tag start body rest o kd u b k z e l y = read-begun c at tag start body rest o b k (rw z) ∙ rw (e, l, y)

reads-unknown : (c : Context) (at tag start : ℕ) (body rest o : List ℕ) (u : Items) → Begins tag body rest o start → Held c tag body → eqb c.parent 0 ≡ false
    → known c.parent tag ≡ none → read (next c at tag body) (at + start + length body) rest ≡ accepted u → read c at o ≡ accepted u
unfolding by_kind is_items is_known
reads-unknown c at tag start body rest o u b k z e y = read-begun c at tag start body rest o b k (rw z) ∙ rw (e, y)

-- the last stage of an element at which a part may begin
abbrev stage_of : Part → ℕ
stage_of attributes = 0
stage_of table = 0
stage_of language = 1
stage_of elements = 2
stage_of cdata = 2
stage_of nothing = 3

-- only a top has the part
abbrev only_top : Part → Bool
only_top attributes = false
only_top table = true
only_top language = true
only_top elements = false
only_top cdata = false
only_top nothing = false

-- the token table may still come
abbrev opens : Part → Bool → Bool
opens attributes top = top
opens table top = true
opens language top = false
opens elements top = false
opens cdata top = false
opens nothing top = false

-- before the table: there is none yet, and it will have an entry for each token octet that waits
record Opened (T : Entries) (c : Context) : Type 0 where
  empty : c.table ≡ []
  quiet : late T c.waiting ≡ none

-- from then on: the table is the object's, and nothing waits in vain
record Closed (T : Entries) (c : Context) : Type 0 where
  same : c.table ≡ T
  quiet : late [] c.waiting ≡ none

-- a context in which a part may begin
record Fits (T : Entries) (p : Part) (c : Context) : Type 0 where
  inner : eqb c.parent 0 ≡ false
  shallow : is_top c.parent ≡ true → c.depth ≤ 16
  order : c.stage ≤ stage_of p
  direct : only_top p ≡ true → is_top c.parent ≡ true
  opened : opens p (is_top c.parent) ≡ true → Opened T c
  closed : opens p (is_top c.parent) ≡ false → Closed T c

-- rule 8 matters only among attributes
abbrev OnceIn : Part → Context → Items → Type 0
OnceIn attributes c t = Once c t
OnceIn table c t = Unit {0}
OnceIn language c t = Unit {0}
OnceIn elements c t = Unit {0}
OnceIn cdata c t = Unit {0}
OnceIn nothing c t = Unit {0}

-- what is shown of octets that the grammar takes: they are read in every such context
record Reads (T : Entries) (p : Part) (e d at : ℕ) (o : List ℕ) (t : Items) : Type 0 where
  run : (c : Context) → c.parent ≡ e → c.depth ≡ d → Fits T p c → OnceIn p c t → read c at o ≡ accepted t

-- attributes: the rules of a kind that is not text
kind-other : (c : Context) (tag : ℕ) (body : List ℕ) (k : Option Kind) → is_value k body ≡ true → is_text k ≡ false → is_tokens k ≡ false → KindHeld c tag body k
kind-other c tag body k v t s = record { value = v; valid = rw t; table = rw s; covers = rw t; short = rw t }

kind-text : (c : Context) (tag : ℕ) (body : List ℕ) → text true body ≡ true → of_top c tag || covered c.table body ≡ true → shown c.parent tag (shown_length c.table body) ≡ true
    → KindHeld c tag body (some HoldsText)
unfolding is_value fits is_text is_tokens
kind-text c tag body v w s = record { value = refl; valid = v; table = refl; covers = w; short = s }

kind-attribute : (T : Entries) (c : Context) (tag : ℕ) (body : List ℕ) (k : Kind) → value_kind k ≡ true → eqb tag 1 ≡ false → ValueIn T k body
    → (covered T body ≡ true → of_top c tag || covered c.table body ≡ true) → KindHeld c tag body (some k)
unfolding is_value is_text is_tokens
kind-attribute T c tag body HoldsItems v o h w = absurd (false≢true v)
kind-attribute T c tag body HoldsTokens v o h w = absurd (false≢true v)
kind-attribute T c tag body HoldsText v o h w =
    kind-text c tag body (h.words refl).valid (w (h.words refl).covers) (shown-other c.parent tag (shown_length c.table body) o)
kind-attribute T c tag body HoldsPlain v o h w = kind-other c tag body (some HoldsPlain) h.value refl refl
kind-attribute T c tag body HoldsTime v o h w = kind-other c tag body (some HoldsTime) h.value refl refl
kind-attribute T c tag body HoldsBearer v o h w = kind-other c tag body (some HoldsBearer) h.value refl refl
kind-attribute T c tag body (HoldsNumber n) v o h w = kind-other c tag body (some (HoldsNumber n)) h.value refl refl

held-attribute : (T : Entries) (c : Context) (tag : ℕ) (body : List ℕ) → Fits T attributes c → attribute tag ≡ true → not (is_known (known c.parent tag) && among tag c.seen) ≡ true
    → KindHeld c tag body (known c.parent tag) → Held c tag body
unfolding late_before late_after latest
held-attribute T c tag body f a o k = record {
  before = rw a;
  allow = allowed-attribute c.parent tag f.inner a;
  rules = record { order = rw a (le-leb c.stage 0 f.order); deep = rw a; once = rw a o; kind = k };
  later = rw (attribute-other tag 4 a (omega arith));
}

-- after an attribute
fits-attribute : (T : Entries) (c : Context) (at tag : ℕ) (body : List ℕ) → Fits T attributes c → attribute tag ≡ true
    → (late T c.waiting ≡ none → late T (waits (known c.parent tag) c.waiting at body) ≡ none) → Fits T attributes (next c at tag body)
unfolding next of_top stage_after late
fits-attribute T c at tag body f a w =
    let four : eqb tag 4 ≡ false = attribute-other tag 4 a (omega arith) in
    record {
      inner = f.inner;
      shallow = f.shallow;
      order = rw a (omega arith);
      direct = f.direct;
      opened = λ t. record { empty = rw four (f.opened t).empty; quiet = rw (a, t) (w (f.opened t).quiet) };
      closed = λ t. record { same = rw four (f.closed t).same; quiet = rw (a, t) };
    }

waits-text : (T ws : Entries) (at : ℕ) (body : List ℕ) (k : Kind) → ValueIn T k body → late T ws ≡ none → late T (waits (some k) ws at body) ≡ none
unfolding waits is_text
waits-text T ws at body HoldsItems v q = q
waits-text T ws at body HoldsTokens v q = q
waits-text T ws at body HoldsText v q = late-append T at body ws q (v.words refl).covers
waits-text T ws at body HoldsPlain v q = q
waits-text T ws at body HoldsTime v q = q
waits-text T ws at body HoldsBearer v q = q
waits-text T ws at body (HoldsNumber n) v q = q

-- of items one of which has a tag, the later ones have another
find-after : (a tag at : ℕ) (body : List ℕ) (s u : Items) → find a (item tag at body s u) ≡ none → find a u ≡ none
unfolding find
find-after a tag at body s u = go (eqb a tag)
  where
    go : (b : Bool) → cond b (some body) (find a u) ≡ none → find a u ≡ none
    go true q = absurd (some-ne-none body q)
    go false q = q

once-here : (c : Context) (at tag : ℕ) (body : List ℕ) (u : Items) → Once c (item tag at body end u) → attribute tag ≡ true → is_known (known c.parent tag) ≡ true
    → among tag c.seen ≡ false
once-here c at tag body u o a k = go (among tag c.seen) refl
  where
    go : (b : Bool) → among tag c.seen ≡ b → b ≡ false
    go true q = absurd (some-ne-none body (sym (find_first tag at body end u) ∙ o tag a k q))
    go false q = refl

once_after : (c : Context) (at from tag : ℕ) (body : List ℕ) (u : Items) → Once c (item tag from body end u) → find tag u ≡ none → Once (next c at tag body) u
unfolding next among
once_after c at from tag body u o f a x y z =
    or_elim (eqb a tag) (among a c.seen) (λ q. rw (eqb-true a tag q) f) (λ q. find-after a tag from body end u (o a x y q)) z

once-unknown : (c : Context) (at tag : ℕ) (body : List ℕ) (u : Items) → Once c u → known c.parent tag ≡ none → Once (next c at tag body) u
unfolding next among is_known
once-unknown c at tag body u o e a x y z =
    or_elim (eqb a tag) (among a c.seen) (λ q. absurd (false≢true (sym (ap is_known e) ∙ (ap (λ n. is_known (known c.parent n)) (sym (eqb-true a tag q)) ∙ y)))) (o a x y) z

-- a text attribute is covered by the table that is read already, or will be held against the one to come
covered-attribute : (T : Entries) (c : Context) (tag : ℕ) (body : List ℕ) → Fits T attributes c → attribute tag ≡ true → covered T body ≡ true → of_top c tag || covered c.table body ≡ true
unfolding of_top
covered-attribute T c tag body f a h = go (is_top c.parent) refl
  where
    go : (t : Bool) → is_top c.parent ≡ t → attribute tag && t || covered c.table body ≡ true
    go true t = rw a
    go false t = rw a (subst (λ X. covered X body ≡ true) (sym (f.closed t).same) h)

known_step : (T : Entries) (c : Context) (at start tag : ℕ) (body rest o : List ℕ) (k : Kind) (u : Items) → Begins tag body rest o start → attribute tag ≡ true
    → known c.parent tag ≡ some k → ValueIn T k body → find tag u ≡ none → Fits T attributes c → Once c (item tag (at + start) body end u)
    → (Fits T attributes (next c at tag body) → Once (next c at tag body) u → read (next c at tag body) (at + start + length body) rest ≡ accepted u)
    → read c at o ≡ accepted (item tag (at + start) body end u)
unfolding is_known
known_step T c at start tag body rest o k u b a e v n f s r =
    let vk = attribute-kind c.parent tag k a e in
    let fresh : among tag c.seen ≡ false = once-here c (at + start) tag body u s a (ap is_known e) in
    let kind : KindHeld c tag body (known c.parent tag) = rw e (kind-attribute T c tag body k vk (attribute-other tag 1 a (omega arith)) v (covered-attribute T c tag body f a)) in
    let held = held-attribute T c tag body f a (rw (fresh, and-false (is_known (known c.parent tag)))) kind in
    reads-leaf c at tag start body rest o k u b held f.inner e (value-no-items k vk)
    (r (fits-attribute T c at tag body f a (rw e (waits-text T c.waiting at body k v))) (once_after c at (at + start) tag body u s n))

unknown-step : (T : Entries) (c : Context) (at start tag : ℕ) (body rest o : List ℕ) (u : Items) → Begins tag body rest o start → attribute tag ≡ true
    → known c.parent tag ≡ none → Fits T attributes c → Once c u
    → (Fits T attributes (next c at tag body) → Once (next c at tag body) u → read (next c at tag body) (at + start + length body) rest ≡ accepted u)
    → read c at o ≡ accepted u
unfolding is_known is_value is_text is_tokens waits
unknown-step T c at start tag body rest o u b a e f s r =
    let kind : KindHeld c tag body (known c.parent tag) = rw e (kind-other c tag body none refl refl refl) in
    let held = held-attribute T c tag body f a (rw e) kind in
    reads-unknown c at tag start body rest o u b held f.inner e (r (fits-attribute T c at tag body f a (rw e (λ q. q))) (once-unknown c at tag body u s e))

-- a part that may begin where an earlier one may
later-fits : (T : Entries) (p q : Part) (c : Context) → Fits T p c → opens p (is_top c.parent) ≡ false → stage_of p ≤ stage_of q → only_top q ≡ false → opens q (is_top c.parent) ≡ false
    → Fits T q c
later-fits T p q c f x l y z = record {
  inner = f.inner;
  shallow = f.shallow;
  order = omega (arith, f.order);
  direct = λ h. absurd (false≢true (sym y ∙ h));
  opened = λ h. absurd (false≢true (sym z ∙ h));
  closed = λ h. f.closed x;
}

-- a part that may begin after an item that is no attribute and no table
next_fits : (T : Entries) (q : Part) (c : Context) (at tag : ℕ) (body : List ℕ) → eqb c.parent 0 ≡ false → (is_top c.parent ≡ true → c.depth ≤ 16) → Closed T c
    → attribute tag ≡ false → eqb tag 4 ≡ false → stage_after tag ≤ stage_of q → only_top q ≡ false → opens q (is_top c.parent) ≡ false → Fits T q (next c at tag body)
unfolding next of_top late
next_fits T q c at tag body i s k a t l y z = record {
  inner = i;
  shallow = s;
  order = l;
  direct = λ h. absurd (false≢true (sym y ∙ h));
  opened = λ h. absurd (false≢true (sym z ∙ h));
  closed = λ h. record { same = rw t k.same; quiet = rw a };
}

-- the rules of an item that is no attribute and no table
quiet-before : (c : Context) (tag : ℕ) → late [] c.waiting ≡ none → late_before c tag ≡ none
unfolding late_before
quiet-before c tag q = rw q (cond_same (attribute tag || eqb tag 4) none)

held-later : (c : Context) (tag : ℕ) (body : List ℕ) → late [] c.waiting ≡ none → allowed c.parent tag ≡ true → leb c.stage (latest tag) ≡ true → attribute tag ≡ false → eqb tag 4 ≡ false
    → eqb tag 1 || leb c.depth 16 ≡ true → KindHeld c tag body (known c.parent tag) → Held c tag body
unfolding late_after
held-later c tag body q w o a t d k = record {
  before = quiet-before c tag q;
  allow = w;
  rules = record { order = o; deep = rw a d; once = rw a; kind = k };
  later = rw t;
}

table_step : (T : Entries) (c : Context) (at start : ℕ) (body rest o : List ℕ) (u : Items) → Begins 4 body rest o start → is_table body ≡ true → entries body ≡ T → Fits T table c
    → (Fits T language (next c at 4 body) → read (next c at 4 body) (at + start + length body) rest ≡ accepted u) → read c at o ≡ accepted (item 4 (at + start) body end u)
unfolding attribute late_before late_after latest is_top is_value fits is_text is_tokens is_items next of_top stage_after late
table_step T c at start body rest o u b i e f r =
    let top : is_top c.parent ≡ true = f.direct refl in
    let four : known c.parent 4 ≡ some HoldsTokens = known-anywhere c.parent 4 refl ∙ known-four in
    let kind : KindHeld c 4 body (known c.parent 4) = rw four (record { value = refl; valid = refl; table = i; covers = refl; short = refl }) in
    let held : Held c 4 body =
    record {
      before = refl;
      allow = allowed-top c.parent 4 f.inner top refl;
      rules = record { order = le-leb c.stage 0 f.order; deep = le-leb c.depth 16 (f.shallow top); once = refl; kind = kind };
      later = subst (λ X. late X c.waiting ≡ none) (sym e) (f.opened refl).quiet;
    }
    in
    reads-leaf c at 4 start body rest o HoldsTokens u b held f.inner four refl
    (r (record {
      inner = f.inner;
      shallow = f.shallow;
      order = omega arith;
      direct = λ h. top;
      opened = λ h. absurd (false≢true h);
      closed = λ h. record { same = e; quiet = refl };
    }))

no-table-fits : (T : Entries) (c : Context) → T ≡ [] → Fits T table c → Fits T language c
no-table-fits T c e f = record {
  inner = f.inner;
  shallow = f.shallow;
  order = omega (arith, f.order);
  direct = f.direct;
  opened = λ h. absurd (false≢true h);
  closed = λ h. record { same = (f.opened refl).empty ∙ sym e; quiet = subst (λ X. late X c.waiting ≡ none) e (f.opened refl).quiet };
}

-- a text that is no attribute: the language, or CDATA
covered-closed : (T : Entries) (c : Context) (tag : ℕ) (body : List ℕ) → Closed T c → covered T body ≡ true → of_top c tag || covered c.table body ≡ true
covered-closed T c tag body k h = rw (subst (λ X. covered X body ≡ true) (sym k.same) h) (or-true (of_top c tag))

language-step : (T : Entries) (c : Context) (at start : ℕ) (body rest o : List ℕ) (u : Items) → Begins 6 body rest o start → TextIn T body → Fits T language c
    → (Fits T elements (next c at 6 body) → read (next c at 6 body) (at + start + length body) rest ≡ accepted u) → read c at o ≡ accepted (item 6 (at + start) body end u)
unfolding attribute latest is_top is_items stage_after
language-step T c at start body rest o u b x f r =
    let top : is_top c.parent ≡ true = f.direct refl in
    let k : Closed T c = f.closed refl in
    let six : known c.parent 6 ≡ some HoldsText = known-anywhere c.parent 6 refl ∙ known-six in
    let kind : KindHeld c 6 body (known c.parent 6) = rw six (kind-text c 6 body x.valid (covered-closed T c 6 body k x.covers) (shown-other c.parent 6 (shown_length c.table body) refl)) in
    let held = held-later c 6 body k.quiet (allowed-top c.parent 6 f.inner top refl) (le-leb c.stage 1 f.order) refl refl (le-leb c.depth 16 (f.shallow top)) kind in
    reads-leaf c at 6 start body rest o HoldsText u b held f.inner six refl (r (next_fits T elements c at 6 body f.inner f.shallow k refl refl (omega arith) refl refl))

cdata-step : (T : Entries) (c : Context) (at start : ℕ) (body rest o : List ℕ) (u : Items) → Begins 1 body rest o start → TextIn T body → not_above (shown_length T body) (limit c.parent) ≡ true
    → Fits T cdata c → (Fits T nothing (next c at 1 body) → read (next c at 1 body) (at + start + length body) rest ≡ accepted u) → read c at o ≡ accepted (item 1 (at + start) body end u)
unfolding attribute latest is_items stage_after shown
cdata-step T c at start body rest o u b x n f r =
    let k : Closed T c = f.closed refl in
    let one = known-cdata c.parent in
    let kind : KindHeld c 1 body (known c.parent 1) =
    rw one (kind-text c 1 body x.valid (covered-closed T c 1 body k x.covers) (subst (λ X. not_above (shown_length X body) (limit c.parent) ≡ true) (sym k.same) n))
    in
    let held = held-later c 1 body k.quiet (allowed-cdata c.parent f.inner) (le-leb c.stage 2 f.order) refl refl refl kind in
    reads-leaf c at 1 start body rest o HoldsText u b held f.inner one refl (r (next_fits T nothing c at 1 body f.inner f.shallow k refl refl (omega arith) refl refl))

-- an element that may stand in any other
held-child : (T : Entries) (c : Context) (tag : ℕ) (body : List ℕ) (k : Option Kind) → Child tag → ChildTag tag → c.depth ≤ 16 → known c.parent tag ≡ k → is_value k body ≡ true → is_text k ≡ false
    → is_tokens k ≡ false → Fits T elements c → Held c tag body
unfolding latest
held-child T c tag body k i t d e v x y f =
    let kind : KindHeld c tag body (known c.parent tag) = rw e (kind-other c tag body k v x y) in
    held-later c tag body (f.closed refl).quiet (allowed-child c.parent tag f.inner i.not_null i.not_top t) (rw (i.element, t.not_table, t.not_language) (le-leb c.stage 2 f.order))
    i.element t.not_table (rw t.not_cdata (le-leb c.depth 16 d)) kind

child_fits : (T : Entries) (c : Context) (at tag : ℕ) (body : List ℕ) → Child tag → ChildTag tag → Fits T elements c → Fits T elements (next c at tag body)
unfolding stage_after
child_fits T c at tag body i t f =
    next_fits T elements c at tag body f.inner f.shallow (f.closed refl) i.element t.not_table (rw (i.element, t.not_table, t.not_cdata) (omega arith)) refl refl

within-fits : (T : Entries) (c : Context) (tag : ℕ) → Child tag → Fits T elements c → Fits T attributes (within c tag)
unfolding within late
within-fits T c tag i f = record {
  inner = i.not_null;
  shallow = λ h. absurd (false≢true (sym i.not_top ∙ h));
  order = omega arith;
  direct = λ h. absurd (false≢true h);
  opened = λ h. absurd (false≢true (sym i.not_top ∙ h));
  closed = λ h. record { same = (f.closed refl).same; quiet = refl };
}

once-within : (c : Context) (tag : ℕ) (s : Items) → Once (within c tag) s
unfolding within among
once-within c tag s a x y z = absurd (false≢true z)

read-nothing : (T : Entries) (c : Context) (at : ℕ) → Fits T nothing c → read c at [] ≡ accepted end
unfolding unless
read-nothing T c at f = read-end c at ∙ rw (f.closed refl).quiet

-- the same in the words of the grammar, constructor by constructor
module _ {T : Entries} {e d at : ℕ} {o : List ℕ} where
  by-known : {start tag : ℕ} {body rest : List ℕ} {k : Kind} {u : Items} → Begins tag body rest o start → attribute tag ≡ true → known e tag ≡ some k → ValueIn T k body → find tag u ≡ none
      → Reads T attributes e d (at + start + length body) rest u → Reads T attributes e d at o (item tag (at + start) body end u)
  unfolding next
  by-known {start} {tag} {body} {rest} {k} {u} b a x v n r = record {
    run = λ c p q f s. known_step T c at start tag body rest o k u b a (ap (λ m. known m tag) p ∙ x) v n f s (r.run (next c at tag body) p q);
  }

  by-unknown : {start tag : ℕ} {body rest : List ℕ} {u : Items} → Begins tag body rest o start → attribute tag ≡ true → known e tag ≡ none
      → Reads T attributes e d (at + start + length body) rest u → Reads T attributes e d at o u
  unfolding next
  by-unknown {start} {tag} {body} {rest} {u} b a x r = record {
    run = λ c p q f s. unknown-step T c at start tag body rest o u b a (ap (λ m. known m tag) p ∙ x) f s (r.run (next c at tag body) p q);
  }

  by-top : {u : Items} → is_top e ≡ true → Reads T table e d at o u → Reads T attributes e d at o u
  by-top t r = record {
    run = λ c p q f s.
        let top : is_top c.parent ≡ true = ap is_top p ∙ t in
        r.run c p q
        (record { inner = f.inner; shallow = f.shallow; order = f.order; direct = λ h. top; opened = λ h. f.opened top; closed = λ h. absurd (false≢true (sym h)) }) tt;
  }

  by-other : {u : Items} → is_top e ≡ false → Reads T elements e d at o u → Reads T attributes e d at o u
  by-other t r = record { run = λ c p q f s. r.run c p q (later-fits T attributes elements c f (ap is_top p ∙ t) (omega arith) refl refl) tt }

  by-table : {start : ℕ} {body rest : List ℕ} {u : Items} → Begins 4 body rest o start → is_table body ≡ true → entries body ≡ T
      → Reads T language e d (at + start + length body) rest u → Reads T table e d at o (item 4 (at + start) body end u)
  unfolding next
  by-table {start} {body} {rest} {u} b i x r = record { run = λ c p q f s. table_step T c at start body rest o u b i x f (λ g. r.run (next c at 4 body) p q g tt) }

  by-no-table : {u : Items} → T ≡ [] → Reads T language e d at o u → Reads T table e d at o u
  by-no-table x r = record { run = λ c p q f s. r.run c p q (no-table-fits T c x f) tt }

  by-language : {start : ℕ} {body rest : List ℕ} {u : Items} → Begins 6 body rest o start → TextIn T body
      → Reads T elements e d (at + start + length body) rest u → Reads T language e d at o (item 6 (at + start) body end u)
  unfolding next
  by-language {start} {body} {rest} {u} b x r = record { run = λ c p q f s. language-step T c at start body rest o u b x f (λ g. r.run (next c at 6 body) p q g tt) }

  by-no-language : {u : Items} → Reads T elements e d at o u → Reads T language e d at o u
  by-no-language r = record { run = λ c p q f s. r.run c p q (later-fits T language elements c f refl (omega arith) refl refl) tt }

  by-held : {start tag : ℕ} {body rest : List ℕ} {s u : Items} → Begins tag body rest o start → Child tag → d ≤ 16 → known 0 tag ≡ some HoldsItems
      → Reads T attributes tag (suc d) (at + start) body s → Reads T elements e d (at + start + length body) rest u → Reads T elements e d at o (item tag (at + start) body s u)
  unfolding next within is_text is_tokens is_value fits
  by-held {start} {tag} {body} {rest} {s} {u} b i l x r' r =
      let t = child-tag tag (ap is_text x) (ap is_tokens x) in
      record {
        run = λ c p q f _.
            let y : known c.parent tag ≡ some HoldsItems = known-anywhere c.parent tag i.element ∙ x in
            let held = held-child T c tag body (some HoldsItems) i t (rw q l) y refl refl refl f in
            reads-element c at tag start body rest o s u b held (rw f.inner) y (r'.run (within c tag) refl (ap suc q) (within-fits T c tag i f) (once-within c tag s))
            (r.run (next c at tag body) p q (child_fits T c at tag body i t f) tt);
      }

  by-plain : {start tag : ℕ} {body rest : List ℕ} {u : Items} → Begins tag body rest o start → Child tag → d ≤ 16 → known 0 tag ≡ some HoldsPlain
      → Reads T elements e d (at + start + length body) rest u → Reads T elements e d at o (item tag (at + start) body end u)
  unfolding next is_text is_tokens is_value is_items fits
  by-plain {start} {tag} {body} {rest} {u} b i l x r =
      let t = child-tag tag (ap is_text x) (ap is_tokens x) in
      record {
        run = λ c p q f s.
            let y : known c.parent tag ≡ some HoldsPlain = known-anywhere c.parent tag i.element ∙ x in
            let held = held-child T c tag body (some HoldsPlain) i t (rw q l) y refl refl refl f in
            reads-leaf c at tag start body rest o HoldsPlain u b held f.inner y refl (r.run (next c at tag body) p q (child_fits T c at tag body i t f) tt);
      }

  by-unknown-element : {start tag : ℕ} {body rest : List ℕ} {u : Items} → Begins tag body rest o start → Child tag → d ≤ 16 → known 0 tag ≡ none
      → Reads T elements e d (at + start + length body) rest u → Reads T elements e d at o u
  unfolding next is_text is_tokens is_value
  by-unknown-element {start} {tag} {body} {rest} {u} b i l x r =
      let t = child-tag tag (ap is_text x) (ap is_tokens x) in
      record {
        run = λ c p q f s.
            let y : known c.parent tag ≡ none = known-anywhere c.parent tag i.element ∙ x in
            let held = held-child T c tag body none i t (rw q l) y refl refl refl f in
            reads-unknown c at tag start body rest o u b held f.inner y (r.run (next c at tag body) p q (child_fits T c at tag body i t f) tt);
      }

  by-no-element : {u : Items} → Reads T cdata e d at o u → Reads T elements e d at o u
  by-no-element r = record { run = λ c p q f s. r.run c p q (later-fits T elements cdata c f refl (omega arith) refl refl) tt }

  by-cdata : {start : ℕ} {body rest : List ℕ} {u : Items} → Begins 1 body rest o start → TextIn T body → not_above (shown_length T body) (limit e) ≡ true
      → Reads T nothing e d (at + start + length body) rest u → Reads T cdata e d at o (item 1 (at + start) body end u)
  unfolding next
  by-cdata {start} {body} {rest} {u} b x n r = record {
    run = λ c p q f s. cdata-step T c at start body rest o u b x (ap (λ m. not_above (shown_length T body) (limit m)) p ∙ n) f (λ g. r.run (next c at 1 body) p q g tt);
  }

  by-no-cdata : {u : Items} → Reads T nothing e d at o u → Reads T cdata e d at o u
  by-no-cdata r = record { run = λ c p q f s. r.run c p q (later-fits T cdata nothing c f refl (omega arith) refl refl) tt }

  by_end : {u : Items} → o ≡ [] → u ≡ end → Reads T nothing e d at o u
  by_end x y = record { run = λ c p q f s. rw (x, y) (read-nothing T c at f) }

-- octets that the grammar takes are read as it says
inside-reads : {T : Entries} {p : Part} {e d at : ℕ} {o : List ℕ} {t : Items} → Inside T p e d at o t → Reads T p e d at o t
inside-reads (known_attribute b a k v f i) = by-known b a k v f (inside-reads i)
inside-reads (unknown_attribute b a k i) = by-unknown b a k (inside-reads i)
inside-reads (attributes_of_top t i) = by-top t (inside-reads i)
inside-reads (attributes_of_other t i) = by-other t (inside-reads i)
inside-reads (some_table b x y i) = by-table b x y (inside-reads i)
inside-reads (no_table x i) = by-no-table x (inside-reads i)
inside-reads (some_language b x i) = by-language b x (inside-reads i)
inside-reads (no_language i) = by-no-language (inside-reads i)
inside-reads (held_element b c l k i j) = by-held b c l k (inside-reads i) (inside-reads j)
inside-reads (plain_element b c l k i) = by-plain b c l k (inside-reads i)
inside-reads (unknown_element b c l k i) = by-unknown-element b c l k (inside-reads i)
inside-reads (no_element i) = by-no-element (inside-reads i)
inside-reads (some_cdata b x l i) = by-cdata b x l (inside-reads i)
inside-reads (no_cdata i) = by-no-cdata (inside-reads i)
inside-reads (filled x y) = by_end x y

held-top : (tag : ℕ) (body : List ℕ) → is_top tag ≡ true → Held outermost tag body
unfolding outermost late allowed is_value fits is_text is_tokens
held-top tag body t =
    let k = top-items tag t in
    let x = items-tag tag k in
    held-later outermost tag body refl t (le-leb 0 (latest tag) (omega arith)) x.not_attribute x.not_table (or-true (eqb tag 1))
    (rw k (kind-other outermost tag body (some HoldsItems) refl refl refl))

top-fits : (T : Entries) (tag : ℕ) → is_top tag ≡ true → Fits T attributes (within outermost tag)
unfolding within outermost late
top-fits T tag t = record {
  inner = not-zero tag HoldsItems (top-items tag t);
  shallow = λ h. omega arith;
  order = omega arith;
  direct = λ h. absurd (false≢true h);
  opened = λ h. record { empty = refl; quiet = refl };
  closed = λ h. absurd (false≢true (sym h ∙ t));
}

after-top : (tag at from : ℕ) (body : List ℕ) → is_top tag ≡ true → read (next outermost at tag body) from [] ≡ accepted end
unfolding next of_top late unless
after-top tag at from body t = read-end (next outermost at tag body) from ∙ rw (items-tag tag (top-items tag t)).not_attribute

top-reads : (o : List ℕ) (t : Items) (a : Accepts o t) → read outermost 0 o ≡ accepted (item a.tag (0 + a.start) a.body a.inside end)
unfolding outermost within
top-reads o t a =
    let i : read (within outermost a.tag) (0 + a.start) a.body ≡ accepted a.inside =
    rw (zero-add a.start) ((inside-reads a.holds).run (within outermost a.tag) refl refl (top-fits a.tokens a.tag a.top) (once-within outermost a.tag a.inside))
    in
    reads-element outermost 0 a.tag a.start a.body [] o a.inside end a.whole (held-top a.tag a.body a.top) refl (top-items a.tag a.top) i
    (after-top a.tag 0 (0 + a.start + length a.body) a.body a.top)

-- an object of the grammar is accepted with its tree
pub sound : (o : List ℕ) (t : Items) → Accepts o t → judge o ≡ accepted t
sound o t a =
    let g = begun a.tag a.start a.body [] o a.whole in
    let l : 1 ≤ length o = rw g.1 (omega arith) in
    judge-read o l a.small ∙ (top-reads o t a ∙ rw (zero-add a.start, a.tree))

-- octets are an object with one tree at most
pub one-tree : (o : List ℕ) (t u : Items) → Accepts o t → Accepts o u → t ≡ u
one-tree o t u a b = same-tree t u (sym (sound o t a) ∙ sound o u b)
