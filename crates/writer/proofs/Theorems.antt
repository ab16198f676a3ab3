-- What `write` promises of objects: what it writes is accepted and means what its records mean, and the records of an accepted object are written to that
-- object's normal form. Each theorem takes the claim of the call (`WriteClaim`) and speaks of its answer and its room.
use Rattle.std.specs.Prelude.{Result, Ok, Err}
use mathlib.Core.Path.{◌≡◌, refl, sym, ap, ap₂, ◌∙◌, subst, fun_ext}
use mathlib.Core.Bool.{Bool, true, false, cond, not, ◌&&◌, ◌||◌, false≢true}
use mathlib.Core.Option.{Option, none, some, map}
use mathlib.Core.List.{List, []}
use Prim.Native.Nat.{ℕ, ◌≤◌, ◌<◌, min}
use native.Mathlib.Omega.{arith}
use native.Mathlib.Nat.{min-le_left, min-le_right}
use lib.Dec.{eqb, leb}
use lib.ListN.{length, take, drop}
use lib.Seq.{sets}
use borrow.Author.Tests.{leb-true, le-leb, eqb-false, ne_eqb, not-true}
use Rattle.octets.specs.declared.counts.Octets.{Octets as OctetCount}
use Rattle.octets.specs.Counts.{size_of}
use Rattle.octets.specs.Numbers.{Octets as AllOctets}
use Rattle.octets.proofs.Tests.{and_left, and_right, and-true, chosen, never}
use Rattle.octets.proofs.Lists.{part-of-sets, drop-sets}
use Rattle.text.specs.Text.{text}
use Rattle.text.specs.Tokens.{Entries, expanded, covered, shown_length}
use Rattle.text.proofs.Words.{expanded-empty, plain-text-covered}
use Rattle.text.proofs.Expansion.{text-plain}
use Rattle.text.proofs.Laws.{bare-expanded}
use Rattle.values.specs.declared.Kind.{Kind}
use Rattle.values.specs.declared.Kind.TheVariants.{HoldsItems, HoldsTokens, HoldsText, HoldsPlain, HoldsTime, HoldsBearer, HoldsNumber}
use Rattle.values.specs.Table.{known, attribute}
use Rattle.values.specs.Values.{meant}
use Rattle.values.specs.Values.Value.{octets}
use Rattle.values.proofs.Known.{known-anywhere, known-cdata, element-kind, attribute-kind, items-tag}
use Rattle.format.specs.Answers.{refusal}
use Rattle.format.specs.Tree.{Items, find, count, records_of}
use Rattle.format.specs.Tree.Items.{end, item}
use Rattle.format.specs.Judge.{is_tokens, is_text, shown, outermost, judge}
use Rattle.format.specs.Judge.Judged.{accepted}
use Rattle.format.specs.Meaning.{value_in, counted, attributes_in, cdata_in, leaf_octets, means, table_in, table_of, meaning_of, meaning, encode, normal_of}
use Rattle.format.specs.Meaning.Meaning.{leaf}
use Rattle.format.specs.Writer.{Spot, below, past, at_top, body_keeps, keeps, ruled, tabled}
use Rattle.format.specs.Calls.{Lists, row, places, roomy, tree_given, write_answer, write_octets}
use Rattle.format.specs.State.{Memory, body_sizes, tree_in}
use Rattle.format.proofs.Spans.{located, records-count}
use Rattle.format.proofs.Kept.{Kept, Ruled, ruled-parts, is-ruled, keeps-parts}
use Rattle.format.proofs.Tabled.{tabled-length}
use Rattle.format.proofs.Regrown.{untabled, shaped, regrows-all, regrown-means}
use Rattle.format.proofs.Rebuilt.{rebuilt-whole, whole-rebuilt}
use Rattle.format.proofs.Told.{Told, ItemTold, top, accepted-told}
use Rattle.format.proofs.Fine.{known_is}
use Rattle.format.proofs.Force.{top-known}
use Rattle.format.proofs.Means.{means-attribute, means-cdata, means-element, means-leaf}
use Rattle.format.proofs.Calls.{written-means}
use Rattle.format.specs.declared.Refusal.{Refusal}
use Rattle.state.specs.Taking.{write_sizes, WriteClaim}
use Rattle.writer.specs.Theorems.{tableless, Delivered}
use Rattle.survey.proofs.Ways.{Way, way}
use Rattle.survey.proofs.Ways.Way.{is_attribute, is_cdata, is_element, is_leaf}
use Rattle.writer.proofs.Finding.{found-kept}
use Rattle.writer.proofs.Whole.{given_both, rebuilt-reached}

-- ---- what the claim says of an answer
module _ (n : ℕ) (m : Memory) (bodies' before after : List ℕ) where
  pub record Fits (k : OctetCount) : Type 0 where
    pub tree : Items
    pub given : tree_given n m.lists m.store ≡ some tree
    pub size : k.0 ≡ length (encode (means [] tree))
    pub room : k.0 ≤ length before
    pub object : k.0 ≤ 32_768
    pub sizes : bodies' ≡ sets m.bodies 0 (body_sizes 0 tree)
    pub leaves : after ≡ sets before 0 (encode (means [] tree))

  pub claim-fits : (k : OctetCount) → WriteClaim n m bodies' before after (Ok k) → Fits k
  unfolding write_answer write_octets write_sizes roomy
  claim-fits k c = go (tree_in n m) refl c.answers c.sizes c.leaves
    where
      some-tree : (t : Items) → tree_in n m ≡ some t → (b : Bool) → leb (length (encode (means [] t))) (min (length before) 32_768) ≡ b
          → Ok k ≡ cond b (Ok (size_of (encode (means [] t)))) (Err (refusal 15 0)) → bodies' ≡ sets m.bodies 0 (cond b (body_sizes 0 t) [])
          → after ≡ sets before 0 (cond b (encode (means [] t)) []) → Fits k
      some-tree t e true q a z g =
          let s : k.0 ≡ length (encode (means [] t)) = cc in
          let l = leb-true (length (encode (means [] t))) (min (length before) 32_768) q in
          let w = chosen (leb n (length m.bodies)) (sym e) (λ y. never (cc)) in
          record {
            tree = t;
            given = sym w.1;
            size = s;
            room = omega (arith, min-le_left (length before) 32_768);
            object = omega (arith, min-le_right (length before) 32_768);
            sizes = z;
            leaves = g;
          }
      some-tree t e false q a z g = never (cc)

      go : (o : Option Items) → tree_in n m ≡ o → Ok k ≡ write_answer (size_of before) o → bodies' ≡ sets m.bodies 0 (write_sizes (size_of before) o)
          → after ≡ sets before 0 (write_octets (size_of before) o) → Fits k
      go none e a z g = never (cc)
      go (some t) e a z g = some-tree t e (leb (length (encode (means [] t))) (min (length before) 32_768)) refl a z g

  -- what is written is accepted, and means what the records mean
  pub delivered : AllOctets m.store → (k : OctetCount) → WriteClaim n m bodies' before after (Ok k) → Delivered n m bodies' before after k
  delivered os k c =
      let f = claim-fits k c in
      let o = encode (means [] f.tree) in
      let front : take k.0 after ≡ o =
      ap₂ (λ m x. take m x) f.size f.leaves ∙ part-of-sets before 0 o (omega (arith, f.size, f.room)) in
      let rebuilds = (given_both n m.lists m.store f.tree f.given).1 in
      record {
        tree = f.tree;
        given = f.given;
        sizes = f.sizes;
        octets = front;
        meant = ap meaning front ∙ written-means (row m.lists) n m.store f.tree os rebuilds (omega (arith, f.size, f.object));
        rest = ap (drop k.0) f.leaves ∙ drop-sets k.0 before 0 o (omega (arith, f.size));
      }

-- ---- under the writer's rules no text has token octets, so the token table doesn't matter
bare-words : (u : Spot) (tag : ℕ) (body : List ℕ) → Kept u tag body (some HoldsText) → (T : Entries) → expanded [] body ≡ expanded T body
unfolding is_text
bare-words u tag body k T =
    let c = plain-text-covered body (and_left (text false body) (shown u.parent tag (shown_length [] body)) k.words) in
    expanded-empty body ∙ sym (bare-expanded T body c)

bare-value : (u : Spot) (tag : ℕ) (body : List ℕ) (k : Kind) → Kept u tag body (some k) → (T : Entries) → meant [] k body ≡ meant T k body
unfolding meant
bare-value u tag body HoldsItems h T = refl
bare-value u tag body HoldsTokens h T = refl
bare-value u tag body HoldsText h T = ap octets (bare-words u tag body h T)
bare-value u tag body HoldsPlain h T = refl
bare-value u tag body HoldsTime h T = refl
bare-value u tag body HoldsBearer h T = refl
bare-value u tag body (HoldsNumber n) h T = refl

module _ (T : Entries) (t : Items) (s : Spot) (h : ruled s t ≡ true) where
  bare-attributes : attributes_in [] s.parent t ≡ attributes_in T s.parent t
  unfolding attributes_in value_in
  bare-attributes = fun_ext (λ a. ap (λ v. cond (attribute a) (counted s.parent a v) none) (go a (find a t) refl (known s.parent a) refl))
    where
      go : (a : ℕ) (o : Option (List ℕ)) → find a t ≡ o → (k : Option Kind) → known s.parent a ≡ k → value_in [] o k ≡ value_in T o k
      go a none f k e = refl
      go a (some body) f none e = refl
      go a (some body) f (some k) e = let w = found-kept t s a body h f in ap some (bare-value w.0 a body k (rw e at w.1) T)

  bare-cdata : cdata_in [] t ≡ cdata_in T t
  unfolding cdata_in
  bare-cdata = go (find 1 t) refl
    where
      go : (o : Option (List ℕ)) → find 1 t ≡ o → map (expanded []) o ≡ map (expanded T) o
      go none f = refl
      go (some body) f = let w = found-kept t s 1 body h f in ap some (bare-words w.0 1 body (rw (known-cdata s.parent) at w.1) T)

bare-leaf : (T : Entries) (u : Spot) (tag : ℕ) (body : List ℕ) (k : Kind) → known 0 tag ≡ some k → Kept u tag body (some k) → leaf_octets [] tag body ≡ leaf_octets T tag body
unfolding leaf_octets is_text
bare-leaf T u tag body HoldsItems e h = rw e
bare-leaf T u tag body HoldsTokens e h = rw e
bare-leaf T u tag body HoldsText e h = rw e (bare-words u tag body h T)
bare-leaf T u tag body HoldsPlain e h = rw e
bare-leaf T u tag body HoldsTime e h = rw e
bare-leaf T u tag body HoldsBearer e h = rw e
bare-leaf T u tag body (HoldsNumber n) e h = rw e

bare-item : (T : Entries) (tag at : ℕ) (body : List ℕ) (x y : Items) (s : Spot) → Ruled s tag body x y → means [] x ≡ means T x → means [] y ≡ means T y
    → means [] (item tag at body x y) ≡ means T (item tag at body x y)
unfolding below
bare-item T tag at body x y s u fx fy = go (way s tag body x y u)
  where
    go : Way s.parent tag body y → means [] (item tag at body x y) ≡ means T (item tag at body x y)
    go (is_attribute k a e f) = means-attribute [] tag at body x y a ∙ (fy ∙ sym (means-attribute T tag at body x y a))
    go (is_cdata q z) =
        subst (λ m. means [] (item m at body x y) ≡ means T (item m at body x y)) q (means-cdata [] at body x y ∙ (fy ∙ sym (means-cdata T at body x y)))
    go (is_element e) =
        means-element [] tag at body x y e
        ∙ (rw (bare-attributes T x (below s tag) u.within, fx, bare-cdata T x (below s tag) u.within, fy) (sym (means-element T tag at body x y e)))
    go (is_leaf k g e i o) =
        let kept : Kept s tag body (some k) = rw (known-anywhere s.parent tag g.not_attribute ∙ e) at (keeps-parts s tag body u.rules) in
        means-leaf [] tag at body x y k g e i ∙ (ap₂ (λ v w. leaf tag v w) (bare-leaf T s tag body k e kept) fy ∙ sym (means-leaf T tag at body x y k g e i))

bare-means : (T : Entries) (t : Items) (s : Spot) → ruled s t ≡ true → means [] t ≡ means T t
unfolding means
bare-means T end s h = refl
bare-means T (item tag at body x y) s h =
    let u = ruled-parts s tag at body x y h in
    bare-item T tag at body x y s u (bare-means T x (below s tag) u.within) (bare-means T y (past s tag) u.beside)

-- ---- the records of an accepted object, given over that object
module _ (o : List ℕ) (t : Items) (h : judge o ≡ accepted t) (n : ℕ) (l : Lists) (e : tabled (row l) n 0 ≡ records_of t) where
  records-number : n ≡ count t
  records-number = sym (tabled-length (row l) n 0) ∙ (ap length e ∙ records-count t 1 0 0)

  -- where they are well-formed, their tree means what the object means
  pub object-means : (u : Items) → tree_given n l o ≡ some u → means [] u ≡ meaning_of t
  object-means u g =
      let b = (given_both n l o u g).1 in
      let same : u ≡ untabled t =
      sym (rebuilt-reached (row l) n o u b).1 ∙ ap (λ x. x.0) (regrows-all (row l) n o t (shaped o t h) (located o t h) (sym e) records-number) in
      bare-means (table_of t) u at_top (rebuilt-whole (row l) n o u b).rules ∙ (ap (means (table_of t)) same ∙ regrown-means t)

  -- so what is written from them is the object's normal form
  pub object-written : (bodies bodies' before after : List ℕ) (k : OctetCount)
      → WriteClaim n (record { lists = l; bodies = bodies; store = o }) bodies' before after (Ok k) → take k.0 after ≡ normal_of t
  object-written bodies bodies' before after k c =
      let f = claim-fits n (record { lists = l; bodies = bodies; store = o }) bodies' before after k c in
      let p = encode (means [] f.tree) in
      ap₂ (λ m x. take m x) f.size f.leaves ∙ (part-of-sets before 0 p (omega (arith, f.size, f.room)) ∙ ap encode (object-means f.tree f.given))

-- ---- an object without token table: its records are well-formed, so they are written wherever there is room
tableless-parts : (tag at : ℕ) (body : List ℕ) (x y : Items) → tableless (item tag at body x y) ≡ true → (eqb tag 4 ≡ false) × (tableless x ≡ true) × (tableless y ≡ true)
unfolding tableless
tableless-parts tag at body x y h =
    let a = not (eqb tag 4) in
    let ab = and_left (a && tableless x) (tableless y) h in
    (not-true (eqb tag 4) (and_left a (tableless x) ab), and_right a (tableless x) ab, and_right (a && tableless x) (tableless y) h)

no_table : (t : Items) → tableless t ≡ true → find 4 t ≡ none
unfolding find
no_table end h = refl
no_table (item tag at body x y) h = let p = tableless-parts tag at body x y h in rw (ne_eqb 4 tag (λ q. eqb-false tag 4 p.0 (sym q))) (no_table y p.2)

tableless-table : (t : Items) → tableless t ≡ true → table_of t ≡ []
unfolding table_of table_in
tableless-table end h = refl
tableless-table (item tag at body x y) h = rw (no_table x (tableless-parts tag at body x y h).1)

-- only 0x04 holds tokens
not-tokens : (p tag : ℕ) (k : Kind) → known p tag ≡ some k → eqb tag 4 ≡ false → is_tokens (some k) ≡ false
unfolding is_tokens
not-tokens p tag HoldsItems e f = refl
not-tokens p tag HoldsTokens e f = go (attribute tag) refl
  where
    go : (b : Bool) → attribute tag ≡ b → true ≡ false
    go true a = absurd (false≢true (attribute-kind p tag HoldsTokens a e))
    go false a = sym (element-kind tag HoldsTokens (sym (known-anywhere p tag a) ∙ e)) ∙ f
not-tokens p tag HoldsText e f = refl
not-tokens p tag HoldsPlain e f = refl
not-tokens p tag HoldsTime e f = refl
not-tokens p tag HoldsBearer e f = refl
not-tokens p tag (HoldsNumber n) e f = refl

-- what is told without a table keeps the writer's rules
told-keeps : (s : Spot) (tag : ℕ) (body : List ℕ) (x : Items) → ItemTold [] s tag body x → eqb tag 4 ≡ false → keeps s tag body ≡ true
unfolding keeps body_keeps
told-keeps s tag body x i f =
    let k = i.kind in
    let l = known_is (known s.parent tag) k.is_one in
    let t : is_tokens (known s.parent tag) ≡ false = rw l.1 (not-tokens s.parent tag l.0 l.1 f) in
    rw (i.place, k.is_one, t, k.value) (go (is_text (known s.parent tag)) k.valid k.covers k.short)
  where
    go : (b : Bool) → not b || text true body ≡ true → not b || covered [] body ≡ true → not b || shown s.parent tag (shown_length [] body) ≡ true
        → not b || text false body && shown s.parent tag (shown_length [] body) ≡ true
    go false v c w = refl
    go true v c w = and-true (text false body) (shown s.parent tag (shown_length [] body)) (text-plain body v c) w

told-ruled : (t : Items) (s : Spot) → tableless t ≡ true → Told [] s t → ruled s t ≡ true
unfolding ruled
told-ruled end s p h = refl
told-ruled (item tag at body x y) s p h =
    let q = tableless-parts tag at body x y p in
    is-ruled s tag at body x y
    (record {
      holder = h.0.holder;
      rules = told-keeps s tag body x h.0 q.0;
      within = told-ruled x (below s tag) q.1 h.1;
      beside = told-ruled y (past s tag) q.2 h.2;
    })

module _ (o : List ℕ) (t : Items) (os : AllOctets o) (h : judge o ≡ accepted t) (p : tableless t ≡ true) (l : Lists) (places-enough : count t ≤ places l)
    (e : tabled (row l) (count t) 0 ≡ records_of t) where
  some-record : 0 < count t
  unfolding count outermost
  some-record =
      let w = top o t os h in
      rw (w.is, (items-tag w.tag (top-known w.tag w.held.allow)).not_table) (omega arith)

  pub tableless-given : tree_given (count t) l o ≡ some t
  unfolding tree_given
  tableless-given =
      let rules = told-ruled t at_top p (subst (λ T. Told T at_top t) (tableless-table t p) (accepted-told o t os h)) in
      rw (le-leb (count t) (places l) places-enough)
      (whole-rebuilt (row l) (count t) o t (record { some = some-record; records = sym e; located = located o t h; rules = rules }))

  pub tableless-written : (bodies bodies' before after : List ℕ) (answer : Result OctetCount Refusal) → count t ≤ length bodies → roomy (size_of before) (normal_of t) ≡ true
      → WriteClaim (count t) (record { lists = l; bodies = bodies; store = o }) bodies' before after answer
      → (answer ≡ Ok (size_of (normal_of t))) × (bodies' ≡ sets bodies 0 (body_sizes 0 t)) × (after ≡ sets before 0 (normal_of t))
  unfolding write_answer write_octets write_sizes
  tableless-written bodies bodies' before after answer many r c =
      let m : means [] t ≡ meaning_of t = object-means o t h (count t) l e t tableless-given in
      let fit : roomy (size_of before) (encode (means [] t)) ≡ true = rw m r in
      let all : leb (count t) (length bodies) ≡ true = le-leb (count t) (length bodies) many in
      (c.answers ∙ rw (all, tableless-given, fit, m), c.sizes ∙ rw (all, tableless-given, fit), c.leaves ∙ rw (all, tableless-given, fit, m))
