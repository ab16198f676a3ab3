-- Single items: the ways through the functions that count and put them, and what two partners' attributes and CDATA come to.
use Rattle.std.specs.Prelude.{Some, None, Result, Option as Optional}
use mathlib.Core.Path.{◌≡◌, refl, sym, ap, ap₂, ◌∙◌, subst}
use mathlib.Core.Bool.{Bool, true, false, cond, false≢true}
use mathlib.Core.Option.{Option, none, some, map}
use mathlib.Core.List.{List, [], ◌++◌}
use Prim.Native.Nat.{ℕ, zero, suc, ◌+◌, ◌-◌, ◌≤◌, ◌<◌, min}
use native.Mathlib.Numerals.{add-one}
use native.Mathlib.Omega.{arith}
use lib.Dec.{leb}
use lib.ListN.{length}
use lib.Seq.{sets, length-sets}
use types.Run.{OneOf}
use denote.Enum.Declared.{tag_of}
use borrow.Author.Tests.{le-leb, lt-ltb}
use Rattle.octets.specs.Counts.{as_octets}
use Rattle.octets.specs.declared.counts.Octets.{Octets}
use Rattle.octets.specs.Header.{framed}
use Rattle.octets.specs.Puts.{put_out, Puts}
use Rattle.octets.specs.Places.{between, from_to}
use Rattle.octets.specs.declared.Lies.{Lies}
use Rattle.octets.specs.declared.PutError.{PutError}
use Rattle.text.specs.Tokens.{Entries, entries, expanded}
use Rattle.text.specs.Index.{Indexes, entries_by}
use Rattle.text.specs.Weighing.{Widths, weight}
use Rattle.text.proofs.Widths.{weight_is}
use Rattle.text.proofs.Index.{indexed-expanded}
use Rattle.values.specs.declared.Kind.{Kind}
use Rattle.values.specs.declared.Kind.TheVariants.{HoldsItems, HoldsTokens, HoldsText, HoldsPlain, HoldsTime, HoldsBearer, HoldsNumber}
use Rattle.values.specs.Table.{known, attribute}
use Rattle.values.specs.Values.{Value, fits, meant, octets_of}
use Rattle.values.specs.Calls.{known_kind, normal_octets, default_octets}
use Rattle.values.specs.contracts.Kind.{the_type}
use Rattle.values.proofs.Known.{known-cdata}
use Rattle.values.proofs.Laws.{known-kind, unknown-kind}
use Rattle.format.specs.Tree.{Items, find}
use Rattle.format.specs.Judge.{is_text}
use Rattle.format.specs.Meaning.{attributes_in, cdata_in, rising, maybe}
use Rattle.format.proofs.Means.{unknown-attribute}
use Rattle.format.proofs.Defaults.{default-attribute}
use Rattle.tags.proofs.Arms.{Untexted, not-text}
use Rattle.reader.specs.Filling.{Accepts}
use Rattle.survey.specs.Normal.{value_octets}
use Rattle.survey.specs.Places.{body_by, body_of_tag}
use Rattle.survey.specs.Sizes.{taken}
use Rattle.survey.proofs.Rising.{known-few}
use Rattle.compare.specs.Items.{counted_body, counted_of_tag, counted_span}
use Rattle.compare.proofs.Sets.{counted-at, counted-ordered, counted-inside, found-body, counted-fits, counted-means}
use Rattle.merge.specs.Merged.{either, united}
use Rattle.merge.specs.Sizes.{taken as taken_of, taken_by}
use Rattle.merging.specs.declared.counting.Needs.{Needs}
use Rattle.merging.specs.Takes.{most, plus, Piece, empty, with, single, held, if_there, attributes_of, Adds, HeaderPut, ValueLaid, ValuePut, SinglePut, octets_by, octets_in, either_in, EitherPut, AttributesPut}
use Rattle.merging.proofs.Adding.{records-sum, store-sum, octets-sum, with-empty, with-assoc, empty-with, adds_none, adds-nothing, adds-kept, adds_same, adds_then, held-put}

-- ---- the octets of a value

-- a value that is no text has the same octets under every table
untabled : (es : Entries) (k : Kind) (o : List ℕ) → is_text (some k) ≡ false → taken es (some k) o ≡ cond (fits k o) (normal_octets k o) []
unfolding taken normal_octets meant is_text
untabled es HoldsItems o h = refl
untabled es HoldsTokens o h = refl
untabled es HoldsText o h = absurd (false≢true (sym h))
untabled es HoldsPlain o h = refl
untabled es HoldsTime o h = refl
untabled es HoldsBearer o h = refl
untabled es (HoldsNumber n) o h = refl

texted : (es : Entries) (o : List ℕ) → taken es (some HoldsText) o ≡ expanded es o
unfolding taken fits meant octets_of
texted es o = refl

-- by the index of a table they are those by the table
indexed : (index table : List ℕ) → Indexes (entries table) index → (k : Kind) (o : List ℕ) → taken (entries_by index table) (some k) o ≡ taken (entries table) (some k) o
unfolding taken fits meant octets_of
indexed index table x HoldsItems o = refl
indexed index table x HoldsTokens o = refl
indexed index table x HoldsText o = indexed-expanded table index x o
indexed index table x HoldsPlain o = refl
indexed index table x HoldsTime o = refl
indexed index table x HoldsBearer o = refl
indexed index table x (HoldsNumber n) o = refl

-- ---- text_size and size_of

pub text-sized : (table widths body : List ℕ) (n : Octets) → Widths 32 (entries table) widths → n ≡ as_octets (min most (weight widths body)) → n.0 ≡ min most (length (expanded (entries table) body))
text-sized table widths body n w e = ap (λ m. m.0) e ∙ rw (weight_is (entries table) widths w body)

module _ (table body : List ℕ) (k : Kind) (n : Octets) where
  pub size-text : k ≡ HoldsText → n.0 ≡ min most (length (expanded (entries table) body)) → n.0 ≡ min most (length (taken (entries table) (some k) body))
  size-text q e = e ∙ sym (ap (λ l. min most (length (taken (entries table) (some l) body))) q ∙ ap (λ o. min most (length o)) (texted (entries table) body))

  pub size-other : OneOf Untexted (tag_of the_type k) → (m : Octets) → m.0 ≡ length (value_octets k body) → n.0 ≡ min most m.0 → n.0 ≡ min most (length (taken (entries table) (some k) body))
  unfolding value_octets normal_octets
  size-other h m f e = e ∙ ap (min most) (f ∙ ap length (sym (untabled (entries table) k body (not-text k h))))

pub ruleset size-ways = (size-text, size-other)

-- ---- lay_value and put_value

module _ (k : Kind) (index table body : List ℕ) (at : ℕ) (before after : List ℕ) (answer : Result ℕ PutError) where
  out-long : (v f : Bool) (s : List ℕ) → length (cond v (cond f (sets before at s) before) before) ≡ length before
  out-long true true s = length-sets before at s
  out-long true false s = refl
  out-long false f s = refl

  pub lay-text : k ≡ HoldsText → Puts true (expanded (entries_by index table) body) at before after answer → ValueLaid k index table body at before after
  unfolding put_out
  lay-text q p =
      let o = expanded (entries_by index table) body in
      let same : taken (entries_by index table) (some k) body ≡ o = ap (λ l. taken (entries_by index table) (some l) body) q ∙ texted (entries_by index table) body in
      record {
        holds = λ l.
            let f : leb (at + length o) (length before) ≡ true = le-leb (at + length o) (length before) (subst (λ x. at + length x ≤ length before) same l) in
            p.leaves ∙ ap (λ b. cond b (sets before at o) before) f ∙ ap (sets before at) (sym same);
        long = ap length p.leaves ∙ out-long true (leb (at + length o) (length before)) o;
      }

  pub lay-other : OneOf Untexted (tag_of the_type k) → Puts (fits k body) (normal_octets k body) at before after answer → ValueLaid k index table body at before after
  unfolding put_out
  lay-other h p =
      let o = normal_octets k body in
      let same : taken (entries_by index table) (some k) body ≡ cond (fits k body) o [] = untabled (entries_by index table) k body (not-text k h) in
      record {
        holds = λ l. p.leaves ∙ by (fits k body) (subst (λ x. at + length x ≤ length before) same l) ∙ ap (sets before at) (sym same);
        long = ap length p.leaves ∙ out-long (fits k body) (leb (at + length o) (length before)) o;
      }
    where
      by : (v : Bool) → at + length (cond v (normal_octets k body) []) ≤ length before
          → cond v (cond (leb (at + length (normal_octets k body)) (length before)) (sets before at (normal_octets k body)) before) before ≡ sets before at (cond v (normal_octets k body) [])
      by true l = rw (le-leb (at + length (normal_octets k body)) (length before) l)
      by false l = refl

pub ruleset lay-ways = (lay-text, lay-other)

module _ (emit : Bool) (k : Kind) (index table body : List ℕ) (size : ℕ) (n : Needs) (before after : List ℕ) (r : Needs) (re : r ≡ plus n 0 size size) where
  abbrev octets : List ℕ
  octets = taken (entries_by index table) (some k) body

  abbrev piece : Piece
  piece = record { records = 0; store = length octets; octets = octets }

  value-adds : (o' : List ℕ) → size ≡ min most (length octets) → (n.octets.0 + length octets ≤ min (length before) 32_768 → o' ≡ cond emit (sets before n.octets.0 octets) before)
      → (emit ≡ false → o' ≡ before) → length o' ≡ length before → Adds emit piece n before o' r
  value-adds o' e h q l = record {
    records = records-sum n r 0 size size re;
    store = omega (arith, store-sum n r 0 size size re, e);
    octets = omega (arith, octets-sum n r 0 size size re, e);
    holds = h;
    quiet = q;
    long = l;
  }

  pub value-counted : emit ≡ false → ValuePut emit k index table body size n before before r
  unfolding ValuePut
  value-counted f e = value-adds before e (λ l. rw f) (λ q. refl) refl

  pub value-put : emit ≡ true → ValueLaid k index table body n.octets.0 before after → ValuePut emit k index table body size n before after r
  unfolding ValuePut
  value-put f p e = value-adds after e (λ l. rw f (p.holds (omega arith))) (λ q. absurd (false≢true (sym q ∙ f))) p.long

pub ruleset value-ways = (value-counted, value-put)

-- ---- put_single

pub single-put : (emit : Bool) (k : Kind) (tag : ℕ) (index table body : List ℕ) (size : Octets) (n m r : Needs) (a b c : List ℕ)
    → size.0 ≡ min most (length (taken (entries table) (some k) body)) → HeaderPut emit tag size.0 n a b m → ValuePut emit k index table body size.0 m b c r
    → SinglePut emit k tag index table body n a c r
unfolding ValuePut SinglePut held single
single-put emit k tag index table body size n m r a b c e u v x =
    let o = taken (entries_by index table) (some k) body in
    let s : size.0 ≡ min most (length o) = e ∙ ap (λ y. min most (length y)) (sym (indexed index table x k body)) in
    held-put emit tag size.0 (record { records = 0; store = length o; octets = o }) n m r a b c s u (v s)

-- ---- put_either

module _ (emit : Bool) (parent tag : ℕ) (index table a index' table' b : List ℕ) (n : Needs) (before after : List ℕ) (r : Needs) (k : Optional Kind) (ke : k ≡ known_kind parent tag) where
  abbrev first : Entries
  first = entries_by index table

  abbrev second : Entries
  second = entries_by index' table'

  pub either-unknown : k ≡ None → r ≡ plus n 0 0 0 → EitherPut emit parent tag index table a index' table' b n before before r
  unfolding EitherPut either_in octets_in octets_by either if_there
  either-unknown q e x y = rw (unknown-kind parent tag k ke q) (adds_none emit n before r e)

  module _ (kind : Kind) (q : k ≡ Some kind) (l : Optional Lies) (le : l ≡ counted_span parent tag a) where
    octets-by : (es : Entries) (part : List ℕ) (s : Optional Lies) → s ≡ counted_span parent tag part → octets_in es parent tag part ≡ map (taken es (some kind)) (body_by part s)
    unfolding octets_in octets_by
    octets-by es part s se = ap₂ (octets_by es) (known-kind parent tag k ke kind q) (sym (counted-at parent tag part s se))

    pub either_first : (from to : ℕ) → l ≡ Some (from_to from to) → SinglePut emit kind tag index table (between a from to) n before after r → EitherPut emit parent tag index table a index' table' b n before after r
    unfolding EitherPut SinglePut either_in either if_there body_by
    either_first from to w p x y =
        adds_same emit (single tag (taken first (some kind) (between a from to))) (if_there tag (either_in first second parent tag a b)) n before after r
        (sym (ap (λ o. if_there tag (either o (octets_in second parent tag b))) (octets-by first a l le ∙ ap (λ s. map (taken first (some kind)) (body_by a s)) w))) (p x)

    module _ (w : l ≡ None) (m : Optional Lies) (me : m ≡ counted_span parent tag b) where
      only-second : either_in first second parent tag a b ≡ map (taken second (some kind)) (body_by b m)
      unfolding either_in either body_by
      only-second = ap₂ either (octets-by first a l le ∙ ap (λ s. map (taken first (some kind)) (body_by a s)) w) (octets-by second b m me)

      pub either_second : (from to : ℕ) → m ≡ Some (from_to from to) → SinglePut emit kind tag index' table' (between b from to) n before after r → EitherPut emit parent tag index table a index' table' b n before after r
      unfolding EitherPut SinglePut if_there body_by
      either_second from to v p x y =
          adds_same emit (single tag (taken second (some kind) (between b from to))) (if_there tag (either_in first second parent tag a b)) n before after r
          (sym (ap (if_there tag) (only-second ∙ ap (λ s. map (taken second (some kind)) (body_by b s)) v))) (p y)

      pub either-nowhere : m ≡ None → r ≡ plus n 0 0 0 → EitherPut emit parent tag index table a index' table' b n before before r
      unfolding EitherPut if_there body_by
      either-nowhere v e x y =
          adds_same emit empty (if_there tag (either_in first second parent tag a b)) n before before r
          (sym (ap (if_there tag) (only-second ∙ ap (λ s. map (taken second (some kind)) (body_by b s)) v))) (adds_none emit n before r e)

pub ruleset either-ways = (counted-ordered, counted-inside, either-unknown, either_first, either_second, either-nowhere)

-- ---- put_attributes

-- the attributes of as many tags as the first number says, from a tag on
abbrev pub each_from : (many tag parent : ℕ) → Entries → Entries → List ℕ → List ℕ → Piece
each_from zero tag parent es fs a b = empty
each_from (suc n) tag parent es fs a b = with (if_there tag (either_in es fs parent tag a b)) (each_from n (suc tag) parent es fs a b)

none_above : (p tag : ℕ) → 0x87 ≤ tag → known p tag ≡ none
none_above p tag h = go (known p tag) refl
  where
    go : (k : Option Kind) → known p tag ≡ k → k ≡ none
    go none e = refl
    go (some k) e = absurd (omega (arith, known-few p tag k e))

each-past : (n tag parent : ℕ) (es fs : Entries) (a b : List ℕ) → 0x87 ≤ tag → each_from n tag parent es fs a b ≡ empty
unfolding either_in octets_in octets_by either if_there with empty
each-past zero tag parent es fs a b h = refl
each-past (suc n) tag parent es fs a b h = rw (none_above parent tag h, each-past n (suc tag) parent es fs a b (omega arith))

-- how far the walk has come: all of them are what is done and those from a tag on
pub record Going (emit : Bool) (parent : ℕ) (es fs : Entries) (a b : List ℕ) (n : Needs) (before after : List ℕ) (r : Needs) (tag : ℕ) : Type 0 where
  pub done : Piece
  pub all : each_from 128 0x80 parent es fs a b ≡ with done (each_from (0x100 - tag) tag parent es fs a b)
  pub put : Adds emit done n before after r

pub record Rises (emit : Bool) (parent : ℕ) (index table a index' table' b : List ℕ) (n : Needs) (before after : List ℕ) (r : Needs) (tag : ℕ) : Type 0 where
  pub high : tag ≤ 0x87
  pub long : length after ≡ length before
  pub goes : Indexes (entries table) index → Indexes (entries table') index' → Going emit parent (entries_by index table) (entries_by index' table') a b n before after r tag

-- the attributes of accepted parts
module _ (es : Entries) (parent d i : ℕ) (a : List ℕ) (t : Items) (x : Accepts parent d i a t) (tag : ℕ) (h : attribute tag ≡ true) where
  pub octets-mean : octets_in es parent tag a ≡ map octets_of (attributes_in es parent t tag)
  unfolding octets_in octets_by taken
  octets-mean = go (known parent tag) refl
    where
      fit : (k : Kind) (y : Option (List ℕ)) → ((o : List ℕ) → y ≡ some o → fits k o ≡ true) → map (taken es (some k)) y ≡ map octets_of (map (meant es k) y)
      fit k none f = refl
      fit k (some o) f = rw (f o refl)

      go : (k : Option Kind) → known parent tag ≡ k → octets_by es k (counted_of_tag parent tag a) ≡ map octets_of (attributes_in es parent t tag)
      go none q = sym (ap (map octets_of) (unknown-attribute es parent t tag q))
      go (some k) q =
          fit k (counted_of_tag parent tag a) (counted-fits parent tag k q a d i t x) ∙ sym (ap (map octets_of) (counted-means parent tag k q a d i t x es h))

either-map : {A B : Type 0} (f : A → B) (x y : Option A) → either (map f x) (map f y) ≡ map f (either x y)
unfolding either
either-map f none y = refl
either-map f (some x) y = refl

-- a set of attributes, one by one
abbrev rising_piece : (many tag : ℕ) → (ℕ → Option Value) → Piece
rising_piece zero tag f = empty
rising_piece (suc n) tag f = with (if_there tag (map octets_of (f tag))) (rising_piece n (suc tag) f)

rising-is : (n tag : ℕ) (f : ℕ → Option Value) → rising_piece n tag f ≡ record { records = taken_by (λ v. 1) n tag f; store = taken_by (λ v. length (octets_of v)) n tag f; octets = rising n tag f }
unfolding taken_by rising empty if_there single with taken_of maybe
rising-is zero tag f = refl
rising-is (suc n) tag f = ap (with (if_there tag (map octets_of (f tag)))) (rising-is n (suc tag) f) ∙ go (f tag)
  where
    go : (v : Option Value) → with (if_there tag (map octets_of v)) (record { records = taken_by (λ v. 1) n (suc tag) f; store = taken_by (λ v. length (octets_of v)) n (suc tag) f; octets = rising n (suc tag) f })
        ≡ record { records = taken_of (λ v. 1) v + taken_by (λ v. 1) n (suc tag) f; store = taken_of (λ v. length (octets_of v)) v + taken_by (λ v. length (octets_of v)) n (suc tag) f; octets = maybe (λ v. framed tag (octets_of v)) v ++ rising n (suc tag) f }
    go none = refl
    go (some v) = refl

each-mean : (es fs : Entries) (parent d e i j : ℕ) (a b : List ℕ) (t u : Items) → Accepts parent d i a t → Accepts parent e j b u → (n tag : ℕ) → 0x80 ≤ tag
    → each_from n tag parent es fs a b ≡ rising_piece n tag (united (attributes_in es parent t) (attributes_in fs parent u))
unfolding either_in united attribute
each-mean es fs parent d e i j a b t u x z zero tag h = refl
each-mean es fs parent d e i j a b t u x z (suc n) tag h =
    ap₂ with (ap (if_there tag) (ap₂ either (octets-mean es parent d i a t x tag at) (octets-mean fs parent e j b u z tag at) ∙ either-map octets_of (attributes_in es parent t tag) (attributes_in fs parent u tag)))
    (each-mean es fs parent d e i j a b t u x z n (suc tag) (omega arith))
  where
    at : attribute tag ≡ true
    at = lt-ltb 0x7F tag (omega arith)

module _ (emit : Bool) (parent : ℕ) (index table a index' table' b : List ℕ) (n : Needs) (before : List ℕ) where
  abbrev one : Entries
  one = entries_by index table

  abbrev two : Entries
  two = entries_by index' table'

  pub rise-begin : (m : Needs) → n ≡ plus m 0 0 0 → Rises emit parent index table a index' table' b n before before n 0x80
  rise-begin m e = record { high = omega arith; long = refl; goes = λ x y. record { done = empty; all = sym (empty-with (each_from 128 0x80 parent one two a b)); put = adds-nothing emit m n before e } }

  module _ (after : List ℕ) (m : Needs) (tag : ℕ) (inv : Rises emit parent index table a index' table' b n before after m tag) where
    pub rise-again : (after' : List ℕ) (r : Needs) → tag < 0x87 → length after' ≡ length after → EitherPut emit parent tag index table a index' table' b m after after' r
        → Rises emit parent index table a index' table' b n before after' r (tag + 1)
    unfolding EitherPut
    rise-again after' r h l p = record {
      high = omega arith;
      long = l ∙ inv.long;
      goes = λ x y.
          let g = inv.goes x y in
          let this = if_there tag (either_in one two parent tag a b) in
          let k : 0x100 - tag ≡ suc (0x100 - (tag + 1)) = omega arith in
          let rest = each_from (0x100 - (tag + 1)) (tag + 1) parent one two a b in
          let split : each_from (0x100 - tag) tag parent one two a b ≡ with this rest =
          ap (λ q. each_from q tag parent one two a b) k ∙ ap (λ q. with this (each_from (0x100 - (tag + 1)) q parent one two a b)) (sym (add-one tag)) in
          record {
            done = with g.done this;
            all = g.all ∙ ap (with g.done) split ∙ sym (with-assoc g.done this rest);
            put = adds_then emit g.done this n m r before after after' g.put (p x y);
          };
    }

    pub rise-ended : 0x87 ≤ tag → (k : Needs) → n ≡ plus k 0 0 0 → AttributesPut emit parent index table a index' table' b k before after m
    unfolding AttributesPut attributes_of
    rise-ended h k q d e i j t u x y v w =
        let g = inv.goes x y in
        let f = united (attributes_in one parent t) (attributes_in two parent u) in
        adds_same emit g.done (attributes_of f) k before after m
        (sym (with-empty g.done) ∙ ap (with g.done) (sym (each-past (0x100 - tag) tag parent one two a b h)) ∙ sym g.all
        ∙ each-mean one two parent d e i j a b t u v w 128 0x80 (omega arith) ∙ rising-is 128 0x80 f) (adds-kept emit g.done k n m before after q g.put)

pub ruleset rise-ways = (rise-begin, rise-again, rise-ended)

-- ---- CDATA

-- it has no default
cdata-counted : (parent : ℕ) (part : List ℕ) → counted_of_tag parent 1 part ≡ body_of_tag 1 part
unfolding counted_of_tag counted_body attribute
cdata-counted parent part = go (body_of_tag 1 part)
  where
    by : (o : List ℕ) (d : Bool) → default_octets parent 1 o ≡ d → cond d none (some o) ≡ some o
    by o true e = absurd (false≢true (default-attribute parent 1 o e))
    by o false e = refl

    go : (o : Option (List ℕ)) → counted_body parent 1 o ≡ o
    go none = refl
    go (some o) = by o (default_octets parent 1 o) refl

-- of an accepted part it is that of its tree
pub cdata-mean : (es : Entries) (parent d i : ℕ) (a : List ℕ) (t : Items) → Accepts parent d i a t → octets_in es parent 1 a ≡ cdata_in es t
unfolding octets_in octets_by cdata_in taken fits meant octets_of
cdata-mean es parent d i a t x =
    ap₂ (octets_by es) (known-cdata parent) (cdata-counted parent a ∙ sym (found-body parent 1 HoldsText (known-cdata parent) a d i t x)) ∙ go (find 1 t)
  where
    go : (o : Option (List ℕ)) → map (taken es (some HoldsText)) o ≡ map (expanded es) o
    go none = refl
    go (some o) = refl
