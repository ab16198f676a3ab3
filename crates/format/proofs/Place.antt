-- Where the items of a normal form stand, and that they keep the rules there.
use mathlib.Core.Path.{◌≡◌, refl, ap, ◌∙◌}
use mathlib.Core.Bool.{Bool, true, false, cond, ◌||◌, and-false, or-true}
use mathlib.Core.Option.{none, some}
use mathlib.Core.List.{List, []}
use Prim.Native.Nat.{ℕ, suc, ◌≤◌, ◌<◌}
use native.Mathlib.Omega.{arith}
use lib.Dec.{eqb, leb}
use borrow.Author.Tests.{lt-ltb, ltb-true, ne_eqb}
use Rattle.octets.specs.declared.counts.Characters.{Characters}
use Rattle.octets.specs.Numbers.{among}
use Rattle.text.specs.Text.{text}
use Rattle.text.specs.Tokens.{covered, shown_length}
use Rattle.values.specs.declared.Kind.{Kind}
use Rattle.values.specs.declared.Kind.TheVariants.{HoldsItems, HoldsText, HoldsPlain}
use Rattle.values.specs.Table.{known, attribute}
use Rattle.values.specs.Values.{Value, fits, octets_of}
use Rattle.values.specs.Proper.{Proper}
use Rattle.values.specs.Proper.Proper.{words, plain, counted, timed, carried}
use Rattle.format.specs.Judge.{is_known, is_tokens, is_text, is_value, Context, is_top, allowed, latest, stage_after, shown, of_top, late, late_before, late_after, within, waits, next}
use Rattle.format.specs.WellFormed.{PlaceOk}
use Rattle.text.proofs.Words.{plain-text, plain-text-covered}
use Rattle.values.proofs.Values.{proper-fits}
use Rattle.values.proofs.Known.{ElementTag, known-cdata}
use Rattle.format.proofs.Rules.{KindHeld, Held}
use Rattle.format.proofs.Late.{late-append}

-- what is known of where an item stands: the token table is empty, and no attribute of the top waits in vain
pub record Ready (c : Context) (parent depth stage : ℕ) : Type 0 where
  pub is_parent : c.parent ≡ parent
  pub is_depth : c.depth ≡ depth
  pub is_stage : c.stage ≡ stage
  pub no_table : c.table ≡ []
  pub quiet : late [] c.waiting ≡ none

pub within-ready : (c : Context) (parent depth stage tag : ℕ) → Ready c parent depth stage → Ready (within c tag) tag (suc depth) 0
unfolding within late
within-ready c parent depth stage tag r = record { is_parent = refl; is_depth = ap suc r.is_depth; is_stage = refl; no_table = r.no_table; quiet = refl }

-- after an element or CDATA
pub next-ready : (c : Context) (parent depth stage at tag : ℕ) (body : List ℕ) → Ready c parent depth stage → attribute tag ≡ false → eqb tag 4 ≡ false
    → Ready (next c at tag body) parent depth (stage_after tag)
unfolding next of_top late
next-ready c parent depth stage at tag body r a t = record { is_parent = r.is_parent; is_depth = r.is_depth; is_stage = refl; no_table = rw t r.no_table; quiet = rw a }

waits-quiet : (at : ℕ) (ws : List (ℕ × List ℕ)) → late [] ws ≡ none → {k : Kind} {v : Value} → Proper k v → late [] (waits (some k) ws at (octets_of v)) ≡ none
unfolding waits is_text octets_of
waits-quiet at ws q (words {o = o} h) = late-append [] at o ws q (plain-text-covered o h)
waits-quiet at ws q plain = q
waits-quiet at ws q (counted h) = q
waits-quiet at ws q (timed ok) = q
waits-quiet at ws q (carried ok) = q

-- what is known of an attribute's tag
pub record AttributeTag (a : ℕ) : Type 0 where
  pub is : attribute a ≡ true
  pub not_cdata : eqb a 1 ≡ false
  pub not_table : eqb a 4 ≡ false

pub attribute-tag : (a : ℕ) → 0x80 ≤ a → AttributeTag a
unfolding attribute
attribute-tag a h = record { is = lt-ltb 0x7F a h; not_cdata = ne_eqb a 1 (λ e. omega arith); not_table = ne_eqb a 4 (λ e. omega arith) }

pub next-attribute : (c : Context) (parent depth at a : ℕ) → Ready c parent depth 0 → AttributeTag a → (k : Kind) (v : Value) → known parent a ≡ some k → Proper k v
    → Ready (next c at a (octets_of v)) parent depth 0
unfolding next stage_after late
next-attribute c parent depth at a r t k v e p =
    let f : known c.parent a ≡ some k = ap (λ q. known q a) r.is_parent ∙ e in
    record { is_parent = r.is_parent; is_depth = r.is_depth; is_stage = rw t.is; no_table = rw t.not_table r.no_table; quiet = rw f (go (of_top c a)) }
  where
    go : (b : Bool) → late [] (cond b (waits (some k) c.waiting at (octets_of v)) []) ≡ none
    go true = waits-quiet at c.waiting r.quiet p
    go false = refl

-- an attribute's tag is no tag below 0x80
pub attribute-other : (tag n : ℕ) → attribute tag ≡ true → n < 0x80 → eqb tag n ≡ false
unfolding attribute
attribute-other tag n a l = ne_eqb tag n (λ e. omega (arith, ltb-true 0x7F tag a))

pub allowed-attribute : (parent tag : ℕ) → eqb parent 0 ≡ false → attribute tag ≡ true → allowed parent tag ≡ true
unfolding allowed is_top
allowed-attribute parent tag p a =
    rw (p, attribute-other tag 0 a (omega arith), attribute-other tag 2 a (omega arith), attribute-other tag 3 a (omega arith), attribute-other tag 4 a (omega arith), attribute-other tag 6 a (omega arith))
    (or-true (eqb parent 2 || eqb parent 3))

pub allowed-cdata : (parent : ℕ) → eqb parent 0 ≡ false → allowed parent 1 ≡ true
unfolding allowed is_top
allowed-cdata parent p = rw p (or-true (eqb parent 2 || eqb parent 3))

pub shown-other : (parent tag : ℕ) (n : Characters) → eqb tag 1 ≡ false → shown parent tag n ≡ true
unfolding shown
shown-other parent tag n e = rw e

-- text without token octets, where there is no table
pub words-held : (c : Context) (tag : ℕ) (o : List ℕ) → c.table ≡ [] → text false o ≡ true → shown c.parent tag (shown_length [] o) ≡ true → KindHeld c tag o (some HoldsText)
unfolding is_value is_text is_tokens fits
words-held c tag o e h s = record {
  value = refl;
  valid = plain-text o h;
  table = refl;
  covers = ap (λ x. of_top c tag || covered x o) e ∙ (ap (λ x. of_top c tag || x) (plain-text-covered o h) ∙ or-true (of_top c tag));
  short = ap (λ x. shown c.parent tag (shown_length x o)) e ∙ s;
}

proper-held : (c : Context) (tag : ℕ) → c.table ≡ [] → eqb tag 1 ≡ false → {k : Kind} {v : Value} → Proper k v → KindHeld c tag (octets_of v) (some k)
unfolding is_value is_text is_tokens octets_of
proper-held c tag e s (words {o = o} h) = words-held c tag o e h (shown-other c.parent tag (shown_length [] o) s)
proper-held c tag e s plain = record { value = proper-fits plain; valid = refl; table = refl; covers = refl; short = refl }
proper-held c tag e s (counted h) = record { value = proper-fits (counted h); valid = refl; table = refl; covers = refl; short = refl }
proper-held c tag e s (timed ok) = record { value = proper-fits (timed ok); valid = refl; table = refl; covers = refl; short = refl }
proper-held c tag e s (carried ok) = record { value = proper-fits (carried ok); valid = refl; table = refl; covers = refl; short = refl }

pub items-held : (c : Context) (tag : ℕ) (body : List ℕ) → KindHeld c tag body (some HoldsItems)
unfolding is_value is_text is_tokens fits
items-held c tag body = record { value = refl; valid = refl; table = refl; covers = refl; short = refl }

pub plain-held : (c : Context) (tag : ℕ) (body : List ℕ) → KindHeld c tag body (some HoldsPlain)
unfolding is_value is_text is_tokens fits
plain-held c tag body = record { value = refl; valid = refl; table = refl; covers = refl; short = refl }

pub attribute-held : (c : Context) (parent depth a : ℕ) → Ready c parent depth 0 → eqb parent 0 ≡ false → 0x80 ≤ a → among a c.seen ≡ false
    → (k : Kind) (v : Value) → known parent a ≡ some k → Proper k v → Held c a (octets_of v)
unfolding latest late_before late_after
attribute-held c parent depth a r z h fresh k v e p =
    let t = attribute-tag a h in
    let f : known c.parent a ≡ some k = ap (λ q. known q a) r.is_parent ∙ e in
    let s : leb c.stage 0 ≡ true = ap (λ q. leb q 0) r.is_stage in
    record {
      before = rw t.is;
      allow = ap (λ q. allowed q a) r.is_parent ∙ allowed-attribute parent a z t.is;
      rules = record { order = rw t.is s; deep = rw t.is; once = rw (t.is, fresh, and-false (is_known (known c.parent a))); kind = rw f (proper-held c a r.no_table t.not_cdata p) };
      later = rw t.not_table;
    }

pub cdata-held : (c : Context) (parent depth stage : ℕ) (o : List ℕ) → Ready c parent depth stage → eqb parent 0 ≡ false → leb stage 2 ≡ true
    → text false o ≡ true → shown parent 1 (shown_length [] o) ≡ true → Held c 1 o
unfolding latest late_before late_after attribute
cdata-held c parent depth stage o r z s h n =
    let m : shown c.parent 1 (shown_length [] o) ≡ true = ap (λ q. shown q 1 (shown_length [] o)) r.is_parent ∙ n in
    let l : leb c.stage 2 ≡ true = ap (λ q. leb q 2) r.is_stage ∙ s in
    record {
      before = r.quiet;
      allow = ap (λ q. allowed q 1) r.is_parent ∙ allowed-cdata parent z;
      rules = record { order = l; deep = refl; once = refl; kind = rw (known-cdata c.parent) (words-held c 1 o r.no_table h m) };
      later = refl;
    }

pub element-held : (c : Context) (parent depth stage tag : ℕ) (body : List ℕ) → Ready c parent depth stage → ElementTag tag → PlaceOk parent depth stage tag
    → KindHeld c tag body (known c.parent tag) → Held c tag body
unfolding late_before late_after
element-held c parent depth stage tag body r t ok k =
    let d : leb c.depth 16 ≡ true = ap (λ q. leb q 16) r.is_depth ∙ ok.deep in
    record {
      before = rw (t.not_attribute, t.not_table) r.quiet;
      allow = ap (λ q. allowed q tag) r.is_parent ∙ ok.allow;
      rules = record { order = ap (λ q. leb q (latest tag)) r.is_stage ∙ ok.order; deep = rw (t.not_attribute, d, or-true (eqb tag 1)); once = rw t.not_attribute; kind = k };
      later = rw t.not_table;
    }
