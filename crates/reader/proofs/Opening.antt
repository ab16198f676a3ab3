-- What it says of a part that it is accepted: its first item lies in it, what is inside the item and what comes after it are accepted too, and the tree is the
-- item's share and then the later items.
use Rattle.std.specs.Prelude.{None, Option as Optional}
use mathlib.Core.Path.{◌≡◌, refl, sym, ◌∙◌}
use mathlib.Core.Bool.{Bool, true, false, cond, ◌||◌}
use mathlib.Core.Option.{Option, none}
use mathlib.Core.List.{List, [], ◌∷◌}
use Prim.Native.Nat.{ℕ, suc, ◌+◌, ◌≤◌, ◌<◌}
use native.Mathlib.Numerals.{add-one}
use native.Mathlib.Omega.{arith}
use lib.Dec.{eqb, leb}
use lib.ListN.{length, drop, get_or, length-drop}
use borrow.Author.Tests.{leb-true, leb-false}
use Rattle.octets.specs.Header.{header_size, body_size}
use Rattle.octets.specs.Places.{lies_at, first_body, after_first, between}
use Rattle.octets.proofs.Places.{Lying, not-whole, body_is, later-is, tag-is}
use Rattle.octets.proofs.Tests.{never}
use Rattle.octets.specs.declared.Lies.{Lies}
use Rattle.values.specs.Table.{known, attribute}
use Rattle.values.proofs.Known.{items-no-attribute, items-tag, known-anywhere}
use Rattle.format.specs.declared.Refusal.{Refusal}
use Rattle.format.specs.Tree.{Items}
use Rattle.format.specs.Tree.Items.{end, item}
use Rattle.format.specs.Judge.{Judged, Context, is_known, is_items, is_value, broken, unless, by_kind, joined, followed, late, within, next, read}
use Rattle.format.specs.Judge.Judged.{refused, accepted}
use Rattle.format.proofs.Rules.{held, fitting, unless-none, unless-accepted, same-tree}
use Rattle.format.proofs.Means.{items-known}
use Rattle.format.proofs.Fuel.{read-item, read-end}
use Rattle.reader.specs.Filling.{Accepts, share}

-- what an accepted item's parts are
record Parted (a b : Bool) (tag start : ℕ) (body : List ℕ) (inner later : Judged) (t : Items) : Type 0 where
  pub u : Items
  pub v : Items
  pub inside : a ≡ true → inner ≡ accepted u
  pub after : later ≡ accepted v
  pub tree : t ≡ cond a (item tag start body u v) (cond b (item tag start body end v) v)

module _ (tag start : ℕ) (body : List ℕ) (t : Items) where
  followed-parted : (inner later : Judged) → followed (item tag start body end) later ≡ accepted t → Parted false true tag start body inner later t
  unfolding followed
  followed-parted inner (refused r) h = never (cc)
  followed-parted inner (accepted v) h = record { u = end; v = v; inside = λ e. never (cc); after = refl; tree = sym (same-tree (item tag start body end v) t h) }

  joined-parted : (b : Bool) (inner later : Judged) → joined (item tag start body) inner later ≡ accepted t → Parted true b tag start body inner later t
  unfolding joined followed
  joined-parted b (refused r) later h = never (cc)
  joined-parted b (accepted u) (refused r) h = never (cc)
  joined-parted b (accepted u) (accepted v) h = record { u = u; v = v; inside = λ e. refl; after = refl; tree = sym (same-tree (item tag start body u v) t h) }

  parted : (a b : Bool) (inner later : Judged) → cond a (joined (item tag start body) inner later) (cond b (followed (item tag start body end) later) later) ≡ accepted t
      → Parted a b tag start body inner later t
  parted true b inner later h = joined-parted b inner later h
  parted false true inner later h = followed-parted inner later h
  parted false false inner later h = record { u = end; v = t; inside = λ e. never (cc); after = h; tree = refl }

-- the first item, of a tag, with a body from an offset on, and what comes after it, behind another offset
pub record Opened (parent depth tag from behind : ℕ) (body rest : List ℕ) (t : Items) : Type 0 where
  pub u : Items
  pub v : Items
  pub value : is_value (known parent tag) body ≡ true
  pub deep : is_items (known parent tag) ≡ true → depth ≤ 16
  pub inside : is_items (known parent tag) ≡ true → Accepts tag (depth + 1) from body u
  pub after : Accepts parent depth behind rest v
  pub tree : t ≡ share (known parent tag) tag from body u v

-- an element below depth 16 is refused
not-deep : (p tag depth : ℕ) → attribute tag || eqb tag 1 || leb depth 16 ≡ true → is_items (known p tag) ≡ true → depth ≤ 16
not-deep p tag depth h i =
    let k = items-known (known p tag) i in
    let a : attribute tag ≡ false = items-no-attribute p tag k in
    let c : eqb tag 1 ≡ false = (items-tag tag (sym (known-anywhere p tag a) ∙ k)).not_cdata in
    leb-true depth 16 (rw (a, c) at h)

module _ (c : Context) (base tag : ℕ) (rest : List ℕ) (t : Items) (q : read c base (tag ∷ rest) ≡ accepted t) where
  abbrev s : List ℕ
  s = tag ∷ rest

  abbrev wrong : Option Refusal
  wrong = broken c base tag (header_size s) (body_size s) (suc (length rest)) (first_body s)

  abbrev inner : Judged
  inner = read (within c tag) (base + header_size s) (first_body s)

  abbrev later : Judged
  later = read (next c base tag (first_body s)) (base + header_size s + body_size s) (after_first s)

  step : unless wrong (by_kind (known c.parent tag) (item tag (base + header_size s) (first_body s)) inner later) ≡ accepted t
  step = sym (read-item c base tag rest (header_size s) (body_size s) (first_body s) (after_first s) refl refl refl refl) ∙ q

  sound : wrong ≡ none
  sound = unless-none wrong (by_kind (known c.parent tag) (item tag (base + header_size s) (first_body s)) inner later) t step

  parts : Parted (is_items (known c.parent tag)) (is_known (known c.parent tag)) tag (base + header_size s) (first_body s) inner later t
  unfolding by_kind
  parts = parted tag (base + header_size s) (first_body s) t (is_items (known c.parent tag)) (is_known (known c.parent tag)) inner later
      (unless-accepted wrong (by_kind (known c.parent tag) (item tag (base + header_size s) (first_body s)) inner later) t step)

  within-accepts : is_items (known c.parent tag) ≡ true → Accepts tag (c.depth + 1) (base + header_size s) (first_body s) parts.u
  unfolding within
  within-accepts k = record { context = within c tag; is_element = refl; is_depth = sym (add-one c.depth); reads = parts.inside k }

  next-accepts : Accepts c.parent c.depth (base + header_size s + body_size s) (after_first s) parts.v
  unfolding next
  next-accepts = record { context = next c base tag (first_body s); is_element = refl; is_depth = refl; reads = parts.after }

  fits-item : header_size s + body_size s ≤ length s
  fits-item = (fitting c base tag (header_size s) (body_size s) (suc (length rest)) (first_body s) sound).body

  opened-item : Opened c.parent c.depth tag (base + header_size s) (base + header_size s + body_size s) (first_body s) (after_first s) t
  unfolding share
  opened-item = record {
    u = parts.u;
    v = parts.v;
    value = (held c base tag (header_size s) (body_size s) (suc (length rest)) (first_body s) sound).rules.kind.value;
    deep = not-deep c.parent tag c.depth (held c base tag (header_size s) (body_size s) (suc (length rest)) (first_body s) sound).rules.deep;
    inside = within-accepts;
    after = next-accepts;
    tree = parts.tree;
  }

opened_in : (c : Context) (base : ℕ) (s : List ℕ) (t : Items) → 0 < length s → read c base s ≡ accepted t
    → (header_size s + body_size s ≤ length s) × Opened c.parent c.depth (get_or s 0 0) (base + header_size s) (base + header_size s + body_size s) (first_body s) (after_first s) t
opened_in c base [] t h q = absurd (omega arith)
opened_in c base (tag ∷ rest) t h q = (fits-item c base tag rest t q, opened-item c base tag rest t q)

module _ (parent depth base : ℕ) (s : List ℕ) (t : Items) (h : 0 < length s) (a : Accepts parent depth base s t) where
  pub fits_in : header_size s + body_size s ≤ length s
  fits_in = (opened_in a.context base s t h a.reads).0

  pub opened : Opened parent depth (get_or s 0 0) (base + header_size s) (base + header_size s + body_size s) (first_body s) (after_first s) t
  opened = rw (sym a.is_element, sym a.is_depth) (opened_in a.context base s t h a.reads).1

-- it lies where item_at says
pub lies-inside : (part : List ℕ) (at : ℕ) (r : Optional Lies) → r ≡ lies_at part at → at < length part → r ≡ None
    → (parent depth base : ℕ) (t : Items) → Accepts parent depth base (drop at part) t → ⊥
lies-inside part at r e l q parent depth base t a =
    let s = drop at part in
    omega (arith, leb-false (header_size s + body_size s) (length s) (not-whole part at r e q), fits_in parent depth base s t (omega (arith, length-drop at part)) a)

-- the rest of an accepted part, in the words of code that goes by item_at
module _ {part : List ℕ} {at from to : ℕ} (k : Lying part at from to) (h : at ≤ length part) where
  pub met : at < length part → (parent depth base : ℕ) (t : Items) → Accepts parent depth (base + at) (drop at part) t
      → Opened parent depth (get_or part at 0) (base + from) (base + to) (between part from to) (drop to part) t
  met l parent depth base t a =
      let x : base + at + header_size (drop at part) ≡ base + from = omega (arith, k.begins) in
      let y : base + at + header_size (drop at part) + body_size (drop at part) ≡ base + to = omega (arith, k.ends) in
      rw (tag-is k h, y, x, body_is k h, later-is k h) at (opened parent depth (base + at) (drop at part) t (omega (arith, length-drop at part)) a)

-- a part of length 0 has no items
pub opened-end : (parent depth base : ℕ) (t : Items) → Accepts parent depth base [] t → t ≡ end
opened-end parent depth base t a = sym (same-tree end t (unless-accepted (late [] a.context.waiting) (accepted end) t (sym (read-end a.context base) ∙ a.reads)))
