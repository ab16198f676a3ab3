-- The walk over a part: the ways through next_child.
use Rattle.std.specs.Prelude.{Some, None, Option as Optional}
use mathlib.Core.Path.{◌≡◌, refl, sym, ap, ◌∙◌, subst}
use mathlib.Core.Bool.{Bool, true, false, cond, not, ◌&&◌, false≢true, not-and_self}
use mathlib.Core.Option.{Option, none, some}
use mathlib.Core.List.{List, [], ◌∷◌}
use Prim.Native.Nat.{ℕ, zero, suc, ◌+◌, ◌-◌, ◌≤◌, ◌<◌}
use native.Mathlib.Omega.{arith}
use lib.ListN.{length, drop, get_or, drop_of_length-le, length-drop}
use borrow.Author.Tests.{eq-eqb, ne_eqb, le-leb}
use Rattle.octets.specs.Header.{header_size, body_size}
use Rattle.octets.specs.Places.{is_whole, first_body, after_first, lies_at, between, from_to}
use Rattle.octets.proofs.Tests.{and_left, and_right}
use Rattle.octets.proofs.Places.{Lying, lying, not-whole, bounds, tag-is, body_is, later-is, fewer-after, none-whole}
use Rattle.octets.specs.declared.Lies.{Lies}
use Rattle.text.specs.Tokens.{Entries}
use Rattle.values.specs.declared.Kind.{Kind}
use Rattle.values.specs.Table.{known, attribute}
use Rattle.values.proofs.Known.{known-anywhere}
use Rattle.format.specs.Tree.{Items}
use Rattle.format.specs.Tree.Items.{end, item}
use Rattle.format.specs.Judge.{is_known, is_items, is_tokens}
use Rattle.format.specs.Meaning.{opens, is_child, means}
use Rattle.format.specs.Meaning.Meaning.{nothing}
use Rattle.format.proofs.Means.{items-opens}
use Rattle.format.proofs.NormalOctets.{child-no-attribute}
use Rattle.tags.specs.declared.Listed.{Listed}
use Rattle.tags.specs.declared.Listed.TheVariants.{Nothing, Inside, Value}
use Rattle.tags.specs.Listed.{listed_as}
use Rattle.tags.proofs.Listing.{is-nothing, is-inside, is-value}
use Rattle.judge.proofs.AllWays.{tokens-four}
use Rattle.reader.specs.Filling.{Accepts, share}
use Rattle.reader.proofs.Opening.{Opened, fits_in, opened, opened-end}
use Rattle.compare.specs.Walks.{is_meant, children_within, children_in, child_within, child_from, Children, NextChild, child}
use Rattle.compare.specs.declared.walks.Child.{Child}

-- ---- is_meant

module _ (tag : ℕ) (a : Bool) (e : a ≡ attribute tag) where
  pub child-attribute : a ≡ true → false ≡ is_child tag && is_known (known 0 tag)
  unfolding is_child
  child-attribute q = rw (sym e ∙ q)

  module _ (n : a ≡ false) where
    pub child-cdata : tag ≡ 1 → false ≡ is_child tag && is_known (known 0 tag)
    unfolding is_child
    child-cdata q = rw (sym e ∙ n, eq-eqb tag 1 q)

    module _ (m : tag ≡ 1 → ⊥) (g : Listed) (ge : g ≡ listed_as (known 0 tag)) where
      is-child : is_child tag ≡ not (is_tokens (known 0 tag))
      unfolding is_child
      is-child = rw (sym e ∙ n, ne_eqb tag 1 m, tokens-four 0 tag)

      pub child-nothing : g ≡ Nothing → false ≡ is_child tag && is_known (known 0 tag)
      child-nothing q = rw (is-child, (is-nothing (known 0 tag) (sym q ∙ ge)).1) (sym (not-and_self (is_tokens (known 0 tag))))

      pub child-inside : g ≡ Inside → true ≡ is_child tag && is_known (known 0 tag)
      child-inside q = let w = is-inside (known 0 tag) (sym q ∙ ge) in rw (is-child, w.1, w.2)

      pub child-value : (k : Kind) → g ≡ Value k → true ≡ is_child tag && is_known (known 0 tag)
      unfolding is_known
      child-value k q = let w = is-value (known 0 tag) k (sym q ∙ ge) in rw (is-child, w.no_table, ap is_known w.is)

pub ruleset child-ways = (child-attribute, child-cdata, child-nothing, child-inside, child-value)

-- ---- what an item adds to a meaning

module _ (es : Entries) (p tag from : ℕ) (body : List ℕ) (u v : Items) where
  passed-item : is_child tag ≡ false → (inside : Items) → means es (item tag from body inside v) ≡ means es v
  unfolding means
  passed-item h inside = rw h

  passed-known : is_child tag ≡ false → means es (share (known p tag) tag from body u v) ≡ means es v
  unfolding share
  passed-known h = go (is_items (known p tag)) (is_known (known p tag))
    where
      go : (a b : Bool) → means es (cond a (item tag from body u v) (cond b (item tag from body end v) v)) ≡ means es v
      go true b = passed-item h u
      go false true = passed-item h end
      go false false = refl

  share-unknown : known p tag ≡ none → share (known p tag) tag from body u v ≡ v
  unfolding share is_items is_known
  share-unknown h = rw h

  unknown-none : (k : Option Kind) → is_known k ≡ false → k ≡ none
  unfolding is_known
  unknown-none none h = refl
  unknown-none (some k) h = absurd (false≢true (sym h))

  -- an item that is no child element with a meaning of its own adds nothing
  passed : is_child tag && is_known (known 0 tag) ≡ false → means es (share (known p tag) tag from body u v) ≡ means es v
  passed h = go (is_child tag) refl h
    where
      go : (b : Bool) → is_child tag ≡ b → b && is_known (known 0 tag) ≡ false → means es (share (known p tag) tag from body u v) ≡ means es v
      go true e q = ap (means es) (share-unknown (known-anywhere p tag (child-no-attribute tag e) ∙ unknown-none (known 0 tag) q))
      go false e q = passed-known e

  shut : opens tag ≡ false → means es (item tag from body end v) ≡ means es (item tag from body u v)
  unfolding means
  shut h = rw h

  -- any other is met as an item
  own-item : is_child tag && is_known (known 0 tag) ≡ true → means es (share (known p tag) tag from body u v) ≡ means es (item tag from body u v)
  unfolding share
  own-item h = go (is_items (known p tag)) (is_known (known p tag)) refl known-here
    where
      known-here : is_known (known p tag) ≡ true
      known-here =
          ap is_known (known-anywhere p tag (child-no-attribute tag (and_left (is_child tag) (is_known (known 0 tag)) h))) ∙ and_right (is_child tag) (is_known (known 0 tag)) h

      go : (a b : Bool) → is_items (known p tag) ≡ a → b ≡ true → means es (cond a (item tag from body u v) (cond b (item tag from body end v) v)) ≡ means es (item tag from body u v)
      go true b e q = refl
      go false true e q = shut (sym (items-opens p tag) ∙ e)
      go false false e q = absurd (false≢true q)

-- ---- the child elements of octets

abbrev child_step : List ℕ → Bool → List (ℕ × List ℕ) → List (ℕ × List ℕ)
child_step s b later = cond b (cond (is_meant (get_or s 0 0)) ((get_or s 0 0, first_body s) ∷ later) later) []

-- as many steps as there are octets suffice
children-enough : (n m : ℕ) (s : List ℕ) → length s ≤ n → length s ≤ m → children_within n s ≡ children_within m s
unfolding children_within
children-enough zero zero s h k = refl
children-enough zero (suc m) s h k = rw (none-whole s h)
children-enough (suc n) zero s h k = rw (none-whole s k)
children-enough (suc n) (suc m) s h k = go (is_whole s) refl (λ l. children-enough n m (after_first s) (omega arith) (omega arith))
  where
    go : (b : Bool) → is_whole s ≡ b → (length (after_first s) < length s → children_within n (after_first s) ≡ children_within m (after_first s))
        → child_step s b (children_within n (after_first s)) ≡ child_step s b (children_within m (after_first s))
    go false q later = refl
    go true q later = ap (child_step s true) (later (fewer-after s q))

children-none : children_in [] ≡ []
unfolding children_in children_within
children-none = refl

children-step : (s : List ℕ) → children_in s ≡ child_step s (is_whole s) (children_in (after_first s))
unfolding children_in children_within
children-step [] = rw (none-whole [] (omega arith))
children-step (x ∷ rest) = go (is_whole s) refl
  where
    s : List ℕ
    s = x ∷ rest

    go : (b : Bool) → is_whole s ≡ b → child_step s b (children_within (length rest) (after_first s)) ≡ child_step s b (children_within (length (after_first s)) (after_first s))
    go false q = refl
    go true q = let l = fewer-after s q in ap (child_step s true) (children-enough (length rest) (length (after_first s)) (after_first s) (omega arith) (omega arith))

-- ---- where the first of them lies

abbrev next_step : ℕ → List ℕ → Bool → Optional Child → Optional Child
next_step at s b later = cond b (cond (is_meant (get_or s 0 0)) (Some (child at (at + header_size s) (at + header_size s + body_size s))) later) None

child-enough : (n m at : ℕ) (s : List ℕ) → length s ≤ n → length s ≤ m → child_within n at s ≡ child_within m at s
unfolding child_within
child-enough zero zero at s h k = refl
child-enough zero (suc m) at s h k = rw (none-whole s h)
child-enough (suc n) zero at s h k = rw (none-whole s k)
child-enough (suc n) (suc m) at s h k = go (is_whole s) refl (λ l. child-enough n m (at + header_size s + body_size s) (after_first s) (omega arith) (omega arith))
  where
    to : ℕ
    to = at + header_size s + body_size s

    go : (b : Bool) → is_whole s ≡ b → (length (after_first s) < length s → child_within n to (after_first s) ≡ child_within m to (after_first s))
        → next_step at s b (child_within n to (after_first s)) ≡ next_step at s b (child_within m to (after_first s))
    go false q later = refl
    go true q later = ap (next_step at s true) (later (fewer-after s q))

child-step : (n at : ℕ) (s : List ℕ) → length s ≤ n → child_within n at s ≡ next_step at s (is_whole s) (child_within n (at + header_size s + body_size s) (after_first s))
unfolding child_within
child-step zero at s h = rw (none-whole s h)
child-step (suc n) at s h = go (is_whole s) refl
  where
    to : ℕ
    to = at + header_size s + body_size s

    go : (b : Bool) → is_whole s ≡ b → next_step at s b (child_within n to (after_first s)) ≡ next_step at s b (child_within (suc n) to (after_first s))
    go false q = refl
    go true q = let l = fewer-after s q in ap (next_step at s true) (child-enough n (suc n) to (after_first s) (omega arith) (omega arith))

-- ---- next_child

-- no child element stands between two places
pub record Skips (part : List ℕ) (at i : ℕ) : Type 0 where
  pub onward : at ≤ i
  pub same : children_in (drop at part) ≡ children_in (drop i part)
  pub first : child_from part at ≡ child_from part i

module _ (part : List ℕ) (at : ℕ) where
  pub skip-begin : Skips part at at
  skip-begin = record { onward = omega arith; same = refl; first = refl }

  module _ (i : ℕ) (inv : Skips part at i) where
    first-at : child_from part at ≡ next_step i (drop i part) (is_whole (drop i part)) (child_within (length part) (i + header_size (drop i part) + body_size (drop i part)) (after_first (drop i part)))
    unfolding child_from
    first-at = inv.first ∙ child-step (length part) i (drop i part) (omega (arith, length-drop i part))

    pub skip-ended : length part ≤ i → NextChild part at None
    unfolding Children
    skip-ended h = record {
      is = sym (first-at ∙ rw (none-whole (drop i part) (omega (arith, length-drop i part))));
      tells = inv.same ∙ ap children_in (drop_of_length-le part h) ∙ children-none;
    }

    module _ (h : i < length part) (r : Optional Lies) (re : r ≡ lies_at part i) where
      child-at : children_in (drop at part) ≡ child_step (drop i part) (is_whole (drop i part)) (children_in (after_first (drop i part)))
      child-at = inv.same ∙ children-step (drop i part)

      pub skip-outside : r ≡ None → NextChild part at None
      unfolding Children
      skip-outside q = record { is = sym (first-at ∙ rw (not-whole part i r re q)); tells = child-at ∙ rw (not-whole part i r re q) }

      module _ (from to : ℕ) (q : r ≡ Some (from_to from to)) where
        here : Lying part i from to
        here = lying part i r re from to q

        edges : (i + 2 ≤ from) × (from ≤ to) × (to ≤ length part)
        edges = bounds here (omega arith)

        pub skip-nearer : length part - to < length part - i
        skip-nearer = omega (arith, edges)

        abbrev tag : ℕ
        tag = get_or part i 0

        child-in : children_in (drop at part) ≡ cond (is_meant tag) ((tag, between part from to) ∷ children_in (drop to part)) (children_in (drop to part))
        child-in =
            child-at ∙ rw (le-leb (header_size (drop i part) + body_size (drop i part)) (length (drop i part)) here.inside, tag-is here (omega arith), body_is here (omega arith), later-is here (omega arith))

        first-in : child_from part at ≡ cond (is_meant tag) (Some (child i from to)) (child_from part to)
        unfolding child_from
        first-in =
            first-at
            ∙ rw (le-leb (header_size (drop i part) + body_size (drop i part)) (length (drop i part)) here.inside, tag-is here (omega arith), later-is here (omega arith), ← here.ends, ← here.begins)

        module _ (b : Bool) (be : b ≡ is_meant tag) where
          pub skip-found : b ≡ true → NextChild part at (Some (child i from to))
          unfolding Children
          skip-found bq = record {
            is = sym (first-in ∙ rw (sym be ∙ bq));
            tells = record { begins = h; ordered = edges.1; inside = edges.2; onward = omega (arith, edges, inv.onward); children = child-in ∙ rw (sym be ∙ bq) };
          }

          pub skip-again : b ≡ false → Skips part at to
          skip-again bq = record { onward = omega (arith, edges, inv.onward); same = child-in ∙ rw (sym be ∙ bq); first = first-in ∙ rw (sym be ∙ bq) }

pub ruleset skip-ways = (skip-begin, skip-ended, skip-outside, skip-nearer, skip-found, skip-again)

-- ---- the child elements of an accepted part

-- they are those of its tree: what an element holds is accepted too, and the tree means what they mean, one after the other
pub data Told (depth : ℕ) : List (ℕ × List ℕ) → Items → Type 0 where
  over : {t : Items} → ((es : Entries) → means es t ≡ nothing) → Told depth [] t
  comes : {t : Items} {later : List (ℕ × List ℕ)} (tag from : ℕ) (body : List ℕ) (inside after : Items) → is_child tag ≡ true
      → (opens tag ≡ true → (depth ≤ 16) × Accepts tag (depth + 1) from body inside) → ((es : Entries) → means es t ≡ means es (item tag from body inside after)) → Told depth later after
      → Told depth ((tag, body) ∷ later) t

told_same : (depth : ℕ) {l : List (ℕ × List ℕ)} (t v : Items) → ((es : Entries) → means es t ≡ means es v) → Told depth l v → Told depth l t
told_same depth t v e (over h) = over {t = t} (λ es. e es ∙ h es)
told_same depth t v e (comes tag from body inside after c i h m) = comes {t = t} tag from body inside after c i (λ es. e es ∙ h es) m

told-item : (p depth offset : ℕ) (s : List ℕ) (t : Items) → 0 < length s → (a : Accepts p depth offset s t)
    → ((v : Items) (behind : ℕ) → Accepts p depth behind (after_first s) v → Told depth (children_in (after_first s)) v) → Told depth (children_in s) t
told-item p depth offset s t h a later = go (is_meant tag) refl
  where
    tag : ℕ
    tag = get_or s 0 0

    from : ℕ
    from = offset + header_size s

    o : Opened p depth tag from (offset + header_size s + body_size s) (first_body s) (after_first s) t
    o = opened p depth offset s t h a

    rest : Told depth (children_in (after_first s)) o.v
    rest = later o.v (offset + header_size s + body_size s) o.after

    list : children_in s ≡ cond (is_meant tag) ((tag, first_body s) ∷ children_in (after_first s)) (children_in (after_first s))
    list = children-step s ∙ rw (le-leb (header_size s + body_size s) (length s) (fits_in p depth offset s t h a))

    go : (b : Bool) → is_meant tag ≡ b → Told depth (children_in s) t
    go true e =
        subst (λ l. Told depth l t) (sym (list ∙ rw e))
        (comes {t = t} tag from (first_body s) o.u o.v (and_left (is_child tag) (is_known (known 0 tag)) e)
        (λ n. let j : is_items (known p tag) ≡ true = items-opens p tag ∙ n in (o.deep j, o.inside j))
        (λ es. ap (means es) o.tree ∙ own-item es p tag from (first_body s) o.u o.v e) rest)
    go false e =
        subst (λ l. Told depth l t) (sym (list ∙ rw e)) (told_same depth t o.v (λ es. ap (means es) o.tree ∙ passed es p tag from (first_body s) o.u o.v e) rest)

told-end : (p depth offset : ℕ) (t : Items) → Accepts p depth offset [] t → Told depth (children_in []) t
unfolding means
told-end p depth offset t a = subst (λ l. Told depth l t) (sym children-none) (over {t = t} (λ es. ap (means es) (opened-end p depth offset t a)))

told-next : (p depth offset : ℕ) (s : List ℕ) (t : Items) → Accepts p depth offset s t
    → ((v : Items) (behind : ℕ) → length (after_first s) < length s → Accepts p depth behind (after_first s) v → Told depth (children_in (after_first s)) v) → Told depth (children_in s) t
told-next p depth offset [] t a later = told-end p depth offset t a
told-next p depth offset (x ∷ rest) t a later =
    let s = x ∷ rest in
    let f = fewer-after s (le-leb (header_size s + body_size s) (length s) (fits_in p depth offset s t (omega arith) a)) in
    told-item p depth offset s t (omega arith) a (λ v behind c. later v behind f c)

told-within : (n p depth offset : ℕ) (s : List ℕ) (t : Items) → length s ≤ n → Accepts p depth offset s t → Told depth (children_in s) t
told-within zero p depth offset s t l a = told-next p depth offset s t a (λ v behind f c. absurd (omega arith))
told-within (suc n) p depth offset s t l a = told-next p depth offset s t a (λ v behind f c. told-within n p depth behind (after_first s) v (omega arith) c)

pub children-told : (p depth offset : ℕ) (s : List ℕ) (t : Items) → Accepts p depth offset s t → Told depth (children_in s) t
children-told p depth offset s t a = told-within (length s) p depth offset s t (omega arith) a
