-- What acceptance says of a tree, item by item, under the token table in force, with no order of judging left.
use mathlib.Core.Path.{◌≡◌, refl, sym, ap, ◌∙◌, subst}
use mathlib.Core.Bool.{Bool, true, false, not, ◌&&◌, ◌||◌, false≢true, or-true}
use mathlib.Core.Option.{Option, none, some, none-ne-some}
use mathlib.Core.List.{List, [], ◌∷◌, cons≢nil}
use Prim.Native.Nat.{ℕ, suc, ◌+◌, ◌≤◌, ◌<◌}
use native.Mathlib.Omega.{arith}
use lib.Dec.{eqb, leb}
use lib.ListN.{length, drop_of_length-le}
use lib.Seq.{drop-drop}
use borrow.Author.Tests.{leb-true, le-leb, eqb-true}
use Rattle.octets.specs.Numbers.{among, Octets}
use Rattle.octets.specs.Header.{header_size, body_size}
use Rattle.octets.specs.Places.{first_body, after_first}
use Rattle.text.specs.Text.{text}
use Rattle.text.specs.Tokens.{Entries, entries, covered, shown_length}
use Rattle.values.specs.declared.Kind.{Kind}
use Rattle.values.specs.declared.Kind.TheVariants.{HoldsItems, HoldsTokens}
use Rattle.values.specs.Table.{known, attribute}
use Rattle.values.specs.Values.{fits}
use Rattle.format.specs.Tree.{Items, find}
use Rattle.format.specs.Tree.Items.{end, item}
use Rattle.format.specs.Judge.{is_known, is_items, is_text, is_value, Context, allowed, latest, stage_after, shown, of_top, late, late_after, within, next, outermost, read, judge}
use Rattle.format.specs.Judge.Judged.{accepted}
use Rattle.format.specs.Meaning.{opens, table_in, table_of}
use Rattle.format.specs.Writer.{Spot, below, past, at_top, placed, is_end}
use Rattle.octets.proofs.Tests.{or_elim}
use Rattle.octets.proofs.Places.{body-octets, later-octets}
use Rattle.text.proofs.Expansion.{Sound, sound_empty}
use Rattle.values.proofs.Known.{known-four, known-anywhere, items-no-attribute, items-tag, not-zero, unknown-four}
use Rattle.format.proofs.Rules.{Held, KindHeld, held, fitting, accepted-size}
use Rattle.format.proofs.Induction.{Cases, accepted-all, judged-all, Unbroken, in_at, Nexts}
use Rattle.format.proofs.Place.{shown-other}
use Rattle.format.proofs.Means.{opens-items, text-known}
use Rattle.format.proofs.Force.{held_stage, settled, settled-next, settled-within, not-four, attribute-four, attribute-one, swap-eqb, Valid, valid-within, valid-next, quiet-now, quiet-before, quiet-attribute, covered-attribute, in_force, forced, force-next, force-skip, force-after, force-table, top-known}

-- rules 9, 10, 12 and 13 of a known item, under the table in force
pub record KindTold (T : Entries) (parent tag : ℕ) (body : List ℕ) (k : Option Kind) : Type 0 where
  pub is_one : is_known k ≡ true
  pub value : is_value k body ≡ true
  pub valid : not (is_text k) || text true body ≡ true
  pub covers : not (is_text k) || covered T body ≡ true
  pub short : not (is_text k) || shown parent tag (shown_length T body) ≡ true

-- one item: its tag and body are octets, it keeps rules 4 and 6 to 8, those by kind, and holds items only where it may
pub record ItemTold (T : Entries) (s : Spot) (tag : ℕ) (body : List ℕ) (inside : Items) : Type 0 where
  pub octet : tag < 256
  pub octets : Octets body
  pub place : placed s tag ≡ true
  pub kind : KindTold T s.parent tag body (known s.parent tag)
  pub holder : opens tag || is_end inside ≡ true

abbrev pub Told : Entries → Spot → Items → Type 0
Told T s end = Unit {0}
Told T s (item tag at body inside after) = ItemTold T s tag body inside × Told T (below s tag) inside × Told T (past s tag) after

-- the spot of a context, with a stage and tags that it has come to at least
abbrev pub spot : Context → ℕ → List ℕ → Spot
spot c stage seen = record { parent = c.parent; depth = c.depth; stage = stage; seen = seen }

abbrev pub Among : List ℕ → List ℕ → Type 0
Among few many = (a : ℕ) → among a few ≡ true → among a many ≡ true

-- what is known of accepted items from a context on
record Tells (c : Context) (t : Items) : Type 0 where
  no_table : settled c ≡ true → find 4 t ≡ none
  quiet : Valid c → late (in_force c t) c.waiting ≡ none
  sound : Valid c → Sound (in_force c t)
  told : Valid c → (stage : ℕ) (seen : List ℕ) → stage ≤ c.stage → Among seen c.seen → Told (in_force c t) (spot c stage seen) t

pub among-more : (tag : ℕ) (few many : List ℕ) → Among few many → Among few (tag ∷ many)
unfolding among
among-more tag few many h a q = rw (h a q) (or-true (eqb a tag))

pub among-both : (tag : ℕ) (few many : List ℕ) → Among few many → Among (tag ∷ few) (tag ∷ many)
unfolding among
among-both tag few many h a q = or_elim (eqb a tag) (among a few) (λ e. rw e) (λ e. rw (h a e) (or-true (eqb a tag))) q

tells-end : (c : Context) → late [] c.waiting ≡ none → Tells c end
unfolding find
tells-end c q = record { no_table = λ s. refl; quiet = λ v. quiet-now c.table c v refl q; sound = λ v. v.sound; told = λ v stage seen l h. tt }

-- an unknown item
tells-unknown : (c : Context) (at tag : ℕ) (body : List ℕ) (u : Items) → Held c tag body → known c.parent tag ≡ none → Tells (next c at tag body) u → Tells c u
unfolding next
tells-unknown c at tag body u k e g = record {
  no_table = λ s. g.no_table (settled-next c at tag body k s);
  quiet = λ v. quiet v (attribute tag) refl;
  sound = λ v. subst (λ T. Sound T) same (g.sound (valid-next c at tag body k v));
  told = λ v stage seen l h. subst (λ T. Told T (spot c stage seen) u) same
      (g.told (valid-next c at tag body k v) stage seen (omega (arith, leb-true c.stage (stage_after tag) (held_stage c tag body k))) (among-more tag seen c.seen h));
}
  where
    four : eqb tag 4 ≡ false
    four = unknown-four c.parent tag e

    same : in_force (next c at tag body) u ≡ in_force c u
    same = force-skip c at tag body u four

    quiet : Valid c → (a : Bool) → attribute tag ≡ a → late (in_force c u) c.waiting ≡ none
    quiet v true a = quiet-attribute (in_force c u) c at tag body v a (subst (λ T. late T (next c at tag body).waiting ≡ none) same (g.quiet (valid-next c at tag body k v)))
    quiet v false a = quiet-before (in_force c u) c tag body k v a four (force-after c at tag body u g.no_table a four ∙ same)

-- rules 4 and 6 to 8, at a stage and after tags that are not beyond the context's
held-placed : (c : Context) (tag : ℕ) (body : List ℕ) → Held c tag body → is_known (known c.parent tag) ≡ true → (stage : ℕ) (seen : List ℕ) → stage ≤ c.stage → Among seen c.seen
    → placed (spot c stage seen) tag ≡ true
unfolding placed
held-placed c tag body k e stage seen l h =
    let o : leb stage (latest tag) ≡ true = le-leb stage (latest tag) (omega (arith, leb-true c.stage (latest tag) k.rules.order)) in
    rw (k.allow, o, k.rules.deep) (go (attribute tag) (among tag seen) refl (rw e at k.rules.once))
  where
    go : (a s : Bool) → among tag seen ≡ s → not (a && true && among tag c.seen) ≡ true → not (a && s) ≡ true
    go false s q r = refl
    go true false q r = refl
    go true true q r = let g : not true ≡ true = rw (h tag q) at r in g

-- those by kind, where the text is covered
kind-told : (T : Entries) (c : Context) (tag : ℕ) (body : List ℕ) (k : Option Kind) → KindHeld c tag body k → is_known k ≡ true → not (is_text k) || covered T body ≡ true
    → not (is_text k) || shown c.parent tag (shown_length T body) ≡ true → KindTold T c.parent tag body k
kind-told T c tag body k h e q s = record { is_one = e; value = h.value; valid = h.valid; covers = q; short = s }

-- what is no attribute is judged under the table in force
kind-now : (T : Entries) (c : Context) (tag : ℕ) (body : List ℕ) (k : Option Kind) → c.table ≡ T → attribute tag ≡ false → is_known k ≡ true → KindHeld c tag body k
    → KindTold T c.parent tag body k
unfolding of_top
kind-now T c tag body k e a i h =
    kind-told T c tag body k h i (subst (λ X. not (is_text k) || covered X body ≡ true) e (rw a at h.covers))
    (subst (λ X. not (is_text k) || shown c.parent tag (shown_length X body) ≡ true) e h.short)

past-spot : (c : Context) (stage tag : ℕ) (seen : List ℕ) → eqb c.parent 0 ≡ false → past (spot c stage seen) tag ≡ spot c (stage_after tag) (tag ∷ seen)
unfolding past
past-spot c stage tag seen z = rw z

known_some : (k : Kind) (o : Option Kind) → o ≡ some k → is_known o ≡ true
unfolding is_known
known_some k o e = rw e

-- the item after one that is known is told at the spot past it
told-after : (T : Entries) (c : Context) (at tag : ℕ) (body : List ℕ) (u : Items) → Held c tag body → Valid c → in_force (next c at tag body) u ≡ T → Tells (next c at tag body) u
    → (stage : ℕ) (seen : List ℕ) → Among seen c.seen → Told T (past (spot c stage seen) tag) u
unfolding next
told-after T c at tag body u k v same g stage seen h =
    subst (λ s. Told T s u) (sym (past-spot c stage tag seen v.inner))
    (subst (λ X. Told X (spot c (stage_after tag) (tag ∷ seen)) u) same
    (g.told (valid-next c at tag body k v) (stage_after tag) (tag ∷ seen) (omega arith) (among-both tag seen c.seen h)))

-- an element that holds items
tells-element : (c : Context) (at tag from : ℕ) (body : List ℕ) (t u : Items) → tag < 256 → Octets body → Held c tag body → known c.parent tag ≡ some HoldsItems
    → Tells (within c tag) t → Tells (next c at tag body) u → Tells c (item tag from body t u)
unfolding find within below
tells-element c at tag from body t u o os k e gt gu = record {
  no_table = λ s. rw (not-four c tag body k s) (gu.no_table (settled-next c at tag body k s));
  quiet = λ v. quiet-before T c tag body k v no_attribute four now;
  sound = λ v. subst (λ X. Sound X) same (gu.sound (valid-next c at tag body k v));
  told = λ v stage seen l h. (
    record {
      octet = o;
      octets = os;
      place = held-placed c tag body k (known_some HoldsItems (known c.parent tag) e) stage seen l h;
      kind = kind-now T c tag body (known c.parent tag) now no_attribute (known_some HoldsItems (known c.parent tag) e) k.rules.kind;
      holder = rw (opens-items tag e0);
    },
    subst (λ X. Told X (spot (within c tag) 0 []) t) (inner v) (gt.told (valid-within c tag body k v) 0 [] (omega arith) (λ a q. q)),
    told-after T c at tag body u k v same gu stage seen h,
  );
}
  where
    T : Entries
    T = in_force c (item tag from body t u)

    no_attribute : attribute tag ≡ false
    no_attribute = items-no-attribute c.parent tag e

    e0 : known 0 tag ≡ some HoldsItems
    e0 = sym (known-anywhere c.parent tag no_attribute) ∙ e

    four : eqb tag 4 ≡ false
    four = (items-tag tag e0).not_table

    same : in_force (next c at tag body) u ≡ T
    same = force-next c at tag from body t u four

    now : c.table ≡ T
    now = force-after c at tag body u gu.no_table no_attribute four ∙ same

    inner : Valid c → in_force (within c tag) t ≡ T
    inner v = let n = gt.no_table (settled-within c tag body k v) in rw n now

-- any other known item
module _ (c : Context) (at tag from : ℕ) (body : List ℕ) (u : Items) (kd : Kind) (o : tag < 256) (os : Octets body) (k : Held c tag body) (e : known c.parent tag ≡ some kd) (g : Tells (next c at tag body) u) where
  T : Entries
  T = in_force c (item tag from body end u)

  -- from the table in force for what comes after it, what waits, and its own rules by kind
  leaf-tells : in_force (next c at tag body) u ≡ T → (settled c ≡ true → find 4 u ≡ none) → (Valid c → late T c.waiting ≡ none)
      → (Valid c → KindTold T c.parent tag body (known c.parent tag)) → Tells c (item tag from body end u)
  unfolding find is_end T
  leaf-tells same no_more quiet kind = record {
    no_table = λ s. rw (not-four c tag body k s) (no_more s);
    quiet = quiet;
    sound = λ v. subst (λ X. Sound X) same (g.sound (valid-next c at tag body k v));
    told = λ v stage seen l h. (
      record {
        octet = o;
        octets = os;
        place = held-placed c tag body k (known_some kd (known c.parent tag) e) stage seen l h;
        kind = kind v;
        holder = or-true (opens tag);
      },
      tt,
      told-after T c at tag body u k v same g stage seen h,
    );
  }

  none_after : settled c ≡ true → find 4 u ≡ none
  none_after s = g.no_table (settled-next c at tag body k s)

  -- an attribute
  tells-attribute : attribute tag ≡ true → Tells c (item tag from body end u)
  unfolding find T
  tells-attribute a = leaf-tells same none_after (λ v. quiet-attribute T c at tag body v a (late-after v)) (λ v. kind v)
    where
      same : in_force (next c at tag body) u ≡ T
      same = force-next c at tag from body end u (attribute-four tag a)

      late-after : Valid c → late T (next c at tag body).waiting ≡ none
      late-after v = subst (λ X. late X (next c at tag body).waiting ≡ none) same (g.quiet (valid-next c at tag body k v))

      now : settled c ≡ true → c.table ≡ T
      now s = let n = none_after s in rw (swap-eqb tag 4 (attribute-four tag a), n)

      covers : Valid c → (b : Bool) → is_text (known c.parent tag) ≡ b → not b || covered T body ≡ true
      covers v false q = refl
      covers v true q = covered-attribute T c at tag body a (text-known (known c.parent tag) q) (rw q at k.rules.kind.covers) now (late-after v)

      kind : Valid c → KindTold T c.parent tag body (known c.parent tag)
      kind v =
          kind-told T c tag body (known c.parent tag) k.rules.kind (known_some kd (known c.parent tag) e) (covers v (is_text (known c.parent tag)) refl)
          (rw (shown-other c.parent tag (shown_length T body) (attribute-one tag a)) (or-true (not (is_text (known c.parent tag)))))

  -- an element other than the token table, or CDATA
  tells-other : attribute tag ≡ false → eqb tag 4 ≡ false → Tells c (item tag from body end u)
  unfolding T
  tells-other a f =
      let same : in_force (next c at tag body) u ≡ T = force-next c at tag from body end u f in
      let now : c.table ≡ T = force-after c at tag body u g.no_table a f ∙ same in
      leaf-tells same none_after (λ v. quiet-before T c tag body k v a f now)
      (λ v. kind-now T c tag body (known c.parent tag) now a (known_some kd (known c.parent tag) e) k.rules.kind)

-- the token table
tells-table : (c : Context) (at from : ℕ) (body : List ℕ) (u : Items) (kd : Kind) → 4 < 256 → Octets body → Held c 4 body → known c.parent 4 ≡ some kd → Tells (next c at 4 body) u
    → Tells c (item 4 from body end u)
unfolding find T late_after attribute is_text
tells-table c at from body u kd o os k e g =
    let four : known c.parent 4 ≡ some HoldsTokens = known-anywhere c.parent 4 refl ∙ known-four in
    leaf-tells c at 4 from body u kd o os k e g (force-table c at body u g.no_table) (none_after c at 4 from body u kd o os k e g) (λ v. k.later)
    (λ v. rw four (kind-told (entries body) c 4 body (some HoldsTokens) (rw four at k.rules.kind) (known_some HoldsTokens (some HoldsTokens) refl) refl refl))

tells-leaf : (c : Context) (at tag from : ℕ) (body : List ℕ) (u : Items) (kd : Kind) → tag < 256 → Octets body → Held c tag body → known c.parent tag ≡ some kd
    → Tells (next c at tag body) u → Tells c (item tag from body end u)
tells-leaf c at tag from body u kd o os k e g = go (attribute tag) refl (eqb tag 4) refl
  where
    go : (a : Bool) → attribute tag ≡ a → (f : Bool) → eqb tag 4 ≡ f → Tells c (item tag from body end u)
    go true a f q = tells-attribute c at tag from body u kd o os k e g a
    go false a false q = tells-other c at tag from body u kd o os k e g a q
    go false a true q =
        subst (λ n. n < 256 → Held c n body → known c.parent n ≡ some kd → Tells (next c at n body) u → Tells c (item n from body end u)) (sym (eqb-true tag 4 q))
        (λ o k e g. tells-table c at from body u kd o os k e g) o k e g

held_of : (c : Context) (at tag : ℕ) (rest : List ℕ) → Unbroken c at tag rest → Held c tag (first_body (tag ∷ rest))
held_of c at tag rest q = held c at tag (header_size (tag ∷ rest)) (body_size (tag ∷ rest)) (suc (length rest)) (first_body (tag ∷ rest)) q

-- a whole object is one element, and its items are told
pub record Top (t : Items) : Type 0 where
  pub tag : ℕ
  pub from : ℕ
  pub body : List ℕ
  pub inside : Items
  pub is : t ≡ item tag from body inside end
  pub octet : tag < 256
  pub octets : Octets body
  pub held : Held outermost tag body
  tells : Tells (within outermost tag) inside

-- what is asked of each part so that the whole is found: nothing comes of nothing, and of the outermost part comes one element
record Comes (c : Context) (part : List ℕ) (t : Items) : Type 0 where
  empty : part ≡ [] → t ≡ end
  tells : Tells c t
  whole : c ≡ outermost → (part ≡ [] → ⊥) → Top t

-- the first item of the outermost part holds items
top-item : (c : Context) (at tag : ℕ) (rest : List ℕ) → Unbroken c at tag rest → c ≡ outermost → known c.parent tag ≡ some HoldsItems
unfolding outermost
top-item c at tag rest q e =
    let p : c.parent ≡ 0 = ap (λ x. x.parent) e in
    ap (λ x. known x tag) p ∙ top-known tag (sym (ap (λ x. allowed x tag) p) ∙ (held_of c at tag rest q).allow)

-- and nothing follows it
top-last : (c : Context) (at tag : ℕ) (rest : List ℕ) → Unbroken c at tag rest → c ≡ outermost → after_first (tag ∷ rest) ≡ []
unfolding outermost
top-last c at tag rest q e =
    let p = tag ∷ rest in
    let f = (fitting c at tag (header_size p) (body_size p) (suc (length rest)) (first_body p) q).alone in
    let l : leb (suc (length rest)) (header_size p + body_size p) ≡ true = sym (ap (λ x. not (eqb x.parent 0) || leb (suc (length rest)) (header_size p + body_size p)) e) ∙ f in
    drop-drop (body_size p) (header_size p) p ∙ drop_of_length-le p (leb-true (suc (length rest)) (header_size p + body_size p) l)

comes-element : (c : Context) (at tag : ℕ) (rest : List ℕ) (s u : Items) → Unbroken c at tag rest → known c.parent tag ≡ some HoldsItems → Octets (tag ∷ rest)
    → Comes (within c tag) (first_body (tag ∷ rest)) s → Comes (Nexts c at tag rest) (after_first (tag ∷ rest)) u → Comes c (tag ∷ rest) (item tag (in_at at (tag ∷ rest)) (first_body (tag ∷ rest)) s u)
comes-element c at tag rest s u q e os inside later = record {
  empty = λ n. absurd (cons≢nil n);
  tells = tells-element c at tag (in_at at (tag ∷ rest)) body s u (os 0) (body-octets (tag ∷ rest) os) (held_of c at tag rest q) e inside.tells later.tells;
  whole = λ o n. record {
    tag = tag;
    from = in_at at (tag ∷ rest);
    body = body;
    inside = s;
    is = ap (item tag (in_at at (tag ∷ rest)) body s) (later.empty (top-last c at tag rest q o));
    octet = os 0;
    octets = body-octets (tag ∷ rest) os;
    held = subst (λ x. Held x tag body) o (held_of c at tag rest q);
    tells = subst (λ x. Tells (within x tag) s) o inside.tells;
  };
}
  where
    body : List ℕ
    body = first_body (tag ∷ rest)

abbrev Coming : Context → ℕ → List ℕ → Items → Type 0
Coming c at part t = Octets part → Comes c part t

coming-cases : Cases Coming
unfolding is_items
coming-cases = record {
  at_end = λ c at q os. record { empty = λ n. refl; tells = tells-end c q; whole = λ o n. absurd (n refl) };
  at_unknown = λ c at tag rest u q e later os. record {
    empty = λ n. absurd (cons≢nil n);
    tells = tells-unknown c at tag (first_body (tag ∷ rest)) u (held_of c at tag rest q) e (later (later-octets (tag ∷ rest) os)).tells;
    whole = λ o n. absurd (none-ne-some HoldsItems (sym e ∙ top-item c at tag rest q o));
  };
  at_element = λ c at tag rest s u q e inside later os. comes-element c at tag rest s u q e os (inside (body-octets (tag ∷ rest) os)) (later (later-octets (tag ∷ rest) os));
  at_leaf = λ c at tag rest u k q e l later os. record {
    empty = λ n. absurd (cons≢nil n);
    tells = tells-leaf c at tag (in_at at (tag ∷ rest)) (first_body (tag ∷ rest)) u k (os 0) (body-octets (tag ∷ rest) os) (held_of c at tag rest q) e (later (later-octets (tag ∷ rest) os)).tells;
    whole = λ o n. absurd (false≢true (sym l ∙ ap is_items (sym e ∙ top-item c at tag rest q o)));
  };
}

pub top : (o : List ℕ) (t : Items) → Octets o → judge o ≡ accepted t → Top t
top o t os h = (judged-all Coming coming-cases o t h os).whole refl (λ e. omega (arith, (accepted-size o t h).0, ap length e))

top-valid : (tag : ℕ) → allowed 0 tag ≡ true → Valid (within outermost tag)
unfolding within outermost
top-valid tag a = record { sound = sound_empty; opened = λ q. refl; closed = λ q. refl; inner = not-zero tag HoldsItems (top-known tag a) }

same-table : (o : Option (List ℕ)) → forced [] o ≡ table_in o
unfolding table_in
same-table none = refl
same-table (some o) = refl

told-top : (T : Entries) (tag from : ℕ) (body : List ℕ) (inside : Items) → tag < 256 → Octets body → Held outermost tag body → Told T (spot (within outermost tag) 0 []) inside
    → Told T at_top (item tag from body inside end)
unfolding at_top below within outermost is_known is_value is_text fits
told-top T tag from body inside o os k g =
    let e : known 0 tag ≡ some HoldsItems = top-known tag k.allow in (
      record {
        octet = o;
        octets = os;
        place = held-placed outermost tag body k (known_some HoldsItems (known 0 tag) e) 0 [] (omega arith) (λ a q. q);
        kind = rw e (record { is_one = refl; value = refl; valid = refl; covers = refl; short = refl });
        holder = rw (opens-items tag e);
      },
      g,
      tt,
    )

-- what acceptance says of an object's tree, under the object's own table, and that this table is a valid one
pub accepted-told : (o : List ℕ) (t : Items) → Octets o → judge o ≡ accepted t → Told (table_of t) at_top t
unfolding table_of within outermost
accepted-told o t os h =
    let w = top o t os h in
    let v = top-valid w.tag w.held.allow in
    let g : Told (table_in (find 4 w.inside)) (spot (within outermost w.tag) 0 []) w.inside =
    subst (λ T. Told T (spot (within outermost w.tag) 0 []) w.inside) (same-table (find 4 w.inside)) (w.tells.told v 0 [] (omega arith) (λ a q. q)) in
    subst (λ x. Told (table_of x) at_top x) (sym w.is) (told-top (table_in (find 4 w.inside)) w.tag w.from w.body w.inside w.octet w.octets w.held g)

pub accepted-sound : (o : List ℕ) (t : Items) → Octets o → judge o ≡ accepted t → Sound (table_of t)
unfolding table_of within outermost
accepted-sound o t os h =
    let w = top o t os h in
    let g : Sound (table_in (find 4 w.inside)) = subst (λ T. Sound T) (same-table (find 4 w.inside)) (w.tells.sound (top-valid w.tag w.held.allow)) in
    subst (λ x. Sound (table_of x)) (sym w.is) g

-- and of the items of any part that is judged in an element, under a context whose table is a valid one
pub part-told : (c : Context) (o : List ℕ) (t : Items) → Octets o → read c 0 o ≡ accepted t → Valid c → Told (in_force c t) (spot c 0 []) t
unfolding among
part-told c o t os h v = (accepted-all Coming coming-cases (suc (length o)) c 0 o t h os).tells.told v 0 [] (omega arith) (λ a q. absurd (false≢true q))
