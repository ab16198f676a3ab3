-- The packed object of a normal form: it is accepted, has that very normal form and isn't longer; so it passes the check (request 2026-11).
use mathlib.Core.Path.{◌≡◌, refl, sym, ap, ◌∙◌, subst}
use mathlib.Core.Bool.{Bool, true, false, cond, ◌&&◌}
use mathlib.Core.Logic.{◌↔◌}
use mathlib.Core.Option.{none, some, some-injective, none-ne-some}
use mathlib.Core.List.{List, [], append-nil}
use Prim.Native.Nat.{ℕ, ◌+◌, ◌^◌, ◌≤◌, ◌<◌}
use native.Mathlib.Omega.{arith}
use lib.Dec.{leb, ltb}
use lib.ListN.{length}
use borrow.Author.Tests.{ltb-true, leb-true, le-leb}
use Rattle.octets.specs.Numbers.{Octets}
use Rattle.octets.specs.Header.{framed}
use Rattle.octets.proofs.Frames.{headed, framed-longer}
use Rattle.octets.proofs.Tests.{and_left, and_right, and-true}
use Rattle.text.specs.Tokens.{Entries}
use Rattle.format.specs.Tree.{Items, find}
use Rattle.format.specs.Tree.Items.{end, item}
use Rattle.format.specs.Judge.{Judged, is_top, judge}
use Rattle.format.specs.Judge.Judged.{refused, accepted}
use Rattle.format.specs.Meaning.{means, table_in, table_of, meaning_of, if_accepted, encode, normal_of, normal}
use Rattle.format.specs.Same.{same_octets, has_normal, is_normal}
use Rattle.grammar.specs.Grammar.{Inside, Accepts}
use Rattle.grammar.specs.Grammar.Part.{attributes}
use Rattle.grammar.proofs.Tags.{top-items}
use Rattle.grammar.proofs.Sound.{sound}
use Rattle.grammar.proofs.Complete.{complete}
use Rattle.fold.specs.Words.{words_in, chosen}
use Rattle.fold.specs.Packed.{tokens, entries_of, table_octets, refolded, folded_by, proposal, packed_if, packed}
use Rattle.fold.specs.Calls.{passes}
use Rattle.format.proofs.Same.{same-octets, octets-same, has-exactly, normal-exactly}
use Rattle.fold.proofs.Tables.{AllWords, entries-back}
use Rattle.fold.proofs.Bare.{table_item, no-entries, no-tokens, normal-bare}
use Rattle.fold.proofs.Folds.{framed-begins, Kept, held-means, Refolds, inside-refolds}
use Rattle.fold.proofs.Chosen.{all_in, all-chosen}

-- ---- words folded in an object without a token table

means-end : (T : Entries) → means T end ≡ means [] end
unfolding means
means-end T = refl

module _ (ws : List (List ℕ)) (good : AllWords ws) where
  abbrev Es : Entries
  Es = entries_of tokens ws

  abbrev Tab : List ℕ
  Tab = table_octets Es

  -- the entries in force are those of the table
  in-force : (tag at : ℕ) (body : List ℕ) (u : Items) → find 4 u ≡ some Tab → table_of (item tag at body u end) ≡ Es
  unfolding table_of table_in
  in-force tag at body u h = rw h (entries-back Es)

  top-runs : (tag at : ℕ) (u : Items) → is_top tag ≡ true → find 4 u ≡ none → Refolds ws good attributes tag 2 u → length (refolded Es (framed 4 Tab) tag u) < 256 ^ 2
      → (u' : Items) × Inside Es attributes tag 2 at (refolded Es (framed 4 Tab) tag u) u' × Kept Es tag u u' × (find 4 u' ≡ some Tab)
  top-runs tag at u t n r =
      subst (λ b. length (refolded Es (cond b (framed 4 Tab) []) tag u) < 256 ^ 2
      → (u' : Items) × Inside Es attributes tag 2 at (refolded Es (cond b (framed 4 Tab) []) tag u) u' × Kept Es tag u u' × (find 4 u' ≡ cond b (some Tab) none))
      t (r.run at (λ f. n))

  top-folds : (tag start : ℕ) (body : List ℕ) (u : Items) → is_top tag ≡ true → Inside [] attributes tag 2 start body u → find 4 u ≡ none
      → length (folded_by ws (item tag start body u end)) ≤ 32_768
      → (t : Items) × Accepts (folded_by ws (item tag start body u end)) t × (meaning_of t ≡ means [] (item tag start body u end))
  unfolding folded_by
  top-folds tag start body u t i n l =
      let o = refolded Es (framed 4 Tab) tag u in
      let g = framed-longer tag o [] in
      let g' : length o + 0 < length (framed tag o) = rw (append-nil (framed tag o)) at g in
      let r = top-runs tag (headed (length o)) u t n (inside-refolds ws good i) (omega arith) in
      let u' = r.0 in (
        item tag (headed (length o)) o u' end,
        record {
          tokens = Es;
          tag = tag;
          body = o;
          start = headed (length o);
          inside = u';
          small = l;
          top = t;
          whole = rw (append-nil (framed tag o)) at (framed-begins tag o [] (omega arith));
          holds = r.1;
          tree = refl;
        },
        ap (λ T. means T (item tag (headed (length o)) o u' end)) (in-force tag (headed (length o)) o u' r.3)
            ∙ held-means Es tag start (headed (length o)) body o u u' end end (top-items tag t) r.2 (means-end Es),
      )

  -- whatever words are folded in an accepted object without a token table: where the outcome fits the limit, it is accepted and means the same
  pub folded-accepted : (o : List ℕ) (t : Items) → Octets o → judge o ≡ accepted t → table_item t ≡ none → length (folded_by ws t) ≤ 32_768
      → (t' : Items) × (judge (folded_by ws t) ≡ accepted t') × (meaning_of t' ≡ meaning_of t)
  folded-accepted o t os h n l =
      let a = complete o t os h in
      let w : table_item (item a.tag a.start a.body a.inside end) ≡ none = subst (λ x. table_item x ≡ none) a.tree n in
      let i : Inside [] attributes a.tag 2 a.start a.body a.inside = subst (λ T. Inside T attributes a.tag 2 a.start a.body a.inside) (no-tokens a.holds a.top w) a.holds in
      let r = top-folds a.tag a.start a.body a.inside a.top i w (subst (λ x. length (folded_by ws x) ≤ 32_768) a.tree l) in (
        r.0,
        ap (λ x. judge (folded_by ws x)) a.tree ∙ sound (folded_by ws (item a.tag a.start a.body a.inside end)) r.0 r.1,
        r.2 ∙ (ap (means []) (sym a.tree) ∙ ap (λ T. means T t) (sym (no-entries t n))),
      )

-- ---- normal forms

pub normal-accepted : (o : List ℕ) (t : Items) → judge o ≡ accepted t → normal o ≡ some (normal_of t)
unfolding normal if_accepted
normal-accepted o t h = rw h

-- whatever words are folded in a normal form, and the outcome fits the limit: it has that very normal form
pub folded-normal : (ws : List (List ℕ)) → AllWords ws → (o : List ℕ) (t : Items) → Octets o → judge o ≡ accepted t → normal_of t ≡ o → length (folded_by ws t) ≤ 32_768 → normal (folded_by ws t) ≡ some o
folded-normal ws good o t os h e l =
    let r = folded-accepted ws good o t os h (normal-bare o t os h e) l in
    normal-accepted (folded_by ws t) r.0 r.1 ∙ ap some (ap encode r.2 ∙ e)

-- what the packer proposes has that very normal form and isn't longer
pub record Packs (o p : List ℕ) : Type 0 where
  pub normally : normal p ≡ some o
  pub short : length p ≤ length o

proposal-packs : (o : List ℕ) (t : Items) → Octets o → judge o ≡ accepted t → normal_of t ≡ o → Packs o (proposal o t)
unfolding proposal
proposal-packs o t os h e = go (ltb (length p) (length o)) refl
  where
    ws : List (List ℕ)
    ws = chosen (words_in 0 t)

    p : List ℕ
    p = folded_by ws t

    go : (b : Bool) → ltb (length p) (length o) ≡ b → Packs o (cond b p o)
    go true q =
        let l = ltb-true (length p) (length o) q in
        record { normally = folded-normal ws (all-chosen (words_in 0 t) (all_in 0 t)) o t os h e (omega (arith, (complete o t os h).small)); short = omega arith }
    go false q = record { normally = normal-accepted o t h ∙ ap some e; short = omega arith }

pub packed-packs : (o : List ℕ) → Octets o → (p : List ℕ) → packed o ≡ some p → Packs o p
unfolding packed packed_if
packed-packs o os p h = go (judge o) refl h
  where
    fits : (t : Items) → judge o ≡ accepted t → (b : Bool) → same_octets (normal_of t) o ≡ b → cond b (some (proposal o t)) none ≡ some p → Packs o p
    fits t j true q r = subst (λ x. Packs o x) (some-injective (proposal o t) p r) (proposal-packs o t os j (same-octets (normal_of t) o q))
    fits t j false q r = absurd (none-ne-some p r)

    go : (a : Judged) → judge o ≡ a → packed_if o a ≡ some p → Packs o p
    go (refused r) j q = absurd (none-ne-some p q)
    go (accepted t) j q = fits t j (same_octets (normal_of t) o) refl q

-- it proposes something exactly for a normal form
pub packed-exactly : (o : List ℕ) → normal o ≡ some o ↔ ((p : List ℕ) × (packed o ≡ some p))
unfolding packed packed_if normal if_accepted
packed-exactly o = (λ h. forth (judge o) refl h, λ h. back (judge o) refl h.0 h.1)
  where
    forth : (a : Judged) → judge o ≡ a → if_accepted normal_of a ≡ some o → (p : List ℕ) × (packed_if o a ≡ some p)
    forth (refused r) j h = absurd (none-ne-some o h)
    forth (accepted t) j h = (proposal o t, ap (λ b. cond b (some (proposal o t)) none) (subst (λ x. same_octets x o ≡ true) (sym (some-injective (normal_of t) o h)) (octets-same o)))

    back : (a : Judged) → judge o ≡ a → (p : List ℕ) → packed_if o a ≡ some p → if_accepted normal_of a ≡ some o
    back (refused r) j p h = absurd (none-ne-some p h)
    back (accepted t) j p h = go (same_octets (normal_of t) o) refl h
      where
        go : (b : Bool) → same_octets (normal_of t) o ≡ b → cond b (some (proposal o t)) none ≡ some p → some (normal_of t) ≡ some o
        go true q r = ap some (same-octets (normal_of t) o q)
        go false q r = absurd (none-ne-some p r)

-- the check passes octets exactly where the first are a normal form, which has the limit of an object, and the others have that very one and aren't longer
pub record Passing (o p : List ℕ) : Type 0 where
  pub normally : normal o ≡ some o
  pub packs : Packs o p

pub passes-exactly : (o p : List ℕ) → passes o p ≡ true ↔ Passing o p
unfolding passes
passes-exactly o p = (forth, back)
  where
    own : Bool
    own = is_normal o

    has : Bool
    has = has_normal o (judge p)

    short : Bool
    short = leb (length p) (length o)

    forth : own && has && short ≡ true → Passing o p
    forth h = record {
      normally = (normal-exactly o).0 (and_left own has (and_left (own && has) short h));
      packs = record {
        normally = (has-exactly o p).0 (and_right own has (and_left (own && has) short h));
        short = leb-true (length p) (length o) (and_right (own && has) short h);
      };
    }

    back : Passing o p → own && has && short ≡ true
    back k = and-true (own && has) short (and-true own has ((normal-exactly o).1 k.normally) ((has-exactly o p).1 k.packs.normally)) (le-leb (length p) (length o) k.packs.short)

-- so whatever the packer proposes passes the check
pub packed-passes : (o : List ℕ) → Octets o → (p : List ℕ) → packed o ≡ some p → passes o p ≡ true
packed-passes o os p h = (passes-exactly o p).1 (record { normally = (packed-exactly o).1 (p, h); packs = packed-packs o os p h })
