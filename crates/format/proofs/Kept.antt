-- What it says that a record is good and that a tree keeps the writer's rules, test by test, and the other way round.
use mathlib.Core.Path.{◌≡◌, refl, ap, ◌∙◌, subst}
use mathlib.Core.Bool.{true, false, not, ◌&&◌, ◌||◌, false≢true}
use mathlib.Core.Option.{Option, some}
use mathlib.Core.List.{List, []}
use Prim.Native.Nat.{ℕ, ◌+◌, ◌≤◌}
use lib.Dec.{eqb, leb}
use lib.ListN.{length}
use borrow.Author.Tests.{eqb-true, eq-eqb, ne_eqb, leb-true, le-leb, not-true}
use Rattle.text.specs.Text.{text}
use Rattle.text.specs.Tokens.{shown_length}
use Rattle.values.specs.declared.Kind.{Kind}
use Rattle.values.specs.declared.Kind.TheVariants.{HoldsTokens}
use Rattle.values.specs.Table.{known, attribute}
use Rattle.octets.proofs.Tests.{and_left, and_right}
use Rattle.values.proofs.Known.{known-anywhere, known-four}
use Rattle.format.specs.declared.Record.{Record}
use Rattle.format.specs.Tree.{Items, kind_of}
use Rattle.format.specs.Tree.Items.{end, item}
use Rattle.format.specs.Judge.{is_known, is_tokens, is_text, is_value, shown}
use Rattle.format.specs.Meaning.{opens}
use Rattle.format.specs.Writer.{Spot, below, past, placed, body_keeps, keeps, body_in, good, is_end, ruled}

-- an item: rules 4 and 6 to 8, a known kind other than the token table's, and rules 9, 10, 12 and 13
pub record Kept (s : Spot) (tag : ℕ) (body : List ℕ) (k : Option Kind) : Type 0 where
  pub place : placed s tag ≡ true
  pub is_one : is_known k ≡ true
  pub no_table : is_tokens k ≡ false
  pub value : is_value k body ≡ true
  pub words : not (is_text k) || text false body && shown s.parent tag (shown_length [] body) ≡ true

pub keeps-parts : (s : Spot) (tag : ℕ) (body : List ℕ) → keeps s tag body ≡ true → Kept s tag body (known s.parent tag)
unfolding keeps body_keeps
keeps-parts s tag body h =
    let k = known s.parent tag in
    let a = is_known k in
    let b = not (is_tokens k) in
    let c = is_value k body in
    let d = not (is_text k) || text false body && shown s.parent tag (shown_length [] body) in
    let abcd = and_right (placed s tag) (a && b && c && d) h in
    let abc = and_left (a && b && c) d abcd in
    let ab = and_left (a && b) c abc in
    record {
      place = and_left (placed s tag) (a && b && c && d) h;
      is_one = and_left a b ab;
      no_table = not-true (is_tokens k) (and_right a b ab);
      value = and_right (a && b) c abc;
      words = and_right (a && b && c) d abcd;
    }

-- so it is no token table
pub keeps-tag : (s : Spot) (tag : ℕ) (body : List ℕ) → keeps s tag body ≡ true → eqb tag 4 ≡ false
unfolding attribute is_tokens
keeps-tag s tag body h = ne_eqb tag 4 λ q.
    let e : known s.parent tag ≡ some HoldsTokens = ap (known s.parent) q ∙ (known-anywhere s.parent 4 refl ∙ known-four) in
    false≢true (subst (λ b. b ≡ true) (keeps-parts s tag body h).no_table (ap is_tokens e))

-- a record by itself
pub record Good (s : Spot) (p : ℕ) (lent : List ℕ) (r : Record) : Type 0 where
  pub kind : r.kind ≡ kind_of r.tag
  pub parent : r.parent ≡ p
  pub inside : r.start + r.size ≤ length lent
  pub rules : keeps s r.tag (body_in lent r) ≡ true

pub good-parts : (s : Spot) (p : ℕ) (lent : List ℕ) (r : Record) → good s p lent r ≡ true → Good s p lent r
unfolding good
good-parts s p lent r h =
    let a = eqb r.kind (kind_of r.tag) in
    let b = eqb r.parent p in
    let c = leb (r.start + r.size) (length lent) in
    let abc = and_left (a && b && c) (keeps s r.tag (body_in lent r)) h in
    let ab = and_left (a && b) c abc in
    record {
      kind = eqb-true _ _ (and_left a b ab);
      parent = eqb-true _ _ (and_right a b ab);
      inside = leb-true _ _ (and_right (a && b) c abc);
      rules = and_right (a && b && c) (keeps s r.tag (body_in lent r)) h;
    }

pub is-good : (s : Spot) (p : ℕ) (lent : List ℕ) (r : Record) → Good s p lent r → good s p lent r ≡ true
unfolding good
is-good s p lent r g = rw (eq-eqb _ _ g.kind, eq-eqb _ _ g.parent, le-leb _ _ g.inside) g.rules

-- an item in a tree
pub record Ruled (s : Spot) (tag : ℕ) (body : List ℕ) (inside after : Items) : Type 0 where
  pub holder : opens tag || is_end inside ≡ true
  pub rules : keeps s tag body ≡ true
  pub within : ruled (below s tag) inside ≡ true
  pub beside : ruled (past s tag) after ≡ true

pub ruled-parts : (s : Spot) (tag at : ℕ) (body : List ℕ) (inside after : Items) → ruled s (item tag at body inside after) ≡ true → Ruled s tag body inside after
unfolding ruled
ruled-parts s tag at body inside after h =
    let a = opens tag || is_end inside in
    let b = keeps s tag body in
    let c = ruled (below s tag) inside in
    let d = ruled (past s tag) after in
    let abc = and_left (a && b && c) d h in
    let ab = and_left (a && b) c abc in
    record { holder = and_left a b ab; rules = and_right a b ab; within = and_right (a && b) c abc; beside = and_right (a && b && c) d h }

pub is-ruled : (s : Spot) (tag at : ℕ) (body : List ℕ) (inside after : Items) → Ruled s tag body inside after → ruled s (item tag at body inside after) ≡ true
unfolding ruled
is-ruled s tag at body inside after r = rw (r.holder, r.rules, r.within, r.beside)

pub end_is : (t : Items) → is_end t ≡ true → end ≡ t
unfolding is_end
end_is end h = refl
end_is (item tag at body inside after) h = absurd (false≢true h)
