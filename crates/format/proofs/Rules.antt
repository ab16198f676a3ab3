-- What it says of an item that nothing is broken at it, test by test, and the other way round.
use mathlib.Core.Path.{◌≡◌, refl}
use mathlib.Core.Bool.{Bool, true, false, not, ◌&&◌, ◌||◌}
use mathlib.Core.Option.{Option, none, some, some-ne-none}
use mathlib.Core.List.{List, [], ◌∷◌}
use Prim.Native.Nat.{ℕ, ◌+◌, ◌≤◌}
use lib.Dec.{eqb, leb}
use lib.ListN.{length}
use borrow.Author.Tests.{leb-true, le-leb}
use Rattle.octets.specs.Numbers.{among}
use Rattle.octets.proofs.Tests.{and_left, and_right, never}
use Rattle.text.specs.Text.{text}
use Rattle.text.specs.Tokens.{is_table, covered, shown_length}
use Rattle.values.specs.declared.Kind.{Kind}
use Rattle.values.specs.Table.{known, attribute}
use Rattle.format.specs.declared.Refusal.{Refusal}
use Rattle.format.specs.Answers.{refusal, wrong_value}
use Rattle.format.specs.Tree.{Items}
use Rattle.format.specs.Judge.{Judged, is_known, is_tokens, is_text, is_value, wrong_in, Context, allowed, latest, shown, of_top, rule, value_rule, first, kind_rules, item_rules, own, late_before, late_after, broken, unless, outermost, read, judge}
use Rattle.format.specs.Judge.Judged.{accepted}

pub first_head : (x : Option Refusal) (xs : List (Option Refusal)) → first (x ∷ xs) ≡ none → x ≡ none
unfolding first
first_head none xs h = refl
first_head (some a) xs h = h

pub first_tail : (x : Option Refusal) (xs : List (Option Refusal)) → first (x ∷ xs) ≡ none → first xs ≡ none
unfolding first
first_tail none xs h = h
first_tail (some a) xs h = absurd (some-ne-none a h)

pub first_one : (x : Option Refusal) → first (x ∷ []) ≡ x
unfolding first
first_one none = refl
first_one (some a) = refl

pub rule-true : (n place : ℕ) (b : Bool) → rule n place b ≡ none → b ≡ true
unfolding rule
rule-true n place true h = refl
rule-true n place false h = absurd (some-ne-none (refusal n place) h)

pub value-true : (place field : ℕ) (b : Bool) → value_rule place field b ≡ none → b ≡ true
unfolding value_rule
value-true place field true h = refl
value-true place field false h = absurd (some-ne-none (wrong_value place field) h)

pub unless-none : (b : Option Refusal) (a : Judged) (t : Items) → unless b a ≡ accepted t → b ≡ none
unfolding unless
unless-none none a t h = refl
unless-none (some r) a t h = never (cc)

pub unless-accepted : (b : Option Refusal) (a : Judged) (t : Items) → unless b a ≡ accepted t → a ≡ accepted t
unfolding unless
unless-accepted none a t h = h
unless-accepted (some r) a t h = never (cc)

pub same-tree : (t u : Items) → accepted t ≡ accepted u → t ≡ u
same-tree t u h = cc

-- an accepted object keeps rule 1, and its octets were read
module _ (o : List ℕ) (t : Items) (h : judge o ≡ accepted t) where
  pub accepted-size : (1 ≤ length o) × (length o ≤ 32_768)
  unfolding judge
  accepted-size =
      let b = rule-true 1 0 (leb 1 (length o) && leb (length o) 32_768) (unless-none _ _ t h) in
      (leb-true 1 (length o) (and_left (leb 1 (length o)) (leb (length o) 32_768) b), leb-true (length o) 32_768 (and_right (leb 1 (length o)) (leb (length o) 32_768) b))

  pub accepted-read : read outermost 0 o ≡ accepted t
  unfolding judge
  accepted-read = unless-accepted (rule 1 0 (leb 1 (length o) && leb (length o) 32_768)) (read outermost 0 o) t h

-- rules 9 to 13
pub record KindHeld (c : Context) (tag : ℕ) (body : List ℕ) (k : Option Kind) : Type 0 where
  pub value : is_value k body ≡ true
  pub valid : not (is_text k) || text true body ≡ true
  pub table : not (is_tokens k) || is_table body ≡ true
  pub covers : not (is_text k) || (of_top c tag || covered c.table body) ≡ true
  pub short : not (is_text k) || shown c.parent tag (shown_length c.table body) ≡ true

pub kind-held : (c : Context) (at tag : ℕ) (body : List ℕ) (k : Option Kind) → kind_rules c at tag body k ≡ none → KindHeld c tag body k
unfolding kind_rules
kind-held c at tag body k q9 =
    let q10 = first_tail _ _ q9 in
    let q11 = first_tail _ _ q10 in
    let q12 = first_tail _ _ q11 in
    let q13 = first_tail _ _ q12 in
    record {
      value = value-true at (wrong_in k body) _ (first_head _ _ q9);
      valid = rule-true 10 at _ (first_head _ _ q10);
      table = rule-true 11 at _ (first_head _ _ q11);
      covers = rule-true 12 at _ (first_head _ _ q12);
      short = rule-true 13 at _ (first_head _ _ q13);
    }

pub held-kind : (c : Context) (at tag : ℕ) (body : List ℕ) (k : Option Kind) → KindHeld c tag body k → kind_rules c at tag body k ≡ none
unfolding kind_rules first rule value_rule
held-kind c at tag body k h = rw (h.value, h.valid, h.table, h.covers, h.short)

-- rules 6 to 13
pub record ItemHeld (c : Context) (tag : ℕ) (body : List ℕ) : Type 0 where
  pub order : leb c.stage (latest tag) ≡ true
  pub deep : attribute tag || eqb tag 1 || leb c.depth 16 ≡ true
  pub once : not (attribute tag && is_known (known c.parent tag) && among tag c.seen) ≡ true
  pub kind : KindHeld c tag body (known c.parent tag)

item-held : (c : Context) (at tag : ℕ) (body : List ℕ) → item_rules c at tag body ≡ none → ItemHeld c tag body
unfolding item_rules
item-held c at tag body q6 =
    let q7 = first_tail _ _ q6 in
    let q8 = first_tail _ _ q7 in
    let q9 = first_tail _ _ q8 in
    record {
      order = rule-true 6 at _ (first_head _ _ q6);
      deep = rule-true 7 at _ (first_head _ _ q7);
      once = rule-true 8 at _ (first_head _ _ q8);
      kind = kind-held c at tag body (known c.parent tag) (first_head _ _ q9);
    }

pub held-item : (c : Context) (at tag : ℕ) (body : List ℕ) → ItemHeld c tag body → item_rules c at tag body ≡ none
unfolding item_rules first rule
held-item c at tag body h = rw (h.order, h.deep, h.once, held-kind c at tag body (known c.parent tag) h.kind)

-- all that is judged at an item, but for the lengths
pub record Held (c : Context) (tag : ℕ) (body : List ℕ) : Type 0 where
  pub before : late_before c tag ≡ none
  pub allow : allowed c.parent tag ≡ true
  pub rules : ItemHeld c tag body
  pub later : late_after c tag body ≡ none

-- and the lengths: rules 2, 3 and 5
pub record Fitting (c : Context) (h n room : ℕ) : Type 0 where
  pub header : h ≤ room
  pub body : h + n ≤ room
  pub alone : not (eqb c.parent 0) || leb room (h + n) ≡ true

module _ (c : Context) (at tag h n room : ℕ) (body : List ℕ) where
  own-none : broken c at tag h n room body ≡ none → own c at tag h n room body ≡ none
  unfolding broken
  own-none q = first_head _ _ (first_tail _ _ q)

  pub held : broken c at tag h n room body ≡ none → Held c tag body
  unfolding broken own
  held q =
      let q2 = own-none q in
      let q4 = first_tail _ _ (first_tail _ _ q2) in
      record {
        before = first_head _ _ q;
        allow = rule-true 4 at _ (first_head _ _ q4);
        rules = item-held c at tag body (first_head _ _ (first_tail _ _ (first_tail _ _ q4)));
        later = first_head _ _ (first_tail _ _ (first_tail _ _ q));
      }

  pub fitting : broken c at tag h n room body ≡ none → Fitting c h n room
  unfolding own
  fitting q =
      let q2 = own-none q in
      let q3 = first_tail _ _ q2 in
      record {
        header = leb-true h room (rule-true 2 at _ (first_head _ _ q2));
        body = leb-true (h + n) room (rule-true 3 at _ (first_head _ _ q3));
        alone = rule-true 5 (at + h + n) _ (first_head _ _ (first_tail _ _ (first_tail _ _ q3)));
      }

  pub unbroken : Held c tag body → Fitting c h n room → broken c at tag h n room body ≡ none
  unfolding broken own first rule
  unbroken k f = rw (k.before, le-leb h room f.header, le-leb (h + n) room f.body, k.allow, f.alone, held-item c at tag body k.rules, k.later)
