-- Rule 1 is broken only by an object's size: no rule of an item has its number.
use mathlib.Core.Path.{◌≡◌, refl, sym, ap, subst}
use mathlib.Core.Bool.{Bool, true, false, cond, ◌&&◌, ◌||◌}
use mathlib.Core.Logic.{◌⊎◌, inl, inr}
use mathlib.Core.Option.{Option, none, some}
use mathlib.Core.List.{List, [], ◌∷◌}
use Prim.Native.Nat.{ℕ, zero, suc, ◌+◌, ◌<◌}
use native.Mathlib.Omega.{arith}
use lib.Dec.{eqb, leb}
use lib.ListN.{length}
use borrow.Author.Tests.{leb-false}
use Rattle.octets.specs.Header.{header_size, body_size}
use Rattle.octets.specs.Places.{first_body, after_first}
use Rattle.text.specs.Tokens.{Entries, entries, covered}
use Rattle.values.specs.declared.Kind.{Kind}
use Rattle.values.specs.Table.{known, attribute}
use Rattle.format.specs.declared.Refusal.{Refusal}
use Rattle.format.specs.Answers.{refusal}
use Rattle.format.specs.Tree.{Items}
use Rattle.format.specs.Tree.Items.{end, item}
use Rattle.format.specs.Judge.{Judged, is_known, is_items, wrong_in, is_value, Context, rule, value_rule, first, kind_rules, item_rules, own, late, late_before, late_after, broken, within, next, unless, followed, joined, by_kind, items, outermost, judge}
use Rattle.format.specs.Judge.Judged.{refused, accepted}

abbrev Other : Option Refusal → Type 0
Other none = Unit {0}
Other (some r) = r.number ≡ 1 → ⊥

abbrev pub OtherJudged : Judged → Type 0
OtherJudged (refused r) = r.number ≡ 1 → ⊥
OtherJudged (accepted t) = Unit {0}

-- the first of some rules has another number than 1 where each of them has
other-first : (n place : ℕ) (b : Bool) (xs : List (Option Refusal)) → (n ≡ 1 → ⊥) → Other (first xs) → Other (first (rule n place b ∷ xs))
unfolding rule first
other-first n place true xs f g = g
other-first n place false xs f g = f

other-then : (x : Option Refusal) (xs : List (Option Refusal)) → Other x → Other (first xs) → Other (first (x ∷ xs))
unfolding first
other-then none xs f g = g
other-then (some r) xs f g = f

other-value : (place field : ℕ) (b : Bool) → Other (value_rule place field b)
unfolding value_rule
other-value place field true = tt
other-value place field false = λ e. omega arith

other_none : Other (first [])
unfolding first
other_none = tt

module _ (c : Context) (at tag : ℕ) (body : List ℕ) where
  other-kind : (k : Option Kind) → Other (kind_rules c at tag body k)
  unfolding kind_rules
  other-kind k =
      other-then (value_rule at (wrong_in k body) (is_value k body)) _ (other-value at (wrong_in k body) (is_value k body)) (other-first 10 at _ _ (λ e. omega arith) (other-first 11 at _ _ (λ e. omega arith)
      (other-first 12 at _ _ (λ e. omega arith) (other-first 13 at _ _ (λ e. omega arith) other_none))))

  other_item : Other (item_rules c at tag body)
  unfolding item_rules
  other_item =
      other-first 6 at _ _ (λ e. omega arith) (other-first 7 at _ _ (λ e. omega arith) (other-first 8 at _ _ (λ e. omega arith)
      (other-then (kind_rules c at tag body (known c.parent tag)) [] (other-kind (known c.parent tag)) other_none)))

  other-own : (h n room : ℕ) → Other (own c at tag h n room body)
  unfolding own
  other-own h n room =
      other-first 2 at _ _ (λ e. omega arith) (other-first 3 at _ _ (λ e. omega arith) (other-first 4 at _ _ (λ e. omega arith)
      (other-first 5 (at + h + n) _ _ (λ e. omega arith) (other-then (item_rules c at tag body) [] other_item other_none))))

other-late : (T : Entries) (ws : List (ℕ × List ℕ)) → Other (late T ws)
unfolding late
other-late T [] = tt
other-late T (w ∷ ws) = other-first 12 w.0 (covered T w.1) (late T ws ∷ []) (λ e. omega arith) (other-then (late T ws) [] (other-late T ws) other_none)

other-cond : (b : Bool) (x y : Option Refusal) → Other x → Other y → Other (cond b x y)
other-cond true x y f g = f
other-cond false x y f g = g

other-broken : (c : Context) (at tag h n room : ℕ) (body : List ℕ) → Other (broken c at tag h n room body)
unfolding broken late_before late_after
other-broken c at tag h n room body =
    other-then _ _ (other-cond (attribute tag || eqb tag 4) none (late [] c.waiting) tt (other-late [] c.waiting))
    (other-then _ _ (other-own c at tag body h n room)
    (other-then _ [] (other-cond (eqb tag 4) (late (entries body) c.waiting) none (other-late (entries body) c.waiting) tt) other_none))

other-unless : (o : Option Refusal) (a : Judged) → Other o → OtherJudged a → OtherJudged (unless o a)
unfolding unless
other-unless none a f g = g
other-unless (some r) a f g = f

other-followed : (f : Items → Items) (a : Judged) → OtherJudged a → OtherJudged (followed f a)
unfolding followed
other-followed f (refused r) g = g
other-followed f (accepted t) g = tt

other-joined : (f : Items → Items → Items) (a b : Judged) → OtherJudged a → OtherJudged b → OtherJudged (joined f a b)
unfolding joined
other-joined f (refused r) b g h = g
other-joined f (accepted t) b g h = other-followed (f t) b h

other-by-kind : (k : Option Kind) (f : Items → Items → Items) (a b : Judged) → OtherJudged a → OtherJudged b → OtherJudged (by_kind k f a b)
unfolding by_kind
other-by-kind k f a b g h = go (is_items k) (is_known k)
  where
    go : (i n : Bool) → OtherJudged (cond i (joined f a b) (cond n (followed (f end) b) b))
    go true n = other-joined f a b g h
    go false true = other-followed (f end) b h
    go false false = h

pub other_items : (k : ℕ) (c : Context) (at : ℕ) (part : List ℕ) → OtherJudged (items k c at part)
unfolding items
other_items zero c at part = λ e. omega arith
other_items (suc k) c at [] = other-unless (late [] c.waiting) (accepted end) (other-late [] c.waiting) tt
other_items (suc k) c at (tag ∷ rest) =
    let p = tag ∷ rest in
    let h = header_size p in
    let n = body_size p in
    other-unless (broken c at tag h n (suc (length rest)) (first_body p)) _ (other-broken c at tag h n (suc (length rest)) (first_body p))
    (other-by-kind (known c.parent tag) (item tag (at + h) (first_body p)) (items k (within c tag) (at + h) (first_body p)) (items k (next c at tag (first_body p)) (at + h + n) (after_first p))
    (other_items k (within c tag) (at + h) (first_body p)) (other_items k (next c at tag (first_body p)) (at + h + n) (after_first p)))

-- 1 is given at 0, to an object that is empty or above 32,768
pub one_only : (object : List ℕ) (r : Refusal) → judge object ≡ refused r → r.number ≡ 1 → (r.place ≡ 0) × ((length object ≡ 0) ⊎ (32_768 < length object))
unfolding judge rule unless
one_only object r h e = go (leb 1 (length object)) (leb (length object) 32_768) refl refl h
  where
    go : (a b : Bool) → leb 1 (length object) ≡ a → leb (length object) 32_768 ≡ b → unless (rule 1 0 (a && b)) (items (suc (length object)) outermost 0 object) ≡ refused r
        → (r.place ≡ 0) × ((length object ≡ 0) ⊎ (32_768 < length object))
    go false b p q g = (let z : refusal 1 0 ≡ r = cc in sym (ap (λ x. x.place) z), inl (omega (arith, leb-false 1 (length object) p)))
    go true false p q g = (let z : refusal 1 0 ≡ r = cc in sym (ap (λ x. x.place) z), inr (leb-false (length object) 32_768 q))
    go true true p q g = absurd (subst OtherJudged g (other_items (suc (length object)) outermost 0 object) e)
