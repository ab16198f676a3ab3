-- Every refusal of the judgement has a number from 1 to 13 and, where the object is not empty, a place inside the object.
use mathlib.Core.Path.{◌≡◌, refl, sym, subst}
use mathlib.Core.Bool.{Bool, true, false, cond, not, ◌&&◌, ◌||◌, false≢true}
use mathlib.Core.Option.{Option, none, some}
use mathlib.Core.List.{List, [], ◌∷◌, ◌++◌}
use Prim.Native.Nat.{ℕ, zero, suc, ◌+◌, ◌-◌, ◌≤◌, ◌<◌}
use native.Mathlib.Omega.{arith}
use native.Mathlib.Nat.{not-suc-le-zero}
use lib.Dec.{eqb, leb}
use lib.ListN.{length, drop, length-take, length-drop}
use borrow.Author.Tests.{leb-false}
use Rattle.octets.specs.Header.{header_size, body_size}
use Rattle.octets.specs.Places.{first_body, after_first}
use Rattle.text.specs.Tokens.{Entries, entries, covered}
use Rattle.values.specs.declared.Kind.{Kind}
use Rattle.values.specs.Table.{known, attribute}
use Rattle.format.specs.declared.Refusal.{Refusal}
use Rattle.format.specs.Tree.{Items}
use Rattle.format.specs.Tree.Items.{end, item}
use Rattle.format.specs.Judge.{Judged, is_known, is_items, is_text, is_value, wrong_in, Context, of_top, rule, value_rule, first, kind_rules, item_rules, own, late, late_before, late_after, broken, within, waits, next, unless, followed, joined, by_kind, items, read, outermost, judge}
use Rattle.format.specs.Judge.Judged.{refused, accepted}
use Rattle.values.proofs.Fields.{field-few}
use Rattle.format.proofs.Rules.{fitting}
use Rattle.format.proofs.Induction.{shorter}

-- a refusal inside an object of a size; only 9 names a field, one of five
pub record Inside (size : ℕ) (r : Refusal) : Type 0 where
  pub least : 1 ≤ r.number
  pub most : r.number ≤ 13
  pub place : r.place < size
  pub field : r.field ≤ 5
  pub nine : (r.number ≡ 9 → ⊥) → r.field ≡ 0

abbrev Sited : ℕ → Option Refusal → Type 0
Sited size none = Unit {0}
Sited size (some r) = Inside size r

abbrev Answered : ℕ → Judged → Type 0
Answered size (refused r) = Inside size r
Answered size (accepted t) = Unit {0}

sited-rule : (size n place : ℕ) (b : Bool) → 1 ≤ n → n ≤ 13 → (b ≡ false → place < size) → Sited size (rule n place b)
unfolding rule
sited-rule size n place true l m h = tt
sited-rule size n place false l m h = record { least = l; most = m; place = h refl; field = omega arith; nine = λ e. refl }

sited-value : (size place field : ℕ) (b : Bool) → place < size → field ≤ 5 → Sited size (value_rule place field b)
unfolding value_rule
sited-value size place field true l m = tt
sited-value size place field false l m = record { least = omega arith; most = omega arith; place = l; field = m; nine = λ e. absurd (e refl) }

field-few-in : (k : Option Kind) (o : List ℕ) → wrong_in k o ≤ 5
unfolding wrong_in
field-few-in none o = omega arith
field-few-in (some k) o = field-few k o

sited-first : (size : ℕ) (x : Option Refusal) (xs : List (Option Refusal)) → Sited size x → Sited size (first xs) → Sited size (first (x ∷ xs))
unfolding first
sited-first size none xs h g = g
sited-first size (some r) xs h g = h

sited-last : (size : ℕ) (x : Option Refusal) → Sited size x → Sited size (first (x ∷ []))
unfolding first
sited-last size none h = tt
sited-last size (some r) h = h

-- the texts that wait have places inside the object
abbrev Waiting : ℕ → List (ℕ × List ℕ) → Type 0
Waiting size [] = Unit {0}
Waiting size (w ∷ ws) = (w.0 < size) × Waiting size ws

sited-late : (size : ℕ) (T : Entries) (ws : List (ℕ × List ℕ)) → Waiting size ws → Sited size (late T ws)
unfolding late
sited-late size T [] h = tt
sited-late size T (w ∷ ws) h =
    sited-first size _ _ (sited-rule size 12 w.0 (covered T w.1) (omega arith) (omega arith) (λ e. h.0)) (sited-last size (late T ws) (sited-late size T ws h.1))

waiting-append : (size at : ℕ) (o : List ℕ) (ws : List (ℕ × List ℕ)) → at < size → Waiting size ws → Waiting size (ws ++ ((at, o) ∷ []))
waiting-append size at o [] l h = (l, tt)
waiting-append size at o (w ∷ ws) l h = (h.0, waiting-append size at o ws l h.1)

waiting-next : (size : ℕ) (c : Context) (at tag : ℕ) (body : List ℕ) → at < size → Waiting size c.waiting → Waiting size (next c at tag body).waiting
unfolding next waits
waiting-next size c at tag body l h = go (of_top c tag) (is_text (known c.parent tag))
  where
    go : (b d : Bool) → Waiting size (cond b (cond d (c.waiting ++ ((at, body) ∷ [])) c.waiting) [])
    go false d = tt
    go true false = h
    go true true = waiting-append size at body c.waiting l h

-- the rules of an item at a place inside the object
module _ (size : ℕ) (c : Context) (at tag : ℕ) (body : List ℕ) (l : at < size) where
  here : (n : ℕ) (b : Bool) (xs : List (Option Refusal)) → 1 ≤ n → n ≤ 13 → Sited size (first xs) → Sited size (first (rule n at b ∷ xs))
  here n b xs p q g = sited-first size (rule n at b) xs (sited-rule size n at b p q (λ e. l)) g

  last : (n : ℕ) (b : Bool) → 1 ≤ n → n ≤ 13 → Sited size (first (rule n at b ∷ []))
  last n b p q = sited-last size (rule n at b) (sited-rule size n at b p q (λ e. l))

  sited-kind : (k : Option Kind) → Sited size (kind_rules c at tag body k)
  unfolding kind_rules
  sited-kind k =
      sited-first size _ _ (sited-value size at (wrong_in k body) (is_value k body) l (field-few-in k body)) (here 10 _ _ (omega arith) (omega arith) (here 11 _ _ (omega arith) (omega arith) (here 12 _ _ (omega arith) (omega arith)
      (last 13 _ (omega arith) (omega arith)))))

  sited-item : Sited size (item_rules c at tag body)
  unfolding item_rules
  sited-item =
      here 6 _ _ (omega arith) (omega arith) (here 7 _ _ (omega arith) (omega arith) (here 8 _ _ (omega arith) (omega arith)
      (sited-last size (kind_rules c at tag body (known c.parent tag)) (sited-kind (known c.parent tag)))))

  -- rule 5's place is behind the item, and there are octets there
  behind-top : (h n room : ℕ) → at + room ≤ size → (b : Bool) → b || leb room (h + n) ≡ false → at + h + n < size
  behind-top h n room fits true e = absurd (false≢true (sym e))
  behind-top h n room fits false e = omega (arith, leb-false room (h + n) e)

  sited-own : (h n room : ℕ) → at + room ≤ size → Sited size (own c at tag h n room body)
  unfolding own
  sited-own h n room fits =
      here 2 _ _ (omega arith) (omega arith) (here 3 _ _ (omega arith) (omega arith) (here 4 _ _ (omega arith) (omega arith)
      (sited-first size _ _ (sited-rule size 5 (at + h + n) _ (omega arith) (omega arith) (behind-top h n room fits (not (eqb c.parent 0))))
      (sited-last size (item_rules c at tag body) sited-item))))

  sited-broken : Waiting size c.waiting → (h n room : ℕ) → at + room ≤ size → Sited size (broken c at tag h n room body)
  unfolding broken late_before late_after
  sited-broken w h n room fits =
      sited-first size _ _ (before (attribute tag || eqb tag 4)) (sited-first size _ _ (sited-own h n room fits) (sited-last size _ (after (eqb tag 4))))
    where
      before : (b : Bool) → Sited size (cond b none (late [] c.waiting))
      before true = tt
      before false = sited-late size [] c.waiting w

      after : (b : Bool) → Sited size (cond b (late (entries body) c.waiting) none)
      after true = sited-late size (entries body) c.waiting w
      after false = tt

answered-unless : (size : ℕ) (o : Option Refusal) (a : Judged) → Sited size o → (o ≡ none → Answered size a) → Answered size (unless o a)
unfolding unless
answered-unless size none a s h = h refl
answered-unless size (some r) a s h = s

answered-followed : (size : ℕ) (f : Items → Items) (a : Judged) → Answered size a → Answered size (followed f a)
unfolding followed
answered-followed size f (refused r) h = h
answered-followed size f (accepted t) h = tt

answered-joined : (size : ℕ) (f : Items → Items → Items) (a b : Judged) → Answered size a → Answered size b → Answered size (joined f a b)
unfolding joined
answered-joined size f (refused r) b h g = h
answered-joined size f (accepted t) b h g = answered-followed size (f t) b g

answered-kind : (size : ℕ) (k : Option Kind) (f : Items → Items → Items) (a b : Judged) → Answered size a → Answered size b → Answered size (by_kind k f a b)
unfolding by_kind
answered-kind size k f a b h g = go (is_items k) (is_known k)
  where
    go : (i n : Bool) → Answered size (cond i (joined f a b) (cond n (followed (f end) b) b))
    go true n = answered-joined size f a b h g
    go false true = answered-followed size (f end) b g
    go false false = g

abbrev Answers : ℕ → Type 0
Answers k = (size : ℕ) (c : Context) (at : ℕ) (part : List ℕ) → length part < k → at + length part ≤ size → Waiting size c.waiting → Answered size (items k c at part)

answers-item : (k : ℕ) → Answers k → (size : ℕ) (c : Context) (at tag : ℕ) (rest : List ℕ) → length rest < k → at + suc (length rest) ≤ size → Waiting size c.waiting
    → Answered size (items (suc k) c at (tag ∷ rest))
unfolding items within
answers-item k ih size c at tag rest l fits w =
    let p = tag ∷ rest in
    let h = header_size p in
    let n = body_size p in
    let all = by_kind (known c.parent tag) (item tag (at + h) (first_body p)) (items k (within c tag) (at + h) (first_body p)) (items k (next c at tag (first_body p)) (at + h + n) (after_first p)) in
    answered-unless size (broken c at tag h n (suc (length rest)) (first_body p)) all
    (sited-broken size c at tag (first_body p) (omega arith) w h n (suc (length rest)) fits)
    (λ q.
    let f = fitting c at tag h n (suc (length rest)) (first_body p) q in
    let s = shorter c at tag rest q in
    let b : length (first_body p) ≤ n = simp length-take (omega arith) in
    let d : length (after_first p) ≤ suc (length rest) - h - n = simp (length-drop n (drop h p), length-drop h p) (omega arith) in
    answered-kind size (known c.parent tag) (item tag (at + h) (first_body p)) (items k (within c tag) (at + h) (first_body p)) (items k (next c at tag (first_body p)) (at + h + n) (after_first p))
    (ih size (within c tag) (at + h) (first_body p) (omega arith) (omega (arith, f.body)) tt)
    (ih size (next c at tag (first_body p)) (at + h + n) (after_first p) (omega arith) (omega (arith, f.body)) (waiting-next size c at tag (first_body p) (omega arith) w)))

answers_next : (k : ℕ) → Answers k → Answers (suc k)
unfolding items
answers_next k ih size c at [] l fits w = answered-unless size (late [] c.waiting) (accepted end) (sited-late size [] c.waiting w) (λ e. tt)
answers_next k ih size c at (tag ∷ rest) l fits w = answers-item k ih size c at tag rest (omega arith) fits w

answers-zero : Answers zero
answers-zero size c at part l fits w = absurd (not-suc-le-zero l)

answers : (k : ℕ) → Answers k
answers zero = answers-zero
answers (suc k) = answers_next k (answers k)

-- a refusal of an object that is not empty lies inside it; the place of 5, too, is that of an octet
pub refusal-inside : (o : List ℕ) (r : Refusal) → 1 ≤ length o → judge o ≡ refused r → Inside (length o) r
unfolding judge outermost
refusal-inside o r l h =
    let a = answered-unless (length o) (rule 1 0 (leb 1 (length o) && leb (length o) 32_768)) (items (suc (length o)) outermost 0 o)
    (sited-rule (length o) 1 0 (leb 1 (length o) && leb (length o) 32_768) (omega arith) (omega arith) (λ e. l))
    (λ e. answers (suc (length o)) (length o) outermost 0 o (omega arith) (omega arith) tt) in
    subst (λ x. Answered (length o) x) h a

-- so does a refusal of items that are read by themselves, where no attribute waits for a token table
pub refusal-read : (c : Context) (o : List ℕ) (r : Refusal) → c.waiting ≡ [] → read c 0 o ≡ refused r → Inside (length o) r
refusal-read c o r w h =
    subst (λ x. Answered (length o) x) h (answers (suc (length o)) (length o) c 0 o (omega arith) (omega arith) (subst (Waiting (length o)) (sym w) tt))
