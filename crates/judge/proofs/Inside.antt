-- The ways through `judge_inside` and `judge`. The code counts levels down and has none left below depth 16, where rule 7 refuses an element however deep it is.
use Rattle.std.specs.Prelude.{Result, Ok, Err}
use mathlib.Core.Path.{◌≡◌, refl, sym, ap₂, ◌∙◌}
use mathlib.Core.Bool.{Bool, true, false}
use mathlib.Core.Option.{Option}
use mathlib.Core.List.{List, [], ◌∷◌}
use Prim.Native.Nat.{ℕ, zero, suc, ◌+◌, ◌-◌, ◌≤◌, ◌<◌}
use native.Mathlib.Omega.{arith}
use lib.Dec.{leb}
use lib.ListN.{length, take, drop}
use borrow.Author.Tests.{leb-true, leb-false, le-leb, lt-leb}
use Rattle.octets.specs.Header.{header_size, body_size}
use Rattle.text.specs.Tokens.{Entries, entries}
use Rattle.values.specs.declared.Kind.{Kind}
use Rattle.values.specs.Table.{known}
use Rattle.format.specs.declared.Refusal.{Refusal}
use Rattle.format.specs.Answers.{refusal}
use Rattle.format.specs.Tree.{Items}
use Rattle.format.specs.Tree.Items.{item}
use Rattle.format.specs.Judge.{Judged, of_top, rule, kind_rules, item_rules, own, late_before, late_after, broken, within, next, unless, by_kind, items, read, outermost, judge}
use Rattle.format.specs.Judge.Judged.{refused, accepted}
use Rattle.format.specs.Headers.{headers, headers_of}
use Rattle.format.specs.Calls.{judge_answer}
use Rattle.format.proofs.Rules.{unless-accepted}
use Rattle.format.specs.declared.Counts.{Counts}
use Rattle.judge.specs.Says.{ctx, depth_of, counted}
use Rattle.judge.specs.Inside.{beginning, judge_inside}
use Rattle.judge.proofs.AllWays.{no-entries}

-- ---- below depth 16 no depth is told from another

parts_same : (b b' : Option Refusal) (k : Option Kind) (f : Items → Items → Items) (i i' a a' : Judged) → b ≡ b' → i ≡ i' → a ≡ a'
    → unless b (by_kind k f i a) ≡ unless b' (by_kind k f i' a')
parts_same b b' k f i i' a a' p q r = cc

deep-broken : (parent depth depth' stage : ℕ) (seen : List ℕ) (table : Entries) (waiting : List (ℕ × List ℕ)) → leb depth 16 ≡ false → leb depth' 16 ≡ false
    → (at tag h n room : ℕ) (body : List ℕ)
    → broken (ctx parent depth stage seen table waiting) at tag h n room body ≡ broken (ctx parent depth' stage seen table waiting) at tag h n room body
unfolding broken own item_rules kind_rules of_top late_before late_after
deep-broken parent depth depth' stage seen table waiting d d' at tag h n room body = rw (d, d')

deep-same : (k : ℕ) (parent depth depth' stage : ℕ) (seen : List ℕ) (table : Entries) (waiting : List (ℕ × List ℕ)) → leb depth 16 ≡ false → leb depth' 16 ≡ false
    → (at : ℕ) (part : List ℕ) → items k (ctx parent depth stage seen table waiting) at part ≡ items k (ctx parent depth' stage seen table waiting) at part
unfolding items within next of_top
deep-same zero parent depth depth' stage seen table waiting d d' at part = refl
deep-same (suc k) parent depth depth' stage seen table waiting d d' at [] = refl
deep-same (suc k) parent depth depth' stage seen table waiting d d' at (tag ∷ rest) =
    let h = header_size (tag ∷ rest) in
    let n = body_size (tag ∷ rest) in
    let body = take n (drop h (tag ∷ rest)) in
    parts_same _ _ (known parent tag) (item tag (at + h) body) _ _ _ _
    (deep-broken parent depth depth' stage seen table waiting d d' at tag h n (suc (length rest)) body)
    (deep-same k tag (suc depth) (suc depth') 0 [] table [] (deeper depth d) (deeper depth' d') (at + h) body)
    (deep-same k parent depth depth' _ _ _ _ d d' (at + h + n) (drop n (drop h (tag ∷ rest))))
  where
    deeper : (n : ℕ) → leb n 16 ≡ false → leb (suc n) 16 ≡ false
    deeper n q = lt-leb (suc n) 16 (omega (arith, leb-false n 16 q))

pub level-same : (element depth : ℕ) (o : List ℕ) → read (ctx element (depth_of (16 - depth)) 0 [] [] []) 0 o ≡ read (beginning element depth) 0 o
unfolding depth_of beginning
level-same element depth o = go (leb depth 16) refl
  where
    go : (b : Bool) → leb depth 16 ≡ b → read (ctx element (17 - (16 - depth)) 0 [] [] []) 0 o ≡ read (ctx element (suc depth) 0 [] [] []) 0 o
    go true q = let e : 17 - (16 - depth) ≡ suc depth = omega (arith, leb-true depth 16 q) in rw e
    go false q =
        let l = leb-false depth 16 q in
        deep-same (suc (length o)) element (17 - (16 - depth)) (suc depth) 0 [] [] [] (lt-leb (17 - (16 - depth)) 16 (omega arith)) (lt-leb (suc depth) 16 (omega arith)) 0 o

-- what is accepted was read
pub inside-read : (element depth : ℕ) (o : List ℕ) (t : Items) → judge_inside element depth o ≡ accepted t → read (beginning element depth) 0 o ≡ accepted t
unfolding judge_inside
inside-read element depth o t h = unless-accepted (rule 1 0 (leb (length o) 32_768)) (read (beginning element depth) 0 o) t h

-- ---- judge_inside

-- counting from nothing
from_nothing : (h : ℕ) (a : Judged) → counted (record { records = 0; items = 0 }) h a ≡ judge_answer h a
unfolding counted judge_answer
from_nothing h (refused r) = refl
from_nothing h (accepted t) = ap₂ (λ (x y : ℕ). Ok (record { records = x; items = y })) (omega arith) (omega arith)

pub inside-large : (element depth : ℕ) (o : List ℕ) → 32_768 < length o → (x : Refusal) → x ≡ refusal 1 0 → Err x ≡ judge_answer (headers element o) (judge_inside element depth o)
unfolding judge_inside unless rule judge_answer
inside-large element depth o h x m = rw (m, lt-leb (length o) 32_768 h)

pub inside-items : (element depth : ℕ) (o : List ℕ) (left : ℕ) (v : Result Counts Refusal) → length o ≤ 32_768 → left ≡ 16 - depth
    → v ≡ counted (record { records = 0; items = 0 }) (headers element o) (read (ctx element (depth_of left) 0 [] (entries (take (0 - 0) (drop 0 o))) []) 0 o) → v ≡ judge_answer (headers element o) (judge_inside element depth o)
unfolding judge_inside unless rule
inside-items element depth o left v h l e =
    e ∙ rw (no-entries o, l, level-same element depth o, le-leb (length o) 32_768 h) (from_nothing (headers element o) (read (beginning element depth) 0 o))

pub ruleset inside-ways = (inside-large, inside-items)

-- ---- the object

pub judge-empty : (o : List ℕ) → length o ≡ 0 → (x : Refusal) → x ≡ refusal 1 0 → Err x ≡ judge_answer (headers_of o) (judge o)
unfolding judge unless rule judge_answer
judge-empty o h x m = rw (m, h)

pub judge-whole : (o : List ℕ) (v : Result Counts Refusal) → (length o ≡ 0 → ⊥) → v ≡ judge_answer (headers_of o) (judge_inside 0 0 o) → v ≡ judge_answer (headers_of o) (judge o)
unfolding judge_inside beginning judge outermost
judge-whole o v z e = e ∙ sym (rw (le-leb 1 (length o) (omega arith)) refl)

pub ruleset judge-ways = (judge-empty, judge-whole)
