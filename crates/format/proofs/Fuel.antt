-- Reading without fuel: what the items in a part give, by its first item.
use mathlib.Core.Path.{◌≡◌, refl, ap₂, ◌∙◌}
use mathlib.Core.List.{List, [], ◌∷◌}
use Prim.Native.Nat.{ℕ, zero, suc, ◌+◌, ◌≤◌, ◌<◌}
use native.Mathlib.Omega.{arith}
use native.Mathlib.Nat.{not-suc-le-zero}
use borrow.Author.Tests.{le-leb}
use lib.ListN.{length, take, drop}
use Rattle.octets.specs.Header.{header_size, body_size}
use Rattle.values.specs.Table.{known}
use Rattle.format.specs.Tree.Items.{end, item}
use Rattle.format.specs.Judge.{Context, items, read, broken, unless, by_kind, late, within, next, judge, outermost, rule}
use Rattle.format.specs.Judge.Judged.{accepted}
use Rattle.octets.proofs.Places.{fewer-inside, fewer-behind}

-- any fuel above the length of the part gives one answer
abbrev Same : ℕ → Type 0
Same k = (j : ℕ) (c : Context) (at : ℕ) (part : List ℕ) → length part < k → length part < j → items k c at part ≡ items j c at part

same_item : (k j : ℕ) (c : Context) (at tag : ℕ) (rest : List ℕ) → Same k → length rest < k → length rest < j → items (suc k) c at (tag ∷ rest) ≡ items (suc j) c at (tag ∷ rest)
unfolding items
same_item k j c at tag rest ih p q =
    let h = header_size (tag ∷ rest) in
    let n = body_size (tag ∷ rest) in
    let body = take n (drop h (tag ∷ rest)) in
    let a = ih j (within c tag) (at + h) body (omega (arith, fewer-inside (tag ∷ rest) (omega arith))) (omega (arith, fewer-inside (tag ∷ rest) (omega arith))) in
    let b = ih j (next c at tag body) (at + h + n) (drop n (drop h (tag ∷ rest))) (omega (arith, fewer-behind (tag ∷ rest) (omega arith))) (omega (arith, fewer-behind (tag ∷ rest) (omega arith))) in
    ap₂ (λ x y. unless (broken c at tag h n (suc (length rest)) body) (by_kind (known c.parent tag) (item tag (at + h) body) x y)) a b

same-zero : Same zero
same-zero j c at part p q = absurd (not-suc-le-zero p)

same_next : (k : ℕ) → Same k → Same (suc k)
unfolding items
same_next k ih zero c at part p q = absurd (not-suc-le-zero q)
same_next k ih (suc j) c at [] p q = refl
same_next k ih (suc j) c at (tag ∷ rest) p q = same_item k j c at tag rest ih (omega arith) (omega arith)

pub same-fuel : (k : ℕ) → Same k
same-fuel zero = same-zero
same-fuel (suc k) = same_next k (same-fuel k)

pub read-end : (c : Context) (at : ℕ) → read c at [] ≡ unless (late [] c.waiting) (accepted end)
unfolding items
read-end c at = refl

item-step : (k : ℕ) (c : Context) (at tag : ℕ) (rest : List ℕ) (h n : ℕ) (body later : List ℕ) → header_size (tag ∷ rest) ≡ h → body_size (tag ∷ rest) ≡ n
    → take n (drop h (tag ∷ rest)) ≡ body → drop n (drop h (tag ∷ rest)) ≡ later
    → items (suc k) c at (tag ∷ rest)
    ≡ unless (broken c at tag h n (suc (length rest)) body) (by_kind (known c.parent tag) (item tag (at + h) body) (items k (within c tag) (at + h) body) (items k (next c at tag body) (at + h + n) later))
unfolding items
item-step k c at tag rest h n body later eh en eb el = rw (eh, en, eb, el)

pub read-item : (c : Context) (at tag : ℕ) (rest : List ℕ) (h n : ℕ) (body later : List ℕ) → header_size (tag ∷ rest) ≡ h → body_size (tag ∷ rest) ≡ n
    → take n (drop h (tag ∷ rest)) ≡ body → drop n (drop h (tag ∷ rest)) ≡ later
    → read c at (tag ∷ rest)
    ≡ unless (broken c at tag h n (suc (length rest)) body) (by_kind (known c.parent tag) (item tag (at + h) body) (read (within c tag) (at + h) body) (read (next c at tag body) (at + h + n) later))
read-item c at tag rest h n body later eh en eb el =
    let x : length body < suc (length rest) = rw (eh, en, eb) at (fewer-inside (tag ∷ rest) (omega arith)) in
    let y : length later < suc (length rest) = rw (eh, en, el) at (fewer-behind (tag ∷ rest) (omega arith)) in
    item-step (suc (length rest)) c at tag rest h n body later eh en eb el
    ∙ ap₂ (λ a b. unless (broken c at tag h n (suc (length rest)) body) (by_kind (known c.parent tag) (item tag (at + h) body) a b))
    (same-fuel (suc (length rest)) (suc (length body)) (within c tag) (at + h) body (omega arith) (omega arith))
    (same-fuel (suc (length rest)) (suc (length later)) (next c at tag body) (at + h + n) later (omega arith) (omega arith))

pub judge-read : (o : List ℕ) → 1 ≤ length o → length o ≤ 32_768 → judge o ≡ read outermost 0 o
unfolding judge unless rule
judge-read o l h = rw (le-leb 1 (length o) l, le-leb (length o) 32_768 h)
