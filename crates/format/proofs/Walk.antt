-- The walk over records given to the writer, without fuel: as a derivation, and by its first record.
use mathlib.Core.Path.{◌≡◌, refl, sym, ap, ◌∙◌, subst}
use mathlib.Core.Bool.{Bool, true, false, and-false}
use mathlib.Core.Option.{Option, none, some, some-injective, none-ne-some}
use mathlib.Core.List.{List}
use Prim.Native.Nat.{ℕ, zero, suc, ◌-◌, ◌≤◌, ◌<◌}
use native.Mathlib.Omega.{arith}
use native.Mathlib.Nat.{not-suc-le-zero}
use lib.Dec.{eqb, ltb}
use borrow.Author.Tests.{lt-ltb, le-ltb, ltb-true, eqb-true}
use Rattle.octets.proofs.Tests.{and_left, and_right}
use Rattle.format.specs.declared.Record.{Record}
use Rattle.format.specs.Meaning.{opens}
use Rattle.format.specs.Writer.{Spot, below, past, good, here, onward, walk}

-- the records from i up to j are good items of one element at a spot, below the parent of number p: no record is here, or one that holds no items comes
-- before the others, or one that holds items and those inside it
pub data Walked (row : ℕ → Record) (n : ℕ) (lent : List ℕ) : Spot → ℕ → ℕ → ℕ → Type 0 where
  stop : {s : Spot} {p i : ℕ} → here row n s.depth i ≡ false → Walked row n lent s p i i
  single : {s : Spot} {p i j : ℕ} → here row n s.depth i ≡ true → good s p lent (row i) ≡ true → opens (row i).tag ≡ false
      → Walked row n lent (past s (row i).tag) p (suc i) j → Walked row n lent s p i j
  nested : {s : Spot} {p i m j : ℕ} → here row n s.depth i ≡ true → good s p lent (row i) ≡ true → opens (row i).tag ≡ true
      → Walked row n lent (below s (row i).tag) i (suc i) m → Walked row n lent (past s (row i).tag) p m j → Walked row n lent s p i j

module _ (row : ℕ → Record) (n d i : ℕ) where
  pub here_end : n ≤ i → here row n d i ≡ false
  unfolding here
  here_end h = rw (le-ltb i n h)

  pub here-not : eqb (row i).depth d ≡ false → here row n d i ≡ false
  unfolding here
  here-not h = rw h (and-false (ltb i n))

  pub here-is : i < n → eqb (row i).depth d ≡ true → here row n d i ≡ true
  unfolding here
  here-is h e = rw (lt-ltb i n h, e)

pub here-less : (row : ℕ → Record) (n d i : ℕ) → here row n d i ≡ true → i < n
unfolding here
here-less row n d i h = ltb-true i n (and_left (ltb i n) (eqb (row i).depth d) h)

pub here-depth : (row : ℕ → Record) (n d i : ℕ) → here row n d i ≡ true → (row i).depth ≡ d
unfolding here
here-depth row n d i h = eqb-true (row i).depth d (and_right (ltb i n) (eqb (row i).depth d) h)

onward-some : (o : Option ℕ) (f : ℕ → Option ℕ) (j : ℕ) → onward o f ≡ some j → (m : ℕ) × (o ≡ some m) × (f m ≡ some j)
unfolding onward
onward-some none f j h = absurd (none-ne-some j h)
onward-some (some m) f j h = (m, refl, h)

onward-same : (o : Option ℕ) (f g : ℕ → Option ℕ) → ((m : ℕ) → o ≡ some m → f m ≡ g m) → onward o f ≡ onward o g
unfolding onward
onward-same none f g h = refl
onward-same (some m) f g h = h m refl

module _ (row : ℕ → Record) (n : ℕ) (lent : List ℕ) where
  -- one turn of the walk, by its tests
  turn-stop : (k : ℕ) (s : Spot) (p i : ℕ) → here row n s.depth i ≡ false → walk (suc k) row n lent s p i ≡ some i
  unfolding walk
  turn-stop k s p i e = rw e

  turn-bad : (k : ℕ) (s : Spot) (p i : ℕ) → here row n s.depth i ≡ true → good s p lent (row i) ≡ false → walk (suc k) row n lent s p i ≡ none
  unfolding walk
  turn-bad k s p i e g = rw (e, g)

  turn-single : (k : ℕ) (s : Spot) (p i : ℕ) → here row n s.depth i ≡ true → good s p lent (row i) ≡ true → opens (row i).tag ≡ false
      → walk (suc k) row n lent s p i ≡ walk k row n lent (past s (row i).tag) p (suc i)
  unfolding walk onward
  turn-single k s p i e g o = rw (e, g, o)

  turn-nested : (k : ℕ) (s : Spot) (p i : ℕ) → here row n s.depth i ≡ true → good s p lent (row i) ≡ true → opens (row i).tag ≡ true
      → walk (suc k) row n lent s p i ≡ onward (walk k row n lent (below s (row i).tag) i (suc i)) (walk k row n lent (past s (row i).tag) p)
  unfolding walk
  turn-nested k s p i e g o = rw (e, g, o)

  abbrev Walks : ℕ → Type 0
  Walks k = (s : Spot) (p i j : ℕ) → walk k row n lent s p i ≡ some j → Walked row n lent s p i j

  walked_step : (k : ℕ) → Walks k → Walks (suc k)
  walked_step k ih s p i j h = go (here row n s.depth i) (good s p lent (row i)) (opens (row i).tag) refl refl refl
    where
      go : (a b c : Bool) → here row n s.depth i ≡ a → good s p lent (row i) ≡ b → opens (row i).tag ≡ c → Walked row n lent s p i j
      go false b c e g o = subst (λ x. Walked row n lent s p i x) (some-injective i j (sym (turn-stop k s p i e) ∙ h)) (stop e)
      go true false c e g o = absurd (none-ne-some j (sym (turn-bad k s p i e g) ∙ h))
      go true true false e g o = single e g o (ih _ _ _ _ (sym (turn-single k s p i e g o) ∙ h))
      go true true true e g o =
          let r = onward-some _ _ j (sym (turn-nested k s p i e g o) ∙ h) in
          nested e g o (ih _ _ _ _ r.1) (ih _ _ _ _ r.2)

  -- the walk's answer as a derivation
  pub walk-walked : (k : ℕ) → Walks k
  unfolding walk
  walk-walked zero s p i j h = absurd (none-ne-some j h)
  walk-walked (suc k) s p i j h = walked_step k (walk-walked k) s p i j h

  forward : {s : Spot} {p i j : ℕ} → Walked row n lent s p i j → i ≤ j
  forward (stop e) = omega arith
  forward (single e g o w) = let f = forward w in omega arith
  forward (nested e g o v w) = let f = forward v in let h = forward w in omega arith

  up_to : {s : Spot} {p i j : ℕ} → Walked row n lent s p i j → i ≤ n → j ≤ n
  up_to (stop e) q = q
  up_to (single {s = s} {i = i} e g o w) q = up_to w (here-less row n s.depth i e)
  up_to (nested {s = s} {i = i} e g o v w) q = up_to w (up_to v (here-less row n s.depth i e))

  -- and a derivation as the walk's answer, with any fuel above the number of records that are left
  pub walked-walk : {s : Spot} {p i j : ℕ} → Walked row n lent s p i j → (k : ℕ) → n - i < k → walk k row n lent s p i ≡ some j
  unfolding onward
  walked-walk {s = s} {p = p} {i = i} {j = j} w zero q = absurd (not-suc-le-zero q)
  walked-walk {s = s} {p = p} {i = i} (stop e) (suc k) q = turn-stop k s p i e
  walked-walk {s = s} {p = p} {i = i} {j = j} (single e g o w) (suc k) q =
      let l = here-less row n s.depth i e in
      turn-single k s p i e g o ∙ walked-walk {s = past s (row i).tag} {p = p} {i = suc i} {j = j} w k (omega arith)
  walked-walk {s = s} {p = p} {i = i} {j = j} (nested {m = m} e g o v w) (suc k) q =
      let l = here-less row n s.depth i e in
      let f = forward v in
      turn-nested k s p i e g o ∙ ap (λ x. onward x (walk k row n lent (past s (row i).tag) p)) (walked-walk {s = below s (row i).tag} {p = i} {i = suc i} {j = m} v k (omega arith)) ∙ walked-walk {s = past s (row i).tag} {p = p} {i = m} {j = j} w k (omega arith)

  -- so any two such fuels give one answer
  pub same-walk : (k l : ℕ) (s : Spot) (p i : ℕ) → n - i < k → n - i < l → walk k row n lent s p i ≡ walk l row n lent s p i
  same-walk k l s p i q r = go (walk k row n lent s p i) (walk l row n lent s p i) refl refl
    where
      go : (a b : Option ℕ) → walk k row n lent s p i ≡ a → walk l row n lent s p i ≡ b → a ≡ b
      go none none e f = refl
      go none (some j) e f = absurd (none-ne-some j (sym e ∙ walked-walk (walk-walked l s p i j f) k q))
      go (some j) b e f = sym (walked-walk (walk-walked k s p i j e) l r) ∙ f

  -- the walk without fuel, by its first record: it is not here, it is bad, it holds no items, it holds items
  abbrev pub walks : Spot → ℕ → ℕ → Option ℕ
  walks s p i = walk (suc (n - i)) row n lent s p i

  pub at-stop : (s : Spot) (p i : ℕ) → here row n s.depth i ≡ false → walks s p i ≡ some i
  at-stop s p i e = turn-stop (n - i) s p i e

  pub at-bad : (s : Spot) (p i : ℕ) → here row n s.depth i ≡ true → good s p lent (row i) ≡ false → walks s p i ≡ none
  at-bad s p i e g = turn-bad (n - i) s p i e g

  pub at-single : (s : Spot) (p i : ℕ) → here row n s.depth i ≡ true → good s p lent (row i) ≡ true → opens (row i).tag ≡ false
      → walks s p i ≡ walks (past s (row i).tag) p (suc i)
  at-single s p i e g o =
      let l = here-less row n s.depth i e in
      turn-single (n - i) s p i e g o ∙ same-walk (n - i) (suc (n - suc i)) (past s (row i).tag) p (suc i) (omega arith) (omega arith)

  pub at_nested : (s : Spot) (p i : ℕ) → here row n s.depth i ≡ true → good s p lent (row i) ≡ true → opens (row i).tag ≡ true
      → walks s p i ≡ onward (walks (below s (row i).tag) i (suc i)) (walks (past s (row i).tag) p)
  at_nested s p i e g o =
      let l = here-less row n s.depth i e in
      let inner = below s (row i).tag in
      let beside = past s (row i).tag in
      turn-nested (n - i) s p i e g o
      ∙ ap (λ x. onward x (walk (n - i) row n lent beside p)) (same-walk (n - i) (suc (n - suc i)) inner i (suc i) (omega arith) (omega arith))
      ∙ onward-same (walks inner i (suc i)) (walk (n - i) row n lent beside p) (walks beside p)
      (λ m q. let f = forward (walk-walked (suc (n - suc i)) inner i (suc i) m q) in same-walk (n - i) (suc (n - m)) beside p m (omega arith) (omega arith))

  -- the walk never goes back, nor past the last record
  pub walks-between : (s : Spot) (p i j : ℕ) → walks s p i ≡ some j → i ≤ n → (i ≤ j) × (j ≤ n)
  walks-between s p i j h q = let w = walk-walked (suc (n - i)) s p i j h in (forward w, up_to w q)

  -- the walk of `rebuilt`, over all records
  pub whole-walk : (s : Spot) (p : ℕ) → walk (suc n) row n lent s p 0 ≡ walks s p 0
  whole-walk s p = same-walk (suc n) (suc (n - 0)) s p 0 (omega arith) (omega arith)
