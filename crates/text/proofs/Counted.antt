-- That counting the octets that don't begin with the bits 10 counts characters: in valid text there are as many as sequences that the definition of UTF-8 goes
-- through (change request 2026-01).
use mathlib.Core.Path.{◌≡◌, refl, ap}
use mathlib.Core.Bool.{Bool, true, false, cond, not, ◌&&◌, ◌||◌, false≢true}
use mathlib.Core.List.{List, [], ◌∷◌}
use Prim.Native.Nat.{ℕ, zero, suc, ◌+◌, ◌*◌, ◌/◌, ◌%◌}
use native.Mathlib.Omega.{arith}
use lib.Dec.{eqb, ltb}
use borrow.Author.Tests.{ltb-true, ne_eqb, eqb-true}
use Rattle.octets.specs.Counts.{as_characters}
use Rattle.octets.proofs.Tests.{and_left, and_right}
use Rattle.text.specs.Text.{character, single, goes_on, utf8, text}
use Rattle.text.specs.Tokens.{Entries, expanded, covered, starts, shown_length}
use Rattle.text.proofs.Expansion.{Sound, expanded-text}

-- the sequences that begin in octets of which the first so many still belong to one before them, by the lengths that `utf8` reads
unfoldable pub sequences : ℕ → List ℕ → ℕ
sequences more [] = 0
sequences (suc more) (b ∷ bs) = sequences more bs
sequences zero (b ∷ bs) = suc (sequences (cond (ltb b 0x80) 0 (cond (eqb (b / 32) 6) 1 (cond (eqb (b / 16) 14) 2 3))) bs)

-- each sequence has one octet that doesn't begin with the bits 10
starts-are : (tokens : Bool) (o : List ℕ) (more c least : ℕ) → utf8 tokens more c least o ≡ true → starts o ≡ sequences more o
unfolding utf8 starts sequences goes_on
starts-are tokens [] zero c least h = refl
starts-are tokens [] (suc more) c least h = refl
starts-are tokens (b ∷ bs) (suc more) c least h =
    let front = and_left (goes_on more c least b) (utf8 tokens more (c * 64 + b % 64) least bs) h in
    rw (and_left (eqb (b / 64) 2) (not (eqb more 0) || character least (c * 64 + b % 64)) front)
    (omega (arith, starts-are tokens bs more (c * 64 + b % 64) least (and_right (goes_on more c least b) (utf8 tokens more (c * 64 + b % 64) least bs) h)))
starts-are tokens (b ∷ bs) zero c least h =
    go (λ m c l q. starts-are tokens bs m c l q) (ltb b 0x80) refl (eqb (b / 32) 6) refl (eqb (b / 16) 14) refl (eqb (b / 8) 30) refl h
  where
    one : eqb (b / 64) 2 ≡ false → (n : ℕ) → starts bs ≡ n → cond (eqb (b / 64) 2) 0 1 + starts bs ≡ suc n
    one e n q = rw e (omega arith)

    go : ((m c l : ℕ) → utf8 tokens m c l bs ≡ true → starts bs ≡ sequences m bs) → (x : Bool) → ltb b 0x80 ≡ x → (y : Bool) → eqb (b / 32) 6 ≡ y → (z : Bool) → eqb (b / 16) 14 ≡ z
        → (w : Bool) → eqb (b / 8) 30 ≡ w
        → cond x (single tokens b && utf8 tokens 0 0 0 bs) (cond y (utf8 tokens 1 (b % 32) 0x80 bs) (cond z (utf8 tokens 2 (b % 16) 0x800 bs) (cond w (utf8 tokens 3 (b % 8) 0x10000 bs) false))) ≡ true
        → cond (eqb (b / 64) 2) 0 1 + starts bs ≡ suc (sequences (cond x 0 (cond y 1 (cond z 2 3))) bs)
    go ih true p y q z r w s k = one (ne_eqb (b / 64) 2 (λ e. omega (arith, ltb-true b 0x80 p))) (sequences 0 bs) (ih 0 0 0 (and_right (single tokens b) (utf8 tokens 0 0 0 bs) k))
    go ih false p true q z r w s k = one (ne_eqb (b / 64) 2 (λ e. omega (arith, eqb-true (b / 32) 6 q))) (sequences 1 bs) (ih 1 (b % 32) 0x80 k)
    go ih false p false q true r w s k = one (ne_eqb (b / 64) 2 (λ e. omega (arith, eqb-true (b / 16) 14 r))) (sequences 2 bs) (ih 2 (b % 16) 0x800 k)
    go ih false p false q false r true s k = one (ne_eqb (b / 64) 2 (λ e. omega (arith, eqb-true (b / 8) 30 s))) (sequences 3 bs) (ih 3 (b % 8) 0x10000 k)
    go ih false p false q false r false s k = absurd (false≢true k)

-- the characters of valid text
pub characters-are : (tokens : Bool) (o : List ℕ) → text tokens o ≡ true → starts o ≡ sequences 0 o
unfolding text
characters-are tokens o h = starts-are tokens o 0 0 0 h

-- what rule 13 holds against a limit: the characters of the expansion, which is valid text where the text, its tokens and its table keep rules 10 to 12
pub shown-are : (table : Entries) → Sound table → (o : List ℕ) → text true o ≡ true → covered table o ≡ true → shown_length table o ≡ as_characters (sequences 0 (expanded table o))
unfolding shown_length
shown-are table sound o t c = ap as_characters (characters-are false (expanded table o) (expanded-text table sound o t c))
