-- A token table has at most sixteen entries: what going through one costs.
use mathlib.Core.Path.{◌≡◌, refl, sym, ap, ◌∙◌}
use mathlib.Core.Bool.{Bool, true, false, cond, not, ◌&&◌, ◌||◌, false≢true}
use mathlib.Core.List.{List, [], ◌∷◌}
use Prim.Native.Nat.{ℕ, zero, suc, ◌+◌, ◌≤◌, ◌<◌}
use native.Mathlib.Omega.{arith}
use lib.Dec.{eqb, leb}
use lib.ListN.{length, take, drop}
use borrow.Author.Tests.{eq-eqb, eqb-true}
use Rattle.octets.specs.Numbers.{among}
use Rattle.octets.proofs.Tests.{and_right}
use Rattle.text.specs.Text.{layout, token, text}
use Rattle.text.specs.Tokens.{entries, cut, filled, is_table}
use Rattle.text.proofs.Sequences.{all_below, below, token-facts}

tokens : List ℕ
tokens = 0x01 ∷ 0x02 ∷ 0x03 ∷ 0x04 ∷ 0x05 ∷ 0x06 ∷ 0x07 ∷ 0x08 ∷ 0x0B ∷ 0x0C ∷ 0x0E ∷ 0x0F ∷ 0x10 ∷ 0x11 ∷ 0x12 ∷ 0x13 ∷ []

-- how many of a list are not among those seen
unseen : List ℕ → List ℕ → ℕ
unseen [] seen = 0
unseen (u ∷ us) seen = cond (among u seen) 0 1 + unseen us seen

one_less : (p q : Bool) (a b : ℕ) → a ≤ b → cond (p || q) 0 1 + a ≤ cond q 0 1 + b
one_less true true a b h = omega arith
one_less true false a b h = omega arith
one_less false true a b h = omega arith
one_less false false a b h = omega arith

unseen-less : (t : ℕ) (us seen : List ℕ) → unseen us (t ∷ seen) ≤ unseen us seen
unfolding unseen among
unseen-less t [] seen = omega arith
unseen-less t (u ∷ us) seen = one_less (eqb u t) (among u seen) (unseen us (t ∷ seen)) (unseen us seen) (unseen-less t us seen)

-- one more that is of the list and new leaves one fewer
unseen-one : (t : ℕ) (us seen : List ℕ) → among t us ≡ true → among t seen ≡ false → unseen us (t ∷ seen) < unseen us seen
unfolding unseen among
unseen-one t [] seen h g = absurd (false≢true h)
unseen-one t (u ∷ us) seen h g = go (λ k. unseen-one t us seen k g) (eqb t u) refl h
  where
    go : (among t us ≡ true → unseen us (t ∷ seen) < unseen us seen) → (b : Bool) → eqb t u ≡ b → b || among t us ≡ true
        → cond (eqb u t || among u seen) 0 1 + unseen us (t ∷ seen) < cond (among u seen) 0 1 + unseen us seen
    go ih true e k =
        let f = eqb-true t u e in
        rw (eq-eqb u t (sym f), sym (ap (λ x. among x seen) f) ∙ g) (omega (arith, unseen-less t us seen))
    go ih false e k = omega (arith, one_less (eqb u t) (among u seen) (suc (unseen us (t ∷ seen))) (unseen us seen) (ih k))

token_test : ℕ → Bool
token_test b = not (token b) || among b tokens

all-tokens : all_below token_test 0x14 ≡ true
unfolding all_below token_test token layout among tokens
all-tokens = refl

token-among : (b : ℕ) → token b ≡ true → among b tokens ≡ true
unfolding token_test
token-among b h = let t : not (token b) || among b tokens ≡ true = below token_test 0x14 all-tokens b (omega (arith, (token-facts b h).1)) in rw h at t

entries-left : (k : ℕ) (seen o : List ℕ) → filled k seen o ≡ true → length (cut k o) ≤ unseen tokens seen
unfolding filled cut
entries-left zero seen o h = omega arith
entries-left (suc k) seen [] h = omega arith
entries-left (suc k) seen (t ∷ []) h = omega arith
entries-left (suc k) seen (t ∷ n ∷ o) h =
    go (leb n (length o)) (token t) refl (among t seen) refl (text false (take n o)) (entries-left k (t ∷ seen) (drop n o)) h
  where
    go : (w x : Bool) → token t ≡ x → (y : Bool) → among t seen ≡ y → (z : Bool)
        → (filled k (t ∷ seen) (drop n o) ≡ true → length (cut k (drop n o)) ≤ unseen tokens (t ∷ seen))
        → w && x && not y && z && filled k (t ∷ seen) (drop n o) ≡ true
        → length (cond w ((t, take n o) ∷ cut k (drop n o)) []) ≤ unseen tokens seen
    go false x p y q z ih h = omega arith
    go true false p y q z ih h = absurd (false≢true h)
    go true true p true q z ih h = absurd (false≢true h)
    go true true p false q z ih h = omega (arith, ih (and_right z (filled k (t ∷ seen) (drop n o)) h), unseen-one t tokens seen (token-among t p) q)

pub sixteen : (o : List ℕ) → is_table o ≡ true → length (entries o) ≤ 16
unfolding is_table entries unseen tokens among
sixteen o h = entries-left (suc (length o)) [] o h
