-- The late rule 12: it holds of texts that wait exactly when each is covered.
use mathlib.Core.Path.{◌≡◌, refl}
use mathlib.Core.Bool.{true}
use mathlib.Core.Option.{none}
use mathlib.Core.List.{List, [], ◌∷◌, ◌++◌}
use Prim.Native.Nat.{ℕ}
use Rattle.text.specs.Tokens.{Entries, covered}
use Rattle.format.specs.Judge.{rule, first, late}
use Rattle.format.proofs.Rules.{first_head, first_tail, rule-true}

late-head : (T : Entries) (w : ℕ × List ℕ) (ws : List (ℕ × List ℕ)) → late T (w ∷ ws) ≡ none → covered T w.1 ≡ true
unfolding late
late-head T w ws h = rule-true 12 w.0 (covered T w.1) (first_head _ _ h)

late-tail : (T : Entries) (w : ℕ × List ℕ) (ws : List (ℕ × List ℕ)) → late T (w ∷ ws) ≡ none → late T ws ≡ none
unfolding late
late-tail T w ws h = first_head _ _ (first_tail _ _ h)

late-cons : (T : Entries) (w : ℕ × List ℕ) (ws : List (ℕ × List ℕ)) → covered T w.1 ≡ true → late T ws ≡ none → late T (w ∷ ws) ≡ none
unfolding late first rule
late-cons T w ws p q = rw (p, q)

-- one text more
pub late-append : (T : Entries) (at : ℕ) (o : List ℕ) (ws : List (ℕ × List ℕ)) → late T ws ≡ none → covered T o ≡ true → late T (ws ++ ((at, o) ∷ [])) ≡ none
unfolding late
late-append T at o [] q h = late-cons T (at, o) [] h refl
late-append T at o (w ∷ ws) q h = late-cons T w (ws ++ ((at, o) ∷ [])) (late-head T w ws q) (late-append T at o ws (late-tail T w ws q) h)

pub late-front : (T : Entries) (at : ℕ) (o : List ℕ) (ws : List (ℕ × List ℕ)) → late T (ws ++ ((at, o) ∷ [])) ≡ none → (late T ws ≡ none) × (covered T o ≡ true)
unfolding late
late-front T at o [] h = (refl, late-head T (at, o) [] h)
late-front T at o (w ∷ ws) h =
    let r = late-front T at o ws (late-tail T w (ws ++ ((at, o) ∷ [])) h) in
    (late-cons T w ws (late-head T w (ws ++ ((at, o) ∷ [])) h) r.0, r.1)
