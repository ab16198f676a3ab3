-- The arm `_` of a match on a kind: what it knows of the kinds that are left.
use mathlib.Core.Path.{◌≡◌, refl, sym, ◌∙◌}
use mathlib.Core.Bool.{true, false, false≢true, or-true}
use mathlib.Core.Logic.{⊎_elim}
use mathlib.Core.Option.{some}
use mathlib.Core.List.{List, [], ◌∷◌}
use Prim.Native.Nat.{ℕ}
use lib.Dec.{eqb}
use types.Run.{OneOf}
use denote.Enum.Declared.{tag_of}
use borrow.Author.Tests.{eq-eqb}
use Rattle.octets.specs.Numbers.{among}
use Rattle.values.specs.declared.Kind.{Kind}
use Rattle.values.specs.declared.Kind.TheVariants.{HoldsItems, HoldsTokens, HoldsText, HoldsPlain, HoldsTime, HoldsBearer, HoldsNumber}
use Rattle.values.specs.contracts.Kind.{the_type}
use Rattle.format.specs.Judge.{is_text}

-- such an arm knows which variants are left: their numbers, in the order in which the enum declares them
one_of : (ks : List ℕ) (x : ℕ) → OneOf ks x → among x ks ≡ true
unfolding among
one_of [] x h = absurd h
one_of (k ∷ []) x h = rw (eq-eqb x k h)
one_of (k ∷ j ∷ ks) x h = ⊎_elim (λ e. rw (eq-eqb x k e)) (λ q. rw (one_of (j ∷ ks) x q) (or-true (eqb x k))) h

pub never : {C : Type 0} (ks : List ℕ) (x : ℕ) → among x ks ≡ false → OneOf ks x → C
never ks x e h = absurd (false≢true (sym e ∙ one_of ks x h))

-- every kind but text
abbrev pub Untexted : List ℕ
Untexted = 0 ∷ 1 ∷ 3 ∷ 4 ∷ 5 ∷ 6 ∷ []

pub not-text : (k : Kind) → OneOf Untexted (tag_of the_type k) → is_text (some k) ≡ false
unfolding is_text among
not-text HoldsItems h = refl
not-text HoldsTokens h = refl
not-text HoldsText h = never Untexted 2 refl h
not-text HoldsPlain h = refl
not-text HoldsTime h = refl
not-text HoldsBearer h = refl
not-text (HoldsNumber n) h = refl
