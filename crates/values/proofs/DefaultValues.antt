-- Attributes with a default: all are enumerated, and what their octets mean is the default exactly where they are its octet (change request 2026-05).
use mathlib.Core.Path.{◌≡◌, refl, sym, ap, ap₂, ◌∙◌, subst}
use mathlib.Core.Bool.{Bool, true, false, ◌&&◌, ◌||◌, false≢true, and-false, or-false}
use mathlib.Core.Option.{some, some-injective}
use mathlib.Core.List.{List, [], ◌∷◌}
use Prim.Native.Nat.{ℕ}
use native.Mathlib.Omega.{arith}
use lib.Dec.{eqb}
use lib.ListN.{length, get_or}
use borrow.Author.Tests.{eqb-true, eq-eqb, ne_eqb, eqb-false}
use Rattle.octets.specs.Numbers.{value}
use Rattle.octets.proofs.Numbers.{length_digits}
use Rattle.octets.proofs.Tests.{and_left, and_right, or_elim}
use Rattle.text.specs.Tokens.{Entries}
use Rattle.values.specs.declared.Kind.{Kind}
use Rattle.values.specs.declared.Kind.TheVariants.{HoldsNumber}
use Rattle.values.specs.declared.NumberKind.TheVariants.{Enumerated}
use Rattle.values.specs.Table.{rows, kind_in, known, attribute, defaults, default_in}
use Rattle.values.specs.Values.{Value, width, fits, meant, octets_of, is_default}
use Rattle.values.specs.Values.Value.{octets, number, time, bearer}
use Rattle.values.specs.Calls.{default_octets}
use Rattle.values.proofs.Known.{known-anywhere, element-kind}

-- a default is the number 1
other_none : (p t n : ℕ) → (n ≡ 1 → ⊥) → default_in p t n defaults ≡ false
unfolding default_in defaults
other_none p t n h = rw (ne_eqb n 1 h)

-- what has none, has none by any number
pub no_default : (p t n : ℕ) → default_in p t 1 defaults ≡ false → default_in p t n defaults ≡ false
no_default p t n h = go (eqb n 1) refl
  where
    go : (b : Bool) → eqb n 1 ≡ b → default_in p t n defaults ≡ false
    go true e = ap (λ m. default_in p t m defaults) (eqb-true n 1 e) ∙ h
    go false e = other_none p t n (eqb-false n 1 e)

-- ---- what has a default is enumerated
enumerated-at : (e tag p t : ℕ) → eqb e p && eqb tag t ≡ true → known p t ≡ some (HoldsNumber Enumerated) → known e tag ≡ some (HoldsNumber Enumerated)
enumerated-at e tag p t h q = ap₂ known (eqb-true e p (and_left (eqb e p) (eqb tag t) h)) (eqb-true tag t (and_right (eqb e p) (eqb tag t) h)) ∙ q

pub default-kind : (p t : ℕ) → default_in p t 1 defaults ≡ true → known p t ≡ some (HoldsNumber Enumerated)
unfolding default_in defaults known kind_in rows attribute
default-kind p t h =
    or_elim (eqb p 0x14 && eqb t 0x81) _ (λ e. enumerated-at p t 0x14 0x81 e refl)
    (or_elim (eqb p 0x1C && eqb t 0x83) _ (λ e. enumerated-at p t 0x1C 0x83 e refl)
    (or_elim (eqb p 0x1C && eqb t 0x84) _ (λ e. enumerated-at p t 0x1C 0x84 e refl)
    (or_elim (eqb p 0x2E && eqb t 0x83) _ (λ e. enumerated-at p t 0x2E 0x83 e refl)
    (or_elim (eqb p 0x2E && eqb t 0x84) false (λ e. enumerated-at p t 0x2E 0x84 e refl) (λ e. absurd (false≢true e)))))) h

-- so only attributes have one
pub element-none : (p t n : ℕ) → attribute t ≡ false → default_in p t n defaults ≡ false
element-none p t n a = no_default p t n (go (default_in p t 1 defaults) refl)
  where
    go : (b : Bool) → default_in p t 1 defaults ≡ b → b ≡ false
    go false e = refl
    go true e = absurd (false≢true (element-kind t (HoldsNumber Enumerated) (sym (known-anywhere p t a) ∙ default-kind p t e)))

-- ---- by octets and by meaning
pub element-keeps : (p t : ℕ) (o : List ℕ) → attribute t ≡ false → default_octets p t o ≡ false
unfolding default_octets
element-keeps p t o a = rw (element-none p t (get_or o 0 0) a) (and-false (eqb (length o) 1))

one-octet : (o : List ℕ) → length o ≡ 1 → value o ≡ get_or o 0 0
unfolding value
one-octet [] e = refl
one-octet (b ∷ []) e = omega arith
one-octet (b ∷ c ∷ o) e = absurd (omega arith)

never-default : (p t : ℕ) (v : Value) → default_in p t 1 defaults ≡ false → is_default p t v ≡ false
unfolding is_default
never-default p t (octets o) h = refl
never-default p t (number w n) h = no_default p t n h
never-default p t (time x) h = refl
never-default p t (bearer b) h = refl

-- where not all is known to be no default, the kind is
default-unless : (p t : ℕ) → (default_in p t 1 defaults ≡ false → ⊥) → known p t ≡ some (HoldsNumber Enumerated)
default-unless p t n = go (default_in p t 1 defaults) refl
  where
    go : (b : Bool) → default_in p t 1 defaults ≡ b → known p t ≡ some (HoldsNumber Enumerated)
    go true e = default-kind p t e
    go false e = absurd (n e)

-- a value that is a default is enumerated
pub default-value-kind : (p t : ℕ) (v : Value) → is_default p t v ≡ true → known p t ≡ some (HoldsNumber Enumerated)
default-value-kind p t v h = default-unless p t (λ e. false≢true (sym (never-default p t v e) ∙ h))

-- the default by octets is the default by meaning
pub default-meant : (T : Entries) (p t : ℕ) (k : Kind) (o : List ℕ) → known p t ≡ some k → fits k o ≡ true → default_octets p t o ≡ is_default p t (meant T k o)
unfolding default_octets is_default fits meant width
default-meant T p t k o e f = go (default_in p t 1 defaults) refl
  where
    go : (b : Bool) → default_in p t 1 defaults ≡ b → eqb (length o) 1 && default_in p t (get_or o 0 0) defaults ≡ is_default p t (meant T k o)
    go false h = rw (no_default p t (get_or o 0 0) h) (and-false (eqb (length o) 1) ∙ sym (never-default p t (meant T k o) h))
    go true h =
        let same : k ≡ HoldsNumber Enumerated = some-injective k (HoldsNumber Enumerated) (sym e ∙ default-kind p t h) in
        let one : eqb (length o) 1 ≡ true = rw same at f in
        rw (same, one, one-octet o (eqb-true (length o) 1 one))

-- octets that are a default are a number of one octet
pub default-enumerated : (p t : ℕ) (o : List ℕ) → default_octets p t o ≡ true → known p t ≡ some (HoldsNumber Enumerated)
unfolding default_octets
default-enumerated p t o h =
    default-unless p t (λ e. false≢true (sym (no_default p t (get_or o 0 0) e) ∙ and_right (eqb (length o) 1) (default_in p t (get_or o 0 0) defaults) h))

pub default-fits : (p t : ℕ) (o : List ℕ) → default_octets p t o ≡ true → fits (HoldsNumber Enumerated) o ≡ true
unfolding default_octets fits width
default-fits p t o h = and_left (eqb (length o) 1) (default_in p t (get_or o 0 0) defaults) h

pub default-fitting : (p t : ℕ) (k : Kind) (o : List ℕ) → known p t ≡ some k → default_octets p t o ≡ true → fits k o ≡ true
default-fitting p t k o e h =
    subst (λ l. fits l o ≡ true) (some-injective (HoldsNumber Enumerated) k (sym (default-enumerated p t o h) ∙ e)) (default-fits p t o h)

pub default-length-one : (T : Entries) (p t : ℕ) (k : Kind) (o : List ℕ) → known p t ≡ some k → default_octets p t o ≡ true → length (octets_of (meant T k o)) ≡ 1
unfolding meant octets_of width
default-length-one T p t k o e h =
    let same : k ≡ HoldsNumber Enumerated = some-injective k (HoldsNumber Enumerated) (sym e ∙ default-enumerated p t o h) in
    rw same (length_digits 1 (value o))

-- ---- `has_default`
module _ (p t : ℕ) where
  pub default-genre : p ≡ 0x14 → eqb t 0x81 ≡ default_in p t 1 defaults
  unfolding default_in defaults
  default-genre e = rw e (sym (or-false (eqb t 0x81)))

  module _ (r : Bool) (f : r ≡ eqb t 0x83 || eqb t 0x84) where
    pub default-programme : p ≡ 0x1C → r ≡ default_in p t 1 defaults
    unfolding default_in defaults
    default-programme e = f ∙ rw (e, or-false (eqb t 0x84))

    pub default-event : p ≡ 0x2E → r ≡ default_in p t 1 defaults
    unfolding default_in defaults
    default-event e = f ∙ rw (e, or-false (eqb t 0x84))

  pub default_none : (p ≡ 0x14 → ⊥) → (p ≡ 0x1C → ⊥) → (p ≡ 0x2E → ⊥) → false ≡ default_in p t 1 defaults
  unfolding default_in defaults
  default_none a b c = rw (ne_eqb p 0x14 a, ne_eqb p 0x1C b, ne_eqb p 0x2E c)

pub ruleset has-ways = (default-genre, default-programme, default-event, default_none)

pub flag_one : (t : ℕ) → t ≡ 0x83 → true ≡ eqb t 0x83 || eqb t 0x84
flag_one t e = rw (eq-eqb t 0x83 e)

pub flag-other : (t : ℕ) → (t ≡ 0x83 → ⊥) → eqb t 0x84 ≡ eqb t 0x83 || eqb t 0x84
flag-other t e = rw (ne_eqb t 0x83 e)

-- ---- `is_default`
module _ (p t : ℕ) (o : List ℕ) where
  pub default-length : (length o ≡ 1 → ⊥) → false ≡ default_octets p t o
  unfolding default_octets
  default-length h = rw (ne_eqb (length o) 1 h)

  pub default-value : (get_or o 0 0 ≡ 1 → ⊥) → false ≡ default_octets p t o
  unfolding default_octets
  default-value h = rw (other_none p t (get_or o 0 0) h) (sym (and-false (eqb (length o) 1)))

  pub default-is : length o ≡ 1 → get_or o 0 0 ≡ 1 → (r : Bool) → r ≡ default_in p t 1 defaults → r ≡ default_octets p t o
  unfolding default_octets
  default-is h g r e = e ∙ rw (eq-eqb (length o) 1 h, g)

pub ruleset default-ways = (default-length, default-value, default-is)
