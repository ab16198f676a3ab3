-- The tests of specs/Same say equality: of octets, of values of one kind, of attributes as sets, of well-formed meanings; and so what `same` and `is_normal` answer
-- of accepted objects.
use Rattle.std.specs.Prelude.{Ok}
use mathlib.Core.Path.{◌≡◌, refl, sym, ap, ap₂, ◌∙◌, subst, fun_ext}
use mathlib.Core.Bool.{Bool, true, false, cond, ◌&&◌, false≢true}
use mathlib.Core.Logic.{◌↔◌}
use mathlib.Core.Option.{Option, none, some, some-injective, none-ne-some, some-ne-none}
use mathlib.Core.List.{List, [], ◌∷◌}
use Prim.Native.Nat.{ℕ, zero, suc, ◌+◌, ◌≤◌, ◌<◌}
use native.Mathlib.Omega.{arith}
use lib.Dec.{eqb, leb, ltb}
use lib.ListN.{length}
use borrow.Author.Tests.{eqb-true, eqb-false, eq-eqb, ltb-true, leb-true, le-leb, lt-ltb}
use Rattle.octets.specs.Numbers.{Octets}
use Rattle.octets.proofs.Tests.{and_left, and_right, and-true, never, chosen}
use Rattle.values.specs.declared.Kind.{Kind}
use Rattle.values.specs.Table.{attribute}
use Rattle.values.specs.Values.{Value, meant, octets_of}
use Rattle.values.specs.Proper.{Proper}
use Rattle.values.proofs.Values.{proper-means}
use Rattle.format.specs.Tree.{Items}
use Rattle.format.specs.Judge.{Judged, judge}
use Rattle.format.specs.Judge.Judged.{refused, accepted}
use Rattle.format.specs.Meaning.{Meaning, meaning_of, if_accepted, encode, normal_of, normal}
use Rattle.format.specs.Meaning.Meaning.{nothing, element, leaf}
use Rattle.format.specs.WellFormed.{ValueOk, AttributeOk, WellFormed, ObjectOk}
use Rattle.format.specs.Same.{same_octets, same_value, same_maybe, same_attributes, same_meaning, same_answer, has_normal, is_normal}
use Rattle.format.proofs.Round.{encode_injective}
use Rattle.format.proofs.Normal.{accepted-ok}

-- ---- octets

pub same-octets : (a b : List ℕ) → same_octets a b ≡ true → a ≡ b
unfolding same_octets
same-octets [] [] h = refl
same-octets [] (b ∷ bs) h = absurd (false≢true h)
same-octets (a ∷ more) [] h = absurd (false≢true h)
same-octets (a ∷ more) (b ∷ bs) h = ap₂ ◌∷◌ (eqb-true a b (and_left (eqb a b) (same_octets more bs) h)) (same-octets more bs (and_right (eqb a b) (same_octets more bs) h))

pub octets-same : (a : List ℕ) → same_octets a a ≡ true
unfolding same_octets
octets-same [] = refl
octets-same (a ∷ more) = and-true (eqb a a) (same_octets more more) (eq-eqb a a refl) (octets-same more)

pub octets-exactly : (a b : List ℕ) → same_octets a b ≡ true ↔ a ≡ b
octets-exactly a b = (same-octets a b, (λ e. subst (λ x. same_octets a x ≡ true) e (octets-same a)))

-- two tests that say the same are the same
pub tests_agree : {A : Type 0} (a b : Bool) → a ≡ true ↔ A → b ≡ true ↔ A → a ≡ b
tests_agree true true p q = refl
tests_agree true false p q = sym (q.1 (p.0 refl))
tests_agree false true p q = p.1 (q.0 refl)
tests_agree false false p q = refl

-- ---- what may be absent

maybe-same : {A : Type 0} (f : A → A → Bool) (a b : Option A) → ((x y : A) → a ≡ some x → b ≡ some y → f x y ≡ true ↔ x ≡ y) → same_maybe f a b ≡ true ↔ a ≡ b
unfolding same_maybe
maybe-same f none none h = ((λ e. refl), (λ e. refl))
maybe-same f none (some b) h = ((λ e. absurd (false≢true e)), (λ e. absurd (none-ne-some b e)))
maybe-same f (some a) none h = ((λ e. absurd (false≢true e)), (λ e. absurd (some-ne-none a e)))
maybe-same f (some a) (some b) h = ((λ e. ap some ((h a b refl refl).0 e)), (λ e. (h a b refl refl).1 (some-injective a b e)))

-- ---- values

-- values of one kind are the same where their normal octets are
pub value-exactly : (k : Kind) (v w : Value) → Proper k v → Proper k w → same_value v w ≡ true ↔ v ≡ w
unfolding same_value
value-exactly k v w p q = (
  (λ e. sym (proper-means p) ∙ ap (meant [] k) (same-octets (octets_of v) (octets_of w) e) ∙ proper-means q),
  (λ e. subst (λ x. same_octets (octets_of v) (octets_of x) ≡ true) e (octets-same (octets_of v))),
)

-- an attribute of an element that is present in both
pub attribute-exactly : (tag a : ℕ) (v w : Option Value) → ValueOk tag a v → ValueOk tag a w → same_maybe same_value v w ≡ true ↔ v ≡ w
attribute-exactly tag a none none p q = maybe-same same_value none none (λ x y e f. absurd (none-ne-some x e))
attribute-exactly tag a none (some w) p q = maybe-same same_value none (some w) (λ x y e f. absurd (none-ne-some x e))
attribute-exactly tag a (some v) none p q = maybe-same same_value (some v) none (λ x y e f. absurd (none-ne-some y f))
attribute-exactly tag a (some v) (some w) p q = maybe-same same_value (some v) (some w) (λ x y e f.
    let k = p.2.0 in
    let l = q.2.0 in
    let s : l ≡ k = some-injective l k (sym q.2.1 ∙ p.2.1) in
    value-exactly k x y (subst (Proper k) (some-injective v x e) p.2.2) (subst (λ i. Proper i y) s (subst (Proper l) (some-injective w y f) q.2.2)))

-- ---- attributes as sets

-- the test at each of its tags
attributes-at : (n tag : ℕ) (f g : ℕ → Option Value) → same_attributes n tag f g ≡ true → (a : ℕ) → tag ≤ a → a < tag + n → same_maybe same_value (f a) (g a) ≡ true
unfolding same_attributes
attributes-at zero tag f g h a l m = absurd (omega arith)
attributes-at (suc n) tag f g h a l m =
    go (attributes-at n (suc tag) f g (and_right (same_maybe same_value (f tag) (g tag)) (same_attributes n (suc tag) f g) h) a) (eqb tag a) refl
  where
    go : (suc tag ≤ a → a < suc tag + n → same_maybe same_value (f a) (g a) ≡ true) → (b : Bool) → eqb tag a ≡ b → same_maybe same_value (f a) (g a) ≡ true
    go later true e =
        subst (λ i. same_maybe same_value (f i) (g i) ≡ true) (eqb-true tag a e) (and_left (same_maybe same_value (f tag) (g tag)) (same_attributes n (suc tag) f g) h)
    go later false e = let d : tag ≡ a → ⊥ = eqb-false tag a e in later (omega arith) (omega arith)

attributes-all : (n tag : ℕ) (f g : ℕ → Option Value) → ((a : ℕ) → same_maybe same_value (f a) (g a) ≡ true) → same_attributes n tag f g ≡ true
unfolding same_attributes
attributes-all zero tag f g h = refl
attributes-all (suc n) tag f g h = and-true (same_maybe same_value (f tag) (g tag)) (same_attributes n (suc tag) f g) (h tag) (attributes-all n (suc tag) f g h)

-- beyond the tags of attributes there are none
absent : (tag a : ℕ) (v : Option Value) → ValueOk tag a v → (0x80 ≤ a → a < 256 → ⊥) → v ≡ none
unfolding attribute
absent tag a none ok h = refl
absent tag a (some v) ok h = absurd (h (ltb-true 0x7F a ok.0) ok.1)

pub attributes-exactly : (tag : ℕ) (f g : ℕ → Option Value) → ((a : ℕ) → AttributeOk tag a (f a)) → ((a : ℕ) → AttributeOk tag a (g a))
    → same_attributes 128 0x80 f g ≡ true ↔ f ≡ g
attributes-exactly tag f g p q = (
  (λ e. fun_ext (λ a. each e a (leb 0x80 a && ltb a 256) refl)),
  (λ e. attributes-all 128 0x80 f g (λ a. (attribute-exactly tag a (f a) (g a) (p a).value (q a).value).1 (ap (λ h. h a) e))),
)
  where
    each : same_attributes 128 0x80 f g ≡ true → (a : ℕ) (b : Bool) → leb 0x80 a && ltb a 256 ≡ b → f a ≡ g a
    each e a true t =
        let l = leb-true 0x80 a (and_left (leb 0x80 a) (ltb a 256) t) in
        let m = ltb-true a 256 (and_right (leb 0x80 a) (ltb a 256) t) in
        (attribute-exactly tag a (f a) (g a) (p a).value (q a).value).0 (attributes-at 128 0x80 f g e a l (omega arith))
    each e a false t =
        let h : 0x80 ≤ a → a < 256 → ⊥ = λ l m. false≢true (sym t ∙ and-true (leb 0x80 a) (ltb a 256) (le-leb 0x80 a l) (lt-ltb a 256 m)) in
        absent tag a (f a) (p a).value h ∙ sym (absent tag a (g a) (q a).value h)

-- ---- meanings

cdata-exactly : (d d' : Option (List ℕ)) → same_maybe same_octets d d' ≡ true ↔ d ≡ d'
cdata-exactly d d' = maybe-same same_octets d d' (λ x y e f. octets-exactly x y)

-- three tests and a fourth
split : (a b c d e : Bool) → a && (b && c && d) && e ≡ true → (a ≡ true) × (b ≡ true) × (c ≡ true) × (d ≡ true) × (e ≡ true)
split a b c d e h =
    let x = and_left (a && (b && c && d)) e h in
    let y = and_right a (b && c && d) x in (
      and_left a (b && c && d) x,
      and_left b c (and_left (b && c) d y),
      and_right b c (and_left (b && c) d y),
      and_right (b && c) d y,
      and_right (a && (b && c && d)) e h,
    )

join : (a b c d e : Bool) → a ≡ true → b ≡ true → c ≡ true → d ≡ true → e ≡ true → a && (b && c && d) && e ≡ true
join a b c d e p q r s t = rw (p, q, r, s, t)

module _ (tag tag' : ℕ) (f f' : ℕ → Option Value) (c c' : Meaning) (d d' : Option (List ℕ)) (a a' : Meaning)
    (ok : (i : ℕ) → AttributeOk tag i (f i)) (ok' : (i : ℕ) → AttributeOk tag' i (f' i))
    (inside : same_meaning c c' ≡ true ↔ c ≡ c') (after : same_meaning a a' ≡ true ↔ a ≡ a') where
  element-exactly : same_meaning (element tag f c d a) (element tag' f' c' d' a') ≡ true ↔ element tag f c d a ≡ element tag' f' c' d' a'
  unfolding same_meaning
  element-exactly = (forth, back)
    where
      forth : eqb tag tag' && (same_attributes 128 0x80 f f' && same_maybe same_octets d d' && same_meaning c c') && same_meaning a a' ≡ true → element tag f c d a ≡ element tag' f' c' d' a'
      forth h =
          let s = split (eqb tag tag') (same_attributes 128 0x80 f f') (same_maybe same_octets d d') (same_meaning c c') (same_meaning a a') h in
          let t : tag ≡ tag' = eqb-true tag tag' s.0 in
          let g : f ≡ f' = (attributes-exactly tag f f' ok (subst (λ n. (i : ℕ) → AttributeOk n i (f' i)) (sym t) ok')).0 s.1 in
          let x : d ≡ d' = (cdata-exactly d d').0 s.2 in
          let y : c ≡ c' = inside.0 s.3 in
          let z : a ≡ a' = after.0 s.4 in
          cc

      back : element tag f c d a ≡ element tag' f' c' d' a' → eqb tag tag' && (same_attributes 128 0x80 f f' && same_maybe same_octets d d' && same_meaning c c') && same_meaning a a' ≡ true
      back e =
          let t : tag ≡ tag' = cc in
          let g : f ≡ f' = cc in
          let x : d ≡ d' = cc in
          let y : c ≡ c' = cc in
          let z : a ≡ a' = cc in
          join (eqb tag tag') (same_attributes 128 0x80 f f') (same_maybe same_octets d d') (same_meaning c c') (same_meaning a a') (eq-eqb tag tag' t)
          ((attributes-exactly tag f f' ok (subst (λ n. (i : ℕ) → AttributeOk n i (f' i)) (sym t) ok')).1 g) ((cdata-exactly d d').1 x) (inside.1 y) (after.1 z)

module _ (tag tag' : ℕ) (o o' : List ℕ) (a a' : Meaning) (after : same_meaning a a' ≡ true ↔ a ≡ a') where
  leaf-exactly : same_meaning (leaf tag o a) (leaf tag' o' a') ≡ true ↔ leaf tag o a ≡ leaf tag' o' a'
  unfolding same_meaning
  leaf-exactly = (forth, back)
    where
      forth : eqb tag tag' && same_octets o o' && same_meaning a a' ≡ true → leaf tag o a ≡ leaf tag' o' a'
      forth h =
          let x = and_left (eqb tag tag' && same_octets o o') (same_meaning a a') h in
          let t : tag ≡ tag' = eqb-true tag tag' (and_left (eqb tag tag') (same_octets o o') x) in
          let y : o ≡ o' = same-octets o o' (and_right (eqb tag tag') (same_octets o o') x) in
          let z : a ≡ a' = after.0 (and_right (eqb tag tag' && same_octets o o') (same_meaning a a') h) in
          cc

      back : leaf tag o a ≡ leaf tag' o' a' → eqb tag tag' && same_octets o o' && same_meaning a a' ≡ true
      back e =
          let t : tag ≡ tag' = cc in
          let y : o ≡ o' = cc in
          let z : a ≡ a' = cc in
          and-true (eqb tag tag' && same_octets o o') (same_meaning a a')
          (and-true (eqb tag tag') (same_octets o o') (eq-eqb tag tag' t) ((octets-exactly o o').1 y)) (after.1 z)

-- two well-formed meanings are the same exactly when they are equal
pub meaning-exactly : (m n : Meaning) (p d s p' d' s' : ℕ) → WellFormed p d s m → WellFormed p' d' s' n → same_meaning m n ≡ true ↔ m ≡ n
unfolding same_meaning
meaning-exactly nothing nothing p d s p' d' s' ok ok' = ((λ h. refl), (λ e. refl))
meaning-exactly nothing (element tag f c x a) p d s p' d' s' ok ok' = ((λ h. absurd (false≢true h)), (λ e. never (cc)))
meaning-exactly nothing (leaf tag o a) p d s p' d' s' ok ok' = ((λ h. absurd (false≢true h)), (λ e. never (cc)))
meaning-exactly (element tag f c x a) nothing p d s p' d' s' ok ok' = ((λ h. absurd (false≢true h)), (λ e. never (cc)))
meaning-exactly (element tag f c x a) (element tag' f' c' x' a') p d s p' d' s' ok ok' =
    element-exactly tag tag' f f' c c' x x' a a' ok.2 ok'.2 (meaning-exactly c c' _ _ _ _ _ _ ok.3 ok'.3) (meaning-exactly a a' _ _ _ _ _ _ ok.5 ok'.5)
meaning-exactly (element tag f c x a) (leaf tag' o a') p d s p' d' s' ok ok' = ((λ h. absurd (false≢true h)), (λ e. never (cc)))
meaning-exactly (leaf tag o a) nothing p d s p' d' s' ok ok' = ((λ h. absurd (false≢true h)), (λ e. never (cc)))
meaning-exactly (leaf tag o a) (element tag' f c x a') p d s p' d' s' ok ok' = ((λ h. absurd (false≢true h)), (λ e. never (cc)))
meaning-exactly (leaf tag o a) (leaf tag' o' a') p d s p' d' s' ok ok' = leaf-exactly tag tag' o o' a a' (meaning-exactly a a' _ _ _ _ _ _ ok.2 ok'.2)

object-formed : (m : Meaning) → ObjectOk m → WellFormed 0 1 0 m
object-formed nothing ok = absurd ok
object-formed (leaf tag o a) ok = absurd ok
object-formed (element tag f c x nothing) ok = ok
object-formed (element tag f c x (element tag' f' c' x' a)) ok = absurd ok
object-formed (element tag f c x (leaf tag' o a)) ok = absurd ok

-- ---- objects

-- two accepted objects: the test says whether their meanings are equal
pub objects-exactly : (o p : List ℕ) (t u : Items) → Octets o → Octets p → judge o ≡ accepted t → judge p ≡ accepted u → same_meaning (meaning_of t) (meaning_of u) ≡ true ↔ meaning_of t ≡ meaning_of u
objects-exactly o p t u os ps h g =
    meaning-exactly (meaning_of t) (meaning_of u) 0 1 0 0 1 0 (object-formed (meaning_of t) (accepted-ok o t os h)) (object-formed (meaning_of u) (accepted-ok p u ps g))

-- so two accepted objects are the same exactly when they mean the same, and different exactly when they don't
module _ (o p : List ℕ) (t u : Items) (os : Octets o) (ps : Octets p) (x : judge o ≡ accepted t) (y : judge p ≡ accepted u) where
  told : same_answer (judge o) (judge p) ≡ cond (same_meaning (meaning_of t) (meaning_of u)) (Ok true) (Ok false)
  unfolding same_answer
  told = ap₂ same_answer x y

  pub same-exactly : same_answer (judge o) (judge p) ≡ (Ok true) ↔ meaning_of t ≡ meaning_of u
  same-exactly = (
    (λ h. (objects-exactly o p t u os ps x y).0 (chosen (same_meaning (meaning_of t) (meaning_of u)) (sym h ∙ told) (λ z. never (cc))).0),
    (λ e. told ∙ rw ((objects-exactly o p t u os ps x y).1 e)),
  )

  pub different-exactly : same_answer (judge o) (judge p) ≡ (Ok false) ↔ (meaning_of t ≡ meaning_of u → ⊥)
  different-exactly = (
    (λ h e. let z : (Ok false) ≡ (Ok true) = sym h ∙ same-exactly.1 e in never (cc)),
    (λ d. go (same_meaning (meaning_of t) (meaning_of u)) refl d),
  )
    where
      go : (b : Bool) → same_meaning (meaning_of t) (meaning_of u) ≡ b → (meaning_of t ≡ meaning_of u → ⊥) → same_answer (judge o) (judge p) ≡ Ok false
      go true h d = absurd (d ((objects-exactly o p t u os ps x y).0 h))
      go false h d = told ∙ rw h

  -- where the first normal form is no longer than an object may be, that is whether the two normal forms are the same octets
  pub octets-agree : length (normal_of t) ≤ 32_768 → same_meaning (meaning_of t) (meaning_of u) ≡ same_octets (normal_of t) (normal_of u)
  octets-agree l =
      tests_agree {A = meaning_of t ≡ meaning_of u} (same_meaning (meaning_of t) (meaning_of u)) (same_octets (normal_of t) (normal_of u)) (objects-exactly o p t u os ps x y) (
        (λ h. encode_injective (meaning_of t) (meaning_of u) (accepted-ok o t os x) (accepted-ok p u ps y) l (same-octets (normal_of t) (normal_of u) h)),
        (λ e. (octets-exactly (normal_of t) (normal_of u)).1 (ap encode e)),
      )

-- octets are a judged object's normal form exactly when the test says so
pub has-exactly : (n o : List ℕ) → has_normal n (judge o) ≡ true ↔ normal o ≡ some n
unfolding normal has_normal if_accepted
has-exactly n o = go (judge o)
  where
    go : (a : Judged) → has_normal n a ≡ true ↔ if_accepted normal_of a ≡ some n
    go (refused r) = ((λ h. absurd (false≢true h)), (λ h. absurd (none-ne-some n h)))
    go (accepted t) = ((λ h. ap some (same-octets (normal_of t) n h)), (λ h. (octets-exactly (normal_of t) n).1 (some-injective (normal_of t) n h)))

-- an object is its own normal form exactly when the test says so
pub normal-exactly : (o : List ℕ) → is_normal o ≡ true ↔ normal o ≡ some o
unfolding is_normal
normal-exactly o = has-exactly o o
