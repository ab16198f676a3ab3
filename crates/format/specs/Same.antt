-- Whether two objects mean the same, and whether an object is its own normal form (document 01, Records and meaning). A meaning has its attributes as a function,
-- so that two of them are equal is no test by itself: the test goes by their structure. It says equality of every two meanings that objects have, however long
-- their normal forms are (proofs/Same), so no accepted object is refused here.
use Rattle.std.specs.Prelude.{Bool, true, false, cond, ◌&&◌, List, [], ◌∷◌, ℕ, zero, suc, eqb, Result, Ok, Err}
use Rattle.std.proofs.Math.Option.{Option, none, some}
use Rattle.values.specs.Values.{Value, octets_of}
use Rattle.format.specs.Judge.{Judged, judge}
use Rattle.format.specs.Judge.Judged.{refused, accepted}
use Rattle.format.specs.Meaning.{Meaning, meaning_of, normal_of}
use Rattle.format.specs.Meaning.Meaning.{nothing, element, leaf}
use Rattle.format.specs.declared.SameRefusal.{SameRefusal}
use Rattle.format.specs.declared.SameRefusal.TheVariants.{First, Second}

-- as many octets, each the same
unfoldable pub same_octets : List ℕ → List ℕ → Bool
same_octets [] [] = true
same_octets [] (b ∷ bs) = false
same_octets (a ∷ more) [] = false
same_octets (a ∷ more) (b ∷ bs) = eqb a b && same_octets more bs

-- two values of one kind, by their normal octets: a value has one normal form, so this is equality (proofs/Same, value-exactly)
unfoldable pub same_value : Value → Value → Bool
same_value v w = same_octets (octets_of v) (octets_of w)

-- what may be absent: absent in both, or present in both and the same
unfoldable pub same_maybe : {A : Type 0} → (A → A → Bool) → Option A → Option A → Bool
same_maybe f none none = true
same_maybe f none (some b) = false
same_maybe f (some a) none = false
same_maybe f (some a) (some b) = f a b

-- the attributes of as many tags as the first number says, from a tag on: they are a set, so an object's order of them says nothing
unfoldable pub same_attributes : ℕ → ℕ → (ℕ → Option Value) → (ℕ → Option Value) → Bool
same_attributes zero tag f g = true
same_attributes (suc n) tag f g = same_maybe same_value (f tag) (g tag) && same_attributes n (suc tag) f g

-- elements in order: the same tags, and in each the same attributes, CDATA (of which none differs from an empty one) and child elements, or the same octets
unfoldable pub same_meaning : Meaning → Meaning → Bool
same_meaning nothing nothing = true
same_meaning nothing (element tag f children cdata after) = false
same_meaning nothing (leaf tag o after) = false
same_meaning (element tag f children cdata after) nothing = false
same_meaning (element tag f children cdata after) (element tag' f' children' cdata' after') =
    eqb tag tag' && (same_attributes 128 0x80 f f' && same_maybe same_octets cdata cdata' && same_meaning children children') && same_meaning after after'
same_meaning (element tag f children cdata after) (leaf tag' o after') = false
same_meaning (leaf tag o after) nothing = false
same_meaning (leaf tag o after) (element tag' f children cdata after') = false
same_meaning (leaf tag o after) (leaf tag' o' after') = eqb tag tag' && same_octets o o' && same_meaning after after'

-- same: 1 to 13 of the first object, then of the second, then whether they mean the same. Nothing is lent, so there is no 14 and no 15
unfoldable pub same_answer : (first second : Judged) → Result Bool SameRefusal
same_answer (refused r) second = Err (First r)
same_answer (accepted t) (refused r) = Err (Second r)
same_answer (accepted t) (accepted u) = cond (same_meaning (meaning_of t) (meaning_of u)) (Ok true) (Ok false)

-- a judged object is accepted, and its normal form is these octets
unfoldable pub has_normal : List ℕ → Judged → Bool
has_normal o (refused r) = false
has_normal o (accepted t) = same_octets (normal_of t) o

-- is_normal: the object is accepted and its own normal form
unfoldable pub is_normal : (object : List ℕ) → Bool
is_normal object = has_normal object (judge object)
