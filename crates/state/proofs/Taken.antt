-- Only one answer and one memory satisfy a claim, a refused call changes nothing, and how taking in a tree ends.
use Rattle.std.specs.Prelude.{Result, Ok, Err}
use mathlib.Core.Path.{◌≡◌, refl, sym, ◌∙◌, subst}
use mathlib.Core.Bool.{Bool, true, false, ◌&&◌, false≢true}
use mathlib.Core.Option.{some}
use mathlib.Core.List.{[], ◌∷◌}
use Prim.Native.Nat.{ℕ, ◌≤◌, ◌<◌, min}
use native.Mathlib.Omega.{arith}
use lib.Dec.{leb}
use lib.ListN.{length}
use borrow.Author.Tests.{leb-true, leb-false, le-leb}
use Rattle.octets.specs.declared.counts.Octets.{Octets as OctetCount}
use Rattle.octets.proofs.Tests.{and_left, and_right, and-true}
use Rattle.format.specs.declared.Refusal.{Refusal}
use Rattle.format.specs.Answers.{refusal}
use Rattle.format.specs.Tree.{Items, count}
use Rattle.format.specs.Judge.{Judged, first, rule, unless}
use Rattle.format.specs.Judge.Judged.{refused, accepted}
use Rattle.format.specs.Meaning.{means, encode}
use Rattle.format.specs.Loaded.{loaded_of}
use Rattle.format.specs.Calls.{roomy, edit_answer}
use Rattle.format.specs.State.{Memory, places_in, packed_store}
use Rattle.state.specs.Taking.{overflow, settled, taken_in, left, Leaves}
use Rattle.state.proofs.HeldTree.{Fits}

pub leaves-only : (outcome : Judged) (m m₁ m₂ : Memory) (a b : Result ℕ Refusal) → Leaves outcome m m₁ a → Leaves outcome m m₂ b → (a ≡ b) × (m₁ ≡ m₂)
leaves-only outcome m m₁ m₂ a b p q = (p.answers ∙ sym q.answers, p.leaves ∙ sym q.leaves)

pub refused-kept : (outcome : Judged) (m m' : Memory) (r : Refusal) → Leaves outcome m m' (Err r) → m' ≡ m
unfolding edit_answer left
refused-kept (refused q) m m' r p = p.leaves
refused-kept (accepted t) m m' r p =
    let e : Err r ≡ Ok _ = p.answers in
    let z : ◌≡◌ {A = ℕ} 0 1 = cc in
    absurd (omega arith)

-- ---- a tree that memory is to hold: 14 exactly where it has more records than there are places, else 15 exactly where its texts and values exceed the store or its
-- normal form the room that is there for it or 32,768 octets, else it fits
pub data Fitting (most : OctetCount) (m : Memory) (u : Items) : Judged → Type 0 where
  crowded : places_in m < count u → Fitting most m u (refused (refusal 14 0))
  overfull : count u ≤ places_in m → (length (packed_store u) ≤ length m.store → length (encode (means [] u)) ≤ min most.0 32_768 → ⊥)
      → Fitting most m u (refused (refusal 15 0))
  fits : Fits m u → length (encode (means [] u)) ≤ most.0 → Fitting most m u (accepted u)

pub fitting : (most : OctetCount) (m : Memory) (u : Items) → Fitting most m u (settled most m (some u))
unfolding settled overflow roomy first rule unless
fitting most m u = go (leb (count u) (places_in m)) refl (stored && short) refl
  where
    stored : Bool
    stored = leb (length (packed_store u)) (length m.store)

    short : Bool
    short = leb (length (encode (means [] u))) (min most.0 32_768)

    go : (a : Bool) → leb (count u) (places_in m) ≡ a → (b : Bool) → stored && short ≡ b → Fitting most m u (unless (first (rule 14 0 a ∷ rule 15 0 b ∷ [])) (accepted u))
    go false f b g = crowded (omega (arith, leb-false (count u) (places_in m) f))
    go true f false g = overfull (leb-true (count u) (places_in m) f) (λ x y.
        false≢true (sym g ∙ and-true stored short (le-leb (length (packed_store u)) (length m.store) x) (le-leb (length (encode (means [] u))) (min most.0 32_768) y)))
    go true f true g =
        let small : length (encode (means [] u)) ≤ min most.0 32_768 = leb-true (length (encode (means [] u))) (min most.0 32_768) (and_right stored short g) in
        fits (record {
          records = leb-true (count u) (places_in m) f;
          store = leb-true (length (packed_store u)) (length m.store) (and_left stored short g);
          small = omega (arith, small);
        }) (omega (arith, small))

-- so it is with the tree of an accepted object
pub taken-ends : (most : OctetCount) (m : Memory) (t : Items) → Fitting most m (loaded_of t) (taken_in most m (accepted t))
unfolding taken_in
taken-ends most m t = fitting most m (loaded_of t)

-- ---- the tree that is there in the end
pub fitting-tree : {most : OctetCount} {m : Memory} {u : Items} {j : Judged} → Fitting most m u j → (t : Items) → j ≡ accepted t → (u ≡ t) × Fits m t
fitting-tree (crowded a) t q = let z : ◌≡◌ {A = ℕ} 0 1 = cc in absurd (omega arith)
fitting-tree (overfull a b) t q = let z : ◌≡◌ {A = ℕ} 0 1 = cc in absurd (omega arith)
fitting-tree {m = m} {u = u} (fits f g) t q = let e : u ≡ t = cc in (e, subst (Fits m) e f)

-- and it is no longer in normal form than the room that is there for it
pub fitting-room : {most : OctetCount} {m : Memory} {u : Items} {j : Judged} → Fitting most m u j → (t : Items) → j ≡ accepted t → length (encode (means [] u)) ≤ most.0
fitting-room (crowded a) t q = let z : ◌≡◌ {A = ℕ} 0 1 = cc in absurd (omega arith)
fitting-room (overfull a b) t q = let z : ◌≡◌ {A = ℕ} 0 1 = cc in absurd (omega arith)
fitting-room (fits f g) t q = g
