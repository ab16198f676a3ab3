-- The normal form of an accepted object: it is accepted, means what the object means, is its own normal form, and is one for one meaning (demand 3).
use mathlib.Core.Path.{◌≡◌, refl, sym, ap, ◌∙◌, subst}
use mathlib.Core.Logic.{◌↔◌}
use mathlib.Core.Option.{some, some-injective, none-ne-some}
use mathlib.Core.List.{List}
use Prim.Native.Nat.{ℕ, ◌≤◌}
use lib.ListN.{length}
use Rattle.octets.specs.Numbers.{Octets}
use Rattle.octets.proofs.Tests.{never}
use Rattle.format.specs.Tree.{Items, without_defaults}
use Rattle.format.specs.Judge.{Judged, judge}
use Rattle.format.specs.Judge.Judged.{refused, accepted}
use Rattle.format.specs.Meaning.{Meaning, table_of, meaning_of, if_accepted, meaning, encode, normal_of}
use Rattle.format.specs.WellFormed.{ObjectOk}
use Rattle.format.proofs.Rules.{same-tree}
use Rattle.format.proofs.Round.{reread, meaning-encode, encode_injective}
use Rattle.format.proofs.Defaults.{none-without}
use Rattle.format.proofs.Told.{top, accepted-told, accepted-sound}
use Rattle.format.proofs.Fine.{told-ok}

-- the meaning of any accepted object is well-formed
pub accepted-ok : (o : List ℕ) (t : Items) → Octets o → judge o ≡ accepted t → ObjectOk (meaning_of t)
accepted-ok o t os h =
    let w = top o t os h in
    told-ok (table_of t) (accepted-sound o t os h) t (λ e. never (cc w.is)) (accepted-told o t os h)

-- an accepted object has a tree, and it alone
pub accepted-is : {A : Type 0} (f : Items → A) (a : Judged) (x : A) → if_accepted f a ≡ some x → (t : Items) × (a ≡ accepted t) × (f t ≡ x)
unfolding if_accepted
accepted-is f (refused r) x h = absurd (none-ne-some x h)
accepted-is f (accepted t) x h = (t, refl, some-injective (f t) x h)

pub meaning-ok : (o : List ℕ) → Octets o → (m : Meaning) → meaning o ≡ some m → ObjectOk m
unfolding meaning
meaning-ok o os m h = let a = accepted-is meaning_of (judge o) m h in subst (λ x. ObjectOk x) a.2 (accepted-ok o a.0 os a.1)

-- the normal form of an accepted object, where an object may be so long, is accepted and means what the object means
pub normal-means : (o : List ℕ) → Octets o → (m : Meaning) → meaning o ≡ some m → length (encode m) ≤ 32_768 → meaning (encode m) ≡ some m
normal-means o os m h l = meaning-encode m (meaning-ok o os m h) l

-- and holds no default
pub normal-bare : (o : List ℕ) (t u : Items) → Octets o → judge o ≡ accepted t → length (normal_of t) ≤ 32_768 → judge (normal_of t) ≡ accepted u → without_defaults 0 u ≡ u
normal-bare o t u os h l e =
    let r = reread (meaning_of t) (accepted-ok o t os h) l in
    let same : r.tree ≡ u = same-tree r.tree u (sym r.accepts ∙ e) in
    ap (without_defaults 0) (sym same) ∙ none-without 0 r.tree r.bare ∙ same

-- two accepted objects have one normal form exactly where they mean the same
pub same-normal : (o p : List ℕ) → Octets o → Octets p → (m n : Meaning) → meaning o ≡ some m → meaning p ≡ some n → length (encode m) ≤ 32_768 → encode m ≡ encode n ↔ m ≡ n
same-normal o p os ps m n h g l = ((λ e. encode_injective m n (meaning-ok o os m h) (meaning-ok p ps n g) l e), (λ e. ap encode e))
