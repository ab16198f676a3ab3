-- How an edit of a tree ends.
use mathlib.Core.Path.{◌≡◌, refl, ap, ◌∙◌}
use mathlib.Core.Bool.{Bool, true, false}
use mathlib.Core.Option.{Option, none, some}
use Prim.Native.Nat.{ℕ}
use native.Mathlib.Omega.{arith}
use Rattle.octets.specs.Counts.{as_octets}
use Rattle.format.specs.Answers.{refusal}
use Rattle.format.specs.Tree.{Items}
use Rattle.format.specs.Judge.{Judged, rule, unless}
use Rattle.format.specs.Judge.Judged.{refused, accepted}
use Rattle.format.specs.State.{Memory}
use Rattle.state.specs.Taking.{settled}
use Rattle.state.proofs.HeldTree.{Fits}
use Rattle.state.proofs.Taken.{Fitting, fitting, fitting-tree}
use Rattle.edits.specs.Tree.{Edit, is_there}
use Rattle.edits.specs.Calls.{edited, edited_in}

-- an edit of a tree: 18 exactly where record or place isn't there, else 16 exactly where no tree comes out that keeps the rules, else it is that tree
pub data Ends (m : Memory) (e : Edit) (t : Items) : Judged → Type 0 where
  nowhere : is_there e t ≡ false → Ends m e t (refused (refusal 18 0))
  unruled : is_there e t ≡ true → edited e t ≡ none → Ends m e t (refused (refusal 16 0))
  ruled : (u : Items) (j : Judged) → is_there e t ≡ true → edited e t ≡ some u → Fitting (as_octets 32_768) m u j → Ends m e t j

pub edit-ends : (m : Memory) (e : Edit) (t : Items) → Ends m e t (edited_in m e (some t))
unfolding edited_in settled rule unless
edit-ends m e t = go (is_there e t) refl (edited e t) refl
  where
    go : (x : Bool) → is_there e t ≡ x → (o : Option Items) → edited e t ≡ o → Ends m e t (unless (rule 18 0 x) (settled (as_octets 32_768) m o))
    go false p o q = nowhere p
    go true p none q = unruled p q
    go true p (some u) q = ruled u (settled (as_octets 32_768) m (some u)) p q (fitting (as_octets 32_768) m u)

-- the tree that is there in the end
pub edit-tree : {m : Memory} {e : Edit} {t : Items} {j : Judged} → Ends m e t j → (u : Items) → j ≡ accepted u → (is_there e t ≡ true) × (edited e t ≡ some u) × Fits m u
edit-tree (nowhere a) u q = let z : ◌≡◌ {A = ℕ} 0 1 = cc in absurd (omega arith)
edit-tree (unruled a b) u q = let z : ◌≡◌ {A = ℕ} 0 1 = cc in absurd (omega arith)
edit-tree (ruled v j p r f) u q = let w = fitting-tree f u q in (p, r ∙ ap some w.0, w.1)
