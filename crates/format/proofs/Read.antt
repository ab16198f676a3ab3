-- Reading framed items: one item that keeps the rules, before whatever follows it.
use mathlib.Core.Path.{◌≡◌, refl, ◌∙◌}
use mathlib.Core.Bool.{Bool, true, false, not, ◌||◌}
use mathlib.Core.Option.{none, some}
use mathlib.Core.List.{List, [], ◌∷◌, ◌++◌}
use Prim.Native.Nat.{ℕ, zero, suc, ◌+◌, ◌^◌, ◌<◌}
use native.Mathlib.Omega.{arith}
use native.Mathlib.Nat.{not-suc-le-zero}
use lib.Dec.{eqb, leb}
use lib.ListN.{length}
use borrow.Author.Tests.{leb-true, le-leb}
use Rattle.octets.specs.Header.{framed}
use Rattle.values.specs.declared.Kind.{Kind}
use Rattle.values.specs.declared.Kind.TheVariants.{HoldsItems}
use Rattle.values.specs.Table.{known}
use Rattle.format.specs.Tree.{Items}
use Rattle.format.specs.Tree.Items.{end, item}
use Rattle.format.specs.Judge.{Judged, is_known, is_items, Context, items, unless, by_kind, joined, followed, late, within, next}
use Rattle.format.specs.Judge.Judged.{accepted}
use Rattle.octets.proofs.Frames.{headed, behind, split, framed-behind}
use Rattle.format.proofs.Rules.{Held, Fitting, unbroken}

-- a part is read as a tree, with any number that is above its length
abbrev pub Reads : Context → ℕ → List ℕ → Items → Type 0
Reads c at part t = (k : ℕ) → length part < k → items k c at part ≡ accepted t

-- rule 5: the item is not the top, or nothing follows it
abbrev pub Alone : Context → List ℕ → Type 0
Alone c rest = not (eqb c.parent 0) || leb (length rest) 0 ≡ true

fits-room : (c : Context) (body rest : List ℕ) → Alone c rest → (room : ℕ) → room ≡ headed (length body) + length body + length rest
    → Fitting c (headed (length body)) (length body) room
fits-room c body rest a room e = record { header = omega arith; body = omega arith; alone = go (not (eqb c.parent 0)) a }
  where
    go : (b : Bool) → b || leb (length rest) 0 ≡ true → b || leb room (headed (length body) + length body) ≡ true
    go true q = refl
    go false q = le-leb room (headed (length body) + length body) (omega (arith, leb-true (length rest) 0 q))

-- an item of a known kind that holds no items
leaf-kind : (k : Kind) → is_items (some k) ≡ false → (f : Items → Items → Items) (a b : Judged) → by_kind (some k) f a b ≡ followed (f end) b
unfolding by_kind is_known
leaf-kind k q f a b = rw q

-- an item that keeps its rules is read by its kind; the number below suffices for what is inside it and after it
module _ (c : Context) (at tag : ℕ) (body rest : List ℕ) (small : length body < 256 ^ 2) (p : Held c tag body) (a : Alone c rest) where
  step : (k : ℕ) → items (suc k) c at (tag ∷ behind body rest)
      ≡ by_kind (known c.parent tag) (item tag (at + headed (length body)) body) (items k (within c tag) (at + headed (length body)) body)
      (items k (next c at tag body) (at + headed (length body) + length body) rest)
  unfolding items unless
  step k =
      let s = split tag body rest small in
      let q = unbroken c at tag (headed (length body)) (length body) (suc (length (behind body rest))) body p (fits-room c body rest a (suc (length (behind body rest))) s.room) in
      rw (s.header, s.size, s.inside, s.after, q)

  read_one : (k : ℕ) → length (framed tag body ++ rest) < k
      → (j : ℕ) × (k ≡ suc j) × (length body < j) × (length rest < j)
      × (items k c at (framed tag body ++ rest)
      ≡ by_kind (known c.parent tag) (item tag (at + headed (length body)) body) (items j (within c tag) (at + headed (length body)) body)
      (items j (next c at tag body) (at + headed (length body) + length body) rest))
  unfolding headed
  read_one zero h = absurd (not-suc-le-zero h)
  read_one (suc k) h =
      let room = (split tag body rest small).room in
      let r : suc (length (behind body rest)) < suc k = rw framed-behind at h in
      (k, refl, omega arith, omega arith, rw framed-behind (step k))

  pub reads-element : {t u : Items} → known c.parent tag ≡ some HoldsItems → Reads (within c tag) (at + headed (length body)) body t
      → Reads (next c at tag body) (at + headed (length body) + length body) rest u → Reads c at (framed tag body ++ rest) (item tag (at + headed (length body)) body t u)
  unfolding by_kind is_items joined followed
  reads-element e f g k h =
      let r = read_one k h in
      r.4 ∙ rw (e, f r.0 r.2, g r.0 r.3)

  pub reads-leaf : {u : Items} (k : Kind) → known c.parent tag ≡ some k → is_items (some k) ≡ false
      → Reads (next c at tag body) (at + headed (length body) + length body) rest u → Reads c at (framed tag body ++ rest) (item tag (at + headed (length body)) body end u)
  unfolding followed
  reads-leaf kind e l g k h =
      let r = read_one k h in
      r.4 ∙ rw (e, leaf-kind kind l, g r.0 r.3)

pub reads_end : (c : Context) (at : ℕ) → late [] c.waiting ≡ none → Reads c at [] end
unfolding items unless
reads_end c at q zero h = absurd (not-suc-le-zero h)
reads_end c at q (suc k) h = rw q
