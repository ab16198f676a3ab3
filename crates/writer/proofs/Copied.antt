-- Items that are written as they stand: what is known of the parts of such items, and that those of a tree that loading leaves as it is are such.
use mathlib.Core.Path.{◌≡◌, refl, sym, ap, ◌∙◌, subst}
use mathlib.Core.Bool.{Bool, true, false, cond, false≢true}
use mathlib.Core.Option.{some, some-injective, none-ne-some}
use mathlib.Core.List.{List, []}
use Prim.Native.Nat.{ℕ, ◌+◌}
use lib.Dec.{eqb}
use lib.ListN.{length}
use borrow.Author.Tests.{eqb-true}
use Rattle.octets.specs.Numbers.{Octets}
use Rattle.octets.specs.Header.{framed}
use Rattle.values.specs.Table.{known}
use Rattle.values.specs.Values.{meant, octets_of}
use Rattle.format.specs.Tree.{Items, find}
use Rattle.format.specs.Tree.Items.{end, item}
use Rattle.format.specs.Judge.{judge, is_value}
use Rattle.format.specs.Judge.Judged.{accepted}
use Rattle.format.specs.Meaning.{opens}
use Rattle.format.specs.Loaded.{stored, store_in, loaded_in, loaded_of}
use Rattle.format.specs.Writer.{Spot, below, past, at_top, keeps, ruled}
use Rattle.format.proofs.Fine.{known_is}
use Rattle.format.proofs.Kept.{Ruled, keeps-parts, keeps-tag, ruled-parts}
use Rattle.format.proofs.Loading.{loaded-ruled}
use Rattle.survey.proofs.Ways.{value-fits, item-known}
use Rattle.state.proofs.Packed.{accepted-packs}
use Rattle.writer.specs.Steps.{Standing, AsLaid}

-- an item and the items after it
module _ (p tag at : ℕ) (body : List ℕ) (inside after : Items) (h : AsLaid p (item tag at body inside after)) where
  pub laid-inside : AsLaid tag inside
  unfolding AsLaid
  laid-inside = h.0

  pub laid-own : opens tag ≡ false → Standing p tag body
  unfolding AsLaid
  laid-own o = h.1 o

  pub laid-after : AsLaid p after
  unfolding AsLaid
  laid-after = h.2

-- an item that is found among them
pub laid-found : (p tag : ℕ) → opens tag ≡ false → (t : Items) (body : List ℕ) → AsLaid p t → find tag t ≡ some body → Standing p tag body
unfolding find
laid-found p tag o end body h f = absurd (none-ne-some body f)
laid-found p tag o (item tag' at body' x y) body h f = go (eqb tag tag') refl f (laid-found p tag o y body (laid-after p tag' at body' x y h))
  where
    go : (b : Bool) → eqb tag tag' ≡ b → cond b (some body') (find tag y) ≡ some body → (find tag y ≡ some body → Standing p tag body) → Standing p tag body
    go false e g ih = ih g
    go true e g ih =
        let same = eqb-true tag tag' e in
        rw (same, ← some-injective body' body g) (laid-own p tag' at body' x y h (ap opens (sym same) ∙ o))

-- a body that loading leaves as it is stands in its normal octets, where its item keeps the rules
held-own : (s : Spot) (tag : ℕ) (body : List ℕ) → keeps s tag body ≡ true → stored [] (known s.parent tag) body ≡ body → Standing s.parent tag body
unfolding stored is_value
held-own s tag body r same d =
    let kept = keeps-parts s tag body r in
    let k = known_is (known s.parent tag) kept.is_one in
    let own : octets_of (meant [] k.0 body) ≡ body = rw k.1 at same in
    item-known s.parent tag body k.0 (keeps-tag s tag body r) d k.1 ∙ ap (framed tag) (value-fits k.0 body (rw k.1 at kept.value) ∙ own)

-- so do all items that loading leaves as they are
pub held-laid : (t : Items) (s : Spot) (at : ℕ) → ruled s t ≡ true → loaded_in [] s.parent at t ≡ t → AsLaid s.parent t
unfolding loaded_in AsLaid below past
held-laid end s at r e = tt
held-laid (item tag from body x u) s at r e =
    go (opens tag) refl (rw four at e) (held-laid x (below s tag)) (held-laid u (past s tag))
  where
    parts : Ruled s tag body x u
    parts = ruled-parts s tag from body x u r

    four : eqb tag 4 ≡ false
    four = keeps-tag s tag body parts.rules

    own : List ℕ
    own = stored [] (known s.parent tag) body

    go : (c : Bool) → opens tag ≡ c
        → cond c (item tag 0 [] (loaded_in [] tag at x) (loaded_in [] s.parent (at + length (store_in [] tag x)) u)) (item tag at own end (loaded_in [] s.parent (at + length own) u)) ≡ item tag from body x u
        → ((b : ℕ) → ruled (below s tag) x ≡ true → loaded_in [] tag b x ≡ x → AsLaid tag x)
        → ((b : ℕ) → ruled (past s tag) u ≡ true → loaded_in [] s.parent b u ≡ u → AsLaid s.parent u) → AsLaid s.parent (item tag from body x u)
    go true o q inside after = (inside at parts.within cc, (λ n. absurd (false≢true (sym n ∙ o))), after (at + length (store_in [] tag x)) parts.beside cc)
    go false o q inside after =
        let none : end ≡ x = cc in
        (subst (AsLaid tag) none tt, (λ n. held-own s tag body parts.rules cc), after (at + length own) parts.beside cc)

-- the loaded tree of an accepted object, which loading leaves as it is
pub accepted-laid : (o : List ℕ) (t : Items) → Octets o → judge o ≡ accepted t → AsLaid 0 (loaded_of t)
unfolding at_top
accepted-laid o t os h = held-laid (loaded_of t) at_top 0 (loaded-ruled o t os h) (accepted-packs o t os h)
