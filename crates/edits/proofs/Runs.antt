-- After any run of edits memory holds the tree that the edits made, as if it had been laid there afresh, and that tree is written in normal form.
use Rattle.std.specs.Prelude.{Result, Ok}
use mathlib.Core.Path.{◌≡◌, refl, sym, ap, ◌∙◌, subst}
use mathlib.Core.Bool.{true}
use mathlib.Core.Option.{some}
use mathlib.Core.List.{List, []}
use Prim.Native.Nat.{ℕ}
use native.Mathlib.Omega.{arith}
use lib.ListN.{take}
use lib.Seq.{sets}
use Rattle.octets.specs.Counts.{size_of}
use Rattle.octets.specs.declared.counts.Octets.{Octets as OctetCount}
use Rattle.octets.specs.Numbers.{Octets}
use Rattle.format.specs.Answers.{edit_outcome}
use Rattle.format.specs.Tree.{Items, count}
use Rattle.format.specs.Judge.{Judged, judge}
use Rattle.format.specs.Judge.Judged.{refused, accepted}
use Rattle.format.specs.Meaning.{means, encode, meaning, meaning_of}
use Rattle.format.specs.Loaded.{loaded_of}
use Rattle.format.specs.Calls.{row, edit_answer, write_answer, write_octets}
use Rattle.format.specs.State.{Memory, body_sizes, lay_tree, tree_held}
use Rattle.format.proofs.Loading.{loaded-means}
use Rattle.format.proofs.Written.{located-bytes}
use Rattle.format.proofs.Rebuilt.{whole-rebuilt}
use Rattle.format.proofs.Calls.{written-means}
use Rattle.format.specs.declared.Refusal.{Refusal}
use Rattle.state.specs.Taking.{taken_in, left, TakeInClaim, WriteStateClaim}
use Rattle.state.proofs.HeldTree.{Fits, held, laid-held}
use Rattle.state.proofs.Taken.{refused-kept, taken-ends, fitting-tree}
use Rattle.edits.specs.Tree.{Edit, is_there}
use Rattle.edits.specs.Calls.{edited, edited_in, EditClaim}
use Rattle.edits.specs.Runs.{BringsOctets, Reached}
use Rattle.edits.specs.Runs.Reached.{taken, changed, stayed}
use Rattle.edits.proofs.Standing.{Standing, held-stands, loaded-stands}
use Rattle.edits.proofs.Changed.{Outcome, edit-outcome}
use Rattle.edits.proofs.Only.{edit-ends, edit-tree}

laid-stands : (m : Memory) (t : Items) → Standing t → Fits m t → tree_held (count t) (lay_tree t m) ≡ some t
laid-stands m t s f = laid-held m t s.packs s.rules s.one f

-- ---- an answer with records is no refusal
no-records : (j : Judged) (n : ℕ) → Ok n ≡ edit_answer j → (t : Items) × (j ≡ accepted t) × (n ≡ count t)
unfolding edit_answer
no-records (refused r) n h = let z : ◌≡◌ {A = ℕ} 0 1 = cc in absurd (omega arith)
no-records (accepted t) n h = (t, refl, ap (λ a. (edit_outcome a).count) h)

-- ---- a tree that is taken in
module _ (object : List ℕ) (os : Octets object) (t : Items) (h : judge object ≡ accepted t) (m m' : Memory) (n : ℕ)
    (most : OctetCount) (c : TakeInClaim object most m m' (Ok n)) where
  pub taken-held : tree_held n m' ≡ some (loaded_of t)
  unfolding left
  taken-held =
      let a = no-records (taken_in most m (judge object)) n c.answers in
      let f = fitting-tree (taken-ends most m t) a.0 (ap (taken_in most m) (sym h) ∙ a.1) in
      let d : m' ≡ lay_tree a.0 m = c.leaves ∙ ap (λ q. left q m) a.1 in
      let l = laid-stands m a.0 (subst Standing f.0 (loaded-stands object t os h)) f.1 in
      ap (tree_held n) d ∙ (ap (λ k. tree_held k (lay_tree a.0 m)) a.2 ∙ (l ∙ ap some (sym f.0)))

-- ---- an edit
module _ (e : Edit) (n n' : ℕ) (m m' : Memory) (t : Items) (os : Octets m.store) (brings : BringsOctets e) (h : tree_held n m ≡ some t)
    (c : EditClaim e n m m' (Ok n')) where
  pub record EditLeaves : Type 0 where
    pub tree : Items
    pub is : edited e t ≡ some tree
    pub there : is_there e t ≡ true
    pub holds : tree_held n' m' ≡ some tree
    pub outcome : Outcome e t tree

  pub edit-leaves : EditLeaves
  unfolding left
  edit-leaves =
      let a = no-records (edited_in m e (tree_held n m)) n' c.answers in
      let f = edit-tree (edit-ends m e t) a.0 (ap (edited_in m e) (sym h) ∙ a.1) in
      let g = held n m t h in
      let o = edit-outcome e t a.0 (located-bytes m.store os t g.whole.located) brings (held-stands n m t g) f.0 f.1 in
      let l = laid-stands m a.0 o.stands f.2 in
      let d : m' ≡ lay_tree a.0 m = c.leaves ∙ ap (λ q. left q m) a.1 in
      record { tree = a.0; is = f.1; there = f.0; holds = ap (tree_held n') d ∙ (ap (λ k. tree_held k (lay_tree a.0 m)) a.2 ∙ l); outcome = o }

-- ---- any run: memory holds the tree, and is what laying that tree leaves
pub reached-held : {n : ℕ} {m : Memory} {t : Items} → Reached n m t → tree_held n m ≡ some t
reached-held (taken o most m m' n t os h c) = taken-held o os t h m m' n most c
reached-held (changed e m m' n n' t u r os b c q) =
    let l = edit-leaves e n n' m m' t os b (reached-held r) c in
    l.holds ∙ (sym l.is ∙ q)
reached-held (stayed e m m' n r t g c) = ap (tree_held n) (refused-kept (edited_in m e (tree_held n m)) m m' r c) ∙ reached-held g

-- all stored sizes are right
pub reached-sizes : {n : ℕ} {m : Memory} {t : Items} → Reached n m t → take n m.bodies ≡ body_sizes 0 t
reached-sizes {n = n} {m = m} {t = t} r = (held n m t (reached-held r)).sizes

-- its normal form is an object that is accepted and means the very tree (demand 2, over the store)
pub reached-means : {n : ℕ} {m : Memory} {t : Items} → Reached n m t → Octets m.store → meaning (encode (means [] t)) ≡ some (means [] t)
reached-means {n = n} {m = m} {t = t} r os =
    let h = held n m t (reached-held r) in
    written-means (row m.lists) n m.store t os (whole-rebuilt (row m.lists) n m.store t h.whole) h.small

-- writing from memory gives that normal form
pub record Written (t : Items) (room room' : List ℕ) (answer : Result OctetCount Refusal) : Type 0 where
  pub answers : answer ≡ write_answer (size_of room) (some t)
  pub leaves : room' ≡ sets room 0 (write_octets (size_of room) (some t))

pub reached-written : {n : ℕ} {m : Memory} {t : Items} → Reached n m t → (room room' : List ℕ) (answer : Result OctetCount Refusal)
    → WriteStateClaim n m room room' answer → Written t room room' answer
reached-written r room room' answer c =
    let e = reached-held r in
    record { answers = c.answers ∙ ap (write_answer (size_of room)) e; leaves = c.leaves ∙ ap (λ o. sets room 0 (write_octets (size_of room) o)) e }

-- two runs to the same content write the same octets, whatever came before: one of them may be an object that is taken in and never edited
pub same-written : {n k : ℕ} {m w : Memory} {t u : Items} → Reached n m t → Reached k w u → means [] t ≡ means [] u
    → (room one two : List ℕ) (a b : Result OctetCount Refusal) → WriteStateClaim n m room one a → WriteStateClaim k w room two b → (a ≡ b) × (one ≡ two)
unfolding write_answer write_octets
same-written {t = t} {u = u} r q e room one two a b c d =
    let x = reached-written r room one a c in
    let y = reached-written q room two b d in
    let f : write_answer (size_of room) (some t) ≡ write_answer (size_of room) (some u) = rw e in
    let g : write_octets (size_of room) (some t) ≡ write_octets (size_of room) (some u) = rw e in
    (x.answers ∙ (f ∙ sym y.answers), x.leaves ∙ (ap (sets room 0) g ∙ sym y.leaves))

-- the content of an object that is taken in is its meaning
pub taken-content : (object : List ℕ) → Octets object → (t : Items) → judge object ≡ accepted t → means [] (loaded_of t) ≡ meaning_of t
taken-content object os t h = loaded-means object t os h
