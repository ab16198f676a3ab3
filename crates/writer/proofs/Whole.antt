-- A tree that well-formed records give: what is measured and written of it, and what a call that writes it answers then.
use Rattle.std.specs.Prelude.{Result, Ok, Err}
use mathlib.Core.Path.{◌≡◌, refl, sym, ap, ◌∙◌, subst}
use mathlib.Core.Bool.{Bool, true, false, cond, ◌&&◌}
use mathlib.Core.Option.{Option, none, some, some-injective, none-ne-some}
use mathlib.Core.List.{List, []}
use Prim.Native.Nat.{ℕ, suc, ◌+◌, ◌≤◌, ◌<◌, min}
use native.Mathlib.Omega.{arith}
use native.Mathlib.Nat.{min-le_left, min-le_right}
use lib.Dec.{eqb, leb, ltb}
use lib.ListN.{length}
use lib.Seq.{sets}
use borrow.Author.Tests.{leb-true, lt-leb, eqb-true, eqb-false, ltb-true, ltb-false}
use Rattle.octets.specs.Counts.{as_octets, size_of}
use Rattle.octets.proofs.Tests.{and_right, chosen, never}
use Rattle.octets.specs.Puts.{Lays}
use Rattle.octets.specs.declared.counts.Octets.{Octets}
use Rattle.format.specs.declared.Record.{Record}
use Rattle.format.specs.Answers.{refusal}
use Rattle.format.specs.Tree.{Items}
use Rattle.format.specs.Meaning.{means, encode}
use Rattle.format.specs.Writer.{Spot, at_top, walk, tree, to_end, rebuilt, ruled}
use Rattle.format.specs.Calls.{Lists, places, row, roomy, tree_given, write_answer, write_octets}
use Rattle.format.proofs.Kept.{good-parts}
use Rattle.format.proofs.Walk.{Walked, walk-walked}
use Rattle.format.proofs.Walk.Walked.{stop, single, nested}
use Rattle.format.proofs.Trees.{whole-tree}
use Rattle.format.specs.State.{body_sizes}
use Rattle.format.proofs.Rebuilt.{Whole, rebuilt-whole, whole-count}
use Rattle.format.specs.declared.Refusal.{Refusal}
use Rattle.writer.specs.declared.emit.Reached.{Reached}
use Rattle.survey.specs.Normal.{normal_size, later_octets}
use Rattle.writer.specs.Steps.{items_from, Holding, Ordered, Fitting, Emits}
use Rattle.survey.proofs.NormalSizes.{size-whole}
use Rattle.state.proofs.HeldTree.{sizes-count}
use Rattle.writer.proofs.Order.{laid-whole}

-- each record that was walked over has its body in the lent octets
walked-body : (row : ℕ → Record) (n : ℕ) (lent : List ℕ) {s : Spot} {p i j : ℕ} → Walked row n lent s p i j → (k : ℕ) → i ≤ k → k < j → (row k).start + (row k).size ≤ length lent
walked-body row n lent (stop e) k a b = absurd (omega arith)
walked-body row n lent (single {s = s} {p = p} {i = i} e g o w) k a b = go (eqb i k) refl (λ z. walked-body row n lent w k z b)
  where
    go : (c : Bool) → eqb i k ≡ c → (suc i ≤ k → (row k).start + (row k).size ≤ length lent) → (row k).start + (row k).size ≤ length lent
    go true q f = subst (λ m. (row m).start + (row m).size ≤ length lent) (eqb-true i k q) (good-parts s p lent (row i) g).inside
    go false q f = let z = eqb-false i k q in f (omega arith)
walked-body row n lent (nested {s = s} {p = p} {i = i} {m = m} e g o v w) k a b =
    go (eqb i k) (ltb k m) refl refl (λ y z. walked-body row n lent v k y z) (λ z. walked-body row n lent w k z b)
  where
    go : (c d : Bool) → eqb i k ≡ c → ltb k m ≡ d → (suc i ≤ k → k < m → (row k).start + (row k).size ≤ length lent) → (m ≤ k → (row k).start + (row k).size ≤ length lent)
        → (row k).start + (row k).size ≤ length lent
    go true d q r f h = subst (λ y. (row y).start + (row y).size ≤ length lent) (eqb-true i k q) (good-parts s p lent (row i) g).inside
    go false true q r f h = let z = eqb-false i k q in f (omega arith) (ltb-true k m r)
    go false false q r f h = h (ltb-false k m r)

-- the walk and the tree of records that are rebuilt
module _ (row : ℕ → Record) (n : ℕ) (lent : List ℕ) (t : Items) (h : rebuilt row n lent ≡ some t) where
  pub rebuilt-reached : (walk (suc n) row n lent at_top 0 0 ≡ some n) × ((tree (suc n) row n lent 1 0).0 ≡ t)
  unfolding rebuilt to_end
  rebuilt-reached = go (walk (suc n) row n lent at_top 0 0) refl h
    where
      found : (j : ℕ) → walk (suc n) row n lent at_top 0 0 ≡ some j → (b : Bool) → ltb 0 n && eqb j n ≡ b → cond b (some (tree (suc n) row n lent 1 0).0) none ≡ some t
          → (walk (suc n) row n lent at_top 0 0 ≡ some n) × ((tree (suc n) row n lent 1 0).0 ≡ t)
      found j e true q g = (e ∙ ap some (eqb-true j n (and_right (ltb 0 n) (eqb j n) q)), some-injective _ t g)
      found j e false q g = absurd (none-ne-some t g)

      go : (o : Option ℕ) → walk (suc n) row n lent at_top 0 0 ≡ o → cond (to_end n o) (some (tree (suc n) row n lent 1 0).0) none ≡ some t
          → (walk (suc n) row n lent at_top 0 0 ≡ some n) × ((tree (suc n) row n lent 1 0).0 ≡ t)
      go none e g = absurd (none-ne-some t g)
      go (some j) e g = found j e (ltb 0 n && eqb j n) refl g

  rebuilt-bodies : (k : ℕ) → k < n → (row k).start + (row k).size ≤ length lent
  rebuilt-bodies k q = walked-body row n lent (walk-walked row n lent (suc n) at_top 0 0 n rebuilt-reached.0) k (omega arith) q

-- the shortest list has places for n records, so each list has
record Placed (n : ℕ) (l : Lists) : Type 0 where
  tags : n ≤ length l.tags
  depths : n ≤ length l.depths
  starts : n ≤ length l.starts
  sizes : n ≤ length l.sizes

placed : (n : ℕ) (l : Lists) → n ≤ places l → Placed n l
unfolding places
placed n l h =
    let five = min (length l.starts) (length l.sizes) in
    let four = min (length l.parents) five in
    let three = min (length l.depths) four in
    let two = min (length l.kinds) three in
    let a = min-le_left (length l.tags) two in
    let b = min-le_right (length l.tags) two in
    let c = min-le_right (length l.kinds) three in
    let d = min-le_left (length l.depths) four in
    let e = min-le_right (length l.depths) four in
    let f = min-le_right (length l.parents) five in
    let g = min-le_left (length l.starts) (length l.sizes) in
    let i = min-le_right (length l.starts) (length l.sizes) in
    record { tags = omega arith; depths = omega arith; starts = omega arith; sizes = omega arith }

-- what a call answers that is to write a tree, and leaves in the room
pub record Gives (o : Option Items) (room after : List ℕ) (answer : Result Octets Refusal) : Type 0 where
  pub answers : answer ≡ write_answer (size_of room) o
  pub leaves : after ≡ sets room 0 (write_octets (size_of room) o)

-- records that were given, with their tree
module _ (n : ℕ) (l : Lists) (lent : List ℕ) (t : Items) (e : tree_given n l lent ≡ some t) where
  pub given_both : (n ≤ places l) × (rebuilt (row l) n lent ≡ some t)
  unfolding tree_given
  given_both = let w = chosen (leb n (places l)) (sym e) (λ z. never (cc)) in (leb-true n (places l) w.0, sym w.1)

  pub tree-holding : Holding n l lent
  tree-holding =
      let p = placed n l given_both.0 in
      record { tags = p.tags; depths = p.depths; starts = p.starts; sizes = p.sizes; bodies = rebuilt-bodies (row l) n lent t given_both.1 }

  pub tree-items : (items_from l n lent 1 0).0 ≡ t
  unfolding items_from
  tree-items =
      sym (ap (λ x. x.0) (whole-tree (row l) n lent 1)) ∙ (rebuilt-reached (row l) n lent t given_both.1).1

  tree-whole : Whole (row l) n lent t
  tree-whole = rebuilt-whole (row l) n lent t given_both.1

  pub tree-rules : ruled at_top t ≡ true
  tree-rules = tree-whole.rules

  -- it has a size for each record
  pub tree-many : length (body_sizes 0 t) ≡ n
  tree-many = sizes-count t at_top 0 tree-rules ∙ sym (whole-count (row l) n lent t tree-whole)

  pub tree-ordered : Ordered 0 (items_from l n lent 1 0).0
  unfolding at_top
  tree-ordered = rw tree-items (record { spot = at_top; element = refl; rules = tree-rules })

  pub tree-size : normal_size 0 (items_from l n lent 1 0).0 ≡ length (encode (means [] t))
  tree-size = rw tree-items (size-whole t tree-rules)

  tree-octets : later_octets 0 (items_from l n lent 1 0).0 ≡ encode (means [] t)
  tree-octets = rw tree-items (laid-whole t tree-rules)

  -- 15: the octets are more than the room or than an object may have
  pub not-roomy : (room : List ℕ) → min (length room) 32_768 < length (encode (means [] t)) → roomy (size_of room) (encode (means [] t)) ≡ false
  unfolding roomy
  not-roomy room h = lt-leb (length (encode (means [] t))) (min (length room) 32_768) h

  pub too_many : (room : List ℕ) → roomy (size_of room) (encode (means [] t)) ≡ false → Gives (some t) room room (Err (refusal 15 0))
  unfolding write_answer write_octets
  too_many room f = record { answers = rw f; leaves = rw f }

  -- all fits, so that all can be written, and the answer is how much
  module _ (room : List ℕ) (fit : roomy (size_of room) (encode (means [] t)) ≡ true) where
    pub tree-fits : Fitting (later_octets 0 (items_from l n lent 1 0).0) 0 (length room)
    unfolding roomy
    tree-fits =
        let k = leb-true (length (encode (means [] t))) (min (length room) 32_768) fit in
        let a = min-le_left (length room) 32_768 in
        let b = min-le_right (length room) 32_768 in
        rw tree-octets (record { in_room = omega (arith, k, a); in_object = omega (arith, k, b) })

    pub tree-written : (after : List ℕ) (r : Reached) → Emits (items_from l n lent 1 0) 0 0 room after r → Gives (some t) room after (Ok (as_octets r.end))
    unfolding write_answer write_octets
    tree-written after r g =
        let laid : Lays (encode (means [] t)) 0 room after r.end = rw tree-octets at g.lays in
        record { answers = rw fit (ap (λ size. Ok (as_octets size)) (laid.ends ∙ omega arith)); leaves = rw fit laid.leaves }
