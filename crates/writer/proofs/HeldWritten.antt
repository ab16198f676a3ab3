-- The ways through write_state: of a tree that memory holds, the size of its top tells how long its normal form is, and its records are written as they stand.
use Rattle.std.specs.Prelude.{Some, None, Result, Ok, Err, Option as Optional}
use mathlib.Core.Path.{◌≡◌, refl, sym, ap, ◌∙◌, subst}
use mathlib.Core.Bool.{true}
use mathlib.Core.Option.{Option, none, some}
use mathlib.Core.List.{List, [], ◌++◌}
use Prim.Native.Nat.{ℕ, ◌+◌, ◌≤◌, ◌<◌, min}
use native.Mathlib.Omega.{arith}
use native.Mathlib.Nat.{le-min, min-le_left}
use lib.ListN.{length, take, drop, get_or, take-append-drop}
use lib.Seq.{sets}
use borrow.Author.Tests.{le-leb}
use Rattle.octets.specs.declared.counts.Octets.{Octets as OctetCount}
use Rattle.octets.specs.Counts.{as_octets, size_of}
use Rattle.octets.proofs.Tests.{never}
use Rattle.format.specs.Answers.{refusal}
use Rattle.format.specs.Tree.{Items, count}
use Rattle.format.specs.Tree.Items.{end, item}
use Rattle.format.specs.Judge.{is_items}
use Rattle.format.specs.Meaning.{opens, means, encode}
use Rattle.format.specs.Writer.{past, at_top, ruled}
use Rattle.format.specs.Calls.{row, roomy, write_answer, write_octets}
use Rattle.format.specs.State.{Memory, body_sizes, tree_held}
use Rattle.format.proofs.Kept.{Ruled, ruled-parts, keeps-parts}
use Rattle.format.proofs.Fine.{placed-parts}
use Rattle.format.proofs.Force.{top-known}
use Rattle.format.proofs.Means.{items-opens}
use Rattle.format.proofs.Order.{ruled-order, three-end}
use Rattle.format.proofs.Rebuilt.{whole-count}
use Rattle.format.specs.declared.Refusal.{Refusal}
use Rattle.survey.specs.Normal.{framed_size, normal_size, later_octets}
use Rattle.survey.proofs.NormalSizes.{size-whole}
use Rattle.state.specs.Order.{held_as}
use Rattle.state.specs.Taking.{WriteStateClaim}
use Rattle.state.proofs.BodySizes.{body_size, open-counts, size-item}
use Rattle.state.proofs.HeldTree.{Held, held}
use Rattle.writer.specs.declared.emit.Reached.{Reached}
use Rattle.writer.specs.Steps.{items_from, Holding, Ordered, Fitting, AsLaid, SizesStand, Emits}
use Rattle.writer.proofs.Copied.{held-laid}
use Rattle.writer.proofs.Whole.{Gives, not-roomy, too_many, tree-holding, tree-items, tree-ordered, tree-fits, tree-written}
use Rattle.writer.proofs.StandingSizes.{sizes-stand}

-- ---- the top's size
top-opens : (tag : ℕ) (body : List ℕ) (x y : Items) → Ruled at_top tag body x y → opens tag ≡ true
unfolding at_top is_items
top-opens tag body x y u =
    let k = top-known tag (placed-parts at_top tag (keeps-parts at_top tag body u.rules).place).allow in
    sym (items-opens 0 tag) ∙ rw k

top-size : (t : Items) → ruled at_top t ≡ true → 0 < count t → (bodies : List ℕ) (n : ℕ) → take n bodies ≡ body_sizes 0 t
    → framed_size (get_or bodies 0 0) ≡ length (encode (means [] t))
unfolding count body_sizes normal_size at_top past
top-size end h c bodies n e = absurd (omega arith)
top-size (item tag at body x y) h c bodies n e =
    let u = ruled-parts at_top tag at body x y h in
    let w : end ≡ y = three-end y (past at_top tag) refl (ruled-order y (past at_top tag) u.beside) in
    let first : get_or bodies 0 0 ≡ body_size 0 tag body x = ap (λ l. get_or l 0 0) (sym (take-append-drop n bodies) ∙ ap (λ l. l ++ drop n bodies) e) in
    let whole = size-item at_top tag at body x y u in
    let counts = open-counts 0 tag body (top-opens tag body x y u) in
    let none : normal_size 0 y ≡ 0 = ap (normal_size 0) (sym w) in
    let own : normal_size 0 (item tag at body x y) ≡ framed_size (body_size 0 tag body x) + normal_size 0 y = rw counts at whole in
    ap framed_size first ∙ (omega (arith, own, none) ∙ size-whole (item tag at body x y) h)

-- memory that can be written into a room as it stands
pub record Ready (n : ℕ) (m : Memory) (room : List ℕ) : Type 0 where
  pub holding : Holding n m.lists m.store
  pub ordered : Ordered 0 (items_from m.lists n m.store 1 0).0
  pub laid : AsLaid 0 (items_from m.lists n m.store 1 0).0
  pub sizes : SizesStand n m.lists m.store m.bodies
  pub fits : Fitting (later_octets 0 (items_from m.lists n m.store 1 0).0) 0 (length room)

pub ready-as : {n : ℕ} {room : List ℕ} {m k : Memory} → k ≡ m → Ready n m room → Ready n k room
ready-as {n = n} {room = room} e r = subst (λ x. Ready n x room) (sym e) r

pub emits-as : (n : ℕ) {m k : Memory} (room after : List ℕ) (s : Reached) → k ≡ m → Emits (items_from k.lists n k.store 1 0) 0 0 room after s
    → Emits (items_from m.lists n m.store 1 0) 0 0 room after s
emits-as n room after s e g = subst (λ x. Emits (items_from x.lists n x.store 1 0) 0 0 room after s) e g

-- ---- what write_state is told by `held`
told_none : (o : Option Items) → None ≡ held_as o → o ≡ none
unfolding held_as
told_none none e = refl
told_none (some t) e = never cc

told-some : (o : Option Items) (used : ℕ) → Some used ≡ held_as o → (t : Items) × (o ≡ some t)
unfolding held_as
told-some none used e = never cc
told-some (some t) used e = (t, refl)

module _ (n : ℕ) (m : Memory) (r : Optional ℕ) (e : r ≡ held_as (tree_held n m)) where
  pub state-none : r ≡ None → (room : List ℕ) (a : Result OctetCount Refusal) → a ≡ Err (refusal 16 0) → WriteStateClaim n m room room a
  unfolding write_answer write_octets
  state-none q room a ae = let z = told_none (tree_held n m) (sym q ∙ e) in record { answers = rw z ae; leaves = rw z refl }

  module _ (used : ℕ) (q : r ≡ Some used) where
    pub tree : (t : Items) × (tree_held n m ≡ some t)
    tree = told-some (tree_held n m) used (sym q ∙ e)

    abbrev t : Items
    t = tree.0

    is : Held n m t
    is = held n m t tree.1

    -- what is claimed of a tree is claimed of the memory that holds it
    as-held : (room after : List ℕ) (a : Result OctetCount Refusal) → Gives (some t) room after a → WriteStateClaim n m room after a
    as-held room after a g =
        let e = sym tree.1 in
        record { answers = g.answers ∙ ap (write_answer (size_of room)) e; leaves = g.leaves ∙ ap (λ o. sets room 0 (write_octets (size_of room) o)) e }

    pub size_is : framed_size (get_or m.bodies 0 0) ≡ length (encode (means [] t))
    size_is = let w = is.whole in top-size t w.rules (omega (arith, w.some, whole-count (row m.lists) n m.store t w)) m.bodies n is.sizes

    pub has_first : 0 < length m.bodies
    has_first = omega (arith, is.whole.some, is.fewer)

    pub state-more : (room : List ℕ) → length room < framed_size (get_or m.bodies 0 0) → (a : Result OctetCount Refusal) → a ≡ Err (refusal 15 0) → WriteStateClaim n m room room a
    state-more room h a ae =
        let f = not-roomy n m.lists m.store t is.given room (omega (arith, size_is, min-le_left (length room) 32_768)) in
        rw ae (as-held room room (Err (refusal 15 0)) (too_many n m.lists m.store t is.given room f))

    module _ (room : List ℕ) (h : framed_size (get_or m.bodies 0 0) ≤ length room) where
      fit : roomy (size_of room) (encode (means [] t)) ≡ true
      unfolding roomy
      fit = le-leb (length (encode (means [] t))) (min (length room) 32_768) (le-min (omega (arith, size_is)) is.small)

      pub state-ready : Ready n m room
      unfolding at_top
      state-ready = record {
        holding = tree-holding n m.lists m.store t is.given;
        ordered = tree-ordered n m.lists m.store t is.given;
        laid = subst (AsLaid 0) (sym (tree-items n m.lists m.store t is.given)) (held-laid t at_top 0 is.whole.rules is.packs);
        sizes = sizes-stand n m.lists m.store t is.given m.bodies is.fewer is.sizes;
        fits = tree-fits n m.lists m.store t is.given room fit;
      }

      pub state-written : (after : List ℕ) (s : Reached) → Emits (items_from m.lists n m.store 1 0) 0 0 room after s
          → WriteStateClaim n m room after (Ok (as_octets s.end))
      state-written after s g = as-held room after (Ok (as_octets s.end)) (tree-written n m.lists m.store t is.given room fit after s g)
