-- Parts that move and are changed where they then lie, and the sizes behind the elements that are raised: one law for each step of a gap that is opened or closed.
use mathlib.Core.Path.{◌≡◌, refl, sym, ap, ◌∙◌, subst}
use mathlib.Core.List.{List, [], ◌∷◌, map}
use Prim.Native.Nat.{ℕ, zero, suc, ◌+◌, ◌-◌, ◌≤◌, ◌<◌}
use native.Mathlib.Nat.{add-sub_cancel_left}
use native.Mathlib.Omega.{arith}
use lib.ListN.{length, take, drop, get_or, set, length-set, length-map}
use lib.Seq.{sets, length-sets, drop-set-lt}
use Rattle.octets.specs.Places.{between}
use Rattle.octets.proofs.Lists.{sets_over, part-of-sets, get_d_part}
use Rattle.format.specs.State.{Memory}
use Rattle.survey.specs.Normal.{framed_size}
use Rattle.edits.specs.declared.moving.Move.{Move}
use Rattle.edits.specs.declared.resite.Gap.{Gap}
use Rattle.edits.specs.Sites.{shifted, shifted_starts}
use Rattle.edits.specs.Sizes.{raised, up_from, Climbs}
use Rattle.edits.specs.Sizes.Climbs.{top, step}
use Rattle.edits.specs.Moves.{Carries, carried, Renumbers, CarriesParents, Movable, Shifts, CarriesStarts}
use Rattle.edits.specs.Resites.{Resites, Resited}
use Rattle.edits.proofs.Parts.{part_length}
use Rattle.edits.proofs.Climbing.{climbs-set, raised-up, raised-top}

-- ---- a part that has moved
module _ (m : Move) (l : List ℕ) (c : Carries m l) where
  abbrev many : ℕ
  many = m.end - m.from

  abbrev last : ℕ
  last = m.to + many

  long : length (between l m.from m.end) ≡ many
  long = part_length m.from m.end l c.order c.inside

  -- it lies there as it was
  carried-part : between (carried m (λ a. a) l) m.to last ≡ between l m.from m.end
  carried-part =
      let k : last - m.to ≡ length (between l m.from m.end) = omega (arith, long) in
      ap (λ j. take j (drop m.to (carried m (λ a. a) l))) k ∙ part-of-sets l m.to (between l m.from m.end) (omega (arith, long, c.room))

  carried-at : (k : ℕ) → k < many → get_or (carried m (λ a. a) l) (m.to + k) 0 ≡ get_or l (m.from + k) 0
  carried-at k h =
      sym (get_d_part (carried m (λ a. a) l) m.to (last - m.to) k 0 (omega arith))
      ∙ (ap (λ z. get_or z k 0) carried-part ∙ get_d_part l m.from many k 0 h)

  -- and what is laid over it there covers it
  carried-over : (new : List ℕ) → length new ≡ many → sets (carried m (λ a. a) l) m.to new ≡ sets l m.to new
  carried-over new e = sets_over l m.to (between l m.from m.end) new (omega (arith, long))

  carried-long : length (carried m (λ a. a) l) ≡ length l
  carried-long = length-sets l m.to (between l m.from m.end)

-- ---- the parents
module _ (m : Move) (parents moved : List ℕ) (c : CarriesParents m parents) (e : moved ≡ carried m (λ a. a) parents) where
  pub renumbers-moved : Renumbers m.to (m.to + (m.end - m.from)) m.from m.to moved
  renumbers-moved = rw e (record {
    order = omega arith;
    inside = omega (arith, c.part.room, carried-long m parents c.part);
    small = λ i h k.
        let j = i - m.to in
        let i-is : m.to + j ≡ i = omega arith in
        subst (λ z. shifted m.from m.to z ≤ 65_535)
        (sym (ap (λ z. get_or (carried m (λ a. a) parents) z 0) (sym i-is) ∙ carried-at m parents c.part j (omega arith)))
        (c.small (m.from + j) (omega arith) (omega (arith, c.part.order)));
  })

  pub parents-carried : (after : List ℕ) → after ≡ sets moved m.to (map (shifted m.from m.to) (between moved m.to (m.to + (m.end - m.from))))
      → after ≡ carried m (map (shifted m.from m.to)) parents
  parents-carried after h =
      let f = map (shifted m.from m.to) in
      let part = between parents m.from m.end in
      h ∙ (ap (λ z. sets z m.to (f (between z m.to (m.to + (m.end - m.from))))) e
      ∙ (ap (λ z. sets (carried m (λ a. a) parents) m.to (f z)) (carried-part m parents c.part)
      ∙ carried-over m parents c.part (f part) (length-map part (shifted m.from m.to) ∙ long m parents c.part)))

-- ---- the starts
starts-length : (was is : ℕ) (ts ss : List ℕ) → length ts ≡ length ss → length (shifted_starts was is ts ss) ≡ length ss
unfolding shifted_starts
starts-length was is [] [] e = refl
starts-length was is [] (s ∷ ss) e = absurd (omega arith)
starts-length was is (t ∷ ts) [] e = absurd (omega arith)
starts-length was is (t ∷ ts) (s ∷ ss) e = ap suc (starts-length was is ts ss (omega arith))

module _ (m : Move) (was is : ℕ) (tags starts moved : List ℕ) (c : CarriesStarts m was is tags starts) (e : moved ≡ carried m (λ a. a) starts) where
  pub shifts-moved : Shifts m.to (m.to + (m.end - m.from)) was is tags moved
  shifts-moved = rw e (record {
    order = omega arith;
    tagged = c.tagged;
    inside = omega (arith, c.part.room, carried-long m starts c.part);
    movable = λ i h k.
        let j = i - m.to in
        let i-is : m.to + j ≡ i = omega arith in
        subst (λ z. Movable was is (get_or tags i 0) z)
        (sym (ap (λ z. get_or (carried m (λ a. a) starts) z 0) (sym i-is) ∙ carried-at m starts c.part j (omega arith)))
        (subst (λ z. Movable was is (get_or tags z 0) (get_or starts (m.from + j) 0)) i-is (c.movable j (omega arith)));
  })

  pub starts-carried : (after : List ℕ)
      → after ≡ sets moved m.to (shifted_starts was is (between tags m.to (m.to + (m.end - m.from))) (between moved m.to (m.to + (m.end - m.from))))
      → after ≡ carried m (shifted_starts was is (between tags m.to (m.to + (m.end - m.from)))) starts
  starts-carried after h =
      let ts = between tags m.to (m.to + (m.end - m.from)) in
      let part = between starts m.from m.end in
      let n₁ : length ts ≡ m.end - m.from = part_length m.to (m.to + (m.end - m.from)) tags (omega arith) c.tagged ∙ add-sub_cancel_left m.to (m.end - m.from) in
      let n₂ = long m starts c.part in
      h ∙ (ap (λ z. sets z m.to (shifted_starts was is ts (between z m.to (m.to + (m.end - m.from))))) e
      ∙ (ap (λ z. sets (carried m (λ a. a) starts) m.to (shifted_starts was is ts z)) (carried-part m starts c.part)
      ∙ carried-over m starts c.part (shifted_starts was is ts part) (starts-length was is ts part (n₁ ∙ sym n₂) ∙ n₂)))

-- ---- the sizes
pub raised-length : (gs : List ℕ) (was is : ℕ) (l : List ℕ) → length (raised gs was is l) ≡ length l
unfolding raised
raised-length [] was is l = refl
raised-length (g ∷ gs) was is l =
    raised-length gs (framed_size (get_or l g 0)) (framed_size (get_or l g 0 - was + is)) (set l g (get_or l g 0 - was + is)) ∙ length-set l g (get_or l g 0 - was + is)

-- behind the innermost nothing is raised. The first number is above its own
raised-drop : (k : ℕ) (parents bodies : List ℕ) (g was is from : ℕ) → g < k → g < from → Climbs parents bodies g was
    → drop from (raised (up_from parents g) was is bodies) ≡ drop from bodies
raised-drop zero ps bs g was is from l h c = absurd (omega arith)
raised-drop (suc k) ps bs g was is from l h (top was' b z) =
    ap (drop from) (raised-top ps was is bs) ∙ drop-set-lt from bs 0 (get_or bs 0 0 - was + is) h
raised-drop (suc k) ps bs g was is from l h (step g' was' s b a z lt c) =
    let grown = get_or bs g 0 - was + is in
    ap (drop from) (raised-up ps bs g was (step g was s b a z lt c) s is)
    ∙ (raised-drop k ps (set bs g grown) (get_or ps g 0) (framed_size (get_or bs g 0)) (framed_size grown) from (omega arith) (omega arith)
    (climbs-set ps bs (get_or ps g 0) (framed_size (get_or bs g 0)) c g grown lt)
    ∙ drop-set-lt from bs g grown h)

pub raised-behind : (parents bodies : List ℕ) (g was is from end : ℕ) → g < from → Climbs parents bodies g was
    → between (raised (up_from parents g) was is bodies) from end ≡ between bodies from end
raised-behind ps bs g was is from end h c = ap (take (end - from)) (raised-drop (suc g) ps bs g was is from (omega arith) h c)

-- ---- all of a gap
module _ (g : Gap) (m : Memory) (r : Resites g m) where
  abbrev around : List ℕ
  around = raised (up_from m.lists.parents g.element) g.was.0 g.is.0 m.bodies

  pub bodies-carry : (raised-bodies : List ℕ) → raised-bodies ≡ raised (up_from m.lists.parents g.element) g.was.0 g.is.0 m.bodies
      → Carries g.records raised-bodies
  bodies-carry raised-bodies e =
      let n : length raised-bodies ≡ length m.bodies = ap length e ∙ raised-length (up_from m.lists.parents g.element) g.was.0 g.is.0 m.bodies in
      record { order = r.bodies.order; inside = omega (arith, r.bodies.inside); room = omega (arith, r.bodies.room) }

  pub starts-carry : (tags : List ℕ) → tags ≡ carried g.records (λ a. a) m.lists.tags
      → CarriesStarts g.records g.octets.from g.octets.to tags m.lists.starts
  starts-carry tags e = rw e (record {
    part = r.starts;
    tagged = omega (arith, r.tags.room, carried-long g.records m.lists.tags r.tags);
    movable = λ k h.
        subst (λ z. Movable g.octets.from g.octets.to z (get_or m.lists.starts (g.records.from + k) 0))
        (sym (carried-at g.records m.lists.tags r.tags k h))
        (r.movable (g.records.from + k) (omega arith) (omega (arith, r.tags.order)));
  })

  module _ (tags kinds depths parents starts sizes raised-bodies bodies store : List ℕ) where
    pub resited : raised-bodies ≡ raised (up_from m.lists.parents g.element) g.was.0 g.is.0 m.bodies
        → store ≡ carried g.octets (λ a. a) m.store
        → tags ≡ carried g.records (λ a. a) m.lists.tags
        → kinds ≡ carried g.records (λ a. a) m.lists.kinds
        → depths ≡ carried g.records (λ a. a) m.lists.depths
        → parents ≡ carried g.records (map (shifted g.records.from g.records.to)) m.lists.parents
        → starts ≡ carried g.records (shifted_starts g.octets.from g.octets.to
        (between tags g.records.to (g.records.to + (g.records.end - g.records.from)))) m.lists.starts
        → sizes ≡ carried g.records (λ a. a) m.lists.sizes
        → bodies ≡ carried g.records (λ a. a) raised-bodies
        → Resited g m (record {
          lists = record { tags = tags; kinds = kinds; depths = depths; parents = parents; starts = starts; sizes = sizes };
          bodies = bodies;
          store = store;
        })
    resited raises st ts ks ds ps ss zs bs = record {
      tags = ts;
      kinds = ks;
      depths = ds;
      parents = ps;
      starts = ss ∙ ap (λ z. carried g.records (shifted_starts g.octets.from g.octets.to z) m.lists.starts)
          (ap (λ z. between z g.records.to (g.records.to + (g.records.end - g.records.from))) ts ∙ carried-part g.records m.lists.tags r.tags);
      sizes = zs;
      bodies = bs ∙ (ap (carried g.records (λ a. a)) raises
          ∙ ap (sets around g.records.to)
          (raised-behind m.lists.parents m.bodies g.element g.was.0 g.is.0 g.records.from g.records.end r.low r.climbs));
      store = st;
    }
