-- The loops that go up from an element to the top.
use mathlib.Core.Path.{◌≡◌, refl, sym, ap, ◌∙◌, subst}
use mathlib.Core.Bool.{false}
use mathlib.Core.List.{List, [], ◌∷◌}
use Prim.Native.Nat.{ℕ, zero, suc, ◌+◌, ◌-◌, ◌≤◌, ◌<◌}
use native.Mathlib.Omega.{arith}
use lib.Dec.{leb}
use lib.ListN.{length, get_or, set, length-set}
use lib.Seq.{get_or-set_other, get_or-set_same}
use borrow.Author.Tests.{lt-leb}
use Rattle.octets.specs.declared.counts.Octets.{Octets as OctetCount}
use Rattle.octets.proofs.Answers.{size-four}
use Rattle.survey.specs.Normal.{framed_size}
use Rattle.edits.specs.Sizes.{raised, around, up_from, Climbs}
use Rattle.edits.specs.Sizes.Climbs.{top, step}
use Rattle.edits.proofs.Around.{up_next}

-- an item is longer than its body, by four octets at most
pub framed-more : (n : ℕ) → n < framed_size n
unfolding framed_size
framed-more n = omega arith

pub framed-short : (n : ℕ) → framed_size n ≤ n + 4
unfolding framed_size
framed-short n = omega (arith, size-four n)

-- ---- what climbing says of the element at hand
pub climbs-body : (parents bodies : List ℕ) (g was : ℕ) → Climbs parents bodies g was → g < length bodies
climbs-body ps bs g was (top was' b h) = b
climbs-body ps bs g was (step g' was' s b a h lt c) = b

pub climbs-was : (parents bodies : List ℕ) (g was : ℕ) → Climbs parents bodies g was → was ≤ get_or bodies g 0
climbs-was ps bs g was (top was' b h) = h
climbs-was ps bs g was (step g' was' s b a h lt c) = h

pub climbs-parent : (parents bodies : List ℕ) (g was : ℕ) → Climbs parents bodies g was → 0 < g → g < length parents
climbs-parent ps bs g was (top was' b h) z = absurd (omega arith)
climbs-parent ps bs g was (step g' was' s b a h lt c) z = a

pub climbs-less : (parents bodies : List ℕ) (g was : ℕ) → Climbs parents bodies g was → 0 < g → get_or parents g 0 < g
climbs-less ps bs g was (top was' b h) z = absurd (omega arith)
climbs-less ps bs g was (step g' was' s b a h lt c) z = lt

pub climbs-up : (parents bodies : List ℕ) (g was : ℕ) → Climbs parents bodies g was → 0 < g → Climbs parents bodies (get_or parents g 0) (framed_size (get_or bodies g 0))
climbs-up ps bs g was (top was' b h) z = absurd (omega arith)
climbs-up ps bs g was (step g' was' s b a h lt c) z = c

-- ---- the size of the top: what raising stores last, where each size is read before any is stored
unfoldable pub outermost : List ℕ → (was is : ℕ) → List ℕ → ℕ → ℕ
outermost [] was is l size = size
outermost (g ∷ gs) was is l size = outermost gs (framed_size (get_or l g 0)) (framed_size (get_or l g 0 - was + is)) l (get_or l g 0 - was + is)

outermost-next : (gs : List ℕ) (g was is : ℕ) (l : List ℕ) (size : ℕ)
    → outermost (g ∷ gs) was is l size ≡ outermost gs (framed_size (get_or l g 0)) (framed_size (get_or l g 0 - was + is)) l (get_or l g 0 - was + is)
unfolding outermost
outermost-next gs g was is l size = refl

outermost-top : (parents : List ℕ) (was is : ℕ) (l : List ℕ) (size : ℕ) → outermost (up_from parents 0) was is l size ≡ get_or l 0 0 - was + is
unfolding outermost around
outermost-top parents was is l size = refl

outermost-up : (parents bodies : List ℕ) (g was : ℕ) → Climbs parents bodies g was → 0 < g → (is size : ℕ)
    → outermost (up_from parents g) was is bodies size
    ≡ outermost (up_from parents (get_or parents g 0)) (framed_size (get_or bodies g 0)) (framed_size (get_or bodies g 0 - was + is)) bodies (get_or bodies g 0 - was + is)
outermost-up ps bs g was c z is size =
    ap (λ gs. outermost gs was is bs size) (up_next ps bs g was c z) ∙ outermost-next (up_from ps (get_or ps g 0)) g was is bs size

-- the outermost is no smaller than what grows in it
outermost-more : {parents bodies : List ℕ} {g old : ℕ} → Climbs parents bodies g old → (new size : ℕ) → get_or bodies g 0 - old + new ≤ outermost (up_from parents g) old new bodies size
outermost-more {parents = ps} {bodies = bs} (top old b h) new size = omega (arith, outermost-top ps old new bs size)
outermost-more {parents = ps} {bodies = bs} (step g old s b a h lt c) new size =
    let grown = get_or bs g 0 - old + new in
    let up = get_or ps g 0 in
    let ih = outermost-more c (framed_size grown) grown in
    omega (arith, outermost-up ps bs g old (step g old s b a h lt c) s new size, framed-more grown, climbs-was ps bs up (framed_size (get_or bs g 0)) c)

-- ---- storing the sizes on the way: what lies above the element at hand is no matter
pub climbs-set : (parents bodies : List ℕ) (g was : ℕ) → Climbs parents bodies g was → (j x : ℕ) → g < j → Climbs parents (set bodies j x) g was
climbs-set ps bs g was (top was' b h) j x l =
    top was' (subst (λ n. 0 < n) (sym (length-set bs j x)) b) (subst (λ n. was' ≤ n) (sym (get_or-set_other bs j 0 x 0 (λ e. omega arith))) h)
climbs-set ps bs g was (step g' was' s b a h lt c) j x l =
    let e : get_or (set bs j x) g' 0 ≡ get_or bs g' 0 = get_or-set_other bs j g' x 0 (λ e. omega arith) in
    step g' was' s (subst (λ n. g' < n) (sym (length-set bs j x)) b) a (subst (λ n. was' ≤ n) (sym e) h) lt
    (subst (λ n. Climbs ps (set bs j x) (get_or ps g' 0) (framed_size n)) (sym e) (climbs-set ps bs (get_or ps g' 0) (framed_size (get_or bs g' 0)) c j x (omega arith)))

outermost-set : {parents bodies : List ℕ} {g was : ℕ} → Climbs parents bodies g was → (j x : ℕ) → g < j → (is size : ℕ)
    → outermost (up_from parents g) was is (set bodies j x) size ≡ outermost (up_from parents g) was is bodies size
outermost-set {parents = ps} {bodies = bs} (top was b h) j x l is size =
    outermost-top ps was is (set bs j x) size ∙ (ap (λ n. n - was + is) (get_or-set_other bs j 0 x 0 (λ e. omega arith)) ∙ sym (outermost-top ps was is bs size))
outermost-set {parents = ps} {bodies = bs} (step g was s b a h lt c) j x l is size =
    let e : get_or (set bs j x) g 0 ≡ get_or bs g 0 = get_or-set_other bs j g x 0 (λ e. omega arith) in
    let now = step g was s b a h lt c in
    outermost-up ps (set bs j x) g was (climbs-set ps bs g was now j x l) s is size
    ∙ (ap (λ n. outermost (up_from ps (get_or ps g 0)) (framed_size n) (framed_size (n - was + is)) (set bs j x) (n - was + is)) e
    ∙ (outermost-set c j x (omega arith) (framed_size (get_or bs g 0 - was + is)) (get_or bs g 0 - was + is) ∙ sym (outermost-up ps bs g was now s is size)))

pub raised-up : (parents bodies : List ℕ) (g was : ℕ) → Climbs parents bodies g was → 0 < g → (is : ℕ)
    → raised (up_from parents g) was is bodies
    ≡ raised (up_from parents (get_or parents g 0)) (framed_size (get_or bodies g 0)) (framed_size (get_or bodies g 0 - was + is)) (set bodies g (get_or bodies g 0 - was + is))
unfolding raised
raised-up ps bs g was c z is = ap (λ gs. raised gs was is bs) (up_next ps bs g was c z)

pub raised-top : (parents : List ℕ) (was is : ℕ) (l : List ℕ) → raised (up_from parents 0) was is l ≡ set l 0 (get_or l 0 0 - was + is)
unfolding raised around
raised-top parents was is l = refl

-- what is stored for the top is the outermost size. The first number is above that of the element
raised-outer : (k : ℕ) (parents bodies : List ℕ) (g was : ℕ) → g < k → Climbs parents bodies g was → (is size : ℕ)
    → get_or (raised (up_from parents g) was is bodies) 0 0 ≡ outermost (up_from parents g) was is bodies size
raised-outer zero ps bs g was l c is size = absurd (omega arith)
raised-outer (suc k) ps bs g was l (top was' b h) is size =
    ap (λ z. get_or z 0 0) (raised-top ps was is bs) ∙ (get_or-set_same bs 0 (get_or bs 0 0 - was + is) 0 b ∙ sym (outermost-top ps was is bs size))
raised-outer (suc k) ps bs g was l (step g' was' s b a h lt c) is size =
    let now : Climbs ps bs g was = step g was s b a h lt c in
    let grown = get_or bs g 0 - was + is in
    ap (λ z. get_or z 0 0) (raised-up ps bs g was now s is)
    ∙ (raised-outer k ps (set bs g grown) (get_or ps g 0) (framed_size (get_or bs g 0)) (omega arith) (climbs-set ps bs (get_or ps g 0) (framed_size (get_or bs g 0)) c g grown lt) (framed_size grown) grown
    ∙ (outermost-set c g grown lt (framed_size grown) grown ∙ sym (outermost-up ps bs g was now s is size)))

raised-outermost : (parents bodies : List ℕ) (g was : ℕ) → Climbs parents bodies g was → (is size : ℕ)
    → get_or (raised (up_from parents g) was is bodies) 0 0 ≡ outermost (up_from parents g) was is bodies size
raised-outermost ps bs g was c is size = raised-outer (suc g) ps bs g was (omega arith) c is size

-- ---- measuring: what the top would have of the element at hand is what it would have of the first
pub record Tops (parents bodies : List ℕ) (element was is g old new : ℕ) : Type 0 where
  pub climbs : Climbs parents bodies g old
  pub small : new < 65_536
  pub size : ℕ
  pub whole : get_or (raised (up_from parents element) was is bodies) 0 0 ≡ outermost (up_from parents g) old new bodies size

pub tops_start : (parents bodies : List ℕ) (element was is : ℕ) → Climbs parents bodies element was → is < 65_536 → Tops parents bodies element was is element was is
tops_start ps bs e was is c h = record { climbs = c; small = h; size = 0; whole = raised-outermost ps bs e was c is 0 }

module _ (parents bodies : List ℕ) (element was is g old new : ℕ) (m : Tops parents bodies element was is g old new) where
  abbrev all : ℕ
  all = get_or (raised (up_from parents element) was is bodies) 0 0

  pub tops-body : g < length bodies
  tops-body = climbs-body parents bodies g old m.climbs

  pub tops-parent : 0 < g → g < length parents
  tops-parent z = climbs-parent parents bodies g old m.climbs z

  pub tops-less : 0 < g → get_or parents g 0 < g
  tops-less z = climbs-less parents bodies g old m.climbs z

  pub tops-asks : (old ≤ get_or bodies g 0) × (new < 65_536)
  tops-asks = (climbs-was parents bodies g old m.climbs, m.small)

  -- too much at some element is too much for the top
  pub tops-over : (grown : ℕ) → grown ≡ get_or bodies g 0 - old + new → 32_768 < grown
      → false ≡ leb (framed_size (get_or (raised (up_from parents element) was is bodies) 0 0)) 32_768
  tops-over grown q h =
      let a : get_or bodies g 0 - old + new ≤ all = subst (λ z. get_or bodies g 0 - old + new ≤ z) (sym m.whole) (outermost-more m.climbs new m.size) in
      sym (lt-leb (framed_size all) 32_768 (omega (arith, framed-more all)))

  pub tops_next : 0 < g → (grown new' old' : ℕ) → grown ≡ get_or bodies g 0 - old + new → grown ≤ 32_768 → old' ≡ framed_size (get_or bodies g 0) → new' ≡ framed_size grown
      → Tops parents bodies element was is (get_or parents g 0) old' new'
  tops_next z grown new' old' q h o n =
      let r : new' ≡ framed_size (get_or bodies g 0 - old + new) = n ∙ ap framed_size q in
      record {
        climbs = rw o (climbs-up parents bodies g old m.climbs z);
        small = omega (arith, framed-short grown);
        size = get_or bodies g 0 - old + new;
        whole = m.whole ∙ (outermost-up parents bodies g old m.climbs z new m.size ∙ rw (o, r));
      }

  module _ (z : g ≤ 0) where
    at_top : g ≡ 0
    at_top = omega arith

    pub tops_first : 0 < length bodies
    tops_first = omega (arith, climbs-body parents bodies g old m.climbs)

    pub tops-asks-top : (old ≤ get_or bodies 0 0) × (new < 65_536)
    tops-asks-top = subst (λ k. (old ≤ get_or bodies k 0) × (new < 65_536)) at_top tops-asks

    pub tops-over-top : (grown : ℕ) → grown ≡ get_or bodies 0 0 - old + new → 32_768 < grown
        → false ≡ leb (framed_size (get_or (raised (up_from parents element) was is bodies) 0 0)) 32_768
    tops-over-top grown q h = tops-over grown (q ∙ ap (λ k. get_or bodies k 0 - old + new) (sym at_top)) h

    pub tops-end : (grown : ℕ) → grown ≡ get_or bodies 0 0 - old + new → (framed : OctetCount) → framed.0 ≡ framed_size grown
        → leb framed.0 32_768 ≡ leb (framed_size (get_or (raised (up_from parents element) was is bodies) 0 0)) 32_768
    tops-end grown q framed e =
        let w : all ≡ get_or bodies 0 0 - old + new =
        m.whole ∙ (ap (λ k. outermost (up_from parents k) old new bodies m.size) at_top ∙ outermost-top parents old new bodies m.size) in
        ap (λ k. leb k 32_768) (e ∙ ap framed_size (q ∙ sym w))

-- ---- storing: what raising from the element at hand on leaves is what it was to leave from the first on
pub record Raises (parents before : List ℕ) (element was is : ℕ) (bodies : List ℕ) (g old new : ℕ) : Type 0 where
  pub climbs : Climbs parents bodies g old
  pub small : new < 65_536
  pub size : ℕ
  pub fits : outermost (up_from parents g) old new bodies size ≤ 32_768
  pub long : length bodies ≡ length before
  pub whole : raised (up_from parents element) was is before ≡ raised (up_from parents g) old new bodies

pub raises-start : (parents bodies : List ℕ) (element was is : ℕ) → Climbs parents bodies element was → is < 65_536
    → get_or (raised (up_from parents element) was is bodies) 0 0 ≤ 32_768 → Raises parents bodies element was is bodies element was is
raises-start ps bs e was is c h f =
    record { climbs = c; small = h; size = 0; fits = subst (λ k. k ≤ 32_768) (raised-outermost ps bs e was c is 0) f; long = refl; whole = refl }

module _ (parents before : List ℕ) (element was is : ℕ) (bodies : List ℕ) (g old new : ℕ) (m : Raises parents before element was is bodies g old new) where
  pub raises-body : g < length bodies
  raises-body = climbs-body parents bodies g old m.climbs

  pub raises-parent : 0 < g → g < length parents
  raises-parent z = climbs-parent parents bodies g old m.climbs z

  pub raises-less : 0 < g → get_or parents g 0 < g
  raises-less z = climbs-less parents bodies g old m.climbs z

  pub raises-asks : (old ≤ get_or bodies g 0) × (new < 65_536)
  raises-asks = (climbs-was parents bodies g old m.climbs, m.small)

  pub raises-small : (grown : ℕ) → grown ≡ get_or bodies g 0 - old + new → grown ≤ 32_768
  raises-small grown q = omega (arith, m.fits, outermost-more m.climbs new m.size)

  pub raises-next : 0 < g → (grown new' old' : ℕ) → grown ≡ get_or bodies g 0 - old + new → old' ≡ framed_size (get_or bodies g 0) → new' ≡ framed_size grown
      → Raises parents before element was is (set bodies g grown) (get_or parents g 0) old' new'
  raises-next z grown new' old' q o n =
      let r : new' ≡ framed_size (get_or bodies g 0 - old + new) = n ∙ ap framed_size q in
      let next = climbs-up parents bodies g old m.climbs z in
      let lt = climbs-less parents bodies g old m.climbs z in
      record {
        climbs = rw o (climbs-set parents bodies (get_or parents g 0) (framed_size (get_or bodies g 0)) next g grown lt);
        small = omega (arith, framed-short grown, raises-small grown q);
        size = get_or bodies g 0 - old + new;
        fits = subst (λ k. k ≤ 32_768)
            (outermost-up parents bodies g old m.climbs z new m.size
            ∙ (sym (outermost-set next g grown lt (framed_size (get_or bodies g 0 - old + new)) (get_or bodies g 0 - old + new)) ∙ rw (o, r)))
            m.fits;
        long = length-set bodies g grown ∙ m.long;
        whole = m.whole ∙ (raised-up parents bodies g old m.climbs z new ∙ rw (o, r, q));
      }

  module _ (z : g ≤ 0) where
    first-is : g ≡ 0
    first-is = omega arith

    pub raises-first : 0 < length bodies
    raises-first = omega (arith, raises-body)

    pub raises-asks-top : (old ≤ get_or bodies 0 0) × (new < 65_536)
    raises-asks-top = subst (λ k. (old ≤ get_or bodies k 0) × (new < 65_536)) first-is raises-asks

    pub raises-small-top : (grown : ℕ) → grown ≡ get_or bodies 0 0 - old + new → grown ≤ 32_768
    raises-small-top grown q = raises-small grown (q ∙ ap (λ k. get_or bodies k 0 - old + new) (sym first-is))

    pub raises-end : (grown : ℕ) → grown ≡ get_or bodies 0 0 - old + new → set bodies 0 grown ≡ raised (up_from parents element) was is before
    raises-end grown q =
        ap (set bodies 0) q ∙ (sym (raised-top parents old new bodies) ∙ (ap (λ k. raised (up_from parents k) old new bodies) (sym first-is) ∙ sym m.whole))

  pub raises-length : (x : ℕ) → length (set bodies 0 x) ≡ length before
  raises-length x = length-set bodies 0 x ∙ m.long
