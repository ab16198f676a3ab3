-- The packer's choice of words: its tallies count all uses and come by first use, ranking them is a stable sort, and the first sixteen are taken.
use mathlib.Core.Path.{◌≡◌, refl, sym, ap, ◌∙◌, subst}
use mathlib.Core.Bool.{Bool, true, false, cond, ◌||◌, false≢true, or-true}
use mathlib.Core.Logic.{inl, inr}
use mathlib.Core.List.{List, [], ◌∷◌, ◌++◌, map, append_assoc}
use Prim.Native.Nat.{ℕ, zero, suc, ◌+◌, ◌≤◌, ◌<◌}
use native.Mathlib.Omega.{arith}
use native.Mathlib.Nat.{zero-add}
use lib.Dec.{eqb, leb}
use lib.ListN.{length, take, length-append}
use borrow.Author.Tests.{leb-true, leb-false, eqb-true, eqb-false}
use Rattle.octets.proofs.Tests.{or_elim, or_left, or_right_false}
use Rattle.format.specs.Same.{same_octets}
use Rattle.format.proofs.Same.{same-octets, octets-same}
use Rattle.fold.specs.Words.{uses, is_among, Tally, tallied, saved_by, saved, insert, ranked, chosen}
use Rattle.demands.specs.Choice.{gain, first_use, Before, BeforeAll, AllBefore, InRank, Choice, ChosenWords, OneChoice}

or-false-left : (a b : Bool) → a || b ≡ false → a ≡ false
or-false-left true b h = absurd (false≢true (sym h))
or-false-left false b h = refl

or_right : (a b : Bool) → b ≡ true → a || b ≡ true
or_right a b h = rw h (or-true a)

or_swap : (a b : Bool) → a || b ≡ b || a
or_swap true b = sym (or-true b)
or_swap false true = refl
or_swap false false = refl

abbrev words : List Tally → List (List ℕ)
words us = map (λ u. u.0) us

-- ---- uses and first use in two lists
uses-append : (w : List ℕ) (a b : List (List ℕ)) → uses w (a ++ b) ≡ uses w a + uses w b
unfolding uses
uses-append w [] b = omega arith
uses-append w (v ∷ a) b = omega (arith, uses-append w a b)

uses-none : (w : List ℕ) (a : List (List ℕ)) → is_among w a ≡ false → uses w a ≡ 0
unfolding uses is_among
uses-none w [] h = refl
uses-none w (v ∷ a) h =
    rw (or-false-left (same_octets w v) (is_among w a) h) (omega (arith, uses-none w a (or_right_false (same_octets w v) (is_among w a) h)))

first-append : (w : List ℕ) (a b : List (List ℕ)) → is_among w a ≡ false → first_use w (a ++ b) ≡ length a + first_use w b
unfolding first_use is_among
first-append w [] b h = omega arith
first-append w (v ∷ a) b h =
    rw (or-false-left (same_octets w v) (is_among w a) h) (omega (arith, first-append w a b (or_right_false (same_octets w v) (is_among w a) h)))

first-here : (w : List ℕ) (b : List (List ℕ)) → first_use w (w ∷ b) ≡ 0
unfolding first_use
first-here w b = rw (octets-same w)

among-append : (w : List ℕ) (a b : List (List ℕ)) → is_among w (a ++ b) ≡ is_among w a || is_among w b
unfolding is_among
among-append w [] b = refl
among-append w (v ∷ a) b = go (same_octets w v) (among-append w a b)
  where
    go : (c : Bool) → is_among w (a ++ b) ≡ is_among w a || is_among w b → c || is_among w (a ++ b) ≡ (c || is_among w a) || is_among w b
    go true e = refl
    go false e = e

among-here : (w : List ℕ) (b : List (List ℕ)) → is_among w (w ∷ b) ≡ true
unfolding is_among
among-here w b = rw (octets-same w)

module _ (ws : List (List ℕ)) where
  -- ---- tallies of all uses
  abbrev Good : Tally → Type 0
  Good u = (u.1 ≡ uses u.0 ws) × (is_among u.0 ws ≡ true)

  abbrev AllGood : List Tally → Type 0
  AllGood [] = Unit {0}
  AllGood (u ∷ us) = Good u × AllGood us

  -- by first use, none before a number
  abbrev Rising : ℕ → List Tally → Type 0
  Rising n [] = Unit {0}
  Rising n (u ∷ us) = (n ≤ first_use u.0 ws) × Rising (suc (first_use u.0 ws)) us

  rising-less : (n k : ℕ) (us : List Tally) → n ≤ k → Rising k us → Rising n us
  rising-less n k [] l r = tt
  rising-less n k (u ∷ us) l r = (omega (arith, r.0), r.1)

  gain-saved : (u : Tally) → Good u → saved u ≡ gain ws u.0
  gain-saved u g = ap (λ n. saved_by n (length u.0)) g.0

  record Tallied (pre seen rest : List (List ℕ)) (us : List Tally) : Type 0 where
    good : AllGood us
    rising : Rising (length pre) us
    covers : (x : List ℕ) → is_among x rest ≡ true → is_among x seen ≡ false → is_among x (words us) ≡ true

  tallies : (pre seen rest : List (List ℕ)) → ws ≡ pre ++ rest → ((x : List ℕ) → is_among x seen ≡ is_among x pre) → Tallied pre seen rest (tallied seen rest)
  unfolding tallied is_among
  tallies pre seen [] e k = record { good = tt; rising = tt; covers = λ x h q. absurd (false≢true h) }
  tallies pre seen (w ∷ rest) e k = go (is_among w seen) refl (tallies (pre ++ (w ∷ [])) (w ∷ seen) rest (e ∙ sym (append_assoc pre (w ∷ []) rest)) seen_more)
    where
      seen_more : (x : List ℕ) → is_among x (w ∷ seen) ≡ is_among x (pre ++ (w ∷ []))
      seen_more x =
          ap (λ b. same_octets x w || b) (k x) ∙ (or_swap (same_octets x w) (is_among x pre) ∙ (ap (λ b. is_among x pre || b) (or_swap false (same_octets x w)) ∙ sym (among-append x pre (w ∷ []))))

      longer : length (pre ++ (w ∷ [])) ≡ suc (length pre)
      longer = omega (arith, length-append pre (w ∷ []))

      here : is_among w seen ≡ false → Good (w, uses w (w ∷ rest)) × (first_use w ws ≡ length pre)
      here q =
          let p : is_among w pre ≡ false = sym (k w) ∙ q in (
            (
              sym (ap (uses w) e ∙ (uses-append w pre (w ∷ rest) ∙ ap (λ n. n + uses w (w ∷ rest)) (uses-none w pre p) ∙ zero-add (uses w (w ∷ rest)))),
              ap (is_among w) e ∙ (among-append w pre (w ∷ rest) ∙ or_right (is_among w pre) (is_among w (w ∷ rest)) (among-here w rest)),
            ),
            ap (first_use w) e ∙ (first-append w pre (w ∷ rest) p ∙ omega (arith, first-here w rest)),
          )

      go : (b : Bool) → is_among w seen ≡ b → Tallied (pre ++ (w ∷ [])) (w ∷ seen) rest (tallied (w ∷ seen) rest)
          → Tallied pre seen (w ∷ rest) (cond b [] ((w, uses w (w ∷ rest)) ∷ []) ++ tallied (w ∷ seen) rest)
      go true q ih = record {
        good = ih.good;
        rising = rising-less (length pre) (length (pre ++ (w ∷ []))) (tallied (w ∷ seen) rest) (omega (arith, longer)) ih.rising;
        covers = λ x h z. old x h z (same_octets x w) refl;
      }
        where
          old : (x : List ℕ) → is_among x (w ∷ rest) ≡ true → is_among x seen ≡ false → (b : Bool) → same_octets x w ≡ b → is_among x (words (tallied (w ∷ seen) rest)) ≡ true
          old x h z true f = absurd (false≢true (sym z ∙ (ap (λ y. is_among y seen) (same-octets x w f) ∙ q)))
          old x h z false f = ih.covers x (rw f at h) (rw (f, z))
      go false q ih = let g = here q in record {
        good = (g.0, ih.good);
        rising = (omega (arith, g.1), rising-less (suc (first_use w ws)) (length (pre ++ (w ∷ []))) (tallied (w ∷ seen) rest) (omega (arith, g.1, longer)) ih.rising);
        covers = λ x h z. new x h z (same_octets x w) refl;
      }
        where
          new : (x : List ℕ) → is_among x (w ∷ rest) ≡ true → is_among x seen ≡ false → (b : Bool) → same_octets x w ≡ b → is_among x (w ∷ words (tallied (w ∷ seen) rest)) ≡ true
          new x h z true f = rw f
          new x h z false f = rw f (ih.covers x (rw f at h) (rw (f, z)))

  -- ---- ranking
  abbrev Under : ℕ → List Tally → Type 0
  Under n [] = Unit {0}
  Under n (u ∷ us) = (first_use u.0 ws < n) × Under n us

  under_more : (n k : ℕ) (us : List Tally) → n ≤ k → Under n us → Under k us
  under_more n k [] l h = tt
  under_more n k (u ∷ us) l h = (omega (arith, h.0), under_more n k us l h.1)

  abbrev Saves : List Tally → Type 0
  Saves [] = Unit {0}
  Saves (u ∷ us) = (0 < gain ws u.0) × Saves us

  before-all : (u : List ℕ) (v : List ℕ) (vs : List (List ℕ)) → gain ws v < gain ws u → BeforeAll ws v vs → BeforeAll ws u vs
  before-all u v [] l h = tt
  before-all u v (x ∷ vs) l h = (one h.0, before-all u v vs l h.1)
    where
      one : Before ws v x → Before ws u x
      one (inl q) = inl (omega arith)
      one (inr q) = inl (omega (arith, q.0))

  -- a word that goes before another is another
  before-other : (u v : List ℕ) → Before ws u v → same_octets u v ≡ false
  before-other u v b = go (same_octets u v) refl
    where
      no : u ≡ v → Before ws u v → ⊥
      no e (inl q) = omega (arith, q, ap (gain ws) e)
      no e (inr q) = omega (arith, q.1, ap (λ x. first_use x ws) e)

      go : (c : Bool) → same_octets u v ≡ c → c ≡ false
      go true e = absurd (no (same-octets u v e) b)
      go false e = refl

  none-again : (u : List ℕ) (vs : List (List ℕ)) → BeforeAll ws u vs → is_among u vs ≡ false
  unfolding is_among
  none-again u [] h = refl
  none-again u (v ∷ vs) h = rw (before-other u v h.0) (none-again u vs h.1)

  ranks : (u : List ℕ) (vs : List (List ℕ)) → BeforeAll ws u vs → InRank ws vs → InRank ws (u ∷ vs)
  ranks u vs a r = (a, none-again u vs a, r)

  all_insert : (x : List ℕ) (u : Tally) (vs : List Tally) → Before ws x u.0 → BeforeAll ws x (words vs) → BeforeAll ws x (words (insert saved u vs))
  unfolding insert
  all_insert x u [] b h = (b, tt)
  all_insert x u (v ∷ vs) b h = go (leb (saved u) (saved v)) (all_insert x u vs b h.1)
    where
      go : (c : Bool) → BeforeAll ws x (words (insert saved u vs)) → BeforeAll ws x (words (cond c (v ∷ insert saved u vs) (u ∷ v ∷ vs)))
      go true ih = (h.0, ih)
      go false ih = (b, h)

  insert-ranks : (u : Tally) (vs : List Tally) → Good u → AllGood vs → Under (first_use u.0 ws) vs → InRank ws (words vs) → InRank ws (words (insert saved u vs))
  unfolding insert
  insert-ranks u [] g gs l r = ranks u.0 [] tt tt
  insert-ranks u (v ∷ vs) g gs l r = go (leb (saved u) (saved v)) refl (insert-ranks u vs g gs.1 l.1 r.2)
    where
      p : saved u ≡ gain ws u.0
      p = gain-saved u g

      q : saved v ≡ gain ws v.0
      q = gain-saved v gs.0

      behind : gain ws u.0 ≤ gain ws v.0 → (c : Bool) → eqb (gain ws u.0) (gain ws v.0) ≡ c → Before ws v.0 u.0
      behind m true e = inr (eqb-true (gain ws u.0) (gain ws v.0) e, l.0)
      behind m false e = let f = eqb-false (gain ws u.0) (gain ws v.0) e in inl (omega arith)

      go : (c : Bool) → leb (saved u) (saved v) ≡ c → InRank ws (words (insert saved u vs)) → InRank ws (words (cond c (v ∷ insert saved u vs) (u ∷ v ∷ vs)))
      go true e ih =
          let m : gain ws u.0 ≤ gain ws v.0 = omega (arith, leb-true (saved u) (saved v) e, p, q) in
          ranks v.0 (words (insert saved u vs)) (all_insert v.0 u vs (behind m (eqb (gain ws u.0) (gain ws v.0)) refl) r.0) ih
      go false e ih =
          let m : gain ws v.0 < gain ws u.0 = omega (arith, leb-false (saved u) (saved v) e, p, q) in
          ranks u.0 (words (v ∷ vs)) (inl m, before-all u.0 v.0 (words vs) m r.0) r

  insert-good : (u : Tally) (vs : List Tally) → Good u → AllGood vs → AllGood (insert saved u vs)
  unfolding insert
  insert-good u [] g gs = (g, tt)
  insert-good u (v ∷ vs) g gs = go (leb (saved u) (saved v)) (insert-good u vs g gs.1)
    where
      go : (c : Bool) → AllGood (insert saved u vs) → AllGood (cond c (v ∷ insert saved u vs) (u ∷ v ∷ vs))
      go true ih = (gs.0, ih)
      go false ih = (g, gs)

  insert-saves : (u : Tally) (vs : List Tally) → 0 < gain ws u.0 → Saves vs → Saves (insert saved u vs)
  unfolding insert
  insert-saves u [] g gs = (g, tt)
  insert-saves u (v ∷ vs) g gs = go (leb (saved u) (saved v)) (insert-saves u vs g gs.1)
    where
      go : (c : Bool) → Saves (insert saved u vs) → Saves (cond c (v ∷ insert saved u vs) (u ∷ v ∷ vs))
      go true ih = (gs.0, ih)
      go false ih = (g, gs)

  insert-under : (n : ℕ) (u : Tally) (vs : List Tally) → first_use u.0 ws < n → Under n vs → Under n (insert saved u vs)
  unfolding insert
  insert-under n u [] g gs = (g, tt)
  insert-under n u (v ∷ vs) g gs = go (leb (saved u) (saved v)) (insert-under n u vs g gs.1)
    where
      go : (c : Bool) → Under n (insert saved u vs) → Under n (cond c (v ∷ insert saved u vs) (u ∷ v ∷ vs))
      go true ih = (gs.0, ih)
      go false ih = (g, gs)

  insert-has : (x : List ℕ) (u : Tally) (vs : List Tally) → same_octets x u.0 || is_among x (words vs) ≡ true → is_among x (words (insert saved u vs)) ≡ true
  unfolding insert is_among
  insert-has x u [] h = h
  insert-has x u (v ∷ vs) h = go (leb (saved u) (saved v)) (insert-has x u vs)
    where
      a : Bool
      a = same_octets x u.0

      b : Bool
      b = same_octets x v.0

      go : (c : Bool) → (a || is_among x (words vs) ≡ true → is_among x (words (insert saved u vs)) ≡ true) → is_among x (words (cond c (v ∷ insert saved u vs) (u ∷ v ∷ vs))) ≡ true
      go true ih =
          or_elim a (b || is_among x (words vs)) (λ q. or_right b (is_among x (words (insert saved u vs))) (ih (or_left a (is_among x (words vs)) q)))
          (λ q. or_elim b (is_among x (words vs)) (λ z. or_left b (is_among x (words (insert saved u vs))) z)
          (λ z. or_right b (is_among x (words (insert saved u vs))) (ih (or_right a (is_among x (words vs)) z))) q) h
      go false ih = h

  record RankedBy (best us out : List Tally) : Type 0 where
    good : AllGood out
    saves : Saves out
    rank : InRank ws (words out)
    keeps : (x : List ℕ) → is_among x (words best) ≡ true → is_among x (words out) ≡ true
    takes : (x : List ℕ) → is_among x (words us) ≡ true → 0 < gain ws x → is_among x (words out) ≡ true

  rank-all : (n : ℕ) (best us : List Tally) → AllGood best → Saves best → InRank ws (words best) → Under n best → AllGood us → Rising n us → RankedBy best us (ranked best us)
  unfolding ranked is_among
  rank-all n best [] g s r l gs rs = record { good = g; saves = s; rank = r; keeps = λ x h. h; takes = λ x h p. absurd (false≢true h) }
  rank-all n best (u ∷ us) g s r l gs rs = go (eqb (saved u) 0) refl (λ b x y z w. rank-all (suc (first_use u.0 ws)) b us x y z w gs.1 rs.1)
    where
      p : saved u ≡ gain ws u.0
      p = gain-saved u gs.0

      next : ℕ
      next = suc (first_use u.0 ws)

      go : (c : Bool) → eqb (saved u) 0 ≡ c → ((b : List Tally) → AllGood b → Saves b → InRank ws (words b) → Under (suc (first_use u.0 ws)) b → RankedBy b us (ranked b us))
          → RankedBy best (u ∷ us) (ranked (cond c best (insert saved u best)) us)
      go true e more =
          let ih = more best g s r (under_more n next best (omega (arith, rs.0)) l) in
          record {
            good = ih.good;
            saves = ih.saves;
            rank = ih.rank;
            keeps = ih.keeps;
            takes = λ x h q. or_elim (same_octets x u.0) (is_among x (words us))
                (λ z. absurd (omega (arith, q, ap (gain ws) (same-octets x u.0 z), p, eqb-true (saved u) 0 e)))
                (λ z. ih.takes x z q) h;
          }
      go false e more =
          let f = eqb-false (saved u) 0 e in
          let under = under_more n (first_use u.0 ws) best rs.0 l in
          let ih = more (insert saved u best) (insert-good u best gs.0 g) (insert-saves u best (omega (arith, p)) s)
          (insert-ranks u best gs.0 g under r) (insert-under next u best (omega arith) (under_more n next best (omega (arith, rs.0)) l)) in
          record {
            good = ih.good;
            saves = ih.saves;
            rank = ih.rank;
            keeps = λ x h. ih.keeps x (insert-has x u best (or_right (same_octets x u.0) (is_among x (words best)) h));
            takes = λ x h q. or_elim (same_octets x u.0) (is_among x (words us))
                (λ z. ih.keeps x (insert-has x u best (or_left (same_octets x u.0) (is_among x (words best)) z)))
                (λ z. ih.takes x z q) h;
          }

  -- ---- the first of them
  take-before : (x : List ℕ) (n : ℕ) (us : List Tally) → BeforeAll ws x (words us) → BeforeAll ws x (words (take n us))
  take-before x zero us h = tt
  take-before x (suc n) [] h = tt
  take-before x (suc n) (u ∷ us) h = (h.0, take-before x n us h.1)

  take-ranks : (n : ℕ) (us : List Tally) → InRank ws (words us) → InRank ws (words (take n us))
  take-ranks zero us r = tt
  take-ranks (suc n) [] r = tt
  take-ranks (suc n) (u ∷ us) r = ranks u.0 (words (take n us)) (take-before u.0 n us r.0) (take-ranks n us r.2)

  take-few : (n : ℕ) (us : List Tally) → length (words (take n us)) ≤ n
  take-few zero us = omega arith
  take-few (suc n) [] = omega arith
  take-few (suc n) (u ∷ us) = omega (arith, take-few n us)

  take-used : (n : ℕ) (us : List Tally) → AllGood us → Saves us → (x : List ℕ) → is_among x (words (take n us)) ≡ true → (is_among x ws ≡ true) × (0 < gain ws x)
  unfolding is_among
  take-used zero us g s x h = absurd (false≢true h)
  take-used (suc n) [] g s x h = absurd (false≢true h)
  take-used (suc n) (u ∷ us) g s x h =
      or_elim (same_octets x u.0) (is_among x (words (take n us)))
      (λ z. let e = same-octets x u.0 z in (ap (λ y. is_among y ws) e ∙ g.0.1, subst (λ y. 0 < gain ws y) (sym e) s.0))
      (λ z. take-used n us g.1 s.1 x z) h

  before-member : (u : List ℕ) (us : List Tally) → BeforeAll ws u (words us) → (x : List ℕ) → is_among x (words us) ≡ true → Before ws u x
  unfolding is_among
  before-member u [] b x h = absurd (false≢true h)
  before-member u (v ∷ us) b x h =
      or_elim (same_octets x v.0) (is_among x (words us)) (λ z. subst (Before ws u) (sym (same-octets x v.0 z)) b.0) (λ z. before-member u us b.1 x z) h

  take-best : (n : ℕ) (us : List Tally) → InRank ws (words us) → (x : List ℕ) → is_among x (words us) ≡ true → is_among x (words (take n us)) ≡ false
      → (length (words (take n us)) ≡ n) × AllBefore ws (words (take n us)) x
  unfolding is_among
  take-best zero us r x h q = (refl, tt)
  take-best (suc n) [] r x h q = absurd (false≢true h)
  take-best (suc n) (u ∷ us) r x h q =
      let other = or-false-left (same_octets x u.0) (is_among x (words (take n us))) q in
      let later : is_among x (words us) ≡ true = rw other at h in
      let ih = take-best n us r.2 x later (or_right_false (same_octets x u.0) (is_among x (words (take n us))) q) in
      (ap suc ih.0, (before-member u.0 us r.0 x later, ih.1))

pub chosen-words : ChosenWords
unfolding chosen is_among
chosen-words ws =
    let t = tallies ws [] [] ws refl (λ x. refl) in
    let r = rank-all ws 0 [] (tallied [] ws) tt tt tt tt t.good t.rising in
    let out = ranked [] (tallied [] ws) in
    record {
      few = take-few ws 16 out;
      used = λ w h. take-used ws 16 out r.good r.saves w h;
      rank = take-ranks ws 16 out r.rank;
      best = λ w h p q. take-best ws 16 out r.rank w (r.takes w (t.covers w h refl) p) q;
    }

-- ---- only one choice
module _ (ws : List (List ℕ)) where
  before-once : (u v : List ℕ) → Before ws u v → Before ws v u → ⊥
  before-once u v (inl p) (inl q) = omega arith
  before-once u v (inl p) (inr q) = omega (arith, q.0)
  before-once u v (inr p) (inl q) = omega (arith, p.0)
  before-once u v (inr p) (inr q) = omega (arith, p.1, q.1)

  before_at : (u : List ℕ) (c : List (List ℕ)) → BeforeAll ws u c → (v : List ℕ) → is_among v c ≡ true → Before ws u v
  unfolding is_among
  before_at u [] b v h = absurd (false≢true h)
  before_at u (x ∷ c) b v h = or_elim (same_octets v x) (is_among v c) (λ z. subst (Before ws u) (sym (same-octets v x z)) b.0) (λ z. before_at u c b.1 v z) h

  all-at : (c : List (List ℕ)) (v : List ℕ) → AllBefore ws c v → (u : List ℕ) → is_among u c ≡ true → Before ws u v
  unfolding is_among
  all-at [] v b u h = absurd (false≢true h)
  all-at (x ∷ c) v b u h = or_elim (same_octets u x) (is_among u c) (λ z. subst (λ y. Before ws y v) (sym (same-octets u x z)) b.0) (λ z. all-at c v b.1 u z) h

  -- two lists in rank that have the same words are one
  same-list : (c d : List (List ℕ)) → InRank ws c → InRank ws d → ((x : List ℕ) → is_among x c ≡ is_among x d) → c ≡ d
  unfolding is_among
  same-list [] [] r s k = refl
  same-list [] (v ∷ d) r s k = absurd (false≢true (k v ∙ among-here v d))
  same-list (u ∷ c) [] r s k = absurd (false≢true (sym (k u) ∙ among-here u c))
  same-list (u ∷ c) (v ∷ d) r s k = one (same_octets u v) refl (λ e. same-list c d r.2 s.2 (rest e))
    where
      rest : u ≡ v → (x : List ℕ) → is_among x c ≡ is_among x d
      rest e x = go (same_octets x u) refl (same_octets x v) refl (k x)
        where
          go : (a : Bool) → same_octets x u ≡ a → (b : Bool) → same_octets x v ≡ b → a || is_among x c ≡ b || is_among x d → is_among x c ≡ is_among x d
          go true p b q z = ap (λ y. is_among y c) (same-octets x u p) ∙ (r.1 ∙ sym (ap (λ y. is_among y d) (same-octets x u p ∙ e) ∙ s.1))
          go false p true q z = absurd (false≢true (sym p ∙ (ap (same_octets x) e ∙ q)))
          go false p false q z = z

      one : (a : Bool) → same_octets u v ≡ a → (u ≡ v → c ≡ d) → u ∷ c ≡ v ∷ d
      one true p f = let e = same-octets u v p in λ i. e i ∷ f e i
      one false p f = absurd (before-once u v before behind)
        where
          there : is_among v (u ∷ c) ≡ true
          there = k v ∙ among-here v d

          apart : (b : Bool) → same_octets v u ≡ b → b ≡ false
          apart true z = absurd (false≢true (sym p ∙ (ap (same_octets u) (same-octets v u z) ∙ octets-same u)))
          apart false z = refl

          before : Before ws u v
          before = before_at u c r.0 v (or_elim (same_octets v u) (is_among v c) (λ z. absurd (false≢true (sym (apart (same_octets v u) refl) ∙ z))) (λ z. z) there)

          behind : Before ws v u
          behind = before_at v d s.0 u (or_elim (same_octets u v) (is_among u d) (λ z. absurd (false≢true (sym p ∙ z))) (λ z. z) (sym (k u) ∙ among-here u c))

-- words without one of them
unfoldable remove : List ℕ → List (List ℕ) → List (List ℕ)
remove x [] = []
remove x (v ∷ vs) = cond (same_octets x v) vs (v ∷ remove x vs)

remove-length : (x : List ℕ) (c : List (List ℕ)) → is_among x c ≡ true → length c ≡ suc (length (remove x c))
unfolding remove is_among
remove-length x [] h = absurd (false≢true h)
remove-length x (v ∷ c) h = go (same_octets x v) refl (remove-length x c) h
  where
    go : (b : Bool) → same_octets x v ≡ b → (is_among x c ≡ true → length c ≡ suc (length (remove x c))) → b || is_among x c ≡ true → suc (length c) ≡ suc (length (cond b c (v ∷ remove x c)))
    go true e ih q = refl
    go false e ih q = ap suc (ih q)

remove-keeps : (x y : List ℕ) (c : List (List ℕ)) → same_octets y x ≡ false → is_among y c ≡ true → is_among y (remove x c) ≡ true
unfolding remove is_among
remove-keeps x y [] n h = absurd (false≢true h)
remove-keeps x y (v ∷ c) n h = go (same_octets x v) refl (remove-keeps x y c n) h
  where
    own : same_octets x v ≡ true → (b : Bool) → same_octets y v ≡ b → b ≡ false
    own e true q = absurd (false≢true (sym n ∙ (ap (same_octets y) (same-octets x v e) ∙ q)))
    own e false q = refl

    go : (b : Bool) → same_octets x v ≡ b → (is_among y c ≡ true → is_among y (remove x c) ≡ true) → same_octets y v || is_among y c ≡ true → is_among y (cond b c (v ∷ remove x c)) ≡ true
    go true e ih q = or_elim (same_octets y v) (is_among y c) (λ z. absurd (false≢true (sym (own e (same_octets y v) refl) ∙ z))) (λ z. z) q
    go false e ih q =
        or_elim (same_octets y v) (is_among y c) (λ z. or_left (same_octets y v) (is_among y (remove x c)) z) (λ z. or_right (same_octets y v) (is_among y (remove x c)) (ih z)) q

-- different words that are all among others are no more than these
abbrev Distinct : List (List ℕ) → Type 0
Distinct [] = Unit {0}
Distinct (w ∷ l) = (is_among w l ≡ false) × Distinct l

no_more : (l c : List (List ℕ)) → Distinct l → ((x : List ℕ) → is_among x l ≡ true → is_among x c ≡ true) → length l ≤ length c
unfolding is_among
no_more [] c k f = omega arith
no_more (x ∷ l) c k f =
    omega (arith, remove-length x c (f x (among-here x l)), no_more l (remove x c) k.1 (λ y h. remove-keeps x y c (other y h (same_octets y x) refl) (f y (or_right (same_octets y x) (is_among y l) h))))
  where
    other : (y : List ℕ) → is_among y l ≡ true → (b : Bool) → same_octets y x ≡ b → b ≡ false
    other y h true e = absurd (false≢true (sym k.0 ∙ (ap (λ z. is_among z l) (sym (same-octets y x e)) ∙ h)))
    other y h false e = refl

rank-distinct : (ws c : List (List ℕ)) → InRank ws c → Distinct c
rank-distinct ws [] r = tt
rank-distinct ws (w ∷ c) r = (r.1, rank-distinct ws c r.2)

-- a word of one choice is one of the other: else that has sixteen before it, which the first has too, and so one too many
taken-by : (ws c d : List (List ℕ)) → Choice ws c → Choice ws d → (w : List ℕ) → is_among w c ≡ true → is_among w d ≡ true
unfolding is_among
taken-by ws c d k l w h = go (is_among w d) refl
  where
    go : (b : Bool) → is_among w d ≡ b → b ≡ true
    go true e = refl
    go false e =
        let u = k.used w h in
        let b = l.best w u.0 u.1 e in
        absurd (omega (arith, k.few, b.0, no_more (w ∷ d) c (e, rank-distinct ws d l.rank) (λ x q. or_elim (same_octets x w) (is_among x d) (λ z. ap (λ y. is_among y c) (same-octets x w z) ∙ h) (λ z. also x z b.1 (is_among x c) refl) q)))
      where
        also : (x : List ℕ) → is_among x d ≡ true → AllBefore ws d w → (a : Bool) → is_among x c ≡ a → a ≡ true
        also x z all true q = refl
        also x z all false q =
            let v = l.used x z in
            absurd (before-once ws x w (all-at ws d w all x z) (all-at ws c x (k.best x v.0 v.1 q).1 w h))

both_ways : (a b : Bool) → (a ≡ true → b ≡ true) → (b ≡ true → a ≡ true) → a ≡ b
both_ways true true f g = refl
both_ways true false f g = sym (f refl)
both_ways false true f g = g refl
both_ways false false f g = refl

pub one_choice : OneChoice
one_choice ws c d k l = same-list ws c d k.rank l.rank (λ x. both_ways (is_among x c) (is_among x d) (taken-by ws c d k l x) (taken-by ws d c l k x))
