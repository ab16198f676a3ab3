-- The choice of the words that save most: the loop of `choose`.
use mathlib.Core.Path.{◌≡◌, refl, sym, ap, ap₂, subst, ◌∙◌}
use mathlib.Core.Bool.{Bool, true, false, cond, not, ◌||◌, false≢true}
use mathlib.Core.List.{List, [], ◌∷◌, map}
use Prim.Native.Nat.{ℕ, zero, suc, ◌+◌, ◌-◌, ◌≤◌, ◌<◌}
use native.Mathlib.Omega.{arith}
use lib.Dec.{eqb, leb}
use lib.ListN.{length, get_or, take, drop}
use lib.Seq.{take-take}
use borrow.Author.Tests.{eq-eqb, ne_eqb}
use Rattle.octets.proofs.Lists.{length_part}
use Rattle.format.specs.Same.{same_octets}
use Rattle.fold.specs.Words.{uses, is_among, Tally, tallied, saved_by, saved, insert, ranked, chosen}
use Rattle.format.proofs.Same.{same-octets, octets-same}
use Rattle.packer.specs.declared.ranking.Word.{Word}
use Rattle.packer.specs.declared.ranking.Best.{Best}
use Rattle.packer.specs.Ranks.{listed, kept, Keeps}
use Rattle.packer.specs.Counting.{word_at, words_from, Noted, Counts, Shown, Shows, Chooses, AllInside, Taken, IsEmpty}
use Rattle.packer.proofs.Counted.{words-next, words-done}

-- ---- lists by falling numbers

-- of more than are kept only those that are kept matter
take-insert : (m : ℕ) (u : Tally) (us : List Tally) → take m (insert saved u (take m us)) ≡ take m (insert saved u us)
unfolding insert
take-insert zero u us = refl
take-insert (suc m) u [] = refl
take-insert (suc m) u (v ∷ us) = go (leb (saved u) (saved v)) (take-insert m u us)
  where
    go : (b : Bool) → take m (insert saved u (take m us)) ≡ take m (insert saved u us)
        → take (suc m) (cond b (v ∷ insert saved u (take m us)) (u ∷ v ∷ take m us)) ≡ take (suc m) (cond b (v ∷ insert saved u us) (u ∷ v ∷ us))
    go true h = ap (λ q. v ∷ q) h
    go false h = ap (λ q. u ∷ q) (take-take m (suc m) (v ∷ us) (omega arith))

shows-insert : (o : List ℕ) (w : Word) (u : Tally) (ws : List Word) (us : List Tally) → Shown o w u → Shows o ws us → Shows o (insert (λ v. v.saved) w ws) (insert saved u us)
unfolding insert
shows-insert o w u [] [] p q = (p, tt)
shows-insert o w u [] (y ∷ us) p q = absurd q
shows-insert o w u (x ∷ ws) [] p q = absurd q
shows-insert o w u (x ∷ ws) (y ∷ us) p q =
    let e : leb w.saved x.saved ≡ leb (saved u) (saved y) = ap₂ leb p.number q.0.number in
    rw e (go (leb (saved u) (saved y)) (shows-insert o w u ws us p q.1))
  where
    go : (b : Bool) → Shows o (insert (λ v. v.saved) w ws) (insert saved u us)
        → Shows o (cond b (x ∷ insert (λ v. v.saved) w ws) (w ∷ x ∷ ws)) (cond b (y ∷ insert saved u us) (u ∷ y ∷ us))
    go true h = (q.0, h)
    go false h = (p, (q.0, q.1))

shows-take : (n : ℕ) (o : List ℕ) (ws : List Word) (us : List Tally) → Shows o ws us → Shows o (take n ws) (take n us)
shows-take zero o ws us q = tt
shows-take (suc n) o [] [] q = tt
shows-take (suc n) o [] (u ∷ us) q = absurd q
shows-take (suc n) o (w ∷ ws) [] q = absurd q
shows-take (suc n) o (w ∷ ws) (u ∷ us) q = (q.0, shows-take n o ws us q.1)

-- one more word, in code and in the definition
shows_kept : (o : List ℕ) (w : Word) (u : Tally) (ws : List Word) (all : List Tally) → Shown o w u → Shows o ws (take 16 all)
    → Shows o (kept w ws) (take 16 (cond (eqb (saved u) 0) all (insert saved u all)))
unfolding kept
shows_kept o w u ws all p q =
    subst (λ m. Shows o (cond (eqb m 0) ws (take 16 (insert (λ v. v.saved) w ws))) (take 16 (cond (eqb (saved u) 0) all (insert saved u all)))) (sym p.number) (go (eqb (saved u) 0))
  where
    go : (b : Bool) → Shows o (cond b ws (take 16 (insert (λ v. v.saved) w ws))) (take 16 (cond b all (insert saved u all)))
    go true = q
    go false = subst (λ x. Shows o (take 16 (insert (λ v. v.saved) w ws)) x) (take-insert 16 u all)
        (shows-take 16 o (insert (λ v. v.saved) w ws) (insert saved u (take 16 all)) (shows-insert o w u ws (take 16 all) p q))

-- ---- words that came before

same-swap : (a b : List ℕ) → same_octets a b ≡ same_octets b a
same-swap a b = go (same_octets a b) (same_octets b a) refl refl
  where
    go : (x y : Bool) → same_octets a b ≡ x → same_octets b a ≡ y → same_octets a b ≡ same_octets b a
    go true y p q = p ∙ sym (subst (λ c. same_octets c a ≡ true) (same-octets a b p) (octets-same a))
    go false true p q = absurd (false≢true (sym p ∙ subst (λ c. same_octets c b ≡ true) (same-octets b a q) (octets-same b)))
    go false false p q = p ∙ sym q

module _ (object starts sizes : List ℕ) (n : ℕ) where
  abbrev at : ℕ → List ℕ
  at = word_at object starts sizes

  module _ (done : List ℕ) (best : Best) (i : ℕ) (noted : Noted object starts sizes n) (h : i < n) (v : Chooses object starts sizes done n best i) where
    next : words_from object starts sizes i (n - i) ≡ at i ∷ words_from object starts sizes (i + 1) (n - (i + 1))
    next = words-next object starts sizes i n h

    -- a word that came before
    module _ (d : get_or done i 0 ≡ 0 → ⊥) where
      before : is_among (at i) v.seen ≡ true
      before = go (is_among (at i) v.seen) (sym (ne_eqb (get_or done i 0) 0 d) ∙ v.marks i (omega arith) h)
        where
          go : (b : Bool) → false ≡ not b → b ≡ true
          go true q = refl
          go false q = absurd (false≢true q)

      pub consider-skip : Chooses object starts sizes done n best (i + 1)
      unfolding tallied is_among
      consider-skip = record {
        within = omega arith;
        places = v.places;
        seen = at i ∷ v.seen;
        all = v.all;
        marks = λ j p q. v.marks j (omega arith) q ∙ ap not (again j (same_octets (at j) (at i)) refl);
        same = v.same ∙ ap (ranked v.all) (ap (tallied v.seen) next ∙ rw before);
        keeps = v.keeps;
        shows = v.shows;
      }
        where
          again : (j : ℕ) (b : Bool) → same_octets (at j) (at i) ≡ b → is_among (at j) v.seen ≡ b || is_among (at j) v.seen
          again j true q = ap (λ w. is_among w v.seen) (same-octets (at j) (at i) q) ∙ before
          again j false q = refl

    -- a word at its first use
    module _ (d : get_or done i 0 ≡ 0) (r : ℕ) (done' : List ℕ) (k : Counts object starts sizes done done' i n r) where
      anew : is_among (at i) v.seen ≡ false
      anew = go (is_among (at i) v.seen) (sym (eq-eqb (get_or done i 0) 0 d) ∙ v.marks i (omega arith) h)
        where
          go : (b : Bool) → true ≡ not b → b ≡ false
          go true q = absurd (false≢true (sym q))
          go false q = refl

      module _ (start size : ℕ) (es : start ≡ get_or starts i 0) (ez : size ≡ get_or sizes i 0) where
        pub consider-size : size ≤ 255
        consider-size = omega (arith, noted.short i h)

        abbrev tally : Tally
        tally = (at i, r)

        module _ (s : ℕ) (e : s ≡ saved_by r size) where
          shown : Shown object (record { start = start; size = size; saved = s }) tally
          unfolding word_at
          shown = record {
            word = rw (es, ez);
            number = e ∙ ap (saved_by r) (sym (rw (← es, ← ez) (length_part object start size (omega (arith, noted.inside i h)))));
            inside = omega (arith, noted.inside i h);
            short = consider-size;
          }

          module _ (best' : Best) (ks : Keeps best (record { start = start; size = size; saved = s }) best') where
            pub consider-add : Chooses object starts sizes done' n best' (i + 1)
            unfolding tallied is_among ranked
            consider-add = record {
              within = omega arith;
              places = omega (arith, v.places, k.long);
              seen = at i ∷ v.seen;
              all = cond (eqb (saved tally) 0) v.all (insert saved tally v.all);
              marks = λ j p q. ap (λ m. eqb m 0) (k.marks j (omega arith) q) ∙ (go j p q (same_octets (at i) (at j)) ∙ ap (λ b. not (b || is_among (at j) v.seen)) (same-swap (at i) (at j)));
              same = v.same ∙ (ap (ranked v.all) tallies ∙ step);
              keeps = ks.still;
              shows = subst (λ ws. Shows object ws (take 16 (cond (eqb (saved tally) 0) v.all (insert saved tally v.all)))) (sym ks.list)
                  (shows_kept object (record { start = start; size = size; saved = s }) tally (listed best) v.all shown v.shows);
            }
              where
                go : (j : ℕ) → i + 1 ≤ j → j < n → (b : Bool) → eqb (cond b 1 (get_or done j 0)) 0 ≡ not (b || is_among (at j) v.seen)
                go j p q true = refl
                go j p q false = v.marks j (omega arith) q

                rest : List Tally
                rest = tallied (at i ∷ v.seen) (words_from object starts sizes (i + 1) (n - (i + 1)))

                tallies : tallied v.seen (words_from object starts sizes i (n - i)) ≡ (at i, uses (at i) (at i ∷ words_from object starts sizes (i + 1) (n - (i + 1)))) ∷ rest
                tallies = ap (tallied v.seen) next ∙ rw anew

                step : ranked v.all ((at i, uses (at i) (at i ∷ words_from object starts sizes (i + 1) (n - (i + 1)))) ∷ rest) ≡ ranked v.all (tally ∷ rest)
                step = ap (λ m. ranked v.all ((at i, m) ∷ rest)) (ap (uses (at i)) (sym next) ∙ sym k.answers)

  -- ---- `choose`

  module _ (done : List ℕ) (best : Best) where
    pub choose-begin : n ≤ length done → ((j : ℕ) → get_or done j 0 ≡ 0) → IsEmpty best → Chooses object starts sizes done n best 0
    unfolding is_among
    choose-begin r z e = record {
      within = omega arith;
      places = r;
      seen = [];
      all = [];
      marks = λ j p q. eq-eqb (get_or done j 0) 0 (z j);
      same = ap (λ m. ranked [] (tallied [] (words_from object starts sizes 0 m))) (omega arith);
      keeps = record { few = omega (arith, e.none); long = e.long };
      shows = rw e.none tt;
    }

    inside-shown : (ws : List Word) (us : List Tally) → Shows object ws us → AllInside object ws
    inside-shown [] us q = tt
    inside-shown (w ∷ ws) [] q = absurd q
    inside-shown (w ∷ ws) (u ∷ us) q = (q.0.inside, q.0.short, inside-shown ws us q.1)

    words-shown : (ws : List Word) (us : List Tally) → Shows object ws us → map (λ (w : Word). take w.size (drop w.start object)) ws ≡ map (λ (u : Tally). u.0) us
    words-shown [] [] q = refl
    words-shown [] (u ∷ us) q = absurd q
    words-shown (w ∷ ws) [] q = absurd q
    words-shown (w ∷ ws) (u ∷ us) q = ap₂ ◌∷◌ q.0.word (words-shown ws us q.1)

    pub choose-done : (i : ℕ) → Chooses object starts sizes done n best i → n ≤ i → Taken object starts sizes n best
    unfolding chosen ranked tallied
    choose-done i v h = record {
      keeps = v.keeps;
      inside = inside-shown (listed best) (take 16 v.all) v.shows;
      are = words-shown (listed best) (take 16 v.all) v.shows
          ∙ ap (λ us. map (λ (u : Tally). u.0) (take 16 us)) (sym (v.same ∙ ap (λ ws. ranked v.all (tallied v.seen ws)) (words-done object starts sizes i n h)));
    }
