-- How often a word is used: the loop of `count_uses`.
use Rattle.std.specs.Prelude.{Option as Maybe, Some, None, MatchOption}
use Rattle.std.specs.List.{AllWithin, HoldsAt}
use Rattle.std.proofs.lemmas.List.{get_or-take, get_or-drop}
use mathlib.Core.Path.{◌≡◌, refl, sym, ap, ap₂, subst, ◌∙◌}
use mathlib.Core.Bool.{Bool, true, false, cond}
use mathlib.Core.List.{List, [], ◌∷◌}
use Prim.Native.Nat.{ℕ, zero, suc, ◌+◌, ◌*◌, ◌-◌, ◌%◌, ◌≤◌, ◌<◌}
use native.Mathlib.Numerals.{add-one}
use native.Mathlib.Omega.{arith}
use lib.Dec.{eqb}
use lib.ListN.{length, get_or, take, drop, set, length-set, drop_of_length-le}
use lib.Seq.{get_or-set_same, get_or-set_other}
use mir.Syntax.{w64}
use mir.Val.{Fits}
use borrow.Author.Tests.{eqb-true, eqb-false}
use Rattle.octets.proofs.Lists.{length_part, drop-next}
use Rattle.format.proofs.Same.{same-octets}
use Rattle.format.specs.Same.{same_octets}
use Rattle.fold.specs.Words.{uses}
use Rattle.packer.specs.Counting.{word_at, words_from, key_from, key_of, Noted, Keyed, Passes, Counts}
use Rattle.packer.proofs.Tagging.{alike-not}

-- ---- `is_use`

pub use-not : (o : List ℕ) (start size from other : ℕ) → start + size ≤ length o → from + other ≤ length o → (size ≡ other → ⊥)
    → false ≡ same_octets (take size (drop start o)) (take other (drop from o))
use-not o start size from other h g n =
    alike-not (take size (drop start o)) (take other (drop from o)) (λ e. n (sym (length_part o start size h) ∙ (e ∙ length_part o from other g)))

pub use-so : (o : List ℕ) (start size from other : ℕ) (r : Bool) → r ≡ same_octets (take (start + size - start) (drop start o)) (take (from + other - from) (drop from o))
    → r ≡ same_octets (take size (drop start o)) (take other (drop from o))
use-so o start size from other r e =
    let x : start + size - start ≡ size = omega arith in
    let y : from + other - from ≡ other = omega arith in
    e ∙ ap₂ (λ m n. same_octets (take m (drop start o)) (take n (drop from o))) x y

pub ruleset use-ways = (use-not, use-so)

-- ---- `key_of`

pub record Keying (w : List ℕ) (key i : ℕ) : Type 0 where
  pub inside : i ≤ length w
  pub low : key < 251
  pub same : key_from key (drop i w) ≡ key_of w

module _ (w : List ℕ) where
  pub key-begin : Keying w 0 0
  unfolding key_of
  key-begin = record { inside = omega arith; low = omega arith; same = refl }

  module _ (key i : ℕ) (v : Keying w key i) where
    pub key-done : length w ≤ i → key ≡ key_of w
    unfolding key_from
    key-done h = sym (ap (key_from key) (drop_of_length-le w h)) ∙ v.same

    pub key_fits : Fits w64 (key * 31)
    key_fits = record { fits = omega (arith, v.low) }

    module _ (h : i < length w) (b : ℕ) (e : b ≡ get_or w i 0) where
      pub key-again : Keying w ((key * 31 + b) % 251) (i + 1)
      unfolding key_from
      key-again = record {
        inside = omega arith;
        low = omega arith;
        same = ap (λ x. key_from ((key * 31 + x) % 251) (drop (i + 1) w)) e ∙ (sym (ap (key_from key) (drop-next w i 0 h)) ∙ v.same);
      }

-- ---- `fill_keys`

pub record Filling (object starts sizes keys₀ keys : List ℕ) (n j : ℕ) : Type 0 where
  pub within : j ≤ n
  pub long : length keys ≡ length keys₀
  pub key : (k : ℕ) → k < j → get_or keys k 0 ≡ key_of (word_at object starts sizes k)

module _ (object starts sizes keys₀ : List ℕ) (n : ℕ) (noted : Noted object starts sizes n) (room : n ≤ length keys₀) where
  pub fill-begin : Filling object starts sizes keys₀ keys₀ n 0
  fill-begin = record { within = omega arith; long = refl; key = λ k h. absurd (omega arith) }

  module _ (keys : List ℕ) (j : ℕ) (v : Filling object starts sizes keys₀ keys n j) where
    pub fill_done : n ≤ j → Keyed object starts sizes keys n
    fill_done h = record { long = omega (arith, v.long); key = λ k l. v.key k (omega arith) }

    pub fill-long : length keys ≡ length keys₀
    fill-long = v.long

    module _ (h : j < n) (start size : ℕ) (es : start ≡ get_or starts j 0) (ez : size ≡ get_or sizes j 0) where
      pub fill-inside : start + size ≤ length object
      fill-inside = omega (arith, noted.inside j h)

      pub fill-again : (key : ℕ) → key ≡ key_of (take (start + size - start) (drop start object)) → Filling object starts sizes keys₀ (set keys j key) n (j + 1)
      unfolding word_at
      fill-again key e = record {
        within = omega arith;
        long = length-set keys j key ∙ v.long;
        key = λ k l. go k l (eqb k j) refl;
      }
        where
          here : key ≡ key_of (take (get_or sizes j 0) (drop (get_or starts j 0) object))
          here =
              let x : start + size - start ≡ size = omega arith in
              e ∙ rw (x, es, ez)

          go : (k : ℕ) → k < j + 1 → (b : Bool) → eqb k j ≡ b → get_or (set keys j key) k 0 ≡ key_of (take (get_or sizes k 0) (drop (get_or starts k 0) object))
          go k l true x =
              let y : k ≡ j = eqb-true k j x in
              subst (λ m. get_or (set keys j key) m 0 ≡ key_of (take (get_or sizes m 0) (drop (get_or starts m 0) object))) (sym y)
              (get_or-set_same keys j key 0 (omega (arith, v.long)) ∙ here)
          go k l false x =
              let y = eqb-false k j x in
              get_or-set_other keys j k key 0 y ∙ v.key k (omega arith)

pub ruleset fill-ways = (fill-begin, fill_done, fill-long, fill-inside, fill-again)

-- ---- `next_keyed`

module _ (keys : List ℕ) (key at n : ℕ) where
  -- the keys that are looked at
  abbrev pub looked : List ℕ
  looked = take (n - at) (drop at keys)

  abbrev pub IsKey : ℕ → Type 0
  IsKey other = other ≡ key

  abbrev pub IsOther : ℕ → Type 0
  IsOther other = other ≡ key → ⊥

  -- what `position` tells of them
  abbrev pub Positions : Maybe ℕ → Type 0
  Positions place = MatchOption place (AllWithin IsOther looked 0 (length looked)) (λ i. (i < length looked) × HoldsAt IsKey looked i × AllWithin IsOther looked 0 i)

  module _ (h : at ≤ n) (b : n ≤ length keys) where
    passed : (m : ℕ) → m ≤ length looked → AllWithin IsOther looked 0 m → Passes keys key at n (at + m)
    passed m short none =
        let size = length_part keys at (n - at) (omega (arith, h, b)) in
        record {
          onward = omega arith;
          within = omega (arith, short, size, h);
          differ = λ k low high e. none (k - at) 0 (omega arith) (omega (arith, low, high))
              (get_or-take (n - at) (drop at keys) (k - at) 0 (omega (arith, low, high, short, size))
              ∙ (get_or-drop at keys (k - at) 0 ∙ (ap (λ i. get_or keys i 0) (omega (arith, low)) ∙ e)));
        }

    pub pass-found : (place : Maybe ℕ) → Positions place → (i : ℕ) → place ≡ Some i → Passes keys key at n (at + i)
    pass-found place p i e = let first = subst Positions e p in passed i (omega (arith, first.0)) first.2

    pub pass-none : (place : Maybe ℕ) → Positions place → place ≡ None → Passes keys key at n n
    pass-none place p e =
        let end : at + length looked ≡ n = omega (arith, length_part keys at (n - at) (omega (arith, h, b)), h) in
        subst (Passes keys key at n) end (passed (length looked) (omega arith) (subst Positions e p))

-- ---- `is_again`

module _ (object starts sizes keys : List ℕ) (n : ℕ) (noted : Noted object starts sizes n) (keyed : Keyed object starts sizes keys n) (i j : ℕ) (hi : i < n) (hj : j < n) where
  -- words with two keys are two
  pub again-not : (get_or keys i 0 ≡ get_or keys j 0 → ⊥) → false ≡ same_octets (word_at object starts sizes i) (word_at object starts sizes j)
  again-not d = go (same_octets (word_at object starts sizes i) (word_at object starts sizes j)) refl
    where
      go : (b : Bool) → same_octets (word_at object starts sizes i) (word_at object starts sizes j) ≡ b → false ≡ b
      go true e = absurd (d (keyed.key i hi ∙ (ap key_of (same-octets (word_at object starts sizes i) (word_at object starts sizes j) e) ∙ sym (keyed.key j hj))))
      go false e = refl

  module _ (start size from other : ℕ) (es : start ≡ get_or starts i 0) (ez : size ≡ get_or sizes i 0) (ef : from ≡ get_or starts j 0) (eo : other ≡ get_or sizes j 0) where
    pub use-first : start + size ≤ length object
    use-first = omega (arith, noted.inside i hi)

    pub use-second : from + other ≤ length object
    use-second = omega (arith, noted.inside j hj)

    pub again-so : (r : Bool) → r ≡ same_octets (take size (drop start object)) (take other (drop from object)) → r ≡ same_octets (word_at object starts sizes i) (word_at object starts sizes j)
    unfolding word_at
    again-so r e = e ∙ rw (es, ez, ef, eo)

pub ruleset again-ways = (again-not, use-first, use-second, again-so)

-- ---- the loop of `count_uses`

module _ (object starts sizes : List ℕ) where
  abbrev at : ℕ → List ℕ
  at = word_at object starts sizes

  -- the first of the words from a number on
  pub words-next : (j n : ℕ) → j < n → words_from object starts sizes j (n - j) ≡ word_at object starts sizes j ∷ words_from object starts sizes (j + 1) (n - (j + 1))
  unfolding words_from
  words-next j n h =
      let e : n - j ≡ suc (n - (j + 1)) = omega arith in
      rw e (ap (λ k. at j ∷ words_from object starts sizes k (n - (j + 1))) (sym (add-one j)))

  pub words-done : (j n : ℕ) → n ≤ j → words_from object starts sizes j (n - j) ≡ []
  unfolding words_from
  words-done j n h = let e : n - j ≡ 0 = omega arith in rw e

  pub record Counting (before after : List ℕ) (i n count j : ℕ) : Type 0 where
    pub onward : i ≤ j
    pub within : j ≤ n
    pub few : count ≤ j - i
    pub long : length after ≡ length before
    pub total : uses (at i) (words_from object starts sizes i (n - i)) ≡ count + uses (at i) (words_from object starts sizes j (n - j))
    pub marked : (k : ℕ) → i ≤ k → k < j → get_or after k 0 ≡ cond (same_octets (at i) (at k)) 1 (get_or before k 0)
    pub rest : (k : ℕ) → j ≤ k → get_or after k 0 ≡ get_or before k 0

  module _ (before : List ℕ) (i n : ℕ) (noted : Noted object starts sizes n) (hi : i < n) (room : n ≤ length before) where
    module _ (after : List ℕ) (count j : ℕ) (v : Counting before after i n count j) where
      pub count-done : n ≤ j → Counts object starts sizes before after i n count
      unfolding uses
      count-done h =
          let z : uses (at i) (words_from object starts sizes j (n - j)) ≡ 0 = ap (uses (at i)) (words-done j n h) in
          record {
            answers = omega (arith, v.total);
            small = omega (arith, v.few, v.within, noted.few);
            long = v.long;
            marks = λ k p q. v.marked k p (omega arith);
          }

      module _ (h : j < n) where
        pub count-place : j < length after
        count-place = omega (arith, v.long)

        count-again : true ≡ same_octets (at i) (at j) → Counting before (set after j 1) i n (count + 1) (j + 1)
        unfolding uses
        count-again e = record {
          onward = omega (arith, v.onward);
          within = omega arith;
          few = omega (arith, v.few, v.onward);
          long = length-set after j 1 ∙ v.long;
          total =
              let t : uses (at i) (words_from object starts sizes j (n - j)) ≡ 1 + uses (at i) (words_from object starts sizes (j + 1) (n - (j + 1))) =
              ap (uses (at i)) (words-next j n h) ∙ rw (← e) in
              omega (arith, v.total);
          marked = λ k p q. go k p q (eqb k j) refl;
          rest = λ k p. get_or-set_other after j k 1 0 (λ x. omega arith) ∙ v.rest k (omega arith);
        }
          where
            go : (k : ℕ) → i ≤ k → k < j + 1 → (b : Bool) → eqb k j ≡ b → get_or (set after j 1) k 0 ≡ cond (same_octets (at i) (at k)) 1 (get_or before k 0)
            go k p q true x =
                let y : k ≡ j = eqb-true k j x in
                ap (λ m. get_or (set after j 1) m 0) y
                ∙ (get_or-set_same after j 1 0 count-place ∙ ap (λ b. cond b 1 (get_or before k 0)) (e ∙ ap (λ m. same_octets (at i) (at m)) (sym y)))
            go k p q false x = let y = eqb-false k j x in get_or-set_other after j k 1 0 y ∙ v.marked k p (omega arith)

    -- words that differ are passed over
    pass-one : (after : List ℕ) (count j : ℕ) → Counting before after i n count j → j < n → same_octets (at i) (at j) ≡ false → Counting before after i n count (j + 1)
    unfolding uses
    pass-one after count j v h d = record {
      onward = omega (arith, v.onward);
      within = omega arith;
      few = omega (arith, v.few);
      long = v.long;
      total =
          let t : uses (at i) (words_from object starts sizes j (n - j)) ≡ 0 + uses (at i) (words_from object starts sizes (j + 1) (n - (j + 1))) =
          ap (uses (at i)) (words-next j n h) ∙ ap (λ b. cond b 1 0 + uses (at i) (words_from object starts sizes (j + 1) (n - (j + 1)))) d in
          omega (arith, v.total);
      marked = λ k p q. go k p q (eqb k j) refl;
      rest = λ k p. v.rest k (omega arith);
    }
      where
        go : (k : ℕ) → i ≤ k → k < j + 1 → (b : Bool) → eqb k j ≡ b → get_or after k 0 ≡ cond (same_octets (at i) (at k)) 1 (get_or before k 0)
        go k p q true x =
            let y : k ≡ j = eqb-true k j x in
            v.rest k (omega arith) ∙ ap (λ b. cond b 1 (get_or before k 0)) (sym (ap (λ m. same_octets (at i) (at m)) y ∙ d))
        go k p q false x = let y = eqb-false k j x in v.marked k p (omega arith)

    pass_all : (m : ℕ) (after : List ℕ) (count j : ℕ) → Counting before after i n count j → j + m ≤ n → ((k : ℕ) → j ≤ k → k < j + m → same_octets (at i) (at k) ≡ false) → Counting before after i n count (j + m)
    pass_all zero after count j v h d = subst (Counting before after i n count) (let e : j ≡ j + 0 = omega arith in e) v
    pass_all (suc m) after count j v h d =
        subst (Counting before after i n count) (let e : j + 1 + m ≡ j + suc m = omega arith in e)
        (pass_all m after count (j + 1) (pass-one after count j v (omega arith) (d j (omega arith) (omega arith))) (omega arith) (λ k p q. d k (omega arith) (omega arith)))

    module _ (keys : List ℕ) (keyed : Keyed object starts sizes keys n) (q j : ℕ) (p : Passes keys (get_or keys i 0) (j + 1) n q) where
      pass-keyed : (after : List ℕ) (count : ℕ) → Counting before after i n count (j + 1) → Counting before after i n count q
      pass-keyed after count v =
          let w = p.within in
          let x : j + 1 + (q - (j + 1)) ≡ q = omega (arith, p.onward) in
          subst (Counting before after i n count) x
          (pass_all (q - (j + 1)) after count (j + 1) v (omega arith)
          (λ k a b. sym (again-not object starts sizes keys n noted keyed i k hi (omega arith) (λ z. p.differ k a (omega arith) (sym z)))))

      module _ (after : List ℕ) (count : ℕ) (v : Counting before after i n count j) (h : j < n) (after' : List ℕ) (count' : ℕ) where
        pub count-same : true ≡ same_octets (at i) (at j) → after' ≡ set after j 1 → count' ≡ count + 1 → Counting before after' i n count' q
        count-same e m o = rw (m, o) (pass-keyed (set after j 1) (count + 1) (count-again after count j v h e))

        pub count-other : false ≡ same_octets (at i) (at j) → after' ≡ after → count' ≡ count → Counting before after' i n count' q
        count-other e m o = rw (m, o) (pass-keyed after count (pass-one after count j v h (sym e)))
