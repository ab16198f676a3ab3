-- The token table in code: `token_at`, `put_entry` and the loop of `make_table`.
use mathlib.Core.Path.{◌≡◌, refl, sym, ap, ap₂, subst, ◌∙◌}
use mathlib.Core.Bool.{Bool, true, false, cond, ◌&&◌}
use mathlib.Core.List.{List, [], ◌∷◌, ◌++◌, append_assoc, append-nil, map}
use Prim.Native.Nat.{ℕ, zero, suc, ◌+◌, ◌*◌, ◌≤◌, ◌<◌}
use native.Mathlib.Numerals.{add-one}
use native.Mathlib.Omega.{arith}
use lib.Dec.{eqb, ltb}
use lib.ListN.{length, get_or, take, drop, length-append, length-map}
use lib.Seq.{sets, length-sets, take_all, length-take-le, get_or-take}
use borrow.Author.Tests.{eqb-true, lt-ltb, le-ltb}
use Rattle.octets.proofs.Tests.{and_left, and_right}
use Rattle.octets.proofs.Lists.{sets-append, length_part}
use Rattle.text.specs.Tokens.{Entries}
use Rattle.fold.specs.Packed.{tokens, entries_of, table_octets}
use Rattle.packer.specs.declared.ranking.Word.{Word}
use Rattle.packer.specs.declared.ranking.Best.{Best}
use Rattle.packer.specs.Ranks.{listed, Kept}
use Rattle.packer.specs.Counting.{AllInside}
use Rattle.packer.specs.Tables.{word_of, table_by, Tabled}

-- ---- `token_at`

abbrev token_at : ℕ → ℕ
token_at i = cond (ltb i 8) (i + 1) (cond (ltb i 10) (i + 3) (i + 4))

abbrev all_to : (ℕ → Bool) → ℕ → Bool
all_to P zero = true
all_to P (suc n) = P n && all_to P n

all-below : (P : ℕ → Bool) (n : ℕ) → all_to P n ≡ true → (k : ℕ) → k < n → P k ≡ true
all-below P zero h k l = absurd (omega arith)
all-below P (suc n) h k l = go (eqb k n) refl (all-below P n (and_right (P n) (all_to P n) h) k)
  where
    go : (b : Bool) → eqb k n ≡ b → (k < n → P k ≡ true) → P k ≡ true
    go true q ih = ap P (eqb-true k n q) ∙ and_left (P n) (all_to P n) h
    go false q ih = ih (omega (arith, borrow.Author.Tests.eqb-false k n q))

token-is : (i : ℕ) → i < 16 → token_at i ≡ get_or tokens i 0
unfolding tokens
token-is i h = eqb-true (token_at i) (get_or tokens i 0) (all-below (λ k. eqb (token_at k) (get_or tokens k 0)) 16 refl i h)

pub token-first : (i : ℕ) → i < 16 → i < 8 → i + 1 ≡ get_or tokens i 0
token-first i h l = rw (lt-ltb i 8 l) at (token-is i h)

pub token-second : (i : ℕ) → i < 16 → 8 ≤ i → i < 10 → i + 3 ≡ get_or tokens i 0
token-second i h g l = rw (le-ltb i 8 g, lt-ltb i 10 l) at (token-is i h)

pub token-third : (i : ℕ) → i < 16 → 8 ≤ i → 10 ≤ i → i + 4 ≡ get_or tokens i 0
token-third i h g l = rw (le-ltb i 8 g, le-ltb i 10 l) at (token-is i h)

pub ruleset token_ways = (token-first, token-second, token-third)

-- ---- the loop of `make_table`

octets-join : (a b : Entries) → table_octets (a ++ b) ≡ table_octets a ++ table_octets b
unfolding table_octets
octets-join [] b = refl
octets-join (e ∷ a) b = ap (λ q. e.0 ∷ length e.1 ∷ q) (ap (λ q. e.1 ++ q) (octets-join a b) ∙ sym (append_assoc e.1 (table_octets a) (table_octets b)))

entries-last : (ts : List ℕ) (ws : List (List ℕ)) (i : ℕ) → i < length ts → i < length ws
    → entries_of ts (take (suc i) ws) ≡ entries_of ts (take i ws) ++ ((get_or ts i 0, get_or ws i []) ∷ [])
unfolding entries_of
entries-last [] ws i h g = absurd (omega arith)
entries-last (t ∷ ts) [] i h g = absurd (omega arith)
entries-last (t ∷ []) (w ∷ ws) zero h g = refl
entries-last (t ∷ u ∷ ts) (w ∷ ws) zero h g = refl
entries-last (t ∷ ts) (w ∷ ws) (suc i) h g = ap (λ q. (t, w) ∷ q) (entries-last ts ws i (omega arith) (omega arith))

map-take : (o : List ℕ) (n : ℕ) (ws : List Word) → map (word_of o) (take n ws) ≡ take n (map (word_of o) ws)
map-take o zero ws = refl
map-take o (suc n) [] = refl
map-take o (suc n) (w ∷ ws) = ap (λ q. word_of o w ∷ q) (map-take o n ws)

map_at : (o : List ℕ) (ws : List Word) (i : ℕ) (d : Word) → i < length ws → get_or (map (word_of o) ws) i [] ≡ word_of o (get_or ws i d)
map_at o [] i d h = absurd (omega arith)
map_at o (w ∷ ws) zero d h = refl
map_at o (w ∷ ws) (suc i) d h = map_at o ws i d (omega arith)

inside-at : (o : List ℕ) (ws : List Word) (i : ℕ) (d : Word) → i < length ws → AllInside o ws → ((get_or ws i d).start + (get_or ws i d).size ≤ length o) × ((get_or ws i d).size ≤ 255)
inside-at o [] i d h a = absurd (omega arith)
inside-at o (w ∷ ws) zero d h a = (a.0, a.1)
inside-at o (w ∷ ws) (suc i) d h a = inside-at o ws i d (omega arith) a.2

table-next : (o : List ℕ) (ws : List Word) (i : ℕ) (d : Word) → i < 16 → i < length ws
    → table_by o (take (suc i) ws) ≡ table_by o (take i ws) ++ (get_or tokens i 0 ∷ length (word_of o (get_or ws i d)) ∷ word_of o (get_or ws i d))
unfolding table_octets tokens
table-next o ws i d h g =
    ap (λ q. table_octets (entries_of tokens q)) (map-take o (suc i) ws)
    ∙ (ap table_octets (entries-last tokens (map (word_of o) ws) i h (rw (length-map ws (word_of o)) g))
    ∙ (octets-join (entries_of tokens (take i (map (word_of o) ws))) ((get_or tokens i 0, get_or (map (word_of o) ws) i []) ∷ [])
    ∙ (ap₂ (λ p q. table_octets (entries_of tokens p) ++ (get_or tokens i 0 ∷ length q ∷ (q ++ []))) (sym (map-take o i ws)) (map_at o ws i d g)
    ∙ ap (λ q. table_by o (take i ws) ++ (get_or tokens i 0 ∷ length (word_of o (get_or ws i d)) ∷ q)) (append-nil (word_of o (get_or ws i d))))))

pub record Making (object : List ℕ) (best : Best) (before after : List ℕ) (at i : ℕ) : Type 0 where
  pub within : i ≤ best.count
  pub few : at ≤ 257 * i
  pub size : at ≡ length (table_by object (take i (listed best)))
  pub octets : after ≡ sets before 0 (table_by object (take i (listed best)))

module _ (object : List ℕ) (best : Best) (before : List ℕ) (k : Kept best) (a : AllInside object (listed best)) (h : 4_112 ≤ length before) where
  count_long : length (listed best) ≡ best.count
  count_long = length-take-le best.count best.words (omega (arith, k.few, k.long))

  pub make-begin : Making object best before before 0 0
  unfolding table_octets entries_of tokens
  make-begin = record { within = omega arith; few = omega arith; size = refl; octets = refl }

  module _ (after : List ℕ) (at i : ℕ) (v : Making object best before after at i) where
    pub make-done : best.count ≤ i → Tabled object best before after at
    make-done g =
        let e : take i (listed best) ≡ listed best = take_all i (listed best) (omega (arith, count_long)) in
        record { size = v.size ∙ ap (λ q. length (table_by object q)) e; few = omega (arith, v.few, v.within, k.few); octets = v.octets ∙ ap (λ q. sets before 0 (table_by object q)) e }

    pub make-long : length after ≡ length before
    make-long = ap length v.octets ∙ length-sets before 0 (table_by object (take i (listed best)))

    module _ (g : i < best.count) where
      pub make-number : i < 16
      make-number = omega (arith, k.few)

      pub make-place : i < length best.words
      make-place = omega (arith, k.few, k.long)

      module _ (d : Word) where
        abbrev word : Word
        word = get_or best.words i d

        there : (word.start + word.size ≤ length object) × (word.size ≤ 255)
        there = subst (λ (w : Word). (w.start + w.size ≤ length object) × (w.size ≤ 255)) (get_or-take best.count best.words i d g) (inside-at object (listed best) i d (omega (arith, count_long)) a)

        pub make-inside : word.start + word.size ≤ length object
        make-inside = there.0

        pub make-short : word.size ≤ 255
        make-short = there.1

        pub make-room : at + 2 + word.size ≤ length after
        make-room = omega (arith, there.1, v.few, k.few, make-long)

        module _ (tag : ℕ) (t : tag ≡ get_or tokens i 0) (r : ℕ) (e : r ≡ at + 2 + word.size) (after' : List ℕ)
            (f : after' ≡ sets after at (tag ∷ word.size ∷ take word.size (drop word.start object))) where
          long : length (word_of object word) ≡ word.size
          long = length_part object word.start word.size there.0

          next : table_by object (take (i + 1) (listed best)) ≡ table_by object (take i (listed best)) ++ (get_or tokens i 0 ∷ length (word_of object word) ∷ word_of object word)
          next = ap (λ n. table_by object (take n (listed best))) (add-one i)
              ∙ (table-next object (listed best) i d make-number (omega (arith, count_long))
              ∙ ap (λ w. table_by object (take i (listed best)) ++ (get_or tokens i 0 ∷ length (word_of object w) ∷ word_of object w)) (get_or-take best.count best.words i d g))

          same : tag ∷ word.size ∷ take word.size (drop word.start object) ≡ get_or tokens i 0 ∷ length (word_of object word) ∷ word_of object word
          same = ap₂ (λ x y. x ∷ y ∷ word_of object word) t (sym long)

          pub make-again : Making object best before after' r (i + 1)
          make-again = record {
            within = omega arith;
            few = omega (arith, there.1, v.few);
            size =
                let n : length (table_by object (take (i + 1) (listed best))) ≡ length (table_by object (take i (listed best))) + length (get_or tokens i 0 ∷ length (word_of object word) ∷ word_of object word) =
                ap length next ∙ length-append (table_by object (take i (listed best))) (get_or tokens i 0 ∷ length (word_of object word) ∷ word_of object word) in
                omega (arith, v.size, long);
            octets = f ∙ (ap₂ (λ q z. sets q at z) v.octets same
                ∙ (ap (λ m. sets (sets before 0 (table_by object (take i (listed best)))) m (get_or tokens i 0 ∷ length (word_of object word) ∷ word_of object word)) (omega (arith, v.size))
                ∙ (sets-append before 0 (table_by object (take i (listed best))) (get_or tokens i 0 ∷ length (word_of object word) ∷ word_of object word) ∙ ap (sets before 0) (sym next))));
          }

pub ruleset make-ways = (make-begin, make-done, make-long, make-number, make-place, make-inside, make-short, make-room)
