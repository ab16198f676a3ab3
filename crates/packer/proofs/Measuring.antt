-- A text folded by a token table: the ways of one piece, and the loops over the pieces.
use mathlib.Core.Path.{◌≡◌, refl, sym, ap, ◌∙◌}
use mathlib.Core.Bool.{Bool, true, false, cond, ◌&&◌}
use mathlib.Core.Option.{Option as Maybe, none, some}
use mathlib.Core.List.{List, [], ◌∷◌, ◌++◌}
use Prim.Native.Nat.{ℕ, suc, ◌+◌, ◌-◌, ◌^◌, ◌≤◌, ◌<◌}
use native.Mathlib.Omega.{arith}
use lib.Dec.{leb}
use lib.ListN.{length, take, drop, length-append, drop_of_length-le}
use mir.Syntax.{w64}
use mir.Val.{Fits}
use borrow.Author.Tests.{leb-true}
use Rattle.std.specs.Prelude.{Option, None, Some}
use Rattle.octets.proofs.Tests.{and_left}
use Rattle.octets.proofs.Lists.{length_part}
use Rattle.text.specs.Tokens.{Entries}
use Rattle.fold.specs.Words.{letter, all_letters, pieces, is_word}
use Rattle.fold.specs.Packed.{tag_of, or_word, tagged, tagged_all, folded}
use Rattle.fold.proofs.Texts.{tagged-other}
use Rattle.packer.specs.Leaves.{PieceTo, as_tag}
use Rattle.packer.proofs.Cutting.{folded-end, folded-piece, piece-letters}

-- ---- one piece

or-none : (w : List ℕ) → or_word none w ≡ w
unfolding or_word
or-none w = refl

or_some : (t : ℕ) (w : List ℕ) → or_word (some t) w ≡ t ∷ []
unfolding or_word
or_some t w = refl

module _ (es : Entries) (w : List ℕ) where
  -- no size of a word
  pub piece-other : (r : Bool) → r ≡ leb 4 (length w) && leb (length w) 255 → r ≡ false → tagged es w ≡ w
  unfolding is_word
  piece-other r e q = tagged-other es w (ap (λ b. b && all_letters w) (sym e ∙ q))

  module _ (l : 2 ≤ length w → all_letters w ≡ true) (r : Bool) (e : r ≡ leb 4 (length w) && leb (length w) 255) (q : r ≡ true) where
    word-holds : is_word w ≡ true
    unfolding is_word
    word-holds =
        let s = sym e ∙ q in
        let n = leb-true 4 (length w) (and_left (leb 4 (length w)) (leb (length w) 255) s) in
        rw (s, l (omega arith))

    module _ (t : Option ℕ) (f : t ≡ as_tag (tag_of es w)) where
      pub piece-word : t ≡ None → tagged es w ≡ w
      unfolding tagged as_tag or_word
      piece-word p = rw word-holds (go (tag_of es w) (sym p ∙ f))
        where
          go : (o : Maybe ℕ) → None ≡ as_tag o → or_word o w ≡ w
          go none x = refl
          go (some n) x = let z : ◌≡◌ {A = ℕ} 0 1 = cc in absurd (omega arith)

      pub piece-tag : (n : ℕ) → t ≡ Some n → tagged es w ≡ n ∷ []
      unfolding tagged as_tag or_word
      piece-tag n p = rw word-holds (go (tag_of es w) (sym p ∙ f))
        where
          go : (o : Maybe ℕ) → Some n ≡ as_tag o → or_word o w ≡ n ∷ []
          go none x = let z : ◌≡◌ {A = ℕ} 0 1 = cc in absurd (omega arith)
          go (some m) x = let y : n ≡ m = cc in ap (λ k. k ∷ []) (sym y)

      pub size_word : t ≡ None → length w ≡ length (tagged es w)
      size_word p = rw (piece-word p)

      pub size-tag : (n : ℕ) → t ≡ Some n → 1 ≡ length (tagged es w)
      size-tag n p = rw (piece-tag n p)

  pub size-other : (r : Bool) → r ≡ leb 4 (length w) && leb (length w) 255 → r ≡ false → length w ≡ length (tagged es w)
  size-other r e q = rw (piece-other r e q)

  -- a tag is no longer than its word
  pub tagged-shorter : length (tagged es w) ≤ length w
  unfolding tagged is_word
  tagged-shorter = go (leb 4 (length w)) refl (leb (length w) 255) (all_letters w) (tag_of es w)
    where
      go : (a : Bool) → leb 4 (length w) ≡ a → (b c : Bool) (o : Maybe ℕ) → length (cond (a && b && c) (or_word o w) w) ≤ length w
      go false q b c o = omega arith
      go true q false c o = omega arith
      go true q true false o = omega arith
      go true q true true none = omega (arith, stays)
        where
          stays : length (or_word none w) ≡ length w
          stays = ap length (or-none w)
      go true q true true (some t) = omega (arith, leb-true 4 (length w) q, ap length (or_some t w))

pub ruleset size_ways = (size_word, size-tag, size-other)

-- ---- the loop of `folded_size`

pub record Sums (es : Entries) (s : List ℕ) (size at : ℕ) : Type 0 where
  pub inside : at ≤ length s
  pub small : size ≤ at
  pub total : length (folded es s) ≡ size + length (folded es (drop at s))

module _ (es : Entries) (s : List ℕ) where
  pub sum-begin : Sums es s 0 0
  sum-begin = record { inside = omega arith; small = omega arith; total = omega arith }

  module _ (size at : ℕ) (v : Sums es s size at) where
    pub sum_done : length s ≤ at → size ≡ length (folded es s)
    sum_done h =
        let e : length (folded es (drop at s)) ≡ 0 = ap (λ q. length (folded es q)) (drop_of_length-le s h) ∙ ap length (folded-end es) in
        omega (arith, v.total)

    module _ (end : ℕ) (p : PieceTo s at end) where
      pub sum-piece : 2 ≤ length (take (end - at) (drop at s)) → all_letters (take (end - at) (drop at s)) ≡ true
      sum-piece = piece-letters es s at end p

      pub sum-from : at ≤ end
      sum-from = omega (arith, p.onward)

      module _ (r : ℕ) (e : r ≡ length (tagged es (take (end - at) (drop at s)))) where
        shorter : r ≤ end - at
        shorter = omega (arith, tagged-shorter es (take (end - at) (drop at s)), length_part s at (end - at) (omega (arith, p.onward, p.inside)))

        pub sum_fits : length s < 2 ^ 63 → Fits w64 (size + r)
        sum_fits g = record { fits = omega (arith, shorter, v.small, p.onward, p.inside) }

        pub sum-again : Sums es s (size + r) end
        sum-again =
            let t : length (folded es (drop at s)) ≡ r + length (folded es (drop end s)) =
            ap length (folded-piece es s at end p) ∙ (length-append (tagged es (take (end - at) (drop at s))) (folded es (drop end s)) ∙ ap (λ n. n + length (folded es (drop end s))) (sym e)) in
            record { inside = p.inside; small = omega (arith, shorter, v.small, p.onward); total = omega (arith, v.total) }

pub ruleset sum-ways = (sum-begin, sum_done, sum-piece, sum-from, sum_fits, sum-again)

-- a folded text is no longer than the text
pieces-shorter : (es : Entries) (o run : List ℕ) → length (tagged_all es (pieces run o)) ≤ length run + length o
unfolding pieces tagged_all
pieces-shorter es [] run = omega (arith, length-append (tagged es run) [], tagged-shorter es run)
pieces-shorter es (b ∷ o) run = go (letter b) (pieces-shorter es o (run ++ (b ∷ []))) (pieces-shorter es o [])
  where
    go : (l : Bool) → length (tagged_all es (pieces (run ++ (b ∷ [])) o)) ≤ length (run ++ (b ∷ [])) + length o → length (tagged_all es (pieces [] o)) ≤ 0 + length o
        → length (tagged_all es (cond l (pieces (run ++ (b ∷ [])) o) (run ∷ (b ∷ []) ∷ pieces [] o))) ≤ length run + suc (length o)
    go true h g = omega (arith, length-append run (b ∷ []))
    go false h g =
        omega (arith, length-append (tagged es run) (tagged es (b ∷ []) ++ tagged_all es (pieces [] o)), length-append (tagged es (b ∷ [])) (tagged_all es (pieces [] o)), tagged-shorter es run, tagged-shorter es (b ∷ []))

pub folded-shorter : (es : Entries) (s : List ℕ) → length (folded es s) ≤ length s
unfolding folded
folded-shorter es s = omega (arith, pieces-shorter es s [])
