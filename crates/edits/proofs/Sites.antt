-- The records of items that are packed from a site on, and what they take of the store, item by item; records that move.
use mathlib.Core.Path.{◌≡◌, refl, sym, ap, ap₂, ◌∙◌, subst}
use mathlib.Core.Bool.{Bool, true, false, cond, false≢true}
use mathlib.Core.List.{List, [], ◌∷◌, ◌++◌, map, map-append}
use Prim.Native.Nat.{ℕ, zero, suc, ◌+◌, ◌-◌, ◌≤◌, ◌<◌}
use native.Mathlib.Omega.{arith}
use native.Mathlib.Numerals.{add-one}
use lib.Dec.{eqb}
use lib.ListN.{length, get_or, length-append}
use borrow.Author.Tests.{lt-ltb, le-ltb}
use Rattle.values.specs.Table.{known}
use Rattle.format.specs.declared.Record.{Record}
use Rattle.format.specs.Tree.{Items, count, record_of, records}
use Rattle.format.specs.Tree.Items.{end, item}
use Rattle.format.specs.Meaning.{opens}
use Rattle.format.specs.Writer.{below, past}
use Rattle.format.specs.Loaded.{stored, store_in, loaded_in}
use Rattle.format.proofs.Kept.{end_is}
use Rattle.format.proofs.Tabled.{count-item}
use Rattle.format.proofs.Loading.{loaded-held, loaded-single}
use Rattle.edits.specs.Sites.{Site, inner, share, beyond, records_at, store_at, shifted, start_after, moved}
use Rattle.state.proofs.Packed.{store-held}
use Rattle.edits.proofs.Swaps.{Plain}

pub plain-count : (t : Items) → Plain t → (p at : ℕ) → count (loaded_in [] p at t) ≡ count t
unfolding loaded_in count
plain-count end h p at = refl
plain-count (item tag from body x y) h p at = go (λ q n. plain-count x h.2 q n) (λ q n. plain-count y h.3 q n) (opens tag) refl
  where
    own : List ℕ
    own = stored [] (known p tag) body

    go : ((q n : ℕ) → count (loaded_in [] q n x) ≡ count x) → ((q n : ℕ) → count (loaded_in [] q n y) ≡ count y) → (b : Bool) → opens tag ≡ b
        → count (loaded_in [] p at (item tag from body x y)) ≡ count (item tag from body x y)
    go fx fy true o =
        let n = at + length (store_in [] tag x) in
        ap count (loaded-held [] p at tag from body x y h.0 o)
        ∙ (count-item tag 0 [] (loaded_in [] tag at x) (loaded_in [] p n y) h.0 ∙ (rw (fx tag at, fy p n) (sym (count-item tag from body x y h.0))))
    go fx fy false o =
        let n = at + length own in
        let e : end ≡ x = end_is x (rw o at h.1) in
        ap count (loaded-single [] p at tag from body x y h.0 o)
        ∙ (count-item tag at own end (loaded_in [] p n y) h.0 ∙ (ap suc (ap₂ ◌+◌ (ap count e) (fy p n)) ∙ sym (count-item tag from body x y h.0)))

-- ---- an item's record, those inside it and those after it; its share of the store
unfoldable pub record_here : Site → ℕ → List ℕ → Record
record_here s tag body =
    cond (opens tag) (record_of s.spot.depth s.up tag 0 []) (record_of s.spot.depth s.up tag s.place (stored [] (known s.spot.parent tag) body))

records-one : (d p n tag at : ℕ) (body : List ℕ) (x y : Items) → eqb tag 4 ≡ false
    → records d p n (item tag at body x y) ≡ record_of d p tag at body ∷ (records (suc d) n (suc n) x ++ records d p (suc n + count x) y)
unfolding records
records-one d p n tag at body x y f = rw (f, add-one d, add-one n)

pub records-here : (s : Site) (tag at : ℕ) (body : List ℕ) (x y : Items) → Plain (item tag at body x y)
    → records_at s (item tag at body x y) ≡ record_here s tag body ∷ (records_at (inner s tag) x ++ records_at (beyond s tag body x) y)
unfolding record_here share below past records loaded_in count
records-here s tag at body x y h = go (opens tag) refl
  where
    d : ℕ
    d = s.spot.depth

    p : ℕ
    p = s.spot.parent

    own : List ℕ
    own = stored [] (known p tag) body

    go : (b : Bool) → opens tag ≡ b
        → records_at s (item tag at body x y) ≡ record_here s tag body ∷ (records_at (inner s tag) x ++ records_at (beyond s tag body x) y)
    go true o =
        let n = s.place + length (store_in [] tag x) in
        ap (records d s.up s.number) (loaded-held [] p s.place tag at body x y h.0 o)
        ∙ (records-one d s.up s.number tag 0 [] (loaded_in [] tag s.place x) (loaded_in [] p n y) h.0
        ∙ rw (o, plain-count x h.2 tag s.place))
    go false o =
        let n = s.place + length own in
        let e : end ≡ x = end_is x (rw o at h.1) in
        ap (records d s.up s.number) (loaded-single [] p s.place tag at body x y h.0 o)
        ∙ (records-one d s.up s.number tag s.place own end (loaded_in [] p n y) h.0
        ∙ rw (o, ← e))

pub store-here : (p tag at : ℕ) (body : List ℕ) (x y : Items) → eqb tag 4 ≡ false → store_in [] p (item tag at body x y) ≡ share p tag body x ++ store_in [] p y
unfolding share store_in
store-here p tag at body x y f = rw f

-- ---- records that move
pub shifted-low : (from to n : ℕ) → n < from → shifted from to n ≡ n
unfolding shifted
shifted-low from to n h = rw (lt-ltb n from h)

pub shifted-high : (from to n : ℕ) → from ≤ n → shifted from to n ≡ n - from + to
unfolding shifted
shifted-high from to n h = rw (le-ltb n from h)

module _ (N N' P P' : ℕ) where
  -- a site behind both limits, moved
  abbrev pub moved_site : Site → Site
  moved_site s = record { spot = s.spot; up = shifted N N' s.up; number = s.number - N + N'; place = s.place - P + P' }

  here-moved : (s : Site) (tag : ℕ) (body : List ℕ) → record_here (moved_site s) tag body ≡ moved N N' P P' (record_here s tag body)
  unfolding record_here moved start_after
  here-moved s tag body = go (opens tag) refl
    where
      go : (b : Bool) → opens tag ≡ b → record_here (moved_site s) tag body ≡ moved N N' P P' (record_here s tag body)
      go true o = rw (o, o)
      go false o = rw (o, o)

  pub records-moved : (t : Items) → Plain t → (s : Site) → N ≤ s.number → P ≤ s.place → records_at (moved_site s) t ≡ map (moved N N' P P') (records_at s t)
  unfolding records loaded_in
  records-moved end h s n p = refl
  records-moved (item tag at body x y) h s n p =
      let zero-up = sym (shifted-high N N' s.number n) in
      let e₁ : inner (moved_site s) tag ≡ moved_site (inner s tag) =
      λ i. record { spot = below s.spot tag; up = zero-up i; number = one i; place = s.place - P + P' } in
      let e₂ : beyond (moved_site s) tag body x ≡ moved_site (beyond s tag body x) =
      λ i. record { spot = past s.spot tag; up = shifted N N' s.up; number = two i; place = three i } in
      records-here (moved_site s) tag at body x y h
      ∙ (ap₂ (λ r q. r ∷ q) (here-moved s tag body)
      (ap₂ ◌++◌ (ap (λ z. records_at z x) e₁ ∙ records-moved x h.2 (inner s tag) (omega arith) p)
      (ap (λ z. records_at z y) e₂ ∙ records-moved y h.3 (beyond s tag body x) (omega arith) (omega arith))
      ∙ sym (map-append (moved N N' P P') (records_at (inner s tag) x) (records_at (beyond s tag body x) y)))
      ∙ ap (map (moved N N' P P')) (sym (records-here s tag at body x y h)))
    where
      one : suc (s.number - N + N') ≡ suc s.number - N + N'
      one = omega arith

      two : suc (s.number - N + N') + count x ≡ suc s.number + count x - N + N'
      two = omega arith

      three : s.place - P + P' + length (share s.spot.parent tag body x) ≡ s.place + length (share s.spot.parent tag body x) - P + P'
      three = omega arith

-- ---- where bodies lie in the store
-- each record that holds no items begins between two places
abbrev pub Between : (low high : ℕ) → List Record → Type 0
Between low high [] = Unit {0}
Between low high (r ∷ rs) = (opens r.tag ≡ false → (low ≤ r.start) × (r.start ≤ high)) × Between low high rs

pub between-append : (low high : ℕ) (a b : List Record) → Between low high a → Between low high b → Between low high (a ++ b)
between-append low high [] b p q = q
between-append low high (r ∷ a) b p q = (p.0, between-append low high a b p.1 q)

pub between-wider : (low high low' high' : ℕ) → low' ≤ low → high ≤ high' → (rs : List Record) → Between low high rs → Between low' high' rs
between-wider low high low' high' p q [] b = tt
between-wider low high low' high' p q (r ∷ rs) b = ((λ o. let z = b.0 o in (omega (arith, z.0), omega (arith, z.1))), between-wider low high low' high' p q rs b.1)

pub between-at : (low high : ℕ) (rs : List Record) (k : ℕ) → k < length rs → Between low high rs
    → (tag start : ℕ) → tag ≡ get_or (map (λ r. r.tag) rs) k 0 → start ≡ get_or (map (λ r. r.start) rs) k 0
    → opens tag ≡ false → (low ≤ start) × (start ≤ high)
between-at low high [] k h b tag start p q o = absurd (omega arith)
between-at low high (r ∷ rs) zero h b tag start p q o = let z = b.0 (ap opens (sym p) ∙ o) in (omega (arith, z.0), omega (arith, z.1))
between-at low high (r ∷ rs) (suc k) h b tag start p q o = between-at low high rs k (omega arith) b.1 tag start p q o

here-between : (s : Site) (tag : ℕ) (body : List ℕ) (high : ℕ) → s.place ≤ high
    → opens (record_here s tag body).tag ≡ false → (s.place ≤ (record_here s tag body).start) × ((record_here s tag body).start ≤ high)
unfolding record_here
here-between s tag body high h = go (opens tag) refl
  where
    go : (b : Bool) → opens tag ≡ b → opens (record_here s tag body).tag ≡ false → (s.place ≤ (record_here s tag body).start) × ((record_here s tag body).start ≤ high)
    go true o q = absurd (false≢true (sym (rw o at q) ∙ o))
    go false o q = rw o (omega arith, h)

pub records-between : (t : Items) (s : Site) → Plain t → Between s.place (s.place + length (store_at s t)) (records_at s t)
unfolding records loaded_in below past share store_in
records-between end s p = tt
records-between (item tag at body x y) s p =
    let own = share q tag body x in
    let n = ap length (store-here q tag at body x y p.0) ∙ length-append own (store_in [] q y) in
    let later = records-between y (beyond s tag body x) p.3 in
    subst (Between s.place high) (sym (records-here s tag at body x y p)) (
      here-between s tag body high (omega arith),
      between-append s.place high (records_at (inner s tag) x) (records_at (beyond s tag body x) y)
          (within (opens tag) refl (records-between x (inner s tag) p.2))
          (between-wider (s.place + length own) (s.place + length own + length (store_in [] q y)) s.place high (omega arith) (omega arith)
          (records_at (beyond s tag body x) y) later),
    )
  where
    q : ℕ
    q = s.spot.parent

    high : ℕ
    high = s.place + length (store_in [] q (item tag at body x y))

    within : (b : Bool) → opens tag ≡ b → Between s.place (s.place + length (store_in [] tag x)) (records_at (inner s tag) x)
        → Between s.place high (records_at (inner s tag) x)
    within true o z =
        let n = ap length (store-held [] q tag at body x y p.0 o) ∙ length-append (store_in [] tag x) (store_in [] q y) in
        between-wider s.place (s.place + length (store_in [] tag x)) s.place high (omega arith) (omega arith) (records_at (inner s tag) x) z
    within false o z = subst (λ k. Between s.place high (records_at (inner s tag) k)) (end_is x (rw o at p.1)) tt
