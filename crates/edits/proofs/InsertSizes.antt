-- What an element takes that is put into a tree, and that all numbers stay small: records, by the normal form; parents, by the records; the element's part of the normal form.
use mathlib.Core.Path.{◌≡◌, refl, sym, ap, ◌∙◌, subst}
use mathlib.Core.Bool.{Bool, true, false, cond, false≢true}
use mathlib.Core.List.{List, [], ◌∷◌, ◌++◌, map}
use Prim.Native.Nat.{ℕ, zero, suc, ◌+◌, ◌*◌, ◌≤◌, ◌<◌}
use native.Mathlib.Omega.{arith}
use lib.ListN.{length, get_or}
use Rattle.octets.proofs.Answers.{size-two}
use Rattle.values.specs.Calls.{default_octets}
use Rattle.format.specs.declared.Record.{Record}
use Rattle.format.specs.Tree.{Items, count, records}
use Rattle.format.specs.Tree.Items.{end, item}
use Rattle.format.specs.Meaning.{opens, means, encode}
use Rattle.format.specs.Writer.{Spot, below, past, at_top, ruled}
use Rattle.format.specs.Loaded.{loaded_in}
use Rattle.format.proofs.Told.{Told}
use Rattle.format.proofs.Kept.{Ruled, ruled-parts, keeps-tag, end_is}
use Rattle.format.proofs.Tabled.{count-item}
use Rattle.format.proofs.Written.{Bytes, ruled-told}
use Rattle.format.proofs.Defaults.{own_defaults, own-none, own-few}
use Rattle.survey.specs.Normal.{framed_size, normal_size}
use Rattle.survey.proofs.NormalSizes.{size-whole}
use Rattle.state.specs.Order.{item_adds}
use Rattle.state.proofs.BodySizes.{body_size, size-open, size-item, open-counts}
use Rattle.edits.specs.Sites.{Site, inner, beyond, records_at, Swapped}
use Rattle.edits.specs.Sites.Swapped.{here, inside, after}
use Rattle.edits.proofs.Swaps.{Plain}
use Rattle.edits.proofs.Sites.{record_here, records-here}
use Rattle.edits.proofs.Extents.{here-open, here-shut}
use Rattle.edits.proofs.Climbing.{framed-more}

-- ---- records are no more than one and a half times the octets of the normal form: a default has a record and no octets, but an element has at most two
few-items : (t : Items) (s : Spot) → ruled s t ≡ true → Told [] s t → 2 * count t ≤ 3 * normal_size s.parent t + 2 * own_defaults s.parent t
unfolding count normal_size own_defaults below past framed_size
few-items end s r h = omega arith
few-items (item tag at body x y) s r h =
    let u = ruled-parts s tag at body x y r in
    let later = few-items y (past s tag) u.beside h.2 in
    let own = one (opens tag) refl (default_octets s.parent tag body) refl u (few-items x (below s tag) u.within h.1) in
    omega (arith, count-item tag at body x y (keeps-tag s tag body u.rules), size-item s tag at body x y u)
  where
    one : (o : Bool) → opens tag ≡ o → (d : Bool) → default_octets s.parent tag body ≡ d → Ruled s tag body x y
        → 2 * count x ≤ 3 * normal_size tag x + 2 * own_defaults tag x
        → 2 + 2 * count x ≤ 3 * item_adds s.parent tag body (body_size s.parent tag body x) + 2 * cond (default_octets s.parent tag body) 1 0
    one true o true d u below-it = absurd (false≢true (sym (open-counts s.parent tag body o) ∙ d))
    one true o false d u below-it =
        rw d (omega (arith, size-open s s.parent tag body x o u.within, size-two (body_size s.parent tag body x), own-few [] x (below s tag) h.1))
    one false o true d u below-it = let none : count x ≡ 0 = ap count (sym (end_is x (rw o at u.holder))) in rw d (omega arith)
    one false o false d u below-it =
        let none : count x ≡ 0 = ap count (sym (end_is x (rw o at u.holder))) in rw d (omega (arith, size-two (body_size s.parent tag body x)))

pub few-records : (t : Items) → Bytes t → ruled at_top t ≡ true → 2 * count t ≤ 3 * length (encode (means [] t))
unfolding at_top
few-records t bytes rules = omega (arith, few-items t at_top rules (ruled-told t at_top bytes rules), own-none t, size-whole t rules)

-- ---- what stands at a site is a part of the normal form
pub part-less : {s : Site} {t t' : Items} {h : Site} {u w : Items} → Swapped s t t' h u w → normal_size h.spot.parent w ≤ normal_size s.spot.parent t'
unfolding normal_size below past
part-less (here s t t') = omega arith
part-less (inside s tag at body x x' y h u w o v) = rw o (omega (arith, part-less v, framed-more (normal_size tag x')))
part-less (after s tag at body x y y' h u w v) = omega (arith, part-less v)

-- ---- parents are lower than the number of records
abbrev LowParents : ℕ → List Record → Type 0
LowParents n [] = Unit {0}
LowParents n (r ∷ rs) = (r.parent < n) × LowParents n rs

low-append : (n : ℕ) (a b : List Record) → LowParents n a → LowParents n b → LowParents n (a ++ b)
low-append n [] b p q = q
low-append n (r ∷ a) b p q = (p.0, low-append n a b p.1 q)

here-parent : (s : Site) (tag : ℕ) (body : List ℕ) → (record_here s tag body).parent ≡ s.up
here-parent s tag body = go (opens tag) refl
  where
    go : (b : Bool) → opens tag ≡ b → (record_here s tag body).parent ≡ s.up
    go true o = ap (λ r. r.parent) (here-open s tag body o)
    go false o = ap (λ r. r.parent) (here-shut s tag body o)

pub records-low : (t : Items) (s : Site) → Plain t → (n : ℕ) → s.up < n → s.number + count t ≤ n → LowParents n (records_at s t)
unfolding records loaded_in
records-low end s p n up low = tt
records-low (item tag at body x y) s p n up low =
    let c = count-item tag at body x y p.0 in
    subst (LowParents n) (sym (records-here s tag at body x y p)) (
      omega (arith, here-parent s tag body),
      low-append n (records_at (inner s tag) x) (records_at (beyond s tag body x) y)
          (records-low x (inner s tag) p.2 n (omega arith) (omega arith)) (records-low y (beyond s tag body x) p.3 n up (omega arith)),
    )

pub low-at : (n : ℕ) (rs : List Record) → LowParents n rs → 0 < n → (j : ℕ) → get_or (map (λ r. r.parent) rs) j 0 < n
low-at n [] p h j = h
low-at n (r ∷ rs) p h zero = p.0
low-at n (r ∷ rs) p h (suc j) = low-at n rs p.1 h j
