-- Records laid over lists: one laying after another, the lengths and places that stay, and the record that then has a number: inside of what was laid the
-- record laid there, outside of it what the lists held.
use mathlib.Core.Path.{◌≡◌, refl, sym, ap, ◌∙◌}
use mathlib.Core.Logic.{◌≢◌}
use mathlib.Core.List.{List, [], ◌∷◌, ◌++◌}
use Prim.Native.Nat.{ℕ, zero, suc, ◌+◌, ◌≤◌, ◌<◌}
use native.Mathlib.Nat.{add-zero, add-suc, suc-add}
use native.Mathlib.Omega.{arith}
use lib.ListN.{length, get_or, length-set}
use lib.Seq.{get_or-set_same, get_or-set_other}
use borrow.Author.Tests.{lt-ltb, le-ltb}
use Rattle.format.specs.declared.Record.{Record}
use Rattle.format.specs.Writer.{tabled}
use Rattle.format.specs.Calls.{Lists, places, row, put, put_whole, lay}
use Rattle.format.specs.Lent.{Within}

-- ---- one laying after another
pub lay-none : (i : ℕ) (l : Lists) → lay i [] l ≡ l
unfolding lay
lay-none i l = refl

pub lay-append : (i : ℕ) (a b : List Record) (l : Lists) → lay i (a ++ b) l ≡ lay (i + length a) b (lay i a l)
unfolding lay
lay-append i [] b l = ap (λ k. lay k b l) (sym (add-zero i))
lay-append i (r ∷ a) b l = lay-append (suc i) a b (put i r l) ∙ ap (λ k. lay k b (lay (suc i) a (put i r l))) (suc-add i (length a) ∙ sym (add-suc i (length a)))

-- ---- two lists of lists of the same lengths
pub record SameLengths (l m : Lists) : Type 0 where
  pub tags : length m.tags ≡ length l.tags
  pub kinds : length m.kinds ≡ length l.kinds
  pub depths : length m.depths ≡ length l.depths
  pub parents : length m.parents ≡ length l.parents
  pub starts : length m.starts ≡ length l.starts
  pub sizes : length m.sizes ≡ length l.sizes

pub same-lengths-then : {l m n : Lists} → SameLengths l m → SameLengths m n → SameLengths l n
same-lengths-then s t = record { tags = t.tags ∙ s.tags; kinds = t.kinds ∙ s.kinds; depths = t.depths ∙ s.depths; parents = t.parents ∙ s.parents; starts = t.starts ∙ s.starts; sizes = t.sizes ∙ s.sizes }

pub put-lengths : (i : ℕ) (r : Record) (l : Lists) → SameLengths l (put i r l)
put-lengths i r l = record { tags = simp length-set; kinds = simp length-set; depths = simp length-set; parents = simp length-set; starts = simp length-set; sizes = simp length-set }

pub lay-lengths : (i : ℕ) (rs : List Record) (l : Lists) → SameLengths l (lay i rs l)
unfolding lay
lay-lengths i [] l = record { tags = refl; kinds = refl; depths = refl; parents = refl; starts = refl; sizes = refl }
lay-lengths i (r ∷ rs) l = same-lengths-then (put-lengths i r l) (lay-lengths (suc i) rs (put i r l))

pub places_same : {l m : Lists} → SameLengths l m → places m ≡ places l
unfolding places
places_same s = simp (s.tags, s.kinds, s.depths, s.parents, s.starts, s.sizes)

pub places-put : (i : ℕ) (r : Record) (l : Lists) → places (put i r l) ≡ places l
places-put i r l = places_same (put-lengths i r l)

pub places-lay : (i : ℕ) (rs : List Record) (l : Lists) → places (lay i rs l) ≡ places l
places-lay i rs l = places_same (lay-lengths i rs l)

-- a place is one that every list has
pub within-places : (i : ℕ) (l : Lists) → i < places l → Within i l
unfolding places
within-places i l h = omega arith

-- there a record is put whole
whole-put : (i : ℕ) (r : Record) (l : Lists) → i < places l → put_whole i r l ≡ put i r l
unfolding put_whole
whole-put i r l h = rw (lt-ltb i (places l) h)

pub put-there : (i : ℕ) (r s : Record) (l l' : Lists) → i < places l → r ≡ s → l' ≡ put_whole i r l → l' ≡ put i s l
put-there i r s l l' h e x = x ∙ ap (λ q. put_whole i q l) e ∙ whole-put i s l h

-- a number held against the places as they were counted
module _ (i n : ℕ) (l : Lists) (e : n ≡ places l) where
  pub within-counted : i < n → Within i l
  within-counted h = within-places i l (omega (arith, e))

  pub put-counted : (r : Record) → i < n → put i r l ≡ put_whole i r l
  put-counted r h = sym (whole-put i r l (omega (arith, e)))

  pub kept-counted : (r : Record) → n ≤ i → l ≡ put_whole i r l
  unfolding put_whole
  kept-counted r h = rw (le-ltb i (places l) (omega (arith, e)))

-- ---- the record of a number
same-record : (a b : Record) → a.tag ≡ b.tag → a.kind ≡ b.kind → a.depth ≡ b.depth → a.parent ≡ b.parent → a.start ≡ b.start → a.size ≡ b.size → a ≡ b
same-record a b p q r s t u = λ i. record { tag = p i; kind = q i; depth = r i; parent = s i; start = t i; size = u i }

pub row_put : (i : ℕ) (r : Record) (l : Lists) → i < places l → row (put i r l) i ≡ r
row_put i r l h =
    let w = within-places i l h in
    same-record _ _ (get_or-set_same l.tags i r.tag 0 w.tags) (get_or-set_same l.kinds i r.kind 0 w.kinds) (get_or-set_same l.depths i r.depth 0 w.depths)
    (get_or-set_same l.parents i r.parent 0 w.parents) (get_or-set_same l.starts i r.start 0 w.starts) (get_or-set_same l.sizes i r.size 0 w.sizes)

pub row-put-other : (i k : ℕ) (r : Record) (l : Lists) → k ≢ i → row (put i r l) k ≡ row l k
row-put-other i k r l h =
    same-record _ _ (get_or-set_other l.tags i k r.tag 0 h) (get_or-set_other l.kinds i k r.kind 0 h) (get_or-set_other l.depths i k r.depth 0 h)
    (get_or-set_other l.parents i k r.parent 0 h) (get_or-set_other l.starts i k r.start 0 h) (get_or-set_other l.sizes i k r.size 0 h)

pub row-lay-before : (i : ℕ) (rs : List Record) (l : Lists) (k : ℕ) → k < i → row (lay i rs l) k ≡ row l k
unfolding lay
row-lay-before i [] l k h = refl
row-lay-before i (r ∷ rs) l k h = row-lay-before (suc i) rs (put i r l) k (omega arith) ∙ row-put-other i k r l (λ e. omega arith)

pub row-lay-behind : (i : ℕ) (rs : List Record) (l : Lists) (k : ℕ) → i + length rs ≤ k → row (lay i rs l) k ≡ row l k
unfolding lay
row-lay-behind i [] l k h = refl
row-lay-behind i (r ∷ rs) l k h = row-lay-behind (suc i) rs (put i r l) k (omega arith) ∙ row-put-other i k r l (λ e. omega arith)

-- the first of the records laid, and each
pub row-lay-first : (i : ℕ) (r : Record) (rs : List Record) (l : Lists) → i < places l → row (lay i (r ∷ rs) l) i ≡ r
unfolding lay
row-lay-first i r rs l h = row-lay-before (suc i) rs (put i r l) i (omega arith) ∙ row_put i r l h

-- the records read back from where they were laid
pub tabled-lay : (i : ℕ) (rs : List Record) (l : Lists) → i + length rs ≤ places l → tabled (row (lay i rs l)) (length rs) i ≡ rs
unfolding lay tabled
tabled-lay i [] l h = refl
tabled-lay i (r ∷ rs) l h =
    let more : tabled (row (lay (suc i) rs (put i r l))) (length rs) (suc i) ≡ rs = tabled-lay (suc i) rs (put i r l) (rw (places-put i r l) (omega arith)) in
    λ j. row-lay-first i r rs l (omega arith) j ∷ more j

-- and by lists that are only known to be what was laid
pub tabled-laid : (rs : List Record) (l m : Lists) (n : ℕ) → m ≡ lay 0 rs l → n ≡ length rs → n ≤ places l → tabled (row m) n 0 ≡ rs
tabled-laid rs l m n e k h = rw (e, k) (tabled-lay 0 rs l (omega arith))

-- ---- rows as a list: one more at the end, and each
pub tabled-more : (row : ℕ → Record) (n i : ℕ) → tabled row (suc n) i ≡ tabled row n i ++ (row (i + n) ∷ [])
unfolding tabled
tabled-more row zero i = ap {B = List Record} (λ k. row k ∷ []) (sym (add-zero i))
tabled-more row (suc n) i =
    ap {B = List Record} (λ rs. row i ∷ rs) (tabled-more row n (suc i) ∙ ap {B = List Record} (λ k. tabled row n (suc i) ++ (row k ∷ [])) (suc-add i n ∙ sym (add-suc i n)))

pub get_d-tabled : (row : ℕ → Record) (n i k : ℕ) (d : Record) → k < n → get_or (tabled row n i) k d ≡ row (i + k)
unfolding tabled
get_d-tabled row zero i k d h = absurd (omega arith)
get_d-tabled row (suc n) i zero d h = ap row (sym (add-zero i))
get_d-tabled row (suc n) i (suc k) d h = get_d-tabled row n (suc i) k d (omega arith) ∙ ap row (suc-add i k ∙ sym (add-suc i k))

-- past its end a list of numbers has 0
pub get_d_beyond : (l : List ℕ) (i : ℕ) → length l ≤ i → 0 ≡ get_or l i 0
get_d_beyond [] i h = refl
get_d_beyond (a ∷ l) zero h = absurd (omega arith)
get_d_beyond (a ∷ l) (suc i) h = get_d_beyond l i (omega arith)

-- a record is told by its fields
pub row_told : (l : Lists) (i tag kind depth parent start size : ℕ) → tag ≡ get_or l.tags i 0 → kind ≡ get_or l.kinds i 0 → depth ≡ get_or l.depths i 0
    → parent ≡ get_or l.parents i 0 → start ≡ get_or l.starts i 0 → size ≡ get_or l.sizes i 0
    → record { tag = tag; kind = kind; depth = depth; parent = parent; start = start; size = size } ≡ row l i
row_told l i tag kind depth parent start size a b c d e f = cc
