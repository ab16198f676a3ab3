-- Each item of an accepted object lies where its record says, and there are as many records as known items.
use mathlib.Core.Path.{◌≡◌, refl, sym, ap, ◌∙◌, subst}
use mathlib.Core.Bool.{Bool, true, false, cond}
use mathlib.Core.List.{List, [], ◌∷◌, ◌++◌, append_assoc, append-nil}
use Prim.Native.Nat.{ℕ, zero, suc, ◌+◌, ◌≤◌, ◌<◌}
use native.Mathlib.Omega.{arith}
use lib.Dec.{eqb}
use lib.ListN.{length, take, drop, get_or, length-append, take-append-drop, length-drop}
use lib.Seq.{take-append_seam, drop-append_seam, length-take-le}
use Rattle.octets.specs.Header.{header_size, body_size}
use Rattle.octets.specs.Places.{first_body, after_first}
use Rattle.format.specs.declared.Record.{Record}
use Rattle.format.specs.Tree.{Items, records, record_of, count, bodies_of}
use Rattle.format.specs.Tree.Items.{end, item}
use Rattle.format.specs.Judge.{Context, judge}
use Rattle.format.specs.Judge.Judged.{accepted}
use Rattle.format.proofs.Rules.{fitting}
use Rattle.format.proofs.Induction.{Cases, judged-all, Unbroken, in_at}

-- a list is the part of an object at an offset
abbrev pub Part : List ℕ → ℕ → List ℕ → Type 0
Part o at p = (pre : List ℕ) × (post : List ℕ) × (o ≡ pre ++ (p ++ post)) × (length pre ≡ at)

part-front : (o : List ℕ) (at : ℕ) (x y : List ℕ) → Part o at (x ++ y) → Part o at x
part-front o at x y p = (p.0, y ++ p.1, p.2 ∙ rw append_assoc, p.3)

part-back : (o : List ℕ) (at : ℕ) (x y : List ℕ) → Part o at (x ++ y) → Part o (at + length x) y
part-back o at x y p = (p.0 ++ x, p.1, p.2 ∙ simp append_assoc, simp length-append (omega (arith, p.3)))

part-take : (o : List ℕ) (at n : ℕ) (p : List ℕ) → Part o at p → Part o at (take n p)
part-take o at n p h = part-front o at (take n p) (drop n p) (rw (take-append-drop n p) h)

part-drop : (o : List ℕ) (at n : ℕ) (p : List ℕ) → n ≤ length p → Part o at p → Part o (at + n) (drop n p)
part-drop o at n p l h = subst (λ m. Part o (at + m) (drop n p)) (length-take-le n p l) (part-back o at (take n p) (drop n p) (rw (take-append-drop n p) h))

-- the span of a part
pub part-span : (o : List ℕ) (at : ℕ) (p : List ℕ) → Part o at p → (at + length p ≤ length o) × (take (length p) (drop at o) ≡ p)
part-span o at p h =
    let l : length o ≡ length h.0 + (length p + length h.1) = ap length h.2 ∙ simp length-append in (
      omega (arith, h.3),
      rw (h.2, ← h.3, drop-append_seam h.0 (p ++ h.1)) (take-append_seam p h.1),
    )

-- every item of a tree lies in the object
abbrev pub Located : List ℕ → Items → Type 0
Located o end = Unit {0}
Located o (item tag at body inside after) = Part o at body × Located o inside × Located o after

-- where an item's body and what comes after it lie
body-part : (o : List ℕ) (c : Context) (at tag : ℕ) (rest : List ℕ) → Unbroken c at tag rest → Part o at (tag ∷ rest) → Part o (in_at at (tag ∷ rest)) (first_body (tag ∷ rest))
body-part o c at tag rest q h =
    let p = tag ∷ rest in
    let f = fitting c at tag (header_size p) (body_size p) (suc (length rest)) (first_body p) q in
    part-take o (in_at at p) (body_size p) (drop (header_size p) p) (part-drop o at (header_size p) p f.header h)

later-part : (o : List ℕ) (c : Context) (at tag : ℕ) (rest : List ℕ) → Unbroken c at tag rest → Part o at (tag ∷ rest)
    → Part o (in_at at (tag ∷ rest) + body_size (tag ∷ rest)) (after_first (tag ∷ rest))
later-part o c at tag rest q h =
    let p = tag ∷ rest in
    let f = fitting c at tag (header_size p) (body_size p) (suc (length rest)) (first_body p) q in
    part-drop o (in_at at p) (body_size p) (drop (header_size p) p) (simp (length-drop (header_size p) p) (omega (arith, f.body))) (part-drop o at (header_size p) p f.header h)

abbrev Lies : List ℕ → Context → ℕ → List ℕ → Items → Type 0
Lies o c at part t = Part o at part → Located o t

lies-cases : (o : List ℕ) → Cases (Lies o)
lies-cases o = record {
  at_end = λ c at q h. tt;
  at_unknown = λ c at tag rest u q e later h. later (later-part o c at tag rest q h);
  at_element = λ c at tag rest s u q e inside later h. (body-part o c at tag rest q h, inside (body-part o c at tag rest q h), later (later-part o c at tag rest q h));
  at_leaf = λ c at tag rest u k q e l later h. (body-part o c at tag rest q h, tt, later (later-part o c at tag rest q h));
}

pub located : (o : List ℕ) (t : Items) → judge o ≡ accepted t → Located o t
located o t h = judged-all (Lies o) (lies-cases o) o t h ([], [], sym (append-nil o), refl)

-- there are as many records as known items, the token table apart
pub records-count : (t : Items) (depth parent n : ℕ) → length (records depth parent n t) ≡ count t
unfolding records count
records-count end depth parent n = refl
records-count (item tag at body inside after) depth parent n = go (records-count inside (depth + 1) n (n + 1)) (records-count after depth parent) (eqb tag 4)
  where
    go : length (records (depth + 1) n (n + 1) inside) ≡ count inside → ((m : ℕ) → length (records depth parent m after) ≡ count after) → (b : Bool)
        → length (cond b [] (record_of depth parent tag at body ∷ records (depth + 1) n (n + 1) inside) ++ records depth parent (cond b n (n + 1 + count inside)) after)
        ≡ cond b 0 (1 + count inside) + count after
    go p q true = q n ∙ omega arith
    go p q false = simp length-append (omega (arith, p, q (n + 1 + count inside)))

-- ---- the body of each record's item

-- records, and for each of them a body that lies where the record says
pub data Bodied (o : List ℕ) : List Record → List (List ℕ) → Type 0 where
  none : Bodied o [] []
  more : {r : Record} {b : List ℕ} {rs : List Record} {bs : List (List ℕ)} → Part o r.start b → r.size ≡ length b → Bodied o rs bs → Bodied o (r ∷ rs) (b ∷ bs)

bodied-append : {o : List ℕ} {rs ss : List Record} {bs cs : List (List ℕ)} → Bodied o rs bs → Bodied o ss cs → Bodied o (rs ++ ss) (bs ++ cs)
bodied-append none q = q
bodied-append (more p e h) q = more p e (bodied-append h q)

pub bodied-length : {o : List ℕ} {rs : List Record} {bs : List (List ℕ)} → Bodied o rs bs → length rs ≡ length bs
bodied-length none = refl
bodied-length (more p e h) = ap suc (bodied-length h)

-- the record of a number and the body of that number
pub bodied-at : {o : List ℕ} {rs : List Record} {bs : List (List ℕ)} → Bodied o rs bs → (i : ℕ) (d : Record) → i < length rs
    → Part o (get_or rs i d).start (get_or bs i []) × ((get_or rs i d).size ≡ length (get_or bs i []))
bodied-at none i d l = absurd (omega arith)
bodied-at (more p e h) zero d l = (p, e)
bodied-at (more p e h) (suc i) d l = bodied-at h i d (omega arith)

pub records-bodied : (o : List ℕ) (t : Items) → Located o t → (depth parent n : ℕ) → Bodied o (records depth parent n t) (bodies_of t)
unfolding records bodies_of
records-bodied o end l depth parent n = none
records-bodied o (item tag at body inside after) l depth parent n =
    go (records-bodied o inside l.1 (depth + 1) n (n + 1)) (records-bodied o after l.2 depth parent) (eqb tag 4)
  where
    go : Bodied o (records (depth + 1) n (n + 1) inside) (bodies_of inside) → ((m : ℕ) → Bodied o (records depth parent m after) (bodies_of after)) → (b : Bool)
        → Bodied o (cond b [] (record_of depth parent tag at body ∷ records (depth + 1) n (n + 1) inside) ++ records depth parent (cond b n (n + 1 + count inside)) after)
        (cond b [] (body ∷ bodies_of inside) ++ bodies_of after)
    go p q true = q n
    go p q false = more l.0 refl (bodied-append p (q (n + 1 + count inside)))
