-- Items framed in normal form: octets that begin with one, and the attributes of an element by rising tag.
use mathlib.Core.Path.{◌≡◌, refl, sym, ap, ap₂, ◌∙◌, subst}
use mathlib.Core.Bool.{Bool, true, false, cond}
use mathlib.Core.Option.{Option, none, some}
use mathlib.Core.List.{List, [], ◌∷◌, ◌++◌, append_assoc}
use Prim.Native.Nat.{ℕ, zero, suc, ◌+◌, ◌-◌, ◌^◌, ◌≤◌, ◌<◌}
use native.Mathlib.Nat.{zero-add}
use native.Mathlib.Omega.{arith}
use lib.Dec.{eqb, leb}
use lib.ListN.{length, take, drop, get_or, length-drop, take-append-drop}
use lib.Seq.{length-take-le}
use borrow.Author.Tests.{eqb-true, eqb-false, eq-eqb, leb-true, le-leb}
use Rattle.octets.specs.Numbers.{value, digits, Octets}
use Rattle.octets.specs.Header.{header_size, body_size, length_field, framed}
use Rattle.octets.specs.Places.{is_whole, first_body, after_first}
use Rattle.octets.proofs.Numbers.{digits_value, octets-take}
use Rattle.octets.proofs.Answers.{size-four}
use Rattle.octets.proofs.Frames.{header-two, headed, behind, split, framed-behind}
use Rattle.values.specs.Values.{Value, octets_of}
use Rattle.format.specs.Meaning.{maybe, rising}
use Rattle.compare.specs.Normal.{is_shortest}

-- ---- octets that begin with a framed item

pub record Framing (s : List ℕ) (tag : ℕ) (body later : List ℕ) : Type 0 where
  pub whole : is_whole s ≡ true
  pub shortest : is_shortest s ≡ true
  pub inside : first_body s ≡ body
  pub after : after_first s ≡ later

begun : (tag : ℕ) (body later : List ℕ) → length body < 256 ^ 2 → Framing (tag ∷ behind body later) tag body later
unfolding is_shortest headed
begun tag body later h =
    let k = split tag body later h in
    record {
      whole = le-leb (header_size (tag ∷ behind body later) + body_size (tag ∷ behind body later)) (suc (length (behind body later))) (omega (arith, k.header, k.size, k.room));
      shortest = rw (k.header, k.size) (eq-eqb (headed (length body)) (suc (length (length_field (length body)))) refl);
      inside = rw (k.size, k.header) k.inside;
      after = rw (k.size, k.header) k.after;
    }

pub framing : (s : List ℕ) (tag : ℕ) (body later : List ℕ) → length body < 256 ^ 2 → s ≡ framed tag body ++ later → Framing s tag body later
framing s tag body later h e = subst (λ x. Framing x tag body later) (sym (e ∙ framed-behind tag body later)) (begun tag body later h)

-- the other way: a header of the size that is written is the one that is written. One of five octets never is
module _ (tag b : ℕ) (bs : List ℕ) (os : Octets (tag ∷ b ∷ bs)) where
  later-octets : Octets bs
  later-octets i = os (suc (suc i))

  number-front : (n : ℕ) → n ≤ length bs → digits n (value (take n bs)) ≡ take n bs
  number-front n h = ap (λ w. digits w (value (take n bs))) (sym (length-take-le n bs h)) ∙ digits_value (take n bs) (octets-take n bs later-octets)

  long : (n : ℕ) → 4 ≡ suc (length (length_field n)) → length_field n ≡ 0xFE ∷ digits 2 n
  unfolding length_field
  long n e = go (leb n 0xFD) e
    where
      go : (x : Bool) → 4 ≡ suc (length (cond x (n ∷ []) (0xFE ∷ digits 2 n))) → cond x (n ∷ []) (0xFE ∷ digits 2 n) ≡ 0xFE ∷ digits 2 n
      go true q = absurd (omega arith)
      go false q = refl

  short : (n : ℕ) → n ≤ 0xFD → length_field n ≡ n ∷ []
  unfolding length_field
  short n h = rw (le-leb n 0xFD h)

  front : header_size (tag ∷ b ∷ bs) ≤ length (tag ∷ b ∷ bs) → header_size (tag ∷ b ∷ bs) ≡ suc (length (length_field (body_size (tag ∷ b ∷ bs))))
      → take (header_size (tag ∷ b ∷ bs)) (tag ∷ b ∷ bs) ≡ tag ∷ length_field (body_size (tag ∷ b ∷ bs))
  unfolding header_size body_size
  front r e = go (eqb b 0xFE) refl (eqb b 0xFF) refl
    where
      go : (x : Bool) → eqb b 0xFE ≡ x → (y : Bool) → eqb b 0xFF ≡ y
          → take (header_size (tag ∷ b ∷ bs)) (tag ∷ b ∷ bs) ≡ tag ∷ length_field (body_size (tag ∷ b ∷ bs))
      go true p y q =
          let h : 2 ≤ length bs = let g : 4 ≤ suc (suc (length bs)) = rw p at r in omega arith in
          let m = long (value (take 2 bs)) (rw p at e) in
          rw p (ap₂ (λ k o. tag ∷ k ∷ o) (eqb-true b 0xFE p) (sym (number-front 2 h)) ∙ ap (λ o. tag ∷ o) (sym m))
      go false p true q =
          let n = value (take 3 bs) in
          let m : 5 ≡ suc (length (length_field n)) = rw (p, q) at e in
          absurd (omega (arith, size-four n))
      go false p false q = rw (p, q) (ap (λ o. tag ∷ o) (sym (short b (omega (arith, os 1, eqb-false b 0xFE p, eqb-false b 0xFF q)))))

fronted : (s : List ℕ) → Octets s → header_size s ≤ length s → is_shortest s ≡ true → take (header_size s) s ≡ get_or s 0 0 ∷ length_field (body_size s)
unfolding is_shortest
fronted [] os r e = absurd (omega (arith, header-two []))
fronted (tag ∷ []) os r e = absurd (omega (arith, header-two (tag ∷ [])))
fronted (tag ∷ b ∷ bs) os r e = front tag b bs os r (eqb-true _ _ e)

pub framed-back : (s : List ℕ) → Octets s → is_whole s ≡ true → is_shortest s ≡ true → s ≡ framed (get_or s 0 0) (first_body s) ++ after_first s
unfolding framed
framed-back s os w e =
    let l = leb-true (header_size s + body_size s) (length s) w in
    let h : header_size s ≤ length s = omega arith in
    let d : body_size s ≤ length (drop (header_size s) s) = omega (arith, length-drop (header_size s) s) in
    let n : length (first_body s) ≡ body_size s = length-take-le (body_size s) (drop (header_size s) s) d in
    sym (take-append-drop (header_size s) s) ∙ ap (λ o. o ++ drop (header_size s) s) (fronted s os h e)
    ∙ ap (λ o. get_or s 0 0 ∷ length_field (body_size s) ++ o) (sym (take-append-drop (body_size s) (drop (header_size s) s)))
    ∙ ap (λ o. get_or s 0 0 ∷ o) (sym (append_assoc (length_field (body_size s)) (first_body s) (after_first s)))
    ∙ ap (λ k. get_or s 0 0 ∷ (length_field k ++ first_body s) ++ after_first s) (sym n)

-- ---- attributes by rising tag

-- over tags that have none
rising-skip : (j n tag : ℕ) (f : ℕ → Option Value) → ((a : ℕ) → tag ≤ a → a < tag + j → f a ≡ none) → rising (j + n) tag f ≡ rising n (tag + j) f
unfolding rising maybe
rising-skip zero n tag f h = ap₂ (λ a b. rising a b f) (zero-add n) (let e : tag ≡ tag + 0 = omega arith in e)
rising-skip (suc j) n tag f h =
    let e : suc j + n ≡ suc (j + n) = omega arith in
    let d : suc tag + j ≡ tag + suc j = omega arith in
    ap (λ k. rising k tag f) e ∙ rw (h tag (omega arith) (omega arith)) (rising-skip j n (suc tag) f (λ a l m. h a (omega arith) (omega arith)) ∙ ap (λ k. rising n k f) d)

-- the first attribute behind a tag is this one
pub rising-first : (last tag : ℕ) (f : ℕ → Option Value) (v : Value) → last < tag → tag < 256 → ((a : ℕ) → last < a → a < tag → f a ≡ none) → f tag ≡ some v
    → rising (255 - last) (suc last) f ≡ framed tag (octets_of v) ++ rising (255 - tag) (suc tag) f
unfolding rising maybe
rising-first last tag f v l m h e =
    let n : 255 - last ≡ (tag - suc last) + suc (255 - tag) = omega arith in
    let d : suc last + (tag - suc last) ≡ tag = omega arith in
    ap (λ k. rising k (suc last) f) n ∙ rising-skip (tag - suc last) (suc (255 - tag)) (suc last) f (λ a x y. h a (omega arith) (omega arith))
    ∙ ap (λ k. rising (suc (255 - tag)) k f) d ∙ rw e

-- which attribute comes first from a tag on
pub data First (n tag : ℕ) (f : ℕ → Option Value) : Type 0 where
  missing : ((a : ℕ) → tag ≤ a → a < tag + n → f a ≡ none) → First n tag f
  found : (b : ℕ) (v : Value) → tag ≤ b → b < tag + n → ((a : ℕ) → tag ≤ a → a < b → f a ≡ none) → f b ≡ some v → First n tag f

first-here : (n tag : ℕ) (f : ℕ → Option Value) (v : Value) → f tag ≡ some v → First (suc n) tag f
first-here n tag f v e = found tag v (omega arith) (omega arith) (λ a l m. absurd (omega arith)) e

one_more : (tag : ℕ) (f : ℕ → Option Value) → f tag ≡ none → (a : ℕ) → tag ≤ a → (suc tag ≤ a → f a ≡ none) → f a ≡ none
one_more tag f e a l later = go (eqb tag a) refl
  where
    go : (b : Bool) → eqb tag a ≡ b → f a ≡ none
    go true q = ap f (sym (eqb-true tag a q)) ∙ e
    go false q = let d : tag ≡ a → ⊥ = eqb-false tag a q in later (omega arith)

first-later : (n tag : ℕ) (f : ℕ → Option Value) → f tag ≡ none → First n (suc tag) f → First (suc n) tag f
first-later n tag f e (missing h) = missing (λ a l m. one_more tag f e a l (λ k. h a k (omega arith)))
first-later n tag f e (found b v l m h q) = found b v (omega arith) (omega arith) (λ a x y. one_more tag f e a x (λ k. h a k y)) q

pub first_of : (n tag : ℕ) (f : ℕ → Option Value) → First n tag f
first_of zero tag f = missing (λ a l m. absurd (omega arith))
first_of (suc n) tag f = go (f tag) refl (first_of n (suc tag) f)
  where
    go : (o : Option Value) → f tag ≡ o → First n (suc tag) f → First (suc n) tag f
    go none e r = first-later n tag f e r
    go (some v) e r = first-here n tag f v e
