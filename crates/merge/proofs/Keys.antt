-- Having the same merging key is an equivalence, whatever tells services apart.
use mathlib.Core.Path.{◌≡◌, refl, sym, ◌∙◌}
use mathlib.Core.Bool.{Bool, true, false, cond, not, ◌&&◌, ◌||◌, false≢true, or-true}
use mathlib.Core.Option.{Option, none, some}
use mathlib.Core.List.{List}
use Prim.Native.Nat.{ℕ}
use lib.Dec.{eqb}
use borrow.Author.Tests.{eqb-true, eq-eqb}
use Rattle.values.specs.Values.{Value, octets_of}
use Rattle.format.specs.Judge.{is_top}
use Rattle.format.specs.Meaning.{Meaning}
use Rattle.format.specs.Meaning.Meaning.{nothing, element, leaf}
use Rattle.format.specs.Same.{same_value, same_maybe}
use Rattle.octets.proofs.Tests.{and_left, and_right, and-true, or_elim, or_left}
use Rattle.format.proofs.Same.{same-octets, octets-same, octets-exactly}
use Rattle.merge.specs.declared.Services.{Services}
use Rattle.merge.specs.declared.Services.TheVariants.{ByTag, ByBearers}
use Rattle.merge.specs.Keys.{merges, key_attribute, same_attribute, has_bearer, bearers_in, same_service, same_key, partners}

pub value_same : (v : Option Value) → same_attribute v v ≡ true
unfolding same_maybe same_value
value_same none = refl
value_same (some v) = octets-same (octets_of v)

pub value-swap : (v w : Option Value) → same_attribute v w ≡ true → same_attribute w v ≡ true
unfolding same_maybe same_value
value-swap none none h = refl
value-swap none (some w) h = absurd (false≢true h)
value-swap (some v) none h = absurd (false≢true h)
value-swap (some v) (some w) h = (octets-exactly (octets_of w) (octets_of v)).1 (sym (same-octets (octets_of v) (octets_of w) h))

pub value-then : (u v w : Option Value) → same_attribute u v ≡ true → same_attribute v w ≡ true → same_attribute u w ≡ true
unfolding same_maybe same_value
value-then none none w h g = g
value-then none (some v) w h g = absurd (false≢true h)
value-then (some u) none w h g = absurd (false≢true h)
value-then (some u) (some v) none h g = absurd (false≢true g)
value-then (some u) (some v) (some w) h g =
    (octets-exactly (octets_of u) (octets_of w)).1 (same-octets (octets_of u) (octets_of v) h ∙ same-octets (octets_of v) (octets_of w) g)

-- ---- bearers

pub or_right : (a b : Bool) → b ≡ true → a || b ≡ true
or_right a b h = rw h (or-true a)

bearer-then : (v w : Option Value) (n : Meaning) → same_attribute v w ≡ true → has_bearer w n ≡ true → has_bearer v n ≡ true
unfolding has_bearer
bearer-then v w nothing e h = h
bearer-then v w (element tag f m c after) e h =
    or_elim (eqb tag 0x29 && same_attribute w (f 0x80)) (has_bearer w after)
    (λ q. or_left (eqb tag 0x29 && same_attribute v (f 0x80)) (has_bearer v after)
    (and-true (eqb tag 0x29) (same_attribute v (f 0x80)) (and_left (eqb tag 0x29) (same_attribute w (f 0x80)) q) (value-then v w (f 0x80) e (and_right (eqb tag 0x29) (same_attribute w (f 0x80)) q))))
    (λ q. or_right (eqb tag 0x29 && same_attribute v (f 0x80)) (has_bearer v after) (bearer-then v w after e q)) h
bearer-then v w (leaf tag o after) e h = bearer-then v w after e h

-- a bearer's id among the first, where each of these is among the second
bearer-in : (v : Option Value) (m n : Meaning) → has_bearer v m ≡ true → bearers_in m n ≡ true → has_bearer v n ≡ true
unfolding has_bearer bearers_in
bearer-in v nothing n h g = absurd (false≢true h)
bearer-in v (element tag f m c after) n h g =
    or_elim (eqb tag 0x29 && same_attribute v (f 0x80)) (has_bearer v after)
    (λ q. bearer-then v (f 0x80) n (and_right (eqb tag 0x29) (same_attribute v (f 0x80)) q)
    (there (eqb tag 0x29) (and_left (eqb tag 0x29) (same_attribute v (f 0x80)) q) (and_left (not (eqb tag 0x29) || has_bearer (f 0x80) n) (bearers_in after n) g)))
    (λ q. bearer-in v after n q (and_right (not (eqb tag 0x29) || has_bearer (f 0x80) n) (bearers_in after n) g)) h
  where
    there : (b : Bool) → b ≡ true → not b || has_bearer (f 0x80) n ≡ true → has_bearer (f 0x80) n ≡ true
    there true e q = q
    there false e q = absurd (false≢true e)
bearer-in v (leaf tag o after) n h g = bearer-in v after n h g

pub bearers-then : (l m n : Meaning) → bearers_in l m ≡ true → bearers_in m n ≡ true → bearers_in l n ≡ true
unfolding bearers_in
bearers-then nothing m n h g = refl
bearers-then (element tag f x c after) m n h g =
    and-true (not (eqb tag 0x29) || has_bearer (f 0x80) n) (bearers_in after n)
    (or_elim (not (eqb tag 0x29)) (has_bearer (f 0x80) m) (λ q. or_left (not (eqb tag 0x29)) (has_bearer (f 0x80) n) q)
    (λ q. or_right (not (eqb tag 0x29)) (has_bearer (f 0x80) n) (bearer-in (f 0x80) m n q g)) (and_left (not (eqb tag 0x29) || has_bearer (f 0x80) m) (bearers_in after m) h))
    (bearers-then after m n (and_right (not (eqb tag 0x29) || has_bearer (f 0x80) m) (bearers_in after m) h) g)
bearers-then (leaf tag o after) m n h g = bearers-then after m n h g

-- one more element before the second takes none away
bearer-more : (v : Option Value) (tag : ℕ) (f : ℕ → Option Value) (x : Meaning) (c : Option (List ℕ)) (n : Meaning) → has_bearer v n ≡ true → has_bearer v (element tag f x c n) ≡ true
unfolding has_bearer
bearer-more v tag f x c n h = or_right (eqb tag 0x29 && same_attribute v (f 0x80)) (has_bearer v n) h

bearers-more : (m : Meaning) (tag : ℕ) (f : ℕ → Option Value) (x : Meaning) (c : Option (List ℕ)) (n : Meaning) → bearers_in m n ≡ true → bearers_in m (element tag f x c n) ≡ true
unfolding bearers_in
bearers-more nothing tag f x c n h = refl
bearers-more (element t g y d after) tag f x c n h =
    and-true (not (eqb t 0x29) || has_bearer (g 0x80) (element tag f x c n)) (bearers_in after (element tag f x c n))
    (or_elim (not (eqb t 0x29)) (has_bearer (g 0x80) n) (λ q. or_left (not (eqb t 0x29)) (has_bearer (g 0x80) (element tag f x c n)) q)
    (λ q. or_right (not (eqb t 0x29)) (has_bearer (g 0x80) (element tag f x c n)) (bearer-more (g 0x80) tag f x c n q)) (and_left (not (eqb t 0x29) || has_bearer (g 0x80) n) (bearers_in after n) h))
    (bearers-more after tag f x c n (and_right (not (eqb t 0x29) || has_bearer (g 0x80) n) (bearers_in after n) h))
bearers-more (leaf t o after) tag f x c n h = bearers-more after tag f x c n h

bearers-leaf : (m : Meaning) (tag : ℕ) (o : List ℕ) (n : Meaning) → bearers_in m n ≡ true → bearers_in m (leaf tag o n) ≡ true
unfolding bearers_in has_bearer
bearers-leaf nothing tag o n h = refl
bearers-leaf (element t g y d after) tag o n h =
    and-true (not (eqb t 0x29) || has_bearer (g 0x80) n) (bearers_in after (leaf tag o n)) (and_left (not (eqb t 0x29) || has_bearer (g 0x80) n) (bearers_in after n) h)
    (bearers-leaf after tag o n (and_right (not (eqb t 0x29) || has_bearer (g 0x80) n) (bearers_in after n) h))
bearers-leaf (leaf t p after) tag o n h = bearers-leaf after tag o n h

pub bearers-same : (m : Meaning) → bearers_in m m ≡ true
unfolding bearers_in has_bearer
bearers-same nothing = refl
bearers-same (element tag f x c after) =
    and-true (not (eqb tag 0x29) || ((eqb tag 0x29 && same_attribute (f 0x80) (f 0x80)) || has_bearer (f 0x80) after)) (bearers_in after (element tag f x c after))
    (rw (value_same (f 0x80)) (go (eqb tag 0x29) (has_bearer (f 0x80) after))) (bearers-more after tag f x c after (bearers-same after))
  where
    go : (b e : Bool) → not b || ((b && true) || e) ≡ true
    go true e = refl
    go false e = refl
bearers-same (leaf tag o after) = bearers-leaf after tag o after (bearers-same after)

-- ---- services

service-same : (by : Services) (m : Meaning) → same_service by m m ≡ true
unfolding same_service
service-same ByTag m = refl
service-same ByBearers m = rw (bearers-same m)

service-swap : (by : Services) (m n : Meaning) → same_service by m n ≡ true → same_service by n m ≡ true
unfolding same_service
service-swap ByTag m n h = refl
service-swap ByBearers m n h = and-true (bearers_in n m) (bearers_in m n) (and_right (bearers_in m n) (bearers_in n m) h) (and_left (bearers_in m n) (bearers_in n m) h)

service-then : (by : Services) (l m n : Meaning) → same_service by l m ≡ true → same_service by m n ≡ true → same_service by l n ≡ true
unfolding same_service
service-then ByTag l m n p q = refl
service-then ByBearers l m n p q =
    and-true (bearers_in l n) (bearers_in n l)
    (bearers-then l m n (and_left (bearers_in l m) (bearers_in m l) p) (and_left (bearers_in m n) (bearers_in n m) q))
    (bearers-then n m l (and_right (bearers_in m n) (bearers_in n m) q) (and_right (bearers_in l m) (bearers_in m l) p))

-- ---- keys

pub key-same : (by : Services) (tag : ℕ) (f : ℕ → Option Value) (m : Meaning) → same_key by tag f f m m ≡ true
unfolding same_key
key-same by tag f m = rw (service-same by m, value_same (f (key_attribute tag))) (go (is_top tag) (eqb tag 0x28))
  where
    go : (b e : Bool) → cond b true (cond e true true) ≡ true
    go true e = refl
    go false true = refl
    go false false = refl

pub key-swap : (by : Services) (tag : ℕ) (f g : ℕ → Option Value) (m n : Meaning) → same_key by tag f g m n ≡ true → same_key by tag g f n m ≡ true
unfolding same_key
key-swap by tag f g m n h = go (is_top tag) (eqb tag 0x28) h
  where
    k : ℕ
    k = key_attribute tag

    go : (b e : Bool) → cond b true (cond e (same_service by m n) (same_attribute (f k) (g k))) ≡ true
        → cond b true (cond e (same_service by n m) (same_attribute (g k) (f k))) ≡ true
    go true e q = refl
    go false true q = service-swap by m n q
    go false false q = value-swap (f k) (g k) q

pub key-then : (by : Services) (tag : ℕ) (f g h : ℕ → Option Value) (l m n : Meaning) → same_key by tag f g l m ≡ true → same_key by tag g h m n ≡ true
    → same_key by tag f h l n ≡ true
unfolding same_key
key-then by tag f g h l m n p q = go (is_top tag) (eqb tag 0x28) p q
  where
    k : ℕ
    k = key_attribute tag

    go : (b e : Bool) → cond b true (cond e (same_service by l m) (same_attribute (f k) (g k))) ≡ true
        → cond b true (cond e (same_service by m n) (same_attribute (g k) (h k))) ≡ true
        → cond b true (cond e (same_service by l n) (same_attribute (f k) (h k))) ≡ true
    go true e p q = refl
    go false true p q = service-then by l m n p q
    go false false p q = value-then (f k) (g k) (h k) p q

-- partners: what it takes, and that it is an equivalence among elements that can have a partner
pub record Partners (by : Services) (tag tag' : ℕ) (f g : ℕ → Option Value) (m n : Meaning) : Type 0 where
  pub can : merges tag ≡ true
  pub tags : tag ≡ tag'
  pub keys : same_key by tag f g m n ≡ true

pub partners-parts : (by : Services) (tag tag' : ℕ) (f g : ℕ → Option Value) (m n : Meaning) → partners by tag tag' f g m n ≡ true → Partners by tag tag' f g m n
unfolding partners
partners-parts by tag tag' f g m n h =
    let k = same_key by tag f g m n in
    let both = and_left (merges tag && eqb tag tag') k h in
    record { can = and_left (merges tag) (eqb tag tag') both; tags = eqb-true tag tag' (and_right (merges tag) (eqb tag tag') both); keys = and_right (merges tag && eqb tag tag') k h }

pub parts-partners : (by : Services) (tag tag' : ℕ) (f g : ℕ → Option Value) (m n : Meaning) → Partners by tag tag' f g m n → partners by tag tag' f g m n ≡ true
unfolding partners
parts-partners by tag tag' f g m n p = rw (p.can, eq-eqb tag tag' p.tags, p.keys)

pub partners-same : (by : Services) (tag : ℕ) (f : ℕ → Option Value) (m : Meaning) → merges tag ≡ true → partners by tag tag f f m m ≡ true
partners-same by tag f m h = parts-partners by tag tag f f m m (record { can = h; tags = refl; keys = key-same by tag f m })

pub partners-swap : (by : Services) (tag tag' : ℕ) (f g : ℕ → Option Value) (m n : Meaning) → partners by tag tag' f g m n ≡ true → partners by tag' tag g f n m ≡ true
partners-swap by tag tag' f g m n h =
    let p = partners-parts by tag tag' f g m n h in
    parts-partners by tag' tag g f n m (record { can = rw p.tags at p.can; tags = sym p.tags; keys = key-swap by tag' f g m n (rw p.tags at p.keys) })

pub partners-then : (by : Services) (tag tag' tag'' : ℕ) (f g h : ℕ → Option Value) (l m n : Meaning) → partners by tag tag' f g l m ≡ true → partners by tag' tag'' g h m n ≡ true
    → partners by tag tag'' f h l n ≡ true
partners-then by tag tag' tag'' f g h l m n a b =
    let p = partners-parts by tag tag' f g l m a in
    let q = partners-parts by tag' tag'' g h m n b in
    parts-partners by tag tag'' f h l n (record { can = p.can; tags = p.tags ∙ q.tags; keys = key-then by tag f g h l m n p.keys (rw (← p.tags) at q.keys) })
