-- What is counted and put, one part behind the other.
use Rattle.std.specs.Prelude.{Result}
use mathlib.Core.Path.{◌≡◌, refl, sym, ap, ap₂, ◌∙◌, subst}
use mathlib.Core.Bool.{Bool, true, false, cond, false≢true}
use mathlib.Core.List.{List, ◌∷◌, ◌++◌, append_assoc, append-nil}
use Prim.Native.Nat.{ℕ, suc, ◌+◌, ◌-◌, ◌^◌, ◌≤◌, min}
use native.Mathlib.Nat.{add-zero, zero-add, add_assoc}
use native.Mathlib.Omega.{arith}
use lib.Dec.{leb, ltb}
use lib.ListN.{length, take, drop, length-append}
use lib.Seq.{sets, length-sets}
use borrow.Author.Tests.{le-leb, leb-true, leb-false, lt-ltb}
use Rattle.octets.specs.Counts.{as_octets}
use Rattle.octets.specs.declared.counts.Octets.{Octets}
use Rattle.octets.specs.Puts.{put_out, Puts}
use Rattle.octets.specs.Header.{length_field, framed}
use Rattle.octets.specs.Places.{between, moved_up}
use Rattle.octets.proofs.Answers.{size-two, framed-length}
use Rattle.octets.proofs.Lists.{sets-append, sets-comm, sets-covered, part-of-sets}
use Rattle.octets.proofs.Upward.{moves-up, moved-long}
use Rattle.octets.specs.declared.PutError.{PutError}
use Rattle.merging.specs.declared.counting.Needs.{Needs}
use Rattle.merging.specs.Takes.{most, plus, Piece, empty, with, held, Adds, HeaderPut, ElementClosed}

-- ---- add

pub added : (n : Needs) (records store octets x y z : ℕ) → x ≡ min most (n.records + records) → y ≡ min most (n.store.0 + store) → z ≡ min most (n.octets.0 + octets)
    → record { records = x; store = as_octets y; octets = as_octets z } ≡ plus n records store octets
unfolding plus
added n records store octets x y z e f g = rw (e, f, g)

module _ (n m : Needs) (records store octets : ℕ) (e : m ≡ plus n records store octets) where
  pub records-sum : m.records ≡ min most (n.records + records)
  unfolding plus
  records-sum = ap (λ k. k.records) e

  pub store-sum : m.store.0 ≡ min most (n.store.0 + store)
  unfolding plus
  store-sum = ap (λ k. k.store.0) e

  pub octets-sum : m.octets.0 ≡ min most (n.octets.0 + octets)
  unfolding plus
  octets-sum = ap (λ k. k.octets.0) e

-- ---- the empty piece, and one behind the other

pub with-empty : (p : Piece) → with p empty ≡ p
unfolding with empty
with-empty p = rw (add-zero p.records, add-zero p.store, append-nil p.octets)

pub with-assoc : (p q r : Piece) → with (with p q) r ≡ with p (with q r)
unfolding with
with-assoc p q r = rw (add_assoc p.records q.records r.records, add_assoc p.store q.store r.store, append_assoc p.octets q.octets r.octets)

pub empty-with : (p : Piece) → with empty p ≡ p
unfolding with empty
empty-with p = rw (zero-add p.records, zero-add p.store)

pub adds_none : (emit : Bool) (n : Needs) (o : List ℕ) (r : Needs) → r ≡ plus n 0 0 0 → Adds emit empty n o o r
unfolding empty
adds_none emit n o r e = record {
  records = records-sum n r 0 0 0 e;
  store = store-sum n r 0 0 0 e;
  octets = octets-sum n r 0 0 0 e;
  holds = λ l. go emit;
  quiet = λ f. refl;
  long = refl;
}
  where
    go : (b : Bool) → o ≡ cond b o o
    go true = refl
    go false = refl

pub adds_same : (emit : Bool) (p q : Piece) (n : Needs) (a b : List ℕ) (r : Needs) → p ≡ q → Adds emit p n a b r → Adds emit q n a b r
adds_same emit p q n a b r e x = subst (λ y. Adds emit y n a b r) e x

module _ (emit : Bool) (p q : Piece) (n m r : Needs) (a b c : List ℕ) (u : Adds emit p n a b m) (v : Adds emit q m b c r) where
  both-put : (e : Bool) → b ≡ cond e (sets a n.octets.0 p.octets) a → c ≡ cond e (sets b (n.octets.0 + length p.octets) q.octets) b
      → c ≡ cond e (sets a n.octets.0 (p.octets ++ q.octets)) a
  both-put true x y = y ∙ ap (λ l. sets l (n.octets.0 + length p.octets) q.octets) x ∙ sets-append a n.octets.0 p.octets q.octets
  both-put false x y = y ∙ x

  pub adds_then : Adds emit (with p q) n a c r
  unfolding with
  adds_then =
      let ll = length-append p.octets q.octets in
      record {
        records = omega (arith, u.records, v.records);
        store = omega (arith, u.store, v.store);
        octets = omega (arith, u.octets, v.octets, ll);
        holds = λ l.
            let w : m.octets.0 ≡ n.octets.0 + length p.octets = omega (arith, u.octets, ll) in
            both-put emit (u.holds (omega (arith, ll))) (subst (λ k. c ≡ cond emit (sets b k q.octets) b) w (v.holds (omega (arith, u.octets, u.long, ll))));
        quiet = λ e. v.quiet e ∙ u.quiet e;
        long = v.long ∙ u.long;
      }

-- behind what was counted before and has its bound
pub adds-kept : (emit : Bool) (p : Piece) (n m r : Needs) (a b : List ℕ) → m ≡ plus n 0 0 0 → Adds emit p m a b r → Adds emit p n a b r
adds-kept emit p n m r a b e x = adds_same emit (with empty p) p n a b r (empty-with p) (adds_then emit empty p n m r a a b (adds_none emit n a m e) x)

pub adds-nothing : (emit : Bool) (n m : Needs) (o : List ℕ) → m ≡ plus n 0 0 0 → Adds emit empty m o o m
unfolding empty
adds-nothing emit n m o e =
    let x = records-sum n m 0 0 0 e in
    let y = store-sum n m 0 0 0 e in
    let z = octets-sum n m 0 0 0 e in
    record { records = omega arith; store = omega arith; octets = omega arith; holds = λ l. go emit; quiet = λ f. refl; long = refl }
  where
    go : (b : Bool) → o ≡ cond b o o
    go true = refl
    go false = refl

-- ---- a header

module _ (tag size at : ℕ) (before after : List ℕ) (answer : Result ℕ PutError) (p : Puts (ltb size (256 ^ 2)) (tag ∷ length_field size) at before after answer) where
  header-laid : at + suc (length (length_field size)) + size ≤ min (length before) 32_768 → after ≡ sets before at (tag ∷ length_field size)
  unfolding put_out
  header-laid l =
      let small : ltb size (256 ^ 2) ≡ true = lt-ltb size (256 ^ 2) (omega arith) in
      let inside : leb (at + suc (length (length_field size))) (length before) ≡ true = le-leb (at + suc (length (length_field size))) (length before) (omega arith) in
      p.leaves ∙ rw (small, inside)

  header-long : length after ≡ length before
  unfolding put_out
  header-long = ap length p.leaves ∙ go (ltb size (256 ^ 2)) (leb (at + suc (length (length_field size))) (length before))
    where
      go : (v f : Bool) → length (cond v (cond f (sets before at (tag ∷ length_field size)) before) before) ≡ length before
      go true true = length-sets before at (tag ∷ length_field size)
      go true false = refl
      go false f = refl

module _ (emit : Bool) (tag size : ℕ) (n : Needs) (before after : List ℕ) (h : Octets) (he : h ≡ as_octets (suc (length (length_field size)))) (r : Needs) (re : r ≡ plus n 1 0 h.0) where
  octets-are : r.octets.0 ≡ min most (n.octets.0 + suc (length (length_field size)))
  octets-are = octets-sum n r 1 0 h.0 re ∙ ap (λ k. min most (n.octets.0 + k.0)) he

  pub header-counted : emit ≡ false → HeaderPut emit tag size n before before r
  header-counted e = record { records = records-sum n r 1 0 h.0 re; store = store-sum n r 1 0 h.0 re; octets = octets-are; holds = λ l. rw e; quiet = λ f. refl; long = refl }

  pub header-put : emit ≡ true → (answer : Result ℕ PutError) → Puts (ltb size (256 ^ 2)) (tag ∷ length_field size) n.octets.0 before after answer → HeaderPut emit tag size n before after r
  header-put e answer p = record {
    records = records-sum n r 1 0 h.0 re;
    store = store-sum n r 1 0 h.0 re;
    octets = octets-are;
    holds = λ l. rw e (header-laid tag size n.octets.0 before after answer p l);
    quiet = λ f. absurd (false≢true (sym f ∙ e));
    long = header-long tag size n.octets.0 before after answer p;
  }

pub ruleset header-ways = (header-counted, header-put)

-- the body that comes behind it
module _ (emit : Bool) (tag size : ℕ) (p : Piece) (n m r : Needs) (a b c : List ℕ) (e : size ≡ min most (length p.octets)) (u : HeaderPut emit tag size n a b m) (v : Adds emit p m b c r) where
  abbrev body : List ℕ
  body = p.octets

  whole : length body ≤ most → size ≡ length body
  whole l = omega arith

  counted-octets : r.octets.0 ≡ min most (n.octets.0 + length (framed tag body))
  counted-octets = go (leb (length body) most) refl
    where
      go : (q : Bool) → leb (length body) most ≡ q → r.octets.0 ≡ min most (n.octets.0 + length (framed tag body))
      go true q =
          let w = whole (leb-true (length body) most q) in
          let k : m.octets.0 ≡ min most (n.octets.0 + suc (length (length_field (length body)))) = u.octets ∙ ap (λ s. min most (n.octets.0 + suc (length (length_field s)))) w in
          omega (arith, k, v.octets, framed-length tag body)
      go false q = omega (arith, leb-false (length body) most q, v.octets, framed-length tag body)

  laid : (emits : Bool) → b ≡ cond emits (sets a n.octets.0 (tag ∷ length_field (length body))) a → c ≡ cond emits (sets b (n.octets.0 + suc (length (length_field (length body)))) body) b
      → c ≡ cond emits (sets a n.octets.0 (framed tag body)) a
  unfolding framed
  laid true x y = y ∙ ap (λ l. sets l (n.octets.0 + suc (length (length_field (length body)))) body) x ∙ sets-append a n.octets.0 (tag ∷ length_field (length body)) body
  laid false x y = y ∙ x

  pub held-put : Adds emit (held tag p) n a c r
  unfolding held
  held-put = record {
    records = omega (arith, u.records, v.records);
    store = omega (arith, u.store, v.store);
    octets = counted-octets;
    holds = λ l.
        let fl = framed-length tag body in
        let w : size ≡ length body = whole (omega arith) in
        let w' : suc (length (length_field size)) ≡ suc (length (length_field (length body))) = ap (λ s. suc (length (length_field s))) w in
        let x = u.holds (omega (arith, w, w', fl)) in
        let place : m.octets.0 ≡ n.octets.0 + suc (length (length_field (length body))) = omega (arith, u.octets, w', fl) in
        let y = v.holds (omega (arith, place, u.long, fl)) in
        laid emit (subst (λ s. b ≡ cond emit (sets a n.octets.0 (tag ∷ length_field s)) a) w x) (subst (λ k. c ≡ cond emit (sets b k body) b) place y);
    quiet = λ f. v.quiet f ∙ u.quiet f;
    long = v.long ∙ u.long;
  }

-- ---- a header that comes before a body which was put as if it had two octets

-- what makes way for a header, and what lay there before, is covered
way-made : (a body header : List ℕ) (n more : ℕ) → length header ≡ 2 + more → sets (sets (sets a (n + 2) body) (n + 2 + more) body) n header ≡ sets a n (header ++ body)
way-made a body header n more e =
    let put = sets a (n + 2) body in
    let place : n + 2 + more ≡ n + length header = omega arith in
    ap (λ k. sets (sets put k body) n header) place ∙ sym (sets-comm put n header (n + length header) body (omega arith))
    ∙ sets-append put n header body ∙ sets-covered a (n + 2) body n (header ++ body) (omega arith) (omega (arith, length-append header body))

pub header-two : (size h : Octets) → h ≡ as_octets (suc (length (length_field size.0))) → 2 ≤ h.0
header-two size h e = omega (arith, size-two size.0, ap (λ k. k.0) e)

module _ (emit : Bool) (tag : ℕ) (n begun inside : Needs) (before : List ℕ) (size h : Octets) (se : size.0 ≡ inside.octets.0 - begun.octets.0)
    (he : h ≡ as_octets (suc (length (length_field size.0)))) (r : Needs) (re : r ≡ plus inside 0 0 (h.0 - 2)) where
  least : 2 ≤ h.0
  least = header-two size h he

  module _ (p : Piece) (first : List ℕ) (be : begun ≡ plus n 1 0 2) (u : Adds emit p begun first before inside) where
    abbrev own : List ℕ
    own = p.octets

    -- where no sum stopped, the size is that of the body
    sized : n.octets.0 + 2 + length own ≤ most → size.0 ≡ length own
    sized l = omega (arith, octets-sum n begun 1 0 2 be, u.octets, se)

    header_is : n.octets.0 + 2 + length own ≤ most → h.0 ≡ suc (length (length_field (length own)))
    header_is l = ap (λ k. k.0) he ∙ ap (λ s. suc (length (length_field s))) (sized l)

    closed-octets : r.octets.0 ≡ min most (n.octets.0 + length (framed tag own))
    closed-octets = go (leb (n.octets.0 + 2 + length own) most) refl
      where
        go : (q : Bool) → leb (n.octets.0 + 2 + length own) most ≡ q → r.octets.0 ≡ min most (n.octets.0 + length (framed tag own))
        go true q =
            let l = leb-true (n.octets.0 + 2 + length own) most q in
            omega (arith, l, header_is l, least, octets-sum n begun 1 0 2 be, u.octets, octets-sum inside r 0 0 (h.0 - 2) re, framed-length tag own)
        go false q =
            let l = leb-false (n.octets.0 + 2 + length own) most q in
            omega (arith, l, size-two (length own), octets-sum n begun 1 0 2 be, u.octets, octets-sum inside r 0 0 (h.0 - 2) re, framed-length tag own)

    closed-records : r.records ≡ min most (n.records + suc p.records)
    closed-records = omega (arith, records-sum n begun 1 0 2 be, u.records, records-sum inside r 0 0 (h.0 - 2) re)

    closed-store : r.store.0 ≡ min most (n.store.0 + p.store)
    closed-store = omega (arith, store-sum n begun 1 0 2 be, u.store, store-sum inside r 0 0 (h.0 - 2) re)

    module _ (e : emit ≡ true) (moved after : List ℕ) (m : moved ≡ moved_up before begun.octets.0 inside.octets.0 (h.0 - 2)) (answer : Result ℕ PutError)
        (q : Puts (ltb size.0 (256 ^ 2)) (tag ∷ length_field size.0) n.octets.0 moved after answer) where
      moved-as-long : length moved ≡ length first
      moved-as-long = ap length m ∙ moved-long before begun.octets.0 inside.octets.0 (h.0 - 2) ∙ u.long

      module _ (l : n.octets.0 + length (framed tag own) ≤ min (length first) 32_768) where
        abbrev at : ℕ
        at = n.octets.0

        abbrev more : ℕ
        more = h.0 - 2

        fits : at + 2 + length own ≤ most
        fits = omega (arith, framed-length tag own, size-two (length own))

        from : begun.octets.0 ≡ at + 2
        from = omega (arith, octets-sum n begun 1 0 2 be, fits)

        end : inside.octets.0 ≡ at + 2 + length own
        end = omega (arith, from, u.octets, fits)

        put : before ≡ sets first (at + 2) own
        put =
            let there = u.holds (omega (arith, from, framed-length tag own, size-two (length own))) in
            there ∙ rw e (ap (λ k. sets first k own) from)

        moves : moved ≡ sets (sets first (at + 2) own) (at + 2 + more) own
        moves =
            let size_is : inside.octets.0 - begun.octets.0 ≡ length own = omega (arith, from, end) in
            let room : inside.octets.0 + more ≤ length before = omega (arith, end, header_is fits, least, framed-length tag own, u.long) in
            let part : between before begun.octets.0 inside.octets.0 ≡ own =
            ap (λ k. take k (drop begun.octets.0 before)) size_is ∙ (ap₂ (λ k o. take (length own) (drop k o)) from put
            ∙ part-of-sets first (at + 2) own (omega (arith, framed-length tag own, size-two (length own)))) in
            m ∙ (moves-up before begun.octets.0 inside.octets.0 more (omega (arith, from, end)) room ∙ (ap (sets before (begun.octets.0 + more)) part
            ∙ ap₂ (λ k o. sets o (k + more) own) from put))

        closed-laid : after ≡ sets first at (framed tag own)
        unfolding framed
        closed-laid =
            let size_is = sized fits in
            let long-is : suc (length (length_field size.0)) ≡ h.0 = sym (ap (λ k. k.0) he) in
            let laid = header-laid tag size.0 at moved after answer q (omega (arith, size_is, long-is, header_is fits, framed-length tag own, moved-as-long)) in
            laid ∙ (ap₂ (λ o s. sets o at (tag ∷ length_field s)) moves size_is
            ∙ way-made first own (tag ∷ length_field (length own)) at more (omega (arith, header_is fits, least)))

      closed-with : Adds emit (held tag p) n first after r
      unfolding held
      closed-with = record {
        records = closed-records;
        store = closed-store;
        octets = closed-octets;
        holds = λ l. rw e (closed-laid l);
        quiet = λ f. absurd (false≢true (sym f ∙ e));
        long = header-long tag size.0 n.octets.0 moved after answer q ∙ moved-as-long;
      }

    closed-without : emit ≡ false → Adds emit (held tag p) n first before r
    unfolding held
    closed-without e = record {
      records = closed-records;
      store = closed-store;
      octets = closed-octets;
      holds = λ l. rw e (u.quiet e);
      quiet = u.quiet;
      long = u.long;
    }

  pub closed-counted : emit ≡ false → ElementClosed emit tag n begun inside before before r
  unfolding ElementClosed
  closed-counted e p first be u = closed-without p first be u e

  pub closed-put : emit ≡ true → (moved after : List ℕ) → moved ≡ moved_up before begun.octets.0 inside.octets.0 (h.0 - 2) → (answer : Result ℕ PutError)
      → Puts (ltb size.0 (256 ^ 2)) (tag ∷ length_field size.0) n.octets.0 moved after answer → ElementClosed emit tag n begun inside before after r
  unfolding ElementClosed
  closed-put e moved after m answer q p first be u = closed-with p first be u e moved after m answer q

pub ruleset closed-ways = (header-two, closed-counted, closed-put)
