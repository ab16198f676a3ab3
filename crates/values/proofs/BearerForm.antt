-- The ways through a bearer's methods, in the words of the code.
use mathlib.Core.Path.{◌≡◌, refl, sym, ap, ap₂, ◌∙◌}
use mathlib.Core.Bool.{Bool, true, false, cond, ◌||◌}
use mathlib.Core.List.{List, ◌++◌}
use Prim.Native.Nat.{ℕ, ◌+◌, ◌*◌, ◌/◌, ◌%◌, ◌^◌, ◌≤◌, ◌<◌}
use native.Mathlib.Omega.{arith}
use lib.Bits.{bit_and, bit_or, and_mask, or_shifted}
use lib.Dec.{eqb, leb}
use lib.ListN.{length, take, drop, get_or, set, length-drop, length-set}
use lib.Pow.{shl_exact}
use lib.Seq.{sets, length-sets, take_all}
use borrow.Author.Tests.{le-leb, lt-leb, leb-true, eq-eqb, ne_eqb}
use Rattle.octets.specs.Counts.{as_octets, size_of}
use Rattle.octets.specs.Numbers.{value, digits}
use Rattle.octets.proofs.Tests.{and_left, and_right, and-true}
use Rattle.octets.proofs.Lists.{sets-append}
use Rattle.values.specs.declared.Ensemble.{Ensemble}
use Rattle.std.specs.Prelude.{Option, Some, None}
use Rattle.values.specs.declared.Bearer.{Bearer}
use Rattle.values.specs.Bearers.{ecc_eid, ensemble_flag, long_sid_flag, ensemble_of, bearer_of, is_bearer, ensemble_bit, ensemble_octets, bearer_octets}
use Rattle.values.specs.Calls.{taken_bearer, bearer_in_range}
use Rattle.values.specs.Proper.{BearerOk, SidOk}
use Rattle.values.proofs.Laws.{bearer-size}

-- the fields fit their bits
module _ (b : Bearer) where
  pub valid-scids : 15 < b.scids → false ≡ bearer_in_range b
  unfolding bearer_in_range
  valid-scids h = rw (lt-leb b.scids 15 h) refl

  module _ (s : b.scids ≤ 15) where
    pub valid-long : b.long ≡ true → true ≡ bearer_in_range b
    unfolding bearer_in_range
    valid-long l = rw (le-leb b.scids 15 s, l) refl

    pub valid-wide : b.long ≡ false → 0xFFFF < b.sid → false ≡ bearer_in_range b
    unfolding bearer_in_range
    valid-wide l h = rw (le-leb b.scids 15 s, l, lt-leb b.sid 0xFFFF h) refl

    pub valid-short : b.long ≡ false → b.sid ≤ 0xFFFF → true ≡ bearer_in_range b
    unfolding bearer_in_range
    valid-short l h = rw (le-leb b.scids 15 s, l, le-leb b.sid 0xFFFF h) refl

pub ruleset valid-ways = (valid-scids, valid-long, valid-wide, valid-short)

-- ensembles
module _ (e : Option Ensemble) where
  pub absent-size : e ≡ None → 0 ≡ length (ensemble_octets e)
  unfolding ensemble_octets
  absent-size p = rw p refl

  pub absent-bit : e ≡ None → 0 ≡ ensemble_bit e
  unfolding ensemble_bit
  absent-bit p = rw p refl

  module _ (x : Ensemble) (p : e ≡ Some x) where
    pub present-size : 3 ≡ length (ensemble_octets e)
    unfolding ensemble_octets digits
    present-size = rw p refl

    pub present-bit : 64 ≡ ensemble_bit e
    unfolding ensemble_bit
    present-bit = rw p refl

-- the first octet
pub first-octet : (e : Option Ensemble) (l : Bool) (s p q r : ℕ) → s < 16 → p * 64 ≡ ensemble_bit e → p < 2 → q * 16 ≡ cond l 16 0 → q < 2
    → r ≡ bit_or (bit_or (p * 2 ^ 6 % 2 ^ 32) (q * 2 ^ 4 % 2 ^ 32)) s % 256 → r ≡ ensemble_bit e + cond l 16 0 + s
first-octet e l s p q r h pe pl qe ql f =
    let one : bit_or (p * 2 ^ 6 % 2 ^ 32) (q * 2 ^ 4 % 2 ^ 32) ≡ (p * 4 + q) * 2 ^ 4 =
    ap₂ bit_or (shl_exact 1 6 32 pl (omega arith)) (shl_exact 1 4 32 ql (omega arith)) ∙ or_shifted p 6 (q * 2 ^ 4) (omega arith) ∙ omega arith in
    let all : bit_or (bit_or (p * 2 ^ 6 % 2 ^ 32) (q * 2 ^ 4 % 2 ^ 32)) s ≡ (p * 4 + q) * 2 ^ 4 + s = ap (λ n. bit_or n s) one ∙ or_shifted (p * 4 + q) 4 s (omega arith) in
    omega (arith, f, all, pe, qe)

-- the size
module _ (b : Bearer) (m : ℕ) (e : m ≡ length (ensemble_octets b.ensemble)) where
  pub size-long : b.long ≡ true → as_octets (5 + m) ≡ size_of (bearer_octets b)
  size-long l = ap as_octets (omega (arith, e, bearer-size b, ap {B = ℕ} (λ x. cond x 4 2) l))

  pub size-short : b.long ≡ false → as_octets (3 + m) ≡ size_of (bearer_octets b)
  size-short l = ap as_octets (omega (arith, e, bearer-size b, ap {B = ℕ} (λ x. cond x 4 2) l))

-- an ensemble written
module _ (e : Option Ensemble) (out : List ℕ) (at : ℕ) where
  pub absent-end : e ≡ None → at ≡ at + length (ensemble_octets e)
  absent-end p = omega (arith, absent-size e p)

  pub absent-out : e ≡ None → out ≡ sets out at (ensemble_octets e)
  unfolding ensemble_octets
  absent-out p = rw p refl

  module _ (x : Ensemble) (p : e ≡ Some x) where
    pub present-room : at + length (ensemble_octets e) ≤ length out → at < length out
    present-room h = omega (arith, present-size e x p)

    pub present-rest : at + length (ensemble_octets e) ≤ length out → at + 1 + 2 ≤ length (set out at x.ecc)
    present-rest h = simp length-set (omega (arith, present-size e x p))

    pub present-end : at + 3 ≡ at + length (ensemble_octets e)
    present-end = omega (arith, present-size e x p)

    pub present-out : (after : List ℕ) → after ≡ sets (set out at x.ecc) (at + 1) (digits 2 x.eid) → after ≡ sets out at (ensemble_octets e)
    unfolding ensemble_octets
    present-out after z = rw p (z ∙ ap (λ k. sets (set out at x.ecc) k (digits 2 x.eid)) (omega arith))

pub ruleset ensemble-puts = (absent-end, absent-out, present-end, present-out)

-- a service id written
module _ (l : Bool) (sid : ℕ) (out : List ℕ) (at : ℕ) where
  pub long-room : l ≡ true → at + cond l 4 2 ≤ length out → at + 4 ≤ length out
  long-room y h = omega (arith, ap {B = ℕ} (λ x. cond x 4 2) y)

  pub short-room : l ≡ false → at + cond l 4 2 ≤ length out → at + 2 ≤ length out
  short-room y h = omega (arith, ap {B = ℕ} (λ x. cond x 4 2) y)

  pub short-sid : l ≡ false → l || leb sid 0xFFFF ≡ true → sid < 65536
  short-sid y h = let g : leb sid 0xFFFF ≡ true = rw y at h in omega (arith, leb-true sid 0xFFFF g)

  pub long-out : (after : List ℕ) → l ≡ true → after ≡ sets out at (digits 4 sid) → after ≡ sets out at (digits (cond l 4 2) sid)
  long-out after y z = rw y z

  pub short-out : (after : List ℕ) → l ≡ false → after ≡ sets out at (digits 2 sid) → after ≡ sets out at (digits (cond l 4 2) sid)
  short-out after y z = rw y z

pub ruleset sid-puts = (long-room, short-room, short-sid, long-out, short-out)

-- all octets of a bearer
module _ (b : Bearer) where
  pub scids-small : bearer_in_range b ≡ true → b.scids < 16
  unfolding bearer_in_range
  scids-small v = omega (arith, leb-true b.scids 15 (and_left (leb b.scids 15) (b.long || leb b.sid 0xFFFF) v))

  pub sid-small : bearer_in_range b ≡ true → b.long || leb b.sid 0xFFFF ≡ true
  unfolding bearer_in_range
  sid-small v = and_right (leb b.scids 15) (b.long || leb b.sid 0xFFFF) v

module _ (b : Bearer) (out : List ℕ) (at : ℕ) (h : at + length (bearer_octets b) ≤ length out) where
  abbrev E : List ℕ
  E = ensemble_octets b.ensemble

  pub first-room : at < length out
  first-room = omega (arith, bearer-size b)

  module _ (first : ℕ) where
    pub ensemble-room : at + 1 + length (ensemble_octets b.ensemble) ≤ length (set out at first)
    ensemble-room = simp length-set (omega (arith, bearer-size b))

    module _ (one : List ℕ) (p : one ≡ sets (set out at first) (at + 1) (ensemble_octets b.ensemble)) (k : ℕ) (q : k ≡ at + 1 + length (ensemble_octets b.ensemble)) where
      same : length one ≡ length out
      same = ap length p ∙ length-sets (set out at first) (at + 1) E ∙ length-set out at first

      pub sid-room : k + cond b.long 4 2 ≤ length one
      sid-room = omega (arith, same, q, bearer-size b)

      pub bearer-length : (two : List ℕ) → two ≡ sets one k (digits (cond b.long 4 2) b.sid) → length two ≡ length out
      bearer-length two z = ap length z ∙ length-sets one k (digits (cond b.long 4 2) b.sid) ∙ same

      pub bearer-stored : (two : List ℕ) → first ≡ ensemble_bit b.ensemble + cond b.long 16 0 + b.scids → two ≡ sets one k (digits (cond b.long 4 2) b.sid)
          → two ≡ sets out at (bearer_octets b)
      unfolding bearer_octets
      bearer-stored two f z =
          let D = digits (cond b.long 4 2) b.sid in
          z ∙ ap₂ (λ l n. sets l n D) p q ∙ sets-append (set out at first) (at + 1) E D
          ∙ ap₂ (λ n x. sets (set out at x) n (E ++ D)) (omega arith) f

-- a bearer taken from octets
pub taken-short : (s : List ℕ) → length s < 3 → None ≡ taken_bearer s
unfolding taken_bearer is_bearer
taken-short s h = rw (ne_eqb (length s) (3 + 3 * ensemble_flag s + 2 * long_sid_flag s) (λ e. omega arith)) refl

pub no-ensemble : (s : List ℕ) (present : ℕ) → present ≡ 0 → None ≡ cond (eqb present 1) (Some (ecc_eid (get_or s 1 0) (value (take 2 (drop 2 s))))) None
no-ensemble s present e = rw e refl

pub some-ensemble : (s : List ℕ) (present eid : ℕ) → present < 2 → (present ≡ 0 → ⊥) → eid ≡ value (take 2 (drop 2 s))
    → Some (ecc_eid (get_or s 1 0) eid) ≡ cond (eqb present 1) (Some (ecc_eid (get_or s 1 0) (value (take 2 (drop 2 s))))) None
some-ensemble s present eid h e f = let one : present ≡ 1 = omega arith in rw one (ap (λ i. Some (ecc_eid (get_or s 1 0) i)) f)

module _ (s : List ℕ) (present long : ℕ) (h : length s ≡ 3 + 3 * present + 2 * long) where
  pub sid-two : (r : ℕ) → long ≡ 0 → r ≡ value (take 2 (drop (1 + 3 * present) s)) → r ≡ value (drop (1 + 3 * present) s)
  sid-two r e f = f ∙ ap value (take_all 2 (drop (1 + 3 * present) s) (simp length-drop (omega arith)))

  pub sid-four : (r : ℕ) → long < 2 → (long ≡ 0 → ⊥) → r ≡ value (take 4 (drop (1 + 3 * present) s)) → r ≡ value (drop (1 + 3 * present) s)
  sid-four r l e f = f ∙ ap value (take_all 4 (drop (1 + 3 * present) s) (simp length-drop (omega arith)))

module _ (s : List ℕ) where
  abbrev first : ℕ
  first = get_or s 0 0

  ensemble-flag : bit_and (first / 2 ^ 6) 1 ≡ ensemble_flag s
  unfolding ensemble_flag
  ensemble-flag = and_mask (first / 2 ^ 6) 1

  long-flag : bit_and (first / 2 ^ 4) 1 ≡ long_sid_flag s
  unfolding long_sid_flag
  long-flag = and_mask (first / 2 ^ 4) 1

  pub taken-size : (length s ≡ 3 + 3 * bit_and (first / 2 ^ 6) 1 + 2 * bit_and (first / 2 ^ 4) 1 → ⊥) → None ≡ taken_bearer s
  unfolding taken_bearer is_bearer
  taken-size g = rw (ne_eqb (length s) (3 + 3 * ensemble_flag s + 2 * long_sid_flag s) (λ q. g (q ∙ ap₂ (λ x y. 3 + 3 * x + 2 * y) (sym ensemble-flag) (sym long-flag)))) refl

  pub taken-good : (m : Option Ensemble) (sid scids : ℕ) → length s ≡ 3 + 3 * bit_and (first / 2 ^ 6) 1 + 2 * bit_and (first / 2 ^ 4) 1
      → m ≡ cond (eqb (bit_and (first / 2 ^ 6) 1) 1) (Some (ecc_eid (get_or s 1 0) (value (take 2 (drop 2 s))))) None
      → sid ≡ value (drop (1 + 3 * bit_and (first / 2 ^ 6) 1) s) → scids ≡ bit_and first 15 % 256
      → Some (record { ensemble = m; long = eqb (bit_and (first / 2 ^ 4) 1) 1; sid = sid; scids = scids }) ≡ taken_bearer s
  unfolding taken_bearer is_bearer bearer_of ensemble_of
  taken-good m sid scids h p q r =
      let z : eqb (length s) (3 + 3 * ensemble_flag s + 2 * long_sid_flag s) ≡ true =
      eq-eqb (length s) (3 + 3 * ensemble_flag s + 2 * long_sid_flag s) (h ∙ ap₂ (λ x y. 3 + 3 * x + 2 * y) ensemble-flag long-flag) in
      let low : scids ≡ first % 16 = r ∙ ap (λ n. n % 256) (and_mask first 4) ∙ omega arith in
      rw z (λ i. Some (record {
        ensemble = (p ∙ ap (λ n. cond (eqb n 1) (Some (ecc_eid (get_or s 1 0) (value (take 2 (drop 2 s))))) None) ensemble-flag) i;
        long = eqb (long-flag i) 1;
        sid = (q ∙ ap (λ n. value (drop (1 + 3 * n) s)) ensemble-flag) i;
        scids = low i;
      }))

pub ruleset take-ways = (taken-short, taken-size, taken-good)

-- a bearer in range is one whose fields fit, and the other way round
pub ok-valid : (b : Bearer) → BearerOk b → bearer_in_range b ≡ true
unfolding bearer_in_range
ok-valid b ok =
    and-true (leb b.scids 15) (b.long || leb b.sid 0xFFFF) (le-leb b.scids 15 (omega (arith, ok.scids))) (go b.long ok.sid)
  where
    go : (l : Bool) → SidOk l b.sid → l || leb b.sid 0xFFFF ≡ true
    go true h = refl
    go false h = le-leb b.sid 0xFFFF (omega arith)
