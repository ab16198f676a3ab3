-- What callers of this crate cite: what an answer says of the octets, and what normal octets are.
use mathlib.Core.Path.{◌≡◌, refl, sym, ap, ◌∙◌}
use mathlib.Core.Bool.{Bool, true, false, cond, false≢true, and-false, and-true as and_yes}
use mathlib.Core.Option.{Option as Maybe, none, some}
use mathlib.Core.List.{List, []}
use Prim.Native.Nat.{ℕ, suc, ◌+◌, ◌*◌, ◌/◌, ◌%◌, ◌^◌, ◌≤◌, ◌<◌}
use native.Mathlib.Nat.{mod-lt, zero-mul}
use native.Mathlib.Omega.{arith}
use lib.Dec.{eqb}
use lib.ListN.{length, get_or, take, drop, length-append}
use borrow.Author.Tests.{eqb-true, eqb-false, eq-eqb}
use Rattle.octets.specs.declared.counts.Octets.{Octets as OctetCount}
use Rattle.octets.specs.Numbers.{value, digits, Octets}
use Rattle.octets.proofs.Numbers.{digits_value, length_digits}
use Rattle.octets.proofs.Tests.{and_left, chosen, not_chosen, never}
use Rattle.text.specs.Tokens.{Entries, expanded}
use Rattle.text.proofs.Words.{expanded-empty}
use Rattle.values.specs.declared.Kind.{Kind}
use Rattle.values.specs.declared.Kind.TheVariants.{HoldsItems, HoldsTokens, HoldsText, HoldsPlain, HoldsTime, HoldsBearer, HoldsNumber}
use Rattle.values.specs.declared.NumberKind.{NumberKind}
use Rattle.std.specs.Prelude.{Option, Some, None, Result, Ok, Err}
use Rattle.values.specs.declared.Time.{Time}
use Rattle.values.specs.declared.TimeError.{TimeError}
use Rattle.values.specs.declared.Bearer.{Bearer}
use Rattle.values.specs.Table.{known}
use Rattle.values.specs.Times.{bits, long_flag, offset_flag, offset_octet, time_of, in_range}
use Rattle.values.specs.Times.{is_time, wrong_time, error_of, number_of, canonical, sign, time_octets}
use Rattle.values.specs.Bearers.{ecc_eid, ensemble_flag, long_sid_flag, ensemble_of, bearer_of, is_bearer, ensemble_octets, bearer_octets}
use Rattle.values.specs.Values.{width, fits, meant, octets_of}
use Rattle.values.specs.Values.Value.{octets, number, time, bearer}
use Rattle.values.specs.Proper.{TimeOk, BearerOk}
use Rattle.values.specs.Calls.{as_known, known_kind, taken_time, taken_bearer, normal_octets, normal_size}
use Rattle.values.proofs.Fields.{field-back}
use Rattle.values.proofs.Times.{time-means, time-fits, time-ok, time-size, sign_le}
use Rattle.values.proofs.Bearers.{bearer-means, bearer-fits, bearer-ok}

-- what a lookup's answer says of the kind, and of the table
pub as-known : (o : Maybe Kind) (k : Kind) → as_known o ≡ Some k → o ≡ some k
unfolding as_known
as-known none k q = never (cc)
as-known (some l) k q = cc

pub as-unknown : (o : Maybe Kind) → as_known o ≡ None → o ≡ none
unfolding as_known
as-unknown none q = refl
as-unknown (some l) q = never (cc)

module _ (parent tag : ℕ) (r : Option Kind) (e : r ≡ known_kind parent tag) where
  pub known-kind : (k : Kind) → r ≡ Some k → known parent tag ≡ some k
  unfolding known_kind
  known-kind k g = as-known (known parent tag) k (sym e ∙ g)

  pub unknown-kind : r ≡ None → known parent tag ≡ none
  unfolding known_kind
  unknown-kind g = as-unknown (known parent tag) (sym e ∙ g)

-- a time that was taken is what the octets mean, and octets that gave none are no time
pub record TimeTaken (s : List ℕ) (t : Time) : Type 0 where
  pub fit : is_time s ≡ true
  pub means : t ≡ time_of s

module _ (s : List ℕ) (r : Result Time TimeError) (e : r ≡ taken_time s) where
  pub time-taken : (t : Time) → r ≡ Ok t → TimeTaken s t
  unfolding taken_time
  time-taken t g = let w = chosen (is_time s) (sym g ∙ e) (λ q. never (cc)) in record { fit = w.0; means = cc w.1 }

  module _ (x : TimeError) (g : r ≡ Err x) where
    refused : (is_time s ≡ false) × (r ≡ Err (error_of (wrong_time s)))
    unfolding taken_time
    refused = let w = not_chosen (is_time s) (sym g ∙ e) (λ q. never (cc)) in (w.0, g ∙ w.1)

    pub time-refused : is_time s ≡ false
    time-refused = refused.0

    pub time-wrong : (n : ℕ) → n ≡ number_of x → n ≡ wrong_time s
    time-wrong n q = let k : x ≡ error_of (wrong_time s) = cc refused.1 in q ∙ ap number_of k ∙ field-back s time-refused

-- the same of bearers
pub record BearerTaken (s : List ℕ) (b : Bearer) : Type 0 where
  pub fit : is_bearer s ≡ true
  pub means : b ≡ bearer_of s

module _ (s : List ℕ) (r : Option Bearer) (e : r ≡ taken_bearer s) where
  pub bearer-taken : (b : Bearer) → r ≡ Some b → BearerTaken s b
  unfolding taken_bearer
  bearer-taken b g = let w = chosen (is_bearer s) (sym g ∙ e) (λ q. never (cc)) in record { fit = w.0; means = cc w.1 }

  pub bearer-refused : r ≡ None → is_bearer s ≡ false
  unfolding taken_bearer
  bearer-refused g = (not_chosen (is_bearer s) (sym g ∙ e) (λ q. never (cc))).0

-- canonical form: the same octets, and what they are read as
pub canonical-octets : (t : Time) → time_octets (canonical t) ≡ time_octets t
unfolding canonical time_octets
canonical-octets t = go (eqb t.halves 0) refl
  where
    go : (z : Bool) → eqb t.halves 0 ≡ z → time_octets (canonical t) ≡ time_octets t
    go true e = rw e refl
    go false e = rw (e, and_yes t.minus) refl

pub canonical-ok : (t : Time) → in_range t ≡ true → TimeOk (canonical t)
unfolding canonical in_range
canonical-ok t h = record { range = h; minus = λ e. rw (eq-eqb t.halves 0 e) (and-false t.minus) }

pub time-round : (t : Time) → in_range t ≡ true → taken_time (time_octets t) ≡ Ok (canonical t)
unfolding taken_time
time-round t h =
    let ok = canonical-ok t h in
    ap taken_time (sym (canonical-octets t)) ∙ rw (time-fits (canonical t) ok) (ap Ok (time-means (canonical t) ok))

pub bearer-round : (b : Bearer) → BearerOk b → taken_bearer (bearer_octets b) ≡ Some b
unfolding taken_bearer
bearer-round b ok = rw (bearer-fits b ok) (ap Some (bearer-means b ok))

-- what the answer on a normal size says of the octets
pub record Sized (k : Kind) (s : List ℕ) (n : ℕ) : Type 0 where
  pub fit : fits k s ≡ true
  pub size : n ≡ length (normal_octets k s)

module _ (k : Kind) (s : List ℕ) (r : Option OctetCount) (e : r ≡ normal_size k s) where
  pub normal-sized : (n : OctetCount) → r ≡ Some n → Sized k s n.0
  unfolding normal_size
  normal-sized n g = let w = chosen (fits k s) (sym g ∙ e) (λ q. never (cc)) in record { fit = w.0; size = cc w.1 }

  pub not-sized : r ≡ None → fits k s ≡ false
  unfolding normal_size
  not-sized g = (not_chosen (fits k s) (sym g ∙ e) (λ q. never (cc))).0

-- the kinds whose octets are always a value, and their own normal octets
abbrev pub as_it_stands : Kind → Bool
as_it_stands HoldsItems = true
as_it_stands HoldsTokens = true
as_it_stands HoldsText = true
as_it_stands HoldsPlain = true
as_it_stands HoldsTime = false
as_it_stands HoldsBearer = false
as_it_stands (HoldsNumber n) = false

pub stands-fits : (k : Kind) (s : List ℕ) → as_it_stands k ≡ true → fits k s ≡ true
unfolding fits
stands-fits HoldsItems s h = refl
stands-fits HoldsTokens s h = refl
stands-fits HoldsText s h = refl
stands-fits HoldsPlain s h = refl
stands-fits HoldsTime s h = absurd (false≢true h)
stands-fits HoldsBearer s h = absurd (false≢true h)
stands-fits (HoldsNumber n) s h = absurd (false≢true h)

pub stands-normal : (k : Kind) (s : List ℕ) → as_it_stands k ≡ true → normal_octets k s ≡ s
unfolding normal_octets meant octets_of
stands-normal HoldsItems s h = refl
stands-normal HoldsTokens s h = refl
stands-normal HoldsText s h = expanded-empty s
stands-normal HoldsPlain s h = refl
stands-normal HoldsTime s h = absurd (false≢true h)
stands-normal HoldsBearer s h = absurd (false≢true h)
stands-normal (HoldsNumber n) s h = absurd (false≢true h)

-- a number of the right width stands as it is too
pub number-normal : (n : NumberKind) (o : List ℕ) → Octets o → fits (HoldsNumber n) o ≡ true → normal_octets (HoldsNumber n) o ≡ o
unfolding normal_octets meant octets_of fits
number-normal n o os f = ap (λ w. digits w (value o)) (sym (eqb-true (length o) (width n) f)) ∙ digits_value o os

-- under any token table the normal octets are these, but for text
abbrev pub is_text : Kind → Bool
is_text HoldsItems = false
is_text HoldsTokens = false
is_text HoldsText = true
is_text HoldsPlain = false
is_text HoldsTime = false
is_text HoldsBearer = false
is_text (HoldsNumber n) = false

pub normal-proper : (table : Entries) (k : Kind) (o : List ℕ) → is_text k ≡ false → octets_of (meant table k o) ≡ normal_octets k o
unfolding normal_octets meant
normal-proper table HoldsItems o h = refl
normal-proper table HoldsTokens o h = refl
normal-proper table HoldsText o h = absurd (false≢true (sym h))
normal-proper table HoldsPlain o h = refl
normal-proper table HoldsTime o h = refl
normal-proper table HoldsBearer o h = refl
normal-proper table (HoldsNumber n) o h = refl

-- the normal octets of a value mean what it means
pub normal-means : (k : Kind) (o : List ℕ) → Octets o → fits k o ≡ true → meant [] k (normal_octets k o) ≡ meant [] k o
unfolding fits normal_octets meant octets_of
normal-means HoldsItems o os f = refl
normal-means HoldsTokens o os f = refl
normal-means HoldsText o os f = ap octets (expanded-empty (expanded [] o))
normal-means HoldsPlain o os f = refl
normal-means HoldsTime o os f = ap time (time-means (time_of o) (time-ok o f))
normal-means HoldsBearer o os f = ap bearer (bearer-means (bearer_of o) (bearer-ok o os f))
normal-means (HoldsNumber n) o os f = ap (λ s. number (width n) (value s)) (number-normal n o os f)

-- normal octets are no more than they were
-- what a flag switches off is 0
flagged : (flag n : ℕ) → flag < 2 → sign (flag * n) ≤ flag
unfolding sign
flagged flag n h = go (eqb flag 0) refl
  where
    go : (b : Bool) → eqb flag 0 ≡ b → cond (eqb (flag * n) 0) 0 1 ≤ flag
    go true e = rw (eqb-true flag 0 e, zero-mul n) (omega arith)
    go false e = let l : 0 < flag = omega (arith, eqb-false flag 0 e) in bit (eqb (flag * n) 0) l
      where
        bit : (b : Bool) → 0 < flag → cond b 0 1 ≤ flag
        bit true l = omega arith
        bit false l = omega arith

sign-mod : (n : ℕ) → sign (n % 32) ≤ sign n
unfolding sign
sign-mod n = go (eqb n 0) refl
  where
    go : (b : Bool) → eqb n 0 ≡ b → cond (eqb (n % 32) 0) 0 1 ≤ cond b 0 1
    go true e = rw (eqb-true n 0 e) (omega arith)
    go false e = sign_le (n % 32)

time-shorter : (o : List ℕ) → is_time o ≡ true → length (time_octets (time_of o)) ≤ length o
unfolding is_time time_of long_flag offset_flag offset_octet bits
time-shorter o f =
    let n = eqb-true (length o) (4 + 2 * long_flag o + offset_flag o) (and_left (eqb (length o) (4 + 2 * long_flag o + offset_flag o)) (in_range (time_of o)) f) in
    let s = flagged (long_flag o) (get_or o 4 0 / 4) (mod-lt (value (take 4 o) / 2 ^ 11) (omega arith)) in
    let h = sign-mod (offset_octet o) in
    let k = flagged (offset_flag o) (get_or o (4 + 2 * long_flag o) 0) (mod-lt (value (take 4 o) / 2 ^ 12) (omega arith)) in
    omega (arith, n, s, h, k, time-size (time_of o))

pub bearer-size : (b : Bearer) → length (bearer_octets b) ≡ 1 + (length (ensemble_octets b.ensemble) + cond b.long 4 2)
unfolding bearer_octets
bearer-size b = ap suc (length-append (ensemble_octets b.ensemble) (digits (cond b.long 4 2) b.sid)) ∙ simp length_digits (omega arith)

bearer-shorter : (o : List ℕ) → is_bearer o ≡ true → length (bearer_octets (bearer_of o)) ≤ length o
unfolding is_bearer bearer_of ensemble_of ensemble_octets digits
bearer-shorter o f =
    let n = eqb-true (length o) (3 + 3 * ensemble_flag o + 2 * long_sid_flag o) f in
    omega (arith, n, bearer-size (bearer_of o), middle (eqb (ensemble_flag o) 1) refl, width-le (eqb (long_sid_flag o) 1) refl)
  where
    middle : (b : Bool) → eqb (ensemble_flag o) 1 ≡ b
        → length (ensemble_octets (cond b (Some (ecc_eid (get_or o 1 0) (value (take 2 (drop 2 o))))) None)) ≤ 3 * ensemble_flag o
    middle true e = omega (arith, eqb-true (ensemble_flag o) 1 e)
    middle false e = omega arith

    width-le : (b : Bool) → eqb (long_sid_flag o) 1 ≡ b → cond b 4 2 ≤ 2 + 2 * long_sid_flag o
    width-le true e = omega (arith, eqb-true (long_sid_flag o) 1 e)
    width-le false e = omega arith

pub normal-shorter : (k : Kind) (o : List ℕ) → fits k o ≡ true → length (normal_octets k o) ≤ length o
unfolding fits normal_octets meant octets_of
normal-shorter HoldsItems o f = omega arith
normal-shorter HoldsTokens o f = omega arith
normal-shorter HoldsText o f = rw (expanded-empty o) (omega arith)
normal-shorter HoldsPlain o f = omega arith
normal-shorter HoldsTime o f = time-shorter o f
normal-shorter HoldsBearer o f = bearer-shorter o f
normal-shorter (HoldsNumber n) o f = rw length_digits (omega (arith, eqb-true (length o) (width n) f))
