-- The ways through the calls on values by kind, in the words of the code.
use mathlib.Core.Path.{◌≡◌, refl, sym, ap, ap₂, ◌∙◌}
use mathlib.Core.Bool.{Bool, true, false, cond}
use mathlib.Core.List.{List}
use Prim.Native.Nat.{ℕ}
use lib.Dec.{eqb}
use lib.ListN.{length}
use borrow.Author.Tests.{eqb-true}
use Rattle.octets.specs.declared.counts.Octets.{Octets as OctetCount}
use Rattle.octets.specs.Counts.{as_octets, size_of}
use Rattle.octets.specs.Numbers.{value, digits, Octets}
use Rattle.octets.specs.Puts.{Puts}
use Rattle.octets.proofs.Numbers.{digits_value, length_digits}
use Rattle.octets.proofs.Puts.{puts-invalid, puts-same}
use Rattle.octets.specs.declared.PutError.{PutError}
use Rattle.octets.specs.declared.PutError.TheVariants.{Invalid}
use Rattle.values.specs.declared.Kind.{Kind}
use Rattle.values.specs.declared.Kind.TheVariants.{HoldsTime, HoldsBearer, HoldsNumber}
use Rattle.values.specs.declared.NumberKind.{NumberKind}
use Rattle.std.specs.Prelude.{Option, Some, None, Result, Ok, Err}
use Rattle.values.specs.declared.Time.{Time}
use Rattle.values.specs.declared.TimeError.{TimeError}
use Rattle.values.specs.declared.Bearer.{Bearer}
use Rattle.values.specs.Times.{time_of, in_range, is_time, time_octets, wrong_time}
use Rattle.values.specs.Bearers.{bearer_of, is_bearer, bearer_octets}
use Rattle.values.specs.Values.{width, fits, meant, octets_of}
use Rattle.values.specs.Calls.{taken_time, taken_bearer, bearer_in_range, normal_octets, normal_size}
use Rattle.values.proofs.Fields.{field-good}
use Rattle.values.proofs.Laws.{time-taken, time-refused, bearer-taken, bearer-refused, as_it_stands, stands-fits, stands-normal, time-wrong}
use Rattle.values.proofs.Times.{time-ok}
use Rattle.values.proofs.Bearers.{bearer-ok}
use Rattle.values.proofs.BearerForm.{ok-valid}

-- a time that was taken, or not
module _ (s : List ℕ) (r : Result Time TimeError) (e : r ≡ taken_time s) where
  pub is-time : (t : Time) → r ≡ Ok t → true ≡ is_time s
  is-time t g = sym (time-taken s r e t g).fit

  pub no-time : (x : TimeError) → r ≡ Err x → false ≡ is_time s
  no-time x g = sym (time-refused s r e x g)

  pub time-sized : (t : Time) (n : OctetCount) → r ≡ Ok t → n ≡ size_of (time_octets t) → Some n ≡ normal_size HoldsTime s
  unfolding normal_size normal_octets fits meant octets_of
  time-sized t n g q =
      let k = time-taken s r e t g in
      rw k.fit (ap Some (q ∙ ap (λ u. size_of (time_octets u)) k.means))

  pub time-not-sized : (x : TimeError) → r ≡ Err x → None ≡ normal_size HoldsTime s
  unfolding normal_size fits
  time-not-sized x g = rw (time-refused s r e x g) refl

  module _ (out : List ℕ) (at : ℕ) where
    pub time-put : (t : Time) (a : Result ℕ PutError) (after : List ℕ) → r ≡ Ok t → Puts (in_range t) (time_octets t) at out after a
        → Puts (fits HoldsTime s) (normal_octets HoldsTime s) at out after a
    unfolding fits normal_octets meant octets_of
    time-put t a after g p =
        let k = time-taken s r e t g in
        let v : in_range t ≡ is_time s = ap in_range k.means ∙ (time-ok s k.fit).range ∙ sym k.fit in
        let o : time_octets t ≡ time_octets (time_of s) = ap time_octets k.means in
        puts-same (in_range t) (is_time s) (time_octets t) (time_octets (time_of s)) v o at out after a p

    pub time-not-put : (x : TimeError) → r ≡ Err x → Puts (fits HoldsTime s) (normal_octets HoldsTime s) at out out (Err Invalid)
    unfolding fits
    time-not-put x g = puts-invalid (is_time s) (normal_octets HoldsTime s) at out (time-refused s r e x g)

  -- the field that is wrong
  pub field-of-good : (t : Time) → r ≡ Ok t → 0 ≡ wrong_time s
  field-of-good t g = field-good s (time-taken s r e t g).fit

pub ruleset time-ways = (field-of-good, time-wrong, is-time, no-time, time-sized, time-not-sized, time-put, time-not-put)

-- a bearer that was taken, or not
module _ (s : List ℕ) (r : Option Bearer) (e : r ≡ taken_bearer s) where
  pub is-bearer : (b : Bearer) → r ≡ Some b → true ≡ is_bearer s
  is-bearer b g = sym (bearer-taken s r e b g).fit

  pub no-bearer : r ≡ None → false ≡ is_bearer s
  no-bearer g = sym (bearer-refused s r e g)

  pub bearer-sized : (b : Bearer) (n : OctetCount) → r ≡ Some b → n ≡ size_of (bearer_octets b) → Some n ≡ normal_size HoldsBearer s
  unfolding normal_size normal_octets fits meant octets_of
  bearer-sized b n g q =
      let k = bearer-taken s r e b g in
      rw k.fit (ap Some (q ∙ ap (λ u. size_of (bearer_octets u)) k.means))

  pub bearer-not-sized : r ≡ None → None ≡ normal_size HoldsBearer s
  unfolding normal_size fits
  bearer-not-sized g = rw (bearer-refused s r e g) refl

  module _ (out : List ℕ) (at : ℕ) where
    pub bearer-put : (b : Bearer) (a : Result ℕ PutError) (after : List ℕ) → Octets s → r ≡ Some b → Puts (bearer_in_range b) (bearer_octets b) at out after a
        → Puts (fits HoldsBearer s) (normal_octets HoldsBearer s) at out after a
    unfolding fits normal_octets meant octets_of
    bearer-put b a after os g p =
        let k = bearer-taken s r e b g in
        let v : bearer_in_range b ≡ is_bearer s = ap bearer_in_range k.means ∙ ok-valid (bearer_of s) (bearer-ok s os k.fit) ∙ sym k.fit in
        let o : bearer_octets b ≡ bearer_octets (bearer_of s) = ap bearer_octets k.means in
        puts-same (bearer_in_range b) (is_bearer s) (bearer_octets b) (bearer_octets (bearer_of s)) v o at out after a p

    pub bearer-not-put : r ≡ None → Puts (fits HoldsBearer s) (normal_octets HoldsBearer s) at out out (Err Invalid)
    unfolding fits
    bearer-not-put g = puts-invalid (is_bearer s) (normal_octets HoldsBearer s) at out (bearer-refused s r e g)

pub ruleset bearer-ways = (is-bearer, no-bearer, bearer-sized, bearer-not-sized, bearer-put, bearer-not-put)

-- numbers
pub width_is : (n m : NumberKind) → n ≡ m → width m ≡ width n
width_is n m e = ap width (sym e)

module _ (n : NumberKind) (s : List ℕ) where
  pub has_width : (w : ℕ) → w ≡ width n → eqb (length s) w ≡ fits (HoldsNumber n) s
  unfolding fits
  has_width w e = ap (eqb (length s)) e

  module _ (b : Bool) (e : b ≡ fits (HoldsNumber n) s) where
    pub number-sized : b ≡ true → Some (size_of s) ≡ normal_size (HoldsNumber n) s
    unfolding normal_size normal_octets fits meant octets_of
    number-sized t = rw (sym e ∙ t) (ap (λ m. Some (as_octets m)) (eqb-true (length s) (width n) (sym e ∙ t) ∙ sym (length_digits (width n) (value s))))

    pub number-not-sized : b ≡ false → None ≡ normal_size (HoldsNumber n) s
    unfolding normal_size
    number-not-sized t = rw (sym e ∙ t) refl

    module _ (out : List ℕ) (at : ℕ) where
      pub number_put : (a : Result ℕ PutError) (after : List ℕ) → Octets s → b ≡ true → Puts true s at out after a → Puts (fits (HoldsNumber n) s) (normal_octets (HoldsNumber n) s) at out after a
      unfolding fits normal_octets meant octets_of
      number_put a after os t p =
          let v : true ≡ fits (HoldsNumber n) s = sym (sym e ∙ t) in
          let o : s ≡ digits (width n) (value s) = sym (digits_value s os) ∙ ap (λ w. digits w (value s)) (eqb-true (length s) (width n) (sym e ∙ t)) in
          puts-same true (fits (HoldsNumber n) s) s (digits (width n) (value s)) v o at out after a p

      pub number-not-put : b ≡ false → Puts (fits (HoldsNumber n) s) (normal_octets (HoldsNumber n) s) at out out (Err Invalid)
      number-not-put t = puts-invalid (fits (HoldsNumber n) s) (normal_octets (HoldsNumber n) s) at out (sym e ∙ t)

pub ruleset number-ways = (has_width, number-sized, number-not-sized, number_put, number-not-put)

-- a call's arm for a kind answers for the kind
module _ (k l : Kind) (e : k ≡ l) (s : List ℕ) where
  pub fits-as : (r : Bool) → r ≡ fits l s → r ≡ fits k s
  fits-as r f = f ∙ ap (λ m. fits m s) (sym e)

  pub stands-as : as_it_stands l ≡ true → true ≡ fits k s
  stands-as h = fits-as true (sym (stands-fits l s h))

  pub sized-as : (r : Option OctetCount) → r ≡ normal_size l s → r ≡ normal_size k s
  sized-as r f = f ∙ ap (λ m. normal_size m s) (sym e)

  pub stands-sized : as_it_stands l ≡ true → Some (size_of s) ≡ normal_size k s
  unfolding normal_size
  stands-sized h =
      sized-as (Some (size_of s))
      (sym (ap₂ (λ b o. cond b (Some (size_of o)) None) (stands-fits l s h) (stands-normal l s h)))

  module _ (out : List ℕ) (at : ℕ) (a : Result ℕ PutError) (after : List ℕ) where
    pub put_as : Puts (fits l s) (normal_octets l s) at out after a → Puts (fits k s) (normal_octets k s) at out after a
    put_as p = rw e p

    pub stands-put : as_it_stands l ≡ true → Puts true s at out after a → Puts (fits k s) (normal_octets k s) at out after a
    stands-put h p = put_as (rw (stands-fits l s h, stands-normal l s h) p)

pub ruleset fits-ways = (fits-as, stands-as)

pub ruleset size-ways = (sized-as, stands-sized)

pub ruleset kind-puts = (put_as, stands-put)
