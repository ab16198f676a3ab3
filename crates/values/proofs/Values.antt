-- A value of a kind, read back from its normal octets; and octets that keep rules 9, 10 and 12 mean a value of their kind.
use mathlib.Core.Path.{◌≡◌, refl, ap}
use mathlib.Core.Bool.{Bool, true, false, false≢true}
use mathlib.Core.List.{List, []}
use Prim.Native.Nat.{ℕ}
use lib.ListN.{length}
use borrow.Author.Tests.{eqb-true, eq-eqb}
use Rattle.octets.specs.Numbers.{digits, Octets}
use Rattle.text.specs.Text.{text}
use Rattle.text.specs.Tokens.{Entries, expanded}
use Rattle.values.specs.declared.Kind.{Kind}
use Rattle.values.specs.declared.Kind.TheVariants.{HoldsItems, HoldsTokens, HoldsText, HoldsPlain, HoldsTime, HoldsBearer, HoldsNumber}
use Rattle.values.specs.Values.{Value, width, fits, meant, octets_of}
use Rattle.values.specs.Values.Value.{octets, number, time, bearer}
use Rattle.values.specs.Proper.{Proper}
use Rattle.values.specs.Proper.Proper.{words, plain, counted, timed, carried}
use Rattle.octets.proofs.Numbers.{length_digits, value-digits, value-of-length}
use Rattle.text.proofs.Words.{expanded-empty}
use Rattle.values.proofs.Times.{time-means, time-fits, time-ok}
use Rattle.values.proofs.Bearers.{bearer-means, bearer-fits, bearer-ok}

-- the kinds that a value can have
abbrev pub value_kind : Kind → Bool
value_kind HoldsItems = false
value_kind HoldsTokens = false
value_kind HoldsText = true
value_kind HoldsPlain = true
value_kind HoldsTime = true
value_kind HoldsBearer = true
value_kind (HoldsNumber n) = true

pub proper-value : {k : Kind} {v : Value} → Proper k v → value_kind k ≡ true
proper-value (words h) = refl
proper-value plain = refl
proper-value (counted h) = refl
proper-value (timed ok) = refl
proper-value (carried ok) = refl

pub proper-means : {k : Kind} {v : Value} → Proper k v → meant [] k (octets_of v) ≡ v
unfolding meant octets_of
proper-means (words {o = o} h) = ap octets (expanded-empty o)
proper-means plain = refl
proper-means (counted {k = k} {n = n} h) = ap (number (width k)) (value-digits (width k) n h)
proper-means (timed {t = t} ok) = ap time (time-means t ok)
proper-means (carried {b = b} ok) = ap bearer (bearer-means b ok)

pub proper-fits : {k : Kind} {v : Value} → Proper k v → fits k (octets_of v) ≡ true
unfolding fits octets_of
proper-fits (words h) = refl
proper-fits plain = refl
proper-fits (counted {k = k} {n = n} h) = eq-eqb (length (digits (width k) n)) (width k) (length_digits (width k) n)
proper-fits (timed {t = t} ok) = time-fits t ok
proper-fits (carried {b = b} ok) = bearer-fits b ok

-- the other way: octets of a kind, under a table whose expansion of them is valid text where they are text
pub fits-proper : (table : Entries) (k : Kind) (o : List ℕ) → Octets o → value_kind k ≡ true → fits k o ≡ true → (k ≡ HoldsText → text false (expanded table o) ≡ true)
    → Proper k (meant table k o)
unfolding fits meant
fits-proper table HoldsItems o os v f t = absurd (false≢true v)
fits-proper table HoldsTokens o os v f t = absurd (false≢true v)
fits-proper table HoldsText o os v f t = words (t refl)
fits-proper table HoldsPlain o os v f t = plain
fits-proper table HoldsTime o os v f t = timed (time-ok o f)
fits-proper table HoldsBearer o os v f t = carried (bearer-ok o os f)
fits-proper table (HoldsNumber n) o os v f t = counted (value-of-length (width n) o os (eqb-true (length o) (width n) f))
