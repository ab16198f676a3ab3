-- The values that an attribute can have, by kind: what the well-formed meanings are made of.
use Rattle.std.specs.Prelude.{◌≡◌, Bool, true, false, List, ℕ, ◌^◌, ◌<◌, Option, Some, None}
use Rattle.text.specs.Text.{text}
use Rattle.values.specs.declared.Kind.{Kind}
use Rattle.values.specs.declared.Kind.TheVariants.{HoldsText, HoldsPlain, HoldsTime, HoldsBearer, HoldsNumber}
use Rattle.values.specs.declared.NumberKind.{NumberKind}
use Rattle.values.specs.declared.Time.{Time}
use Rattle.values.specs.declared.Ensemble.{Ensemble}
use Rattle.values.specs.declared.Bearer.{Bearer}
use Rattle.values.specs.Times.{in_range}
use Rattle.values.specs.Values.{Value, width}
use Rattle.values.specs.Values.Value.{octets, number, time, bearer}

-- a time in range, without a minus at offset 0
pub record TimeOk (t : Time) : Type 0 where
  pub range : in_range t ≡ true
  pub minus : t.halves ≡ 0 → t.minus ≡ false

abbrev pub EnsembleOk : Option Ensemble → Type 0
EnsembleOk None = Unit {0}
EnsembleOk (Some e) = (e.ecc < 256) × (e.eid < 256 ^ 2)

abbrev pub SidOk : Bool → ℕ → Type 0
SidOk true sid = sid < 256 ^ 4
SidOk false sid = sid < 256 ^ 2

-- a bearer whose fields fit their bits
pub record BearerOk (b : Bearer) : Type 0 where
  pub ensemble : EnsembleOk b.ensemble
  pub sid : SidOk b.long b.sid
  pub scids : b.scids < 16

-- a value of a kind: valid text without token octets, any plain octets, a number of the kind's width, a time, a bearer
pub data Proper : Kind → Value → Type 0 where
  words : {o : List ℕ} → text false o ≡ true → Proper HoldsText (octets o)
  plain : {o : List ℕ} → Proper HoldsPlain (octets o)
  counted : {k : NumberKind} {n : ℕ} → n < 256 ^ width k → Proper (HoldsNumber k) (number (width k) n)
  timed : {t : Time} → TimeOk t → Proper HoldsTime (time t)
  carried : {b : Bearer} → BearerOk b → Proper HoldsBearer (bearer b)
