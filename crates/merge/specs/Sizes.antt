-- What a meaning takes of memory once it is taken in (change request 2026-06): how many records, and how many octets of the store. That its tree takes as much
-- is proved (proofs/Sizes).
use Rattle.std.proofs.Math.Option.{Option, none, some}
use Rattle.std.specs.Prelude.{ℕ, zero, suc, ◌+◌, length}
use Rattle.values.specs.Values.{Value, octets_of}
use Rattle.format.specs.Meaning.{Meaning}
use Rattle.format.specs.Meaning.Meaning.{nothing, element, leaf}

-- of what may be absent: nothing where it is
unfoldable pub taken : {A : Type 0} → (A → ℕ) → Option A → ℕ
taken f none = 0
taken f (some a) = f a

-- the attributes of as many tags as the first number says, from a tag on
unfoldable pub taken_by : (Value → ℕ) → ℕ → ℕ → (ℕ → Option Value) → ℕ
taken_by g zero a f = 0
taken_by g (suc k) a f = taken g (f a) + taken_by g k (suc a) f

-- a record for each element, attribute and CDATA
unfoldable pub records_in : Meaning → ℕ
records_in nothing = 0
records_in (element tag f m c after) = 1 + (taken_by (λ v. 1) 128 0x80 f + (records_in m + taken (λ o. 1) c)) + records_in after
records_in (leaf tag o after) = 1 + records_in after

-- the octets of each value, each CDATA and each element without items
unfoldable pub stored_in : Meaning → ℕ
stored_in nothing = 0
stored_in (element tag f m c after) = taken_by (λ v. length (octets_of v)) 128 0x80 f + (stored_in m + taken length c) + stored_in after
stored_in (leaf tag o after) = length o + stored_in after
