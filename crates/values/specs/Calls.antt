-- What the calls of this crate answer. Those that write have the claim of octets/specs/Puts.
use Rattle.std.specs.Prelude.{Bool, cond, ◌&&◌, ◌||◌, List, [], ℕ, eqb, leb, length, get_or, Option, Some, None, Result, Ok, Err}
use Rattle.std.proofs.Math.Option.{Option as Maybe, none, some}
use Rattle.octets.specs.declared.counts.Octets.{Octets}
use Rattle.octets.specs.Counts.{size_of}
use Rattle.values.specs.declared.Kind.{Kind}
use Rattle.values.specs.declared.Time.{Time}
use Rattle.values.specs.declared.TimeError.{TimeError}
use Rattle.values.specs.declared.Bearer.{Bearer}
use Rattle.values.specs.Table.{known, defaults, default_in}
use Rattle.values.specs.Times.{time_of, is_time, wrong_time, error_of}
use Rattle.values.specs.Bearers.{bearer_of, is_bearer}
use Rattle.values.specs.Values.{fits, meant, octets_of}

-- the answer of a lookup in the table, in the code's words (document 01, Framing: known items)
unfoldable pub as_known : Maybe Kind → Option Kind
as_known none = None
as_known (some k) = Some k

unfoldable pub known_kind : ℕ → ℕ → Option Kind
known_kind parent tag = as_known (known parent tag)

-- octets that keep rule 9 for a time give the time that they mean, and others the field of them that is wrong (change request 2026-04)
unfoldable pub taken_time : List ℕ → Result Time TimeError
taken_time o = cond (is_time o) (Ok (time_of o)) (Err (error_of (wrong_time o)))

-- octets that keep rule 9 for a bearer give the bearer that they mean
unfoldable pub taken_bearer : List ℕ → Option Bearer
taken_bearer o = cond (is_bearer o) (Some (bearer_of o)) None

-- a bearer whose fields fit the bits that they are written in: SCIdS four, a service id that isn't long 16 (document 01, Values: DAB bearer). The types of
-- the other fields are as wide as their bits
unfoldable pub bearer_in_range : Bearer → Bool
bearer_in_range b = leb b.scids 15 && (b.long || leb b.sid 0xFFFF)

-- the normal octets of a value that stands in octets, without a token table: a time, a bearer or a number again from what it means, all else as it stands
-- (document 01, Records and meaning: normal form)
unfoldable pub normal_octets : Kind → List ℕ → List ℕ
normal_octets kind o = octets_of (meant [] kind o)

-- how many octets they are, of octets that are a value of the kind
unfoldable pub normal_size : Kind → List ℕ → Option Octets
normal_size kind o = cond (fits kind o) (Some (size_of (normal_octets kind o))) None

-- the octets of an attribute of an element are its default: one octet, which is the number of its value. That `isDefault` says the same of what they mean is proved
-- (proofs/DefaultValues, default-meant)
unfoldable pub default_octets : (parent tag : ℕ) → List ℕ → Bool
default_octets parent tag o = eqb (length o) 1 && default_in parent tag (get_or o 0 0) defaults
