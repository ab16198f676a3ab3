-- What functions that write a part of the XML leave. A room is written from a place on; the place behind a text that doesn't fit is the one behind the room's end, from
-- which nothing fits. So texts follow one another with no branch, and whether all fit is seen at the end. Where nothing is to be written (`emit` is false) the same walk
-- only counts.
use Rattle.std.specs.Prelude.{◌≡◌, Bool, true, false, cond, not, ◌&&◌, List, [], ◌∷◌, ◌++◌, ℕ, suc, ◌+◌, ◌-◌, ◌≤◌, min, ℤ, pos, negsuc, eqb, leb, length, take, drop}
use Rattle.std.proofs.Math.Option.{Option, none, some}
use Rattle.std.proofs.lemmas.List.Edits.{sets}
use Rattle.text.specs.Tokens.{Entries, entries, entry}
use Rattle.xml.specs.declared.calendar.Part.{Part}
use Rattle.values.specs.declared.Kind.{Kind}
use Rattle.values.specs.declared.Kind.TheVariants.{HoldsNumber}
use Rattle.values.specs.declared.NumberKind.TheVariants.{Enumerated}
use Rattle.values.specs.Table.{known, attribute}
use Rattle.octets.specs.Numbers.{among, value, Octets}
use Rattle.show.specs.Digits.{decimal, two_digits}
use Rattle.show.specs.Lines.{ascii}
use Rattle.values.specs.declared.NumberKind.{NumberKind}
use Rattle.values.specs.Times.{time_of, is_time}
use Rattle.values.specs.Bearers.{bearer_of, is_bearer}
use Rattle.values.specs.Values.{width, fits, meant}
use Rattle.xml.specs.Names.{name, word}
use Rattle.xml.specs.Xml.{number_text, bearer_text, value_text}
use Rattle.xml.specs.Dates.{year_from, month_from, time_text}

pub record Puts (emit : Bool) (text : List ℕ) (at : ℕ) (before after : List ℕ) (to : ℕ) : Type 0 where
  pub ends : to ≡ min (at + length text) (suc (length before))
  pub holds : at + length text ≤ length before → after ≡ cond emit (sets before at text) before
  pub quiet : emit ≡ false → after ≡ before
  pub long : length after ≡ length before

-- an octet that stands for itself in every text: it is no token, and XML has no escape for it
unfoldable pub steady : ℕ → Bool
steady b = leb 0x14 b && not (among b (0x22 ∷ 0x26 ∷ 0x27 ∷ 0x3C ∷ 0x3E ∷ []))

unfoldable pub all_steady : List ℕ → Bool
all_steady [] = true
all_steady (b ∷ bs) = steady b && all_steady bs

-- the octets from a place up to another all are such
pub record SteadyTo (s : List ℕ) (at end : ℕ) : Type 0 where
  pub onward : at ≤ end
  pub inside : end ≤ length s
  pub all : all_steady (take (end - at) (drop at s)) ≡ true

-- the year of a day and the days after its 1 January, and the month of a day of a year and the day in it
pub record YearIs (days : ℕ) (r : Part) : Type 0 where
  pub year : r.number ≡ (year_from 275 1858 days).0
  pub rest : r.rest ≡ (year_from 275 1858 days).1

pub record MonthIs (year days : ℕ) (r : Part) : Type 0 where
  pub month : r.number ≡ (month_from 12 year 1 days).0
  pub day : r.rest ≡ (month_from 12 year 1 days).1

-- a day of the local time of a legal time
pub data LocalDay : ℤ → Type 0 where
  day_before : LocalDay (negsuc 0)
  day_onward : {n : ℕ} → n ≤ 100_000 → LocalDay (pos n)

unfoldable pub or_nothing : Option (List ℕ) → List ℕ
or_nothing none = []
or_nothing (some o) = o

-- the octets of a row of a table that has the form of a token table; nothing where there is none
unfoldable pub entry_text : List ℕ → ℕ → List ℕ
entry_text table key = or_nothing (entry (entries table) key)

-- the name of an enumerated octet, or its two digits where it has none
unfoldable pub or_digits : List ℕ → ℕ → List ℕ
or_digits name n = cond (eqb (length name) 0) (two_digits 97 n) name

-- the name of a known attribute, and the text of an enumerated one's octet
unfoldable pub NamePut : (emit : Bool) (parent tag at : ℕ) (before after : List ℕ) (to : ℕ) → Type 0
NamePut emit parent tag at before after to = (k : Kind) → attribute tag ≡ true → known parent tag ≡ some k → Puts emit (name parent tag) at before after to

unfoldable pub WordPut : (emit : Bool) (parent tag n at : ℕ) (before after : List ℕ) (to : ℕ) → Type 0
WordPut emit parent tag n at before after to = attribute tag ≡ true → known parent tag ≡ some (HoldsNumber Enumerated) → Puts emit (word parent tag n) at before after to

-- values of octets that are such
unfoldable pub CountPut : (emit : Bool) (body : List ℕ) (at : ℕ) (before after : List ℕ) (to : ℕ) → Type 0
CountPut emit body at before after to = length body ≤ 4 → Puts emit (decimal (value body)) at before after to

unfoldable pub DurationPut : (emit : Bool) (body : List ℕ) (at : ℕ) (before after : List ℕ) (to : ℕ) → Type 0
DurationPut emit body at before after to = length body ≤ 4 → Puts emit (ascii "PT" ++ (decimal (value body) ++ ascii "S")) at before after to

unfoldable pub NumberPut : (emit : Bool) (parent tag : ℕ) (k : NumberKind) (body : List ℕ) (at : ℕ) (before after : List ℕ) (to : ℕ) → Type 0
NumberPut emit parent tag k body at before after to =
    attribute tag ≡ true → known parent tag ≡ some (HoldsNumber k) → length body ≡ width k → Puts emit (number_text parent tag (some (HoldsNumber k)) (value body)) at before after to

unfoldable pub BearerPut : (emit : Bool) (body : List ℕ) (at : ℕ) (before after : List ℕ) (to : ℕ) → Type 0
BearerPut emit body at before after to = Octets body → is_bearer body ≡ true → Puts emit (bearer_text (bearer_of body)) at before after to

unfoldable pub TimePut : (emit : Bool) (body : List ℕ) (at : ℕ) (before after : List ℕ) (to : ℕ) → Type 0
TimePut emit body at before after to = is_time body ≡ true → Puts emit (time_text (time_of body)) at before after to

unfoldable pub ValuePut : (emit : Bool) (parent tag : ℕ) (k : Kind) (table : Entries) (body : List ℕ) (at : ℕ) (before after : List ℕ) (to : ℕ) → Type 0
ValuePut emit parent tag k table body at before after to =
    Octets body → attribute tag ≡ true → known parent tag ≡ some k → fits k body ≡ true → Puts emit (value_text parent tag (meant table k body)) at before after to
