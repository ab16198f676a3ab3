-- The bench cases P1 to P14 of document 01 as one table, and the records of its listing.
use Rattle.std.specs.Prelude.{Bool, true, false, List, [], ◌∷◌, ℕ, zero, suc, Result, Ok, Err}
use Rattle.values.specs.declared.Time.{Time}
use Rattle.values.specs.Times.{time_octets}
use Rattle.values.specs.Calls.{taken_time}
use Rattle.values.specs.declared.TimeError.{TimeError}
use Rattle.format.specs.declared.Record.{Record}
use Rattle.format.specs.declared.Refusal.{Refusal}
use Rattle.format.specs.Answers.{refusal, wrong_value}
use Rattle.format.specs.Tree.{records_of, count}
use Rattle.format.specs.Judge.{Judged, judge}
use Rattle.format.specs.Judge.Judged.{refused, accepted}
use Rattle.format.specs.Meaning.{normal_of}

-- of an object a refusal, or a count of records and the normal form; of octets that are taken as a time the time and its normal octets, or that they are none
pub data Outcome : Type 0 where
  refuses : Refusal → Outcome
  normally : ℕ → List ℕ → Outcome
  timed : Time → List ℕ → Outcome
  no_time : Outcome

unfoldable pub reported : Judged → Outcome
reported (refused r) = refuses r
reported (accepted t) = normally (count t) (normal_of t)

unfoldable pub reported_time : Result Time TimeError → Outcome
reported_time (Ok t) = timed t (time_octets t)
reported_time (Err field) = no_time

-- what the definitions say of an object (true), or of octets taken as a time (false): both say whether it is accepted
unfoldable pub outcome : Bool → List ℕ → Outcome
outcome true o = reported (judge o)
outcome false o = reported_time (taken_time o)

unfoldable pub cases : List (Bool × List ℕ × Outcome)
cases =
    (true, [], refuses (refusal 1 0))
    ∷ (true, 0x03 ∷ [], refuses (refusal 2 0))
    ∷ (true, 0x03 ∷ 0x01 ∷ [], refuses (refusal 3 0))
    ∷ (true, 0x04 ∷ 0x00 ∷ [], refuses (refusal 4 0))
    ∷ (true, 0x03 ∷ 0x00 ∷ 0x00 ∷ [], refuses (refusal 5 2))
    ∷ (true, 0x03 ∷ 0x04 ∷ 0x07 ∷ 0x00 ∷ 0x06 ∷ 0x00 ∷ [], refuses (refusal 6 4))
    ∷ (true, 0x03 ∷ 0x04 ∷ 0x01 ∷ 0x00 ∷ 0x01 ∷ 0x00 ∷ [], refuses (refusal 6 4))
    ∷ (true, 0x03 ∷ 0x03 ∷ 0x06 ∷ 0x01 ∷ 0x01 ∷ [], refuses (refusal 12 2))
    ∷ (true, 0x03 ∷ 0x00 ∷ [], normally 1 (0x03 ∷ 0x00 ∷ []))
    ∷ (true, 0x03 ∷ 0xFE ∷ 0x00 ∷ 0x04 ∷ 0x06 ∷ 0x02 ∷ 0x65 ∷ 0x6E ∷ [], normally 2 (0x03 ∷ 0x04 ∷ 0x06 ∷ 0x02 ∷ 0x65 ∷ 0x6E ∷ []))
    ∷ (true, 0x03 ∷ 0x09 ∷ 0x04 ∷ 0x04 ∷ 0x01 ∷ 0x02 ∷ 0x65 ∷ 0x6E ∷ 0x06 ∷ 0x01 ∷ 0x01 ∷ [], normally 2 (0x03 ∷ 0x04 ∷ 0x06 ∷ 0x02 ∷ 0x65 ∷ 0x6E ∷ []))
    ∷ (false, 0x30 ∷ 0xD4 ∷ 0x13 ∷ 0x1E ∷ 0x02 ∷ [], timed (record { day = 50_000; hour = 12; minute = 30; second = 0; minus = false; halves = 2 }) (0x30 ∷ 0xD4 ∷ 0x13 ∷ 0x1E ∷ 0x02 ∷ []))
    ∷ (false, 0x30 ∷ 0xD4 ∷ 0x0B ∷ 0x1E ∷ 0x3C ∷ 0x00 ∷ [], timed (record { day = 50_000; hour = 12; minute = 30; second = 15; minus = false; halves = 0 }) (0x30 ∷ 0xD4 ∷ 0x0B ∷ 0x1E ∷ 0x3C ∷ 0x00 ∷ []))
    ∷ (false, 0x30 ∷ 0xD4 ∷ 0x10 ∷ 0x00 ∷ 0x20 ∷ [], timed (record { day = 50_000; hour = 0; minute = 0; second = 0; minus = false; halves = 0 }) (0x30 ∷ 0xD4 ∷ 0x00 ∷ 0x00 ∷ []))
    ∷ []

unfoldable pub listed : Judged → List Record
listed (refused r) = []
listed (accepted t) = records_of t

-- so many letters of two octets each
unfoldable pub accented : ℕ → List ℕ
accented zero = []
accented (suc n) = 0xC3 ∷ 0xA9 ∷ accented n

-- what other encoders got wrong (document 01, Slips), and the rules beside them: a name of one token that expands to nine letters; a child that runs past its
-- parent but not past the object; a token octet without an entry in an attribute of the top, before a broken item and before a table that has another entry;
-- attributes in falling order; and the cases of change request 2026-01: a short name of eight letters of two octets passes and one of nine doesn't, and one of a
-- token that expands to eight letters in nine octets passes; and those of 2026-04: a time of wrong length, whose date, hours and minutes would be wrong too, one with
-- a wrong date and all behind it, with wrong hours, with wrong minutes and with wrong seconds, and a number of wrong length, which has no field; and those of
-- 2026-05: a recommendation "no", which is its default: a record shows it and the normal form leaves it out; one "yes"; and none; and that of 2026-13: P11 with its token
-- seven times, whose normal form has more octets
unfoldable pub slips : List (List ℕ × Outcome)
slips =
    (0x03 ∷ 0x12 ∷ 0x04 ∷ 0x0B ∷ 0x01 ∷ 0x09 ∷ 0x61 ∷ 0x61 ∷ 0x61 ∷ 0x61 ∷ 0x61 ∷ 0x61 ∷ 0x61 ∷ 0x61 ∷ 0x61 ∷ 0x10 ∷ 0x03 ∷ 0x01 ∷ 0x01 ∷ 0x01 ∷ [], refuses (refusal 13 17))
    ∷ (0x03 ∷ 0x06 ∷ 0x28 ∷ 0x02 ∷ 0x80 ∷ 0x02 ∷ 0x00 ∷ 0x01 ∷ [], refuses (refusal 3 4))
    ∷ (0x03 ∷ 0x05 ∷ 0x82 ∷ 0x01 ∷ 0x01 ∷ 0x28 ∷ 0x09 ∷ [], refuses (refusal 12 2))
    ∷ (0x03 ∷ 0x07 ∷ 0x82 ∷ 0x01 ∷ 0x01 ∷ 0x04 ∷ 0x02 ∷ 0x02 ∷ 0x00 ∷ [], refuses (refusal 12 2))
    ∷ (0x03 ∷ 0x06 ∷ 0x83 ∷ 0x01 ∷ 0x61 ∷ 0x82 ∷ 0x01 ∷ 0x62 ∷ [], normally 3 (0x03 ∷ 0x06 ∷ 0x82 ∷ 0x01 ∷ 0x62 ∷ 0x83 ∷ 0x01 ∷ 0x61 ∷ []))
    ∷ (0x03 ∷ 0x14 ∷ 0x10 ∷ 0x12 ∷ 0x01 ∷ 0x10 ∷ accented 8, normally 3 (0x03 ∷ 0x14 ∷ 0x10 ∷ 0x12 ∷ 0x01 ∷ 0x10 ∷ accented 8))
    ∷ (0x03 ∷ 0x16 ∷ 0x10 ∷ 0x14 ∷ 0x01 ∷ 0x12 ∷ accented 9, refuses (refusal 13 4))
    ∷ (0x03 ∷ 0x12 ∷ 0x04 ∷ 0x0B ∷ 0x01 ∷ 0x09 ∷ 0xC3 ∷ 0xA9 ∷ 0x61 ∷ 0x61 ∷ 0x61 ∷ 0x61 ∷ 0x61 ∷ 0x61 ∷ 0x61 ∷ 0x10 ∷ 0x03 ∷ 0x01 ∷ 0x01 ∷ 0x01 ∷ [], normally 3 (0x03 ∷ 0x0D ∷ 0x10 ∷ 0x0B ∷ 0x01 ∷ 0x09 ∷ 0xC3 ∷ 0xA9 ∷ 0x61 ∷ 0x61 ∷ 0x61 ∷ 0x61 ∷ 0x61 ∷ 0x61 ∷ 0x61 ∷ []))
    ∷ (0x03 ∷ 0x07 ∷ 0x81 ∷ 0x05 ∷ 0x61 ∷ 0xA8 ∷ 0x06 ∷ 0x3C ∷ 0x00 ∷ [], refuses (wrong_value 2 1))
    ∷ (0x03 ∷ 0x08 ∷ 0x81 ∷ 0x06 ∷ 0x61 ∷ 0xA8 ∷ 0x0E ∷ 0x3C ∷ 0xF0 ∷ 0x00 ∷ [], refuses (wrong_value 2 2))
    ∷ (0x03 ∷ 0x08 ∷ 0x81 ∷ 0x06 ∷ 0x61 ∷ 0xA7 ∷ 0xCE ∷ 0x3C ∷ 0xF0 ∷ 0x00 ∷ [], refuses (wrong_value 2 3))
    ∷ (0x03 ∷ 0x08 ∷ 0x81 ∷ 0x06 ∷ 0x61 ∷ 0xA7 ∷ 0xCD ∷ 0xFC ∷ 0xF0 ∷ 0x00 ∷ [], refuses (wrong_value 2 4))
    ∷ (0x03 ∷ 0x08 ∷ 0x81 ∷ 0x06 ∷ 0x61 ∷ 0xA7 ∷ 0xCD ∷ 0xFB ∷ 0xF0 ∷ 0x00 ∷ [], refuses (wrong_value 2 5))
    ∷ (0x03 ∷ 0x03 ∷ 0x80 ∷ 0x01 ∷ 0x00 ∷ [], refuses (wrong_value 2 0))
    ∷ (0x02 ∷ 0x07 ∷ 0x21 ∷ 0x05 ∷ 0x1C ∷ 0x03 ∷ 0x83 ∷ 0x01 ∷ 0x01 ∷ [], normally 4 (0x02 ∷ 0x04 ∷ 0x21 ∷ 0x02 ∷ 0x1C ∷ 0x00 ∷ []))
    ∷ (0x02 ∷ 0x07 ∷ 0x21 ∷ 0x05 ∷ 0x1C ∷ 0x03 ∷ 0x83 ∷ 0x01 ∷ 0x02 ∷ [], normally 4 (0x02 ∷ 0x07 ∷ 0x21 ∷ 0x05 ∷ 0x1C ∷ 0x03 ∷ 0x83 ∷ 0x01 ∷ 0x02 ∷ []))
    ∷ (0x02 ∷ 0x04 ∷ 0x21 ∷ 0x02 ∷ 0x1C ∷ 0x00 ∷ [], normally 3 (0x02 ∷ 0x04 ∷ 0x21 ∷ 0x02 ∷ 0x1C ∷ 0x00 ∷ []))
    ∷ (0x03 ∷ 0x0F ∷ 0x04 ∷ 0x04 ∷ 0x01 ∷ 0x02 ∷ 0x65 ∷ 0x6E ∷ 0x06 ∷ 0x07 ∷ 0x01 ∷ 0x01 ∷ 0x01 ∷ 0x01 ∷ 0x01 ∷ 0x01 ∷ 0x01 ∷ [], normally 2 (0x03 ∷ 0x10 ∷ 0x06 ∷ 0x0E ∷ 0x65 ∷ 0x6E ∷ 0x65 ∷ 0x6E ∷ 0x65 ∷ 0x6E ∷ 0x65 ∷ 0x6E ∷ 0x65 ∷ 0x6E ∷ 0x65 ∷ 0x6E ∷ 0x65 ∷ 0x6E ∷ []))
    ∷ []

-- two tops, as records over no octets
unfoldable pub two_tops : ℕ → Record
two_tops i = record { tag = 0x03; kind = 0; depth = 1; parent = 0; start = 0; size = 0 }

-- a top with a CDATA of one octet over lent octets: the whole records, by number
unfoldable pub top_with_cdata : ℕ → Record
top_with_cdata zero = record { tag = 0x03; kind = 0; depth = 1; parent = 0; start = 0; size = 0 }
top_with_cdata (suc i) = record { tag = 0x01; kind = 2; depth = 2; parent = 0; start = 0; size = 1 }
