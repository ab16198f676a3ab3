-- Document 01's number and values for each case of the answers that format/specs/Answers doesn't have (Expected forms by place, "answers that are enums"). Each may
-- stand in the specs of the crate that declares the answer, or of format, as `check_outcome` does; no definition here names another's.
use Rattle.std.specs.Prelude.{ℕ, Option, Some, None, Result, Ok, Err}
use Rattle.octets.specs.Counts.{as_octets}
use Rattle.octets.specs.declared.PutError.{PutError}
use Rattle.octets.specs.declared.PutError.TheVariants.{NoRoom, Invalid}
use Rattle.format.specs.declared.Refusal.{Refusal}
use Rattle.format.specs.declared.Outcome.{Outcome}
use Rattle.format.specs.Answers.{refusal}
use Rattle.recording.specs.declared.Next.{Next}
use Rattle.merge.specs.declared.MergeOutcome.{MergeOutcome}
use Rattle.merge.specs.Calls.{refused_as}
use Rattle.merge.specs.declared.MergeRefusal.{MergeRefusal}
use Rattle.merge.specs.declared.MergeRefusal.TheVariants.{Basic, Advanced, Neither}
use Rattle.survey.specs.declared.Needs.{Needs}
use Rattle.survey.specs.declared.Unfit.{Unfit}
use Rattle.survey.specs.declared.Unfit.TheVariants.{Bad, Misfit}

-- an answer that counts so much, and a refusal
abbrev pub answered_with : ℕ → Outcome
answered_with n = record { number = 0; place = 0; field = 0; count = n; items = 0 }

abbrev pub refused_with : Refusal → Outcome
refused_with r = record { number = r.number; place = r.place; field = r.field; count = 0; items = 0 }

-- survey: nothing is counted
abbrev pub standing_outcome : Result (Unit {0}) Unfit → Outcome
standing_outcome (Err (Bad r)) = refused_with r
standing_outcome (Err (Misfit r)) = refused_with r
standing_outcome (Ok x) = answered_with 0

-- needs_of and survey_inside: the records
abbrev pub needed_outcome : Result Needs Refusal → Outcome
needed_outcome (Err r) = refused_with r
needed_outcome (Ok needs) = answered_with needs.records

-- find_first: how many were found, none or one, and the place of that one, which is no refusal's
abbrev pub sought_outcome : Result (Option ℕ) Refusal → Outcome
sought_outcome (Err r) = refused_with r
sought_outcome (Ok None) = answered_with 0
sought_outcome (Ok (Some place)) = record { number = 0; place = place; field = 0; count = 1; items = 0 }

-- find_conflict: which object is refused too
abbrev pub conflict_outcome : Result (Unit {0}) MergeRefusal → MergeOutcome
conflict_outcome (Ok x) = record { which = 0; number = 0; place = 0; field = 0; records = 0; size = as_octets 0 }
conflict_outcome (Err (Basic r)) = refused_as 1 r
conflict_outcome (Err (Advanced r)) = refused_as 2 r
conflict_outcome (Err (Neither r)) = refused_as 0 r

-- open: the octets of mark and version
abbrev pub opened_outcome : Result ℕ Refusal → Outcome
opened_outcome (Ok at) = answered_with at
opened_outcome (Err r) = refused_with r

-- step, at a place of the file: the octets of an object; 24 is at that place, which is the first octet of the size. More and End count nothing
abbrev pub next_outcome : (in_file : ℕ) → Next → Outcome
next_outcome in_file (Next.Object start size) = answered_with size
next_outcome in_file Next.More = answered_with 0
next_outcome in_file Next.End = answered_with 0
next_outcome in_file Next.Cut = refused_with (refusal 24 in_file)

-- octets put into lent octets: the place behind them; 15 where they are above the room. For what has no octets, document 01 has "a known value of wrong length or out of
-- range", 9; there is no object, so the place is 0
abbrev pub put_outcome : Result ℕ PutError → Outcome
put_outcome (Ok end) = answered_with end
put_outcome (Err NoRoom) = refused_with (refusal 15 0)
put_outcome (Err Invalid) = refused_with (refusal 9 0)
