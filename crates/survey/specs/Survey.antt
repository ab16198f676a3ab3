-- An object held against what is lent to it, before anything is written: whether it is accepted, and whether its records, texts and values and its normal form fit.
use Rattle.std.specs.Prelude.{Bool, false, cond, ◌&&◌, ℕ, leb, Option, Some, None, Result, Ok, Err}
use Rattle.octets.specs.declared.counts.Octets.{Octets}
use Rattle.octets.specs.Counts.{octets_within}
use Rattle.format.specs.Answers.{refusal}
use Rattle.format.specs.Tree.{count}
use Rattle.format.specs.Judge.{Judged}
use Rattle.format.specs.Judge.Judged.{refused, accepted}
use Rattle.format.specs.Calls.{Lent, stored_within}
use Rattle.format.specs.declared.Refusal.{Refusal}
use Rattle.survey.specs.Measure.{measured_of, measured_in}
use Rattle.survey.specs.declared.measure.Sizes.{Sizes}
use Rattle.survey.specs.declared.Needs.{Needs}
use Rattle.survey.specs.declared.Unfit.{Unfit}
use Rattle.survey.specs.declared.Unfit.TheVariants.{Bad, Misfit}

-- sizes that lent memory has
unfoldable pub sufficient : Option Sizes → (store room : Octets) → Bool
sufficient None store room = false
sufficient (Some sizes) store room = octets_within sizes.store store && octets_within sizes.octets room

-- an object held against what is lent, with nothing loaded: refused by the judgement; accepted, but 14 or 15; or it fits
unfoldable pub surveyed : Lent → Judged → Result (Unit {0}) Unfit
surveyed lent (refused r) = Err (Bad r)
surveyed lent (accepted t) = cond (leb (count t) lent.records) (cond (stored_within lent t) (Ok tt) (Err (Misfit (refusal 15 0)))) (Err (Misfit (refusal 14 0)))

-- places for so many records, and sizes
abbrev pub records_sizes : (records : ℕ) (sizes : Option Sizes) → Needs
records_sizes records sizes = record { records = records; sizes = sizes }

-- what an object needs: places for its records, and what its texts and values take of a store and its normal form of a room (change request 2026-09)
unfoldable pub needed_of : Judged → Result Needs Refusal
needed_of (refused r) = Err r
needed_of (accepted t) = Ok (records_sizes (count t) (measured_of t))

-- what items need that are judged by themselves in an element of a tag: 14 and 15 are asked of all that memory is to hold, so nothing is compared here
unfoldable pub needed_by : ℕ → Judged → Result Needs Refusal
needed_by element (refused r) = Err r
needed_by element (accepted t) = Ok (records_sizes (count t) (measured_in element t))
