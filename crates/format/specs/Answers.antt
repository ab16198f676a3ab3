-- Document 01's number and values for each case of an answer (Refusal numbers; Expected forms by place, last paragraph).
use Rattle.std.specs.Prelude.{Bool, false, ℕ, Result, Ok, Err}
use Rattle.octets.specs.declared.counts.Octets.{Octets}
use Rattle.format.specs.declared.Counts.{Counts}
use Rattle.format.specs.declared.Refusal.{Refusal}
use Rattle.format.specs.declared.SameRefusal.{SameRefusal}
use Rattle.format.specs.declared.SameRefusal.TheVariants.{First, Second}
use Rattle.format.specs.declared.Outcome.{Outcome}
use Rattle.format.specs.declared.SameOutcome.{SameOutcome}

-- a refusal of a number at a place, with no field
abbrev pub refusal : ℕ → ℕ → Refusal
refusal number place = record { number = number; place = place; field = 0 }

-- refusal 9 at a place, with the field of a time that is wrong, 0 of a value of another kind (change request 2026-04)
abbrev pub wrong_value : ℕ → ℕ → Refusal
wrong_value place field = record { number = 9; place = place; field = field }

-- number, place and field of a refusal, all 0 where there is none; the count, of records or of octets, and for reading the number of items judged (change request
-- 2026-09), both 0 after a refusal
abbrev pub read_outcome : Result Counts Refusal → Outcome
read_outcome (Ok counts) = record { number = 0; place = 0; field = 0; count = counts.records; items = counts.items }
read_outcome (Err r) = record { number = r.number; place = r.place; field = r.field; count = 0; items = 0 }

abbrev pub edit_outcome : Result ℕ Refusal → Outcome
edit_outcome (Ok n) = record { number = 0; place = 0; field = 0; count = n; items = 0 }
edit_outcome (Err r) = record { number = r.number; place = r.place; field = r.field; count = 0; items = 0 }

abbrev pub write_outcome : Result Octets Refusal → Outcome
write_outcome (Ok n) = record { number = 0; place = 0; field = 0; count = n.0; items = 0 }
write_outcome (Err r) = record { number = r.number; place = r.place; field = r.field; count = 0; items = 0 }

abbrev pub check_outcome : Result (Unit {0}) Refusal → Outcome
check_outcome (Ok x) = record { number = 0; place = 0; field = 0; count = 0; items = 0 }
check_outcome (Err r) = record { number = r.number; place = r.place; field = r.field; count = 0; items = 0 }

-- the same, with the object that was refused: 1 the first, 2 the second, 0 none
abbrev pub of_refused : ℕ → Refusal → SameOutcome
of_refused which r = record { same = false; which = which; number = r.number; place = r.place; field = r.field }

abbrev pub same_outcome : Result Bool SameRefusal → SameOutcome
same_outcome (Ok same) = record { same = same; which = 0; number = 0; place = 0; field = 0 }
same_outcome (Err (First r)) = of_refused 1 r
same_outcome (Err (Second r)) = of_refused 2 r
