-- What copying records out of the lists into a slice leaves.
use Rattle.std.specs.Prelude.{List, ℕ}
use Rattle.std.proofs.lemmas.List.Edits.{sets}
use Rattle.format.specs.declared.Record.{Record}
use Rattle.format.specs.Writer.{tabled}
use Rattle.format.specs.Calls.{Lists, row}

-- the first records of the lists, laid over the slice
abbrev pub copied : Lists → ℕ → List Record → List Record
copied l many slice = sets slice 0 (tabled (row l) many 0)
