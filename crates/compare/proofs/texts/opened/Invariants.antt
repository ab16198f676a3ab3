use Rattle.text.specs.Index.{entries_by}
use Rattle.compare.proofs.Expansions.{Opening}
use Rattle.compare.proofs.texts.opened.Given as goal

abbrev pub invariant-loop-at : goal.invariant-loop-at
invariant-loop-at l = Opening (entries_by l.index l.table) l.table l.s l.fn.rest l.r l.at
