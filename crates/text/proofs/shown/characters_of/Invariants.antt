use Rattle.text.proofs.ShownLaws.{Filling}
use Rattle.text.proofs.shown.characters_of.Given as goal

abbrev pub invariant-loop-b : goal.invariant-loop-b
invariant-loop-b l = Filling l.table l.shows l.b
