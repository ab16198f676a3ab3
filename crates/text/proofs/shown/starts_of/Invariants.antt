use Rattle.text.proofs.ShownLaws.{Counting}
use Rattle.text.proofs.shown.starts_of.Given as goal

abbrev pub invariant-loop-b : goal.invariant-loop-b
invariant-loop-b l = Counting l.part l.n l.b-index
