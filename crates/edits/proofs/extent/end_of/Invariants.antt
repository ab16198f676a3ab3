use Rattle.edits.proofs.Scans.{Scanning}
use Rattle.edits.proofs.extent.end_of.Given as goal

abbrev pub invariant-loop-j : goal.invariant-loop-j
invariant-loop-j l = Scanning l.depths l.n l.number l.j
