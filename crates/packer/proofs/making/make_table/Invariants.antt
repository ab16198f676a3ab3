use Rattle.packer.proofs.Made.{Making}
use Rattle.packer.proofs.making.make_table.Given as goal

abbrev pub invariant-loop-i : goal.invariant-loop-i
invariant-loop-i l = Making l.object (record { words = l.words; count = l.count }) l.initial.table l.table l.at l.i
