use Prim.Native.Nat.{◌-◌}
use Rattle.packer.proofs.Noting.{Noting}
use Rattle.packer.proofs.collecting.note_words.Given as goal

abbrev pub invariant-loop-at : goal.invariant-loop-at
invariant-loop-at l = Noting l.object l.initial.starts l.initial.sizes l.n l.from l.to l.starts l.sizes l.count l.at

abbrev pub decreases-loop-at : goal.decreases-loop-at
decreases-loop-at l = l.to - l.from - l.at
