use Rattle.packer.proofs.Counted.{Filling}
use Rattle.packer.proofs.counting.fill_keys.Given as goal

abbrev pub invariant-loop-j : goal.invariant-loop-j
invariant-loop-j l = Filling l.object l.starts l.sizes l.initial.keys l.keys l.n l.j
