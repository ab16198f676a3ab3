use mathlib.Core.Path.{◌≡◌}
use Prim.Native.Nat.{◌-◌}
use lib.ListN.{length}
use Rattle.packer.specs.Collecting.{Collecting}
use Rattle.packer.proofs.collecting.collect.Given as goal

abbrev pub invariant-loop-c : goal.invariant-loop-c
invariant-loop-c l = (length l.starts ≡ length l.initial.starts) × ((length l.sizes ≡ length l.initial.sizes) × Collecting l.object l.starts l.sizes l.c)

abbrev pub decreases-loop-c : goal.decreases-loop-c
decreases-loop-c l = length l.object - l.c.at
