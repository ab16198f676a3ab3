use Prim.Native.Nat.{◌-◌}
use native.Mathlib.Omega.{arith}
use lib.Count.{leading_le}
use Rattle.text.proofs.Sequences.{lead}
use borrow.Author.Rules.{rules}
use Rattle.text.proofs.characters.leading_ones.Goals as goal

pub overflow_cast-ones : goal.overflow_cast-ones
overflow_cast-ones c = record { fits = omega (arith, leading_le 8 (255 - c.args.first)) }

pub returns : goal.returns
returns c = lead _ (search rules)
