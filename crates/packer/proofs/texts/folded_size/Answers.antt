use Rattle.packer.proofs.Measuring.{sum_fits, sum-ways}
use borrow.Author.Rules.{rules}
use Rattle.packer.proofs.texts.folded_size.Goals as goal

pub overflow_add-size : goal.overflow_add-size
overflow_add-size c = sum_fits _ _ _ _ c.loop-at.invariant _ c.piece_end-end.ensures _ c.piece_size-size.ensures (search rules)

pub loop-at-preserved : goal.loop-at-preserved
loop-at-preserved c = search (sum-ways, rules)

pub returns : goal.returns
returns c = search (sum-ways, rules)
