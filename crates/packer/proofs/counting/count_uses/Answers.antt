use borrow.Author.Rules.{rules}
use Rattle.packer.proofs.Counted.{count-done, count-same, count-other}
use Rattle.packer.proofs.counting.count_uses.Goals as goal
use Rattle.packer.proofs.counting.count_uses.Goals.{then-is_again, else-is_again}

pub loop-j-preserved : goal.loop-j-preserved
loop-j-preserved c =
    elim c.if-is_again.branch [
      | then-is_again w ↦ count-same _ _ _ _ _ _ c.requires.noted c.requires.i_lt_n c.requires.n_in_bounds _ c.requires.keyed _ _ c.next_keyed-j.ensures
          _ _ c.loop-j.invariant c.loop-j-test.true _ _ w.if-is_again.ensures w.done-is w.uses-is
      | else-is_again w ↦ count-other _ _ _ _ _ _ c.requires.noted c.requires.i_lt_n c.requires.n_in_bounds _ c.requires.keyed _ _ c.next_keyed-j.ensures
          _ _ c.loop-j.invariant c.loop-j-test.true _ _ w.if-is_again.ensures w.done-is w.uses-is
    ]

pub returns : goal.returns
returns c = search (count-done, rules)
