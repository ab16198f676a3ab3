use Rattle.writer.proofs.Summing.{part-past, part-here}
use Rattle.format.specs.Lent.{shared_lists}
use Rattle.writer.proofs.size.part_at.Goals as goal

pub returns-then-records-i : goal.returns-then-records-i
returns-then-records-i c =
    part-past _ _ _ (shared_lists c.args.records.now) _ c.if-records-i.true

pub returns : goal.returns
returns c =
    part-here _ _ _ (shared_lists c.args.records.now) _ c.if-records-i.false _ c.part_of.ensures
