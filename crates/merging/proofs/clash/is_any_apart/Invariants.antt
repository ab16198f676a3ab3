use Rattle.text.specs.Index.{entries_by}
use Rattle.merging.proofs.ClashWays.{Near}
use Rattle.merging.proofs.clash.is_any_apart.Given as goal

abbrev pub invariant-loop-key : goal.invariant-loop-key
invariant-loop-key l = Near l.tag (entries_by l.index_x l.table_x) l.x (entries_by l.index_y l.table_y) l.y l.key
