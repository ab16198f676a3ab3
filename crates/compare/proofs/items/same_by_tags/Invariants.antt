use Rattle.compare.proofs.Sets.{Sets}
use Rattle.text.specs.Index.{entries_by}
use Rattle.compare.proofs.items.same_by_tags.Given as goal

abbrev pub invariant-loop-tag : goal.invariant-loop-tag
invariant-loop-tag l = Sets l.parent (entries_by l.index_a l.table_a) l.a (entries_by l.index_b l.table_b) l.b l.tag
