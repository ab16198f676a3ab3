use lib.ListN.{length}
use Rattle.text.specs.Index.{entries_by}
use Rattle.compare.specs.Texts.{left}
use Rattle.compare.proofs.Expansions.{Meeting}
use Rattle.compare.proofs.texts.same_texts.Given as goal

abbrev pub invariant-loop-p : goal.invariant-loop-p
invariant-loop-p l = Meeting (entries_by l.index_a l.table_a) l.table_a l.a (entries_by l.index_b l.table_b) l.table_b l.b l.p l.q

abbrev pub decreases-loop-p : goal.decreases-loop-p
decreases-loop-p l = length (left (entries_by l.index_a l.table_a) l.table_a l.a l.p)
