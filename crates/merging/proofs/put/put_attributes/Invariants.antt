use Rattle.merging.proofs.Singly.{Rises}
use Rattle.merging.proofs.put.put_attributes.Given as goal

abbrev pub invariant-loop-tag : goal.invariant-loop-tag
invariant-loop-tag l = Rises l.emit l.parent l.index_a l.table_a l.a l.index_b l.table_b l.b l.initial.done l.initial.out l.out l.done l.tag
