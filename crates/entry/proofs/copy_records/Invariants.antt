use Rattle.std.proofs.Common.{◌≡◌}
use Rattle.format.specs.Lent.{shared_lists}
use Rattle.entry.specs.Copies.{copied}
use Rattle.entry.proofs.copy_records.Given as goal

-- so many records are copied
abbrev pub invariant-loop-i : goal.invariant-loop-i
invariant-loop-i l =
    l.record-items ≡ copied (shared_lists l.lists) l.i l.initial.record-items
