use Rattle.std.specs.Prelude.{List, ℕ}
use Rattle.text.specs.Tokens.{expanded_size}
use Rattle.text.specs.Index.{entries_by}
use Rattle.text.proofs.Replaced.{Adding}
use Rattle.text.proofs.expanding.size_by.Given as goal

abbrev pub invariant-loop-b : goal.invariant-loop-b
invariant-loop-b l =
    let size = λ (s : List ℕ). (expanded_size (entries_by l.index l.table) s).0 in Adding size l.s (size l.s) l.most.0 l.total l.b-index
