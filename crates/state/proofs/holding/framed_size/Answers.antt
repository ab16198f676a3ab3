use native.Mathlib.Omega.{arith}
use Rattle.survey.proofs.Parts.{framed-fits}
use Rattle.state.proofs.Checks.{framed-body}
use borrow.Author.Rules.{rules}
use Rattle.state.proofs.holding.framed_size.Goals as goal

pub overflow_add-all : goal.overflow_add-all
overflow_add-all c = framed-fits _ _ c.header_size.ensures (omega arith)

pub returns : goal.returns
returns c = search (framed-body, rules)
