use Rattle.state.proofs.Seen.{has-places, seen-ways}
use borrow.Author.Rules.{rules}
use Rattle.state.proofs.holding.held.Goals as goal

pub returns-then-n-memory : goal.returns-then-n-memory
returns-then-n-memory c = search (seen-ways, rules)

pub returns-then-not-is_well_formed : goal.returns-then-not-is_well_formed
returns-then-not-is_well_formed c = search (seen-ways, rules)

pub are_right-requires : goal.are_right-requires
are_right-requires c =
    (has-places _ _ _ _ c.is_well_formed.ensures c.if-not-is_well_formed.false-raw, c.if-n-memory.false)

pub returns-then-not-are_right : goal.returns-then-not-are_right
returns-then-not-are_right c = search (seen-ways, rules)

pub lie_all-requires : goal.lie_all-requires
lie_all-requires c =
    has-places _ _ _ _ c.is_well_formed.ensures c.if-not-is_well_formed.false-raw

pub returns : goal.returns
returns c = search (seen-ways, rules)
