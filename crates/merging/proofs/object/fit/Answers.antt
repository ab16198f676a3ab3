use borrow.Author.Rules.{rules}
use Rattle.merging.proofs.Fitting.{fit-ways}
use Rattle.merging.proofs.object.fit.Goals as goal

pub returns-then-needs-places : goal.returns-then-needs-places
returns-then-needs-places c = search (fit-ways, rules)

pub returns-then-needs-store : goal.returns-then-needs-store
returns-then-needs-store c = search (fit-ways, rules)

pub returns-then-needs-gt32768 : goal.returns-then-needs-gt32768
returns-then-needs-gt32768 c = search (fit-ways, rules)

pub returns-then-needs-room : goal.returns-then-needs-room
returns-then-needs-room c = search (fit-ways, rules)

pub returns : goal.returns
returns c = search (fit-ways, rules)
