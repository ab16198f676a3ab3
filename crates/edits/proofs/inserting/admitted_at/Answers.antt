use Rattle.edits.proofs.InsertLeaves.{admits-ways}
use borrow.Author.Rules.{rules}
use Rattle.edits.proofs.inserting.admitted_at.Goals as goal

pub returns-then-not-is_element : goal.returns-then-not-is_element
returns-then-not-is_element c = search (admits-ways, rules)

pub returns-then-not-comes_between : goal.returns-then-not-comes_between
returns-then-not-comes_between c = search (admits-ways, rules)

pub returns-then-needs-eq0 : goal.returns-then-needs-eq0
returns-then-needs-eq0 c = search (admits-ways, rules)

pub returns-in-Err : goal.returns-in-Err
returns-in-Err c = search (admits-ways, rules)

pub returns-else-needs-eq0 : goal.returns-else-needs-eq0
returns-else-needs-eq0 c = search (admits-ways, rules)
