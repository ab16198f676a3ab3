use Rattle.text.proofs.Entries.{first-ways}
use native.Mathlib.Omega.{arith}
use borrow.Author.Rules.{rules}
use Rattle.text.proofs.tables.first_entry.Goals as goal

pub returns-then-rest-lt2 : goal.returns-then-rest-lt2
returns-then-rest-lt2 c = search (first-ways, rules)

pub overflow_cast-size : goal.overflow_cast-size
overflow_cast-size c =
    omega (arith, c.type_inv.rest 1)

pub returns-then-rest-size : goal.returns-then-rest-size
returns-then-rest-size c = search (first-ways, rules)

pub returns : goal.returns
returns c = search (first-ways, rules)
