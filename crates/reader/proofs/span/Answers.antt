use native.Mathlib.Omega.{arith}
use Rattle.reader.proofs.Parts.{span-ways}
use borrow.Author.Rules.{rules}
use Rattle.reader.proofs.span.Goals as goal

pub returns-then-number-starts : goal.returns-then-number-starts
returns-then-number-starts c = search (span-ways, rules)

pub returns-then-number-sizes : goal.returns-then-number-sizes
returns-then-number-sizes c = search (span-ways, rules)

pub overflow_cast-start : goal.overflow_cast-start
overflow_cast-start c =
    omega (arith, c.type_inv.starts c.args.number)

pub overflow_cast-size : goal.overflow_cast-size
overflow_cast-size c =
    omega (arith, c.type_inv.sizes c.args.number)

pub overflow_add-start : goal.overflow_add-start
overflow_add-start c =
    omega (arith, c.type_inv.starts c.args.number, c.type_inv.sizes c.args.number)

pub returns-then-start-size : goal.returns-then-start-size
returns-then-start-size c = search (span-ways, rules)

pub returns : goal.returns
returns c = search (span-ways, rules)
