use borrow.Author.Tests.{not-true, not-false}
use native.Mathlib.Omega.{arith}
use Prim.Native.Nat.{◌-◌}
use lib.ListN.{get_or}
use Rattle.text.proofs.Index.{by-ways}
use borrow.Author.Rules.{rules}
use Rattle.text.proofs.expanding.replacement.Goals as goal

pub returns-then-not-is_token : goal.returns-then-not-is_token
returns-then-not-is_token c = search (by-ways, not-true, not-false, rules)

pub bounds-index-b : goal.bounds-index-b
bounds-index-b c = search (by-ways, not-true, not-false, rules)

pub returns-then-start-eq0 : goal.returns-then-start-eq0
returns-then-start-eq0 c = search (by-ways, not-true, not-false, rules)

pub returns-then-start-table : goal.returns-then-start-table
returns-then-start-table c = search (by-ways, not-true, not-false, rules)

pub overflow_cast-size : goal.overflow_cast-size
overflow_cast-size c =
    let args = c.args in omega (arith, c.type_inv.table (get_or args.index.now args.b 0 - 1))

pub returns-then-size-table : goal.returns-then-size-table
returns-then-size-table c = search (by-ways, not-true, not-false, rules)

pub returns-then-size-index : goal.returns-then-size-index
returns-then-size-index c = search (by-ways, not-true, not-false, rules)

pub returns : goal.returns
returns c = search (by-ways, not-true, not-false, rules)
