use Prim.Native.Nat.{◌<◌}
use native.Mathlib.Omega.{arith}
use lib.ListN.{length}
use borrow.Author.Tests.{not-false}
use Rattle.octets.proofs.Writing.{header-in, write-ways}
use borrow.Author.Rules.{rules}
use Rattle.octets.proofs.write_header.Goals as goal

pub returns-then-n-gt65535 : goal.returns-then-n-gt65535
returns-then-n-gt65535 c = search (write-ways, rules)

pub returns-then-not-has_room : goal.returns-then-not-has_room
returns-then-not-has_room c = search (write-ways, rules)

pub bounds-out-at : goal.bounds-out-at
bounds-out-at c = search (write-ways, rules)

pub overflow_add-at : goal.overflow_add-at
overflow_add-at c =
    let a = c.args in
    let inside : a.at < length a.out.now = search (header-in, not-false, rules) in
    omega arith

pub store_length-requires : goal.store_length-requires
store_length-requires c = search (write-ways, rules)

pub overflow_add-result : goal.overflow_add-result
overflow_add-result c = search (write-ways, rules)

pub shape_of-out : goal.shape_of-out
shape_of-out c = search (write-ways, rules)

pub returns : goal.returns
returns c = search (write-ways, rules)
