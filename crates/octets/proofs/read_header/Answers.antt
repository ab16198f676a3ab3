use native.Mathlib.Omega.{arith}
use Rattle.octets.proofs.Reading.{header-ways}
use borrow.Author.Rules.{rules}
use Rattle.octets.proofs.read_header.Goals as goal

pub returns-then-part-lt2 : goal.returns-then-part-lt2
returns-then-part-lt2 c = search (header-ways, rules)

pub bounds-part-1 : goal.bounds-part-1
bounds-part-1 c = search (header-ways, rules)

pub overflow_cast-size : goal.overflow_cast-size
overflow_cast-size c = omega (arith, c.type_inv.part 1)

pub returns-then-first-lt254 : goal.returns-then-first-lt254
returns-then-first-lt254 c = search (header-ways, rules)

pub returns-then-part-lt4 : goal.returns-then-part-lt4
returns-then-part-lt4 c = search (header-ways, rules)

pub slice_bounds-value_of-count : goal.slice_bounds-value_of-count
slice_bounds-value_of-count c = search (header-ways, rules)

pub slice_bounds-value_of-start : goal.slice_bounds-value_of-start
slice_bounds-value_of-start c = search (header-ways, rules)

pub slice_bounds-value_of-end : goal.slice_bounds-value_of-end
slice_bounds-value_of-end c = search (header-ways, rules)

pub value_of-size-requires : goal.value_of-size-requires
value_of-size-requires c = search (header-ways, rules)

pub overflow_cast-size-then-first : goal.overflow_cast-size-then-first
overflow_cast-size-then-first c = search (header-ways, rules)

pub returns-then-first : goal.returns-then-first
returns-then-first c = search (header-ways, rules)

pub returns-then-part-lt5 : goal.returns-then-part-lt5
returns-then-part-lt5 c = search (header-ways, c.type_inv.part 1, rules)

pub slice_bounds-value_of-count-2 : goal.slice_bounds-value_of-count-2
slice_bounds-value_of-count-2 c = search (header-ways, rules)

pub slice_bounds-value_of-start-2 : goal.slice_bounds-value_of-start-2
slice_bounds-value_of-start-2 c = search (header-ways, rules)

pub slice_bounds-value_of-end-2 : goal.slice_bounds-value_of-end-2
slice_bounds-value_of-end-2 c = search (header-ways, rules)

pub value_of-size-requires-2 : goal.value_of-size-requires-2
value_of-size-requires-2 c = search (header-ways, rules)

pub overflow_cast-size-2 : goal.overflow_cast-size-2
overflow_cast-size-2 c = search (header-ways, rules)

pub returns : goal.returns
returns c = search (header-ways, c.type_inv.part 1, rules)
