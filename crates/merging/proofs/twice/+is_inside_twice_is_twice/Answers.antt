use borrow.Author.Tests.{not-true, not-false}
use Rattle.compare.proofs.Comparing.{found-ways}
use Rattle.merging.proofs.KeyWays.{inside-ways, once-ways}
use borrow.Author.Rules.{rules}
use Rattle.merging.proofs.twice.+is_inside_twice_is_twice.Goals as goal

pub is_inside_twice-returns-then-levels-eq0 : goal.is_inside_twice-returns-then-levels-eq0
is_inside_twice-returns-then-levels-eq0 t c = search (inside-ways, not-true, not-false, rules)

pub is_inside_twice-returns-then-not-holds_items : goal.is_inside_twice-returns-then-not-holds_items
is_inside_twice-returns-then-not-holds_items t c = search (inside-ways, not-true, not-false, rules)

pub is_inside_twice-returns : goal.is_inside_twice-returns
is_inside_twice-returns t c = search (inside-ways, not-true, not-false, rules)

pub is_twice-returns : goal.is_twice-returns
is_twice-returns t c = search (once-ways, found-ways, rules)

pub is_twice-bounds-part-child : goal.is_twice-bounds-part-child
is_twice-bounds-part-child t c = search (once-ways, found-ways, rules)

pub is_twice-slice_bounds-body-count : goal.is_twice-slice_bounds-body-count
is_twice-slice_bounds-body-count t c = search (once-ways, found-ways, rules)

pub is_twice-slice_bounds-body-start : goal.is_twice-slice_bounds-body-start
is_twice-slice_bounds-body-start t c = search (once-ways, found-ways, rules)

pub is_twice-slice_bounds-body-end : goal.is_twice-slice_bounds-body-end
is_twice-slice_bounds-body-end t c = search (once-ways, found-ways, rules)

pub is_twice-returns-then-is_again : goal.is_twice-returns-then-is_again
is_twice-returns-then-is_again t c = search (once-ways, found-ways, rules)

pub is_twice-returns-then-is_inside_twice : goal.is_twice-returns-then-is_inside_twice
is_twice-returns-then-is_inside_twice t c = search (once-ways, found-ways, rules)

pub is_twice-loop-child-smaller : goal.is_twice-loop-child-smaller
is_twice-loop-child-smaller t c = search (once-ways, found-ways, rules)

pub is_twice-loop-child-preserved : goal.is_twice-loop-child-preserved
is_twice-loop-child-preserved t c = search (once-ways, found-ways, rules)
