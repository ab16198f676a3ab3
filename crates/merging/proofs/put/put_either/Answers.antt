use borrow.Author.Rules.{rules}
use Rattle.compare.proofs.Sets.{counted-inside}
use Rattle.merging.proofs.Singly.{either-ways}
use Rattle.merging.proofs.put.put_either.Goals as goal

pub returns-in_default : goal.returns-in_default
returns-in_default c = search (either-ways, rules)

pub slice_bounds-body-count : goal.slice_bounds-body-count
slice_bounds-body-count c = search (either-ways, rules)

pub slice_bounds-body-start : goal.slice_bounds-body-start
slice_bounds-body-start c = search (either-ways, rules)

pub slice_bounds-body-end : goal.slice_bounds-body-end
slice_bounds-body-end c = counted-inside _ _ _ _ c.find_counted.ensures _ _ c.in-Some-find_counted.is

pub returns-in-Some-find_counted : goal.returns-in-Some-find_counted
returns-in-Some-find_counted c = search (either-ways, rules)

pub returns-in_default-find_counted-2 : goal.returns-in_default-find_counted-2
returns-in_default-find_counted-2 c = search (either-ways, rules)

pub slice_bounds-body-count-2 : goal.slice_bounds-body-count-2
slice_bounds-body-count-2 c = search (either-ways, rules)

pub slice_bounds-body-start-2 : goal.slice_bounds-body-start-2
slice_bounds-body-start-2 c = search (either-ways, rules)

pub slice_bounds-body-end-2 : goal.slice_bounds-body-end-2
slice_bounds-body-end-2 c = counted-inside _ _ _ _ c.find_counted-2.ensures _ _ c.in-Some-find_counted-2.is

pub returns : goal.returns
returns c = search (either-ways, rules)
