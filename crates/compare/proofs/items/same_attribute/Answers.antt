use Rattle.compare.proofs.Sets.{attribute-ways, counted-inside, found-missing}
use borrow.Author.Rules.{rules}
use Rattle.compare.proofs.items.same_attribute.Goals as goal

pub returns-in_default : goal.returns-in_default
returns-in_default c = search (attribute-ways, rules)

pub returns-in_default-find_counted : goal.returns-in_default-find_counted
returns-in_default-find_counted c = search (attribute-ways, rules)

pub returns-in_default-find_counted-2 : goal.returns-in_default-find_counted-2
returns-in_default-find_counted-2 c =
    found-missing _ _ _ _ _ _ _ c.known_kind.ensures _ c.in-Some.is _ c.find_counted.ensures _ c.find_counted-2.ensures _ _ c.in-Some-find_counted.is c.in_default-find_counted-2.is

pub slice_bounds-same_bodies-count : goal.slice_bounds-same_bodies-count
slice_bounds-same_bodies-count c = search (attribute-ways, rules)

pub slice_bounds-same_bodies-start : goal.slice_bounds-same_bodies-start
slice_bounds-same_bodies-start c = search (attribute-ways, rules)

pub slice_bounds-same_bodies-end : goal.slice_bounds-same_bodies-end
slice_bounds-same_bodies-end c = counted-inside _ _ _ _ c.find_counted.ensures _ _ c.in-Some-find_counted.is

pub slice_bounds-same_bodies-count-2 : goal.slice_bounds-same_bodies-count-2
slice_bounds-same_bodies-count-2 c = search (attribute-ways, rules)

pub slice_bounds-same_bodies-start-2 : goal.slice_bounds-same_bodies-start-2
slice_bounds-same_bodies-start-2 c = search (attribute-ways, rules)

pub slice_bounds-same_bodies-end-2 : goal.slice_bounds-same_bodies-end-2
slice_bounds-same_bodies-end-2 c = counted-inside _ _ _ _ c.find_counted-2.ensures _ _ c.in-Some-find_counted-2.is

pub returns : goal.returns
returns c = search (attribute-ways, rules)
