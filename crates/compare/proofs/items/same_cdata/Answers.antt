use Rattle.survey.proofs.Seeking.{span-inside}
use Rattle.compare.proofs.Sets.{data-ways, text-missing}
use borrow.Author.Rules.{rules}
use Rattle.compare.proofs.items.same_cdata.Goals as goal

pub returns-in_default : goal.returns-in_default
returns-in_default c = search (data-ways, rules)

pub returns-in_default-find_item : goal.returns-in_default-find_item
returns-in_default-find_item c =
    text-missing _ _ _ _ _ c.find_item.ensures _ c.find_item-2.ensures _ _ c.in-Some.is c.in_default-find_item.is

pub slice_bounds-same_texts-count : goal.slice_bounds-same_texts-count
slice_bounds-same_texts-count c = search (data-ways, rules)

pub slice_bounds-same_texts-start : goal.slice_bounds-same_texts-start
slice_bounds-same_texts-start c = search (data-ways, rules)

pub slice_bounds-same_texts-end : goal.slice_bounds-same_texts-end
slice_bounds-same_texts-end c = span-inside _ _ _ c.find_item.ensures _ _ c.in-Some.is

pub slice_bounds-same_texts-count-2 : goal.slice_bounds-same_texts-count-2
slice_bounds-same_texts-count-2 c = search (data-ways, rules)

pub slice_bounds-same_texts-start-2 : goal.slice_bounds-same_texts-start-2
slice_bounds-same_texts-start-2 c = search (data-ways, rules)

pub slice_bounds-same_texts-end-2 : goal.slice_bounds-same_texts-end-2
slice_bounds-same_texts-end-2 c = span-inside _ _ _ c.find_item-2.ensures _ _ c.in-Some-find_item.is

pub returns : goal.returns
returns c = search (data-ways, rules)
