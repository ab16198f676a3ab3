use Rattle.survey.proofs.Seeking.{span-ordered, span-inside}
use Rattle.xml.proofs.walk.put_one.Goals as goal

pub slice_bounds-value-count : goal.slice_bounds-value-count
slice_bounds-value-count c = span-ordered _ _ _ c.find_item.ensures _ _ c.in-Some.is

pub slice_bounds-value-start : goal.slice_bounds-value-start
slice_bounds-value-start c = span-ordered _ _ _ c.find_item.ensures _ _ c.in-Some.is

pub slice_bounds-value-end : goal.slice_bounds-value-end
slice_bounds-value-end c = span-inside _ _ _ c.find_item.ensures _ _ c.in-Some.is
