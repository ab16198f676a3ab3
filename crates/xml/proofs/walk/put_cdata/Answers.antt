use Rattle.survey.proofs.Seeking.{span-ordered, span-inside}
use Rattle.xml.proofs.walk.put_cdata.Goals as goal

pub slice_bounds-put_section-count : goal.slice_bounds-put_section-count
slice_bounds-put_section-count c = span-ordered _ _ _ c.find_item.ensures _ _ c.in-Some.is

pub slice_bounds-put_section-start : goal.slice_bounds-put_section-start
slice_bounds-put_section-start c = span-ordered _ _ _ c.find_item.ensures _ _ c.in-Some.is

pub slice_bounds-put_section-end : goal.slice_bounds-put_section-end
slice_bounds-put_section-end c = span-inside _ _ _ c.find_item.ensures _ _ c.in-Some.is
