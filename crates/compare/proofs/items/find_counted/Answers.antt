use mathlib.Core.Path.{◌∙◌}
use Rattle.survey.proofs.Seeking.{span-inside}
use Rattle.compare.proofs.Sets.{counted-ways, lies-nowhere}
use borrow.Author.Rules.{rules}
use Rattle.compare.proofs.items.find_counted.Goals as goal

pub returns-in_err-lies : goal.returns-in_err-lies
returns-in_err-lies c = c.from_residual.ensures ∙ lies-nowhere _ _ _ _ c.find_item.ensures c.in_err-lies.was

pub slice_bounds-is_default-count : goal.slice_bounds-is_default-count
slice_bounds-is_default-count c = search (c.in_ok-lies.was, counted-ways, rules)

pub slice_bounds-is_default-start : goal.slice_bounds-is_default-start
slice_bounds-is_default-start c = search (c.in_ok-lies.was, counted-ways, rules)

pub slice_bounds-is_default-end : goal.slice_bounds-is_default-end
slice_bounds-is_default-end c = span-inside _ _ _ c.find_item.ensures _ _ c.in_ok-lies.was

pub returns-then-is_default : goal.returns-then-is_default
returns-then-is_default c = search (c.in_ok-lies.was, counted-ways, rules)

pub returns : goal.returns
returns c = search (c.in_ok-lies.was, counted-ways, rules)
