use Rattle.text.proofs.Sequences.{sequence-ways, lead-some}
use borrow.Author.Rules.{rules}
use Rattle.text.proofs.characters.sequence.Goals as goal

pub returns-then-single_ok : goal.returns-then-single_ok
returns-then-single_ok c = search (sequence-ways, rules)

pub returns-then-first-lt128 : goal.returns-then-first-lt128
returns-then-first-lt128 c = search (sequence-ways, rules)

pub returns-then-end-s : goal.returns-then-end-s
returns-then-end-s c = search (sequence-ways, rules)

pub slice_bounds-several_ok-count : goal.slice_bounds-several_ok-count
slice_bounds-several_ok-count c = search (lead-some, rules)

pub slice_bounds-several_ok-start : goal.slice_bounds-several_ok-start
slice_bounds-several_ok-start c = search (lead-some, rules)

pub returns-then-several_ok : goal.returns-then-several_ok
returns-then-several_ok c = search (sequence-ways, rules)

pub returns : goal.returns
returns c = search (sequence-ways, rules)
