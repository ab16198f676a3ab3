use Rattle.values.proofs.Shifts.{low_half, four-room, put_four}
use borrow.Author.Rules.{rules}
use Rattle.values.proofs.numbers.put_four.Goals as goal

pub put_two-requires-2 : goal.put_two-requires-2
put_two-requires-2 c = record { n_bound = search (low_half, rules); at_in_bounds = search (four-room, rules) }

pub returns : goal.returns
returns c = search (put_four, rules)
