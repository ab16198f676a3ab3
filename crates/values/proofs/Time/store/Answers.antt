use Rattle.values.proofs.TimeForm.{first-room, seconds-room, offsets-room, time-stored, second-small, halves_small}
use borrow.Author.Rules.{rules}
use Rattle.values.proofs.Time.store.Goals as goal

pub put_four-requires : goal.put_four-requires
put_four-requires c = search (first-room, rules)

pub put_second-end-requires : goal.put_second-end-requires
put_second-end-requires c = record { second_bound = search (second-small, rules); second_in_bounds = search (seconds-room, rules) }

pub put_offset-requires : goal.put_offset-requires
put_offset-requires c = record { halves_bound = search (halves_small, rules); halves_in_bounds = search (offsets-room, rules) }

pub returns : goal.returns
returns c = search (time-stored, rules)
