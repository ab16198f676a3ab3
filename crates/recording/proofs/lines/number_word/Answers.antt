use Rattle.recording.proofs.Writing.{number-ways}
use borrow.Author.Rules.{rules}
use Rattle.recording.proofs.lines.number_word.Goals as goal

pub put_decimal-requires : goal.put_decimal-requires
put_decimal-requires c = search (number-ways, rules)

pub enum_known-end : goal.enum_known-end
enum_known-end c = search (number-ways, rules)

pub bounds-room-end : goal.bounds-room-end
bounds-room-end c = search (number-ways, rules)

pub overflow_add-result : goal.overflow_add-result
overflow_add-result c = search (number-ways, rules)

pub shape_of-room-in-Ok : goal.shape_of-room-in-Ok
shape_of-room-in-Ok c = search (number-ways, rules)

pub returns-in-Ok : goal.returns-in-Ok
returns-in-Ok c = search (number-ways, rules)

pub shape_of-room-in-Err : goal.shape_of-room-in-Err
shape_of-room-in-Err c = search (number-ways, rules)

pub returns-in-Err : goal.returns-in-Err
returns-in-Err c = search (number-ways, rules)
