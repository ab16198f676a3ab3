use Rattle.recording.proofs.Writing.{word-ways}
use borrow.Author.Rules.{rules}
use Rattle.recording.proofs.lines.octets_word.Goals as goal

pub put_bytes-requires : goal.put_bytes-requires
put_bytes-requires c = search (word-ways, rules)

pub enum_known-end : goal.enum_known-end
enum_known-end c = search (word-ways, rules)

pub bounds-room-end : goal.bounds-room-end
bounds-room-end c = search (word-ways, rules)

pub overflow_add-result : goal.overflow_add-result
overflow_add-result c = search (word-ways, rules)

pub shape_of-room-in-Ok : goal.shape_of-room-in-Ok
shape_of-room-in-Ok c = search (word-ways, rules)

pub returns-in-Ok : goal.returns-in-Ok
returns-in-Ok c = search (word-ways, rules)

pub shape_of-room-in-Err : goal.shape_of-room-in-Err
shape_of-room-in-Err c = search (word-ways, rules)

pub returns-in-Err : goal.returns-in-Err
returns-in-Err c = search (word-ways, rules)
