use Rattle.recording.proofs.Writing.{answer-ways}
use borrow.Author.Rules.{rules}
use Rattle.recording.proofs.lines.lay_answer.Goals as goal

pub returns-in-Ok : goal.returns-in-Ok
returns-in-Ok c = search (answer-ways, rules)

pub returns-in-Err : goal.returns-in-Err
returns-in-Err c = search (answer-ways, rules)
