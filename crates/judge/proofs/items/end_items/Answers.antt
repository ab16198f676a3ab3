use Rattle.judge.proofs.AllWays.{end-ways}
use borrow.Author.Rules.{rules}
use Rattle.judge.proofs.items.end_items.Goals as goal

pub returns-in-Err : goal.returns-in-Err
returns-in-Err c = search (end-ways, rules)

pub returns-in-Ok : goal.returns-in-Ok
returns-in-Ok c = search (end-ways, rules)

pub returns : goal.returns
returns c = search (end-ways, rules)
