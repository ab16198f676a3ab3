use Rattle.compare.proofs.Shaping.{rewritten-ways}
use borrow.Author.Rules.{rules}
use Rattle.compare.proofs.normal.is_rewritten.Goals as goal

pub is_body-requires : goal.is_body-requires
is_body-requires c = search (rewritten-ways, rules)

pub returns-in-Ok : goal.returns-in-Ok
returns-in-Ok c = search (rewritten-ways, rules)

pub returns-in-Err : goal.returns-in-Err
returns-in-Err c = search (rewritten-ways, rules)
