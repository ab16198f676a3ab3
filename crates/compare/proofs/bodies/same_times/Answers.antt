use Rattle.compare.proofs.Telling.{taken-times, times-both}
use borrow.Author.Rules.{rules}
use Rattle.compare.proofs.bodies.same_times.Goals as goal

pub returns-in_default : goal.returns-in_default
returns-in_default c = search (taken-times, rules)

pub returns-in_default-take : goal.returns-in_default-take
returns-in_default-take c = search (taken-times, rules)

pub returns : goal.returns
returns c =
    times-both _ _ _ c.take.ensures _ c.in-Ok.is _ c.take-2.ensures _ c.in-Ok-take.is _ c.eq.ensures
