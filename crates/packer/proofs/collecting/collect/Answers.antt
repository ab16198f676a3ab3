use mathlib.Core.Path.{◌∙◌}
use Rattle.packer.proofs.Walked.{collect-ways}
use borrow.Author.Rules.{rules}
use Rattle.packer.proofs.collecting.collect.Goals as goal

pub loop-c-preserved : goal.loop-c-preserved
loop-c-preserved c =
    (c.collect_one-c.ensures.begins ∙ c.loop-c.invariant.0, (c.collect_one-c.ensures.long ∙ c.loop-c.invariant.1.0, c.collect_one-c.ensures.state))

pub loop-c-init : goal.loop-c-init
loop-c-init c = search (collect-ways, rules)

pub returns : goal.returns
returns c = search (collect-ways, rules)
