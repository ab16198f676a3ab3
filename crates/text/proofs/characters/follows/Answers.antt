use Rattle.text.proofs.Sequences.{follow-ways, follow-fits, follow-fits-2}
use borrow.Author.Rules.{rules}
use Rattle.text.proofs.characters.follows.Goals as goal

pub loop-b-init : goal.loop-b-init
loop-b-init c = search (follow-ways, rules)

pub returns-then-b-ne2 : goal.returns-then-b-ne2
returns-then-b-ne2 c = search (follow-ways, rules)

pub overflow_mul-c : goal.overflow_mul-c
overflow_mul-c c = search (follow-fits, rules)

pub overflow_add-c : goal.overflow_add-c
overflow_add-c c = search (follow-fits-2, rules)

pub loop-b-preserved : goal.loop-b-preserved
loop-b-preserved c = search (follow-ways, rules)

pub returns : goal.returns
returns c = search (follow-ways, rules)
