use Rattle.xml.proofs.Walking.{Rises}
use Rattle.text.specs.Tokens.{entries}
use Rattle.xml.proofs.walk.put_attributes.Given as goal

abbrev pub invariant-loop-n : goal.invariant-loop-n
invariant-loop-n l = Rises l.emit l.parent (entries l.table) l.body l.at l.initial.out l.out l.to l.n
