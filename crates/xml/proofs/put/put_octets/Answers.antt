use Rattle.xml.proofs.Putting.{octets-copied}
use Rattle.xml.proofs.put.put_octets.Goals as goal

pub returns-then-emit : goal.returns-then-emit
returns-then-emit c = octets-copied _ c.args.at _ c.args.out.now _ c.if-emit.true _ c.copy_into.ensures _ c.unwrap_or.ensures
