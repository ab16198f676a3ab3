use Rattle.values.proofs.Lookup.{digit_at}
use Rattle.values.proofs.table.code_at.Goals as goal

pub returns : goal.returns
returns c = digit_at c.args.codes c.args.place
