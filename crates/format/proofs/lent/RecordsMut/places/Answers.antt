use mathlib.Core.Path.{ap, ◌∙◌}
use Rattle.format.specs.Calls.{places}
use Rattle.format.proofs.lent.RecordsMut.places.Goals as goal

pub returns : goal.returns
returns c = c.places.ensures ∙ ap places c.as_records.ensures
