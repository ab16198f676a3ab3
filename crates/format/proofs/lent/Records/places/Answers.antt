use Rattle.format.specs.Calls.{places}
use Rattle.format.proofs.lent.Records.places.Goals as goal

pub returns : goal.returns
unfolding places
returns c = cc
