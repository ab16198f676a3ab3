use Rattle.merging.proofs.Deciding.{fill_done}
use Rattle.merging.proofs.merged.fill.Goals as goal

pub returns : goal.returns
returns c =
    fill_done _ _ _ _ _ _ _ _ _ c.put_object-needs.ensures _ c.take_in-taken.ensures
