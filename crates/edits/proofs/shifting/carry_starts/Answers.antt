use Rattle.edits.proofs.Carrying.{shifts-moved, starts-carried}
use Rattle.edits.proofs.shifting.carry_starts.Goals as goal

pub shift_starts-requires : goal.shift_starts-requires
shift_starts-requires c = shifts-moved _ _ _ _ _ _ c.requires c.move_to.ensures

pub returns : goal.returns
returns c = starts-carried _ _ _ _ _ _ c.requires c.move_to.ensures _ c.shift_starts.ensures
