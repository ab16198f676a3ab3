use Rattle.edits.proofs.Carrying.{renumbers-moved, parents-carried}
use Rattle.edits.proofs.shifting.carry_parents.Goals as goal

pub shift_parents-requires : goal.shift_parents-requires
shift_parents-requires c = renumbers-moved _ _ _ c.requires c.move_to.ensures

pub returns : goal.returns
returns c = parents-carried _ _ _ c.requires c.move_to.ensures _ c.shift_parents.ensures
