use Rattle.edits.proofs.Parts.{moved_to, to_same}
use Rattle.edits.proofs.moving.move_to.Goals as goal

pub returns-then-part : goal.returns-then-part
returns-then-part g c = moved_to _ _ c.requires _ c.copy_within.ensures.after

pub returns-else-part : goal.returns-else-part
returns-else-part g c = to_same _ _ c.if-part.false
