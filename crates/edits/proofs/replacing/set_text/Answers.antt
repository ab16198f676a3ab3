use Rattle.edits.proofs.TextLeaves.{set-shifts, set-raises, set-raised, set-done}
use Rattle.edits.proofs.replacing.set_text.Goals as goal

pub shift_starts-requires : goal.shift_starts-requires
shift_starts-requires c = set-shifts _ _ _ _ _ _ _ _ _ _ c.requires

pub raise-requires : goal.raise-requires
raise-requires c = set-raises _ _ _ _ _ _ _ _ _ _ c.requires _ c.framed_size.ensures _ c.framed_size-2.ensures

pub put_size-requires : goal.put_size-requires
put_size-requires c = c.requires.sized.in-sizes

pub put_size-requires-2 : goal.put_size-requires-2
put_size-requires-2 c = set-raised _ _ _ _ _ _ _ _ _ _ c.requires _ c.framed_size.ensures _ c.framed_size-2.ensures _ c.raise.ensures

pub returns : goal.returns
returns c = set-done _ _ _ _ _ _ _ _ _ _ c.requires _ c.framed_size.ensures _ c.framed_size-2.ensures _ _ _ _ _ _ c.move_to.ensures c.put_text.ensures c.shift_starts.ensures c.raise.ensures c.put_size.ensures c.put_size-2.ensures
