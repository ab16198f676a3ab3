use Rattle.edits.proofs.TextLeaves.{put-fits}
use Rattle.edits.proofs.replacing.put_text.Goals as goal

pub returns : goal.returns
returns c = put-fits _ _ _ _ _ c.copy_into.ensures c.requires
