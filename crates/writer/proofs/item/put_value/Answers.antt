use Rattle.writer.proofs.Items.{value-put}
use Rattle.writer.proofs.item.put_value.Goals as goal

pub returns : goal.returns
returns c =
    value-put _ _ _ _ _ _ c.requires c.put_normal.ensures _ c.unwrap_or.ensures
