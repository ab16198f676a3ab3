use Rattle.writer.proofs.Items.{header-put}
use Rattle.writer.proofs.item.put_header.Goals as goal

pub returns : goal.returns
returns c =
    header-put _ _ _ _ _ _ (c.requires.n_bound, c.requires.fitting) c.write_header.ensures _ c.unwrap_or.ensures
