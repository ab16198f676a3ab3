use Rattle.packer.proofs.Laid.{put-placed}
use Rattle.packer.proofs.laying.put_octets.Goals as goal

pub returns : goal.returns
returns c = put-placed _ c.args.out.now _ c.args.at _ c.copy_into.ensures _ c.unwrap_or.ensures
