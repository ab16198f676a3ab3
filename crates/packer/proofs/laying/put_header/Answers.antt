use Rattle.packer.proofs.Laid.{header-placed}
use Rattle.packer.proofs.laying.put_header.Goals as goal

pub returns : goal.returns
returns c = header-placed _ _ c.args.out.now _ c.args.at _ c.requires c.write_header.ensures _ c.unwrap_or.ensures
