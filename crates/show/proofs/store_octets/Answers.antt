use Rattle.show.proofs.Writing.{put-known}
use Rattle.show.proofs.store_octets.Goals as goal

-- src/lib.rt:26:1
pub returns : goal.returns
returns c =
    put-known c.args.s.now c.args.at c.args.out.now c.requires c.copy_into.new.out c.copy_into.result c.copy_into.ensures c.unwrap_or.result
    c.unwrap_or.ensures
