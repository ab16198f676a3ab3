use Rattle.writer.proofs.Items.{plain-octets}
use Rattle.writer.proofs.item.put_stored.Goals as goal

pub put_item-requires : goal.put_item-requires
put_item-requires c = rw plain-octets c.requires

pub returns : goal.returns
returns c = rw plain-octets at c.put_item.ensures
