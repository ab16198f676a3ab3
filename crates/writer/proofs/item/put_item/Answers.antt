use Rattle.writer.proofs.Items.{header-fits, value-fits-room, value-laid}
use Rattle.writer.proofs.item.put_item.Goals as goal

pub put_header-at-requires : goal.put_header-at-requires
put_header-at-requires c =
    let fits = header-fits _ _ _ _ c.value_size.ensures _ c.args.room.now c.requires in record { n_bound = fits.0; fitting = fits.1 }

pub put_value-requires : goal.put_value-requires
put_value-requires c =
    value-fits-room _ _ _ _ c.value_size.ensures _ _ c.requires _ _ c.put_header-at.ensures

pub returns : goal.returns
returns c =
    value-laid _ _ _ _ c.value_size.ensures _ _ c.requires _ _ c.put_header-at.ensures _ _ c.put_value.ensures
