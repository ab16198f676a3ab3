use Rattle.writer.proofs.Emitting.{body-fits, body-laid}
use Rattle.writer.proofs.emit.put_body.Goals as goal

pub put_written-requires : goal.put_written-requires
put_written-requires c =
    let fits = body-fits _ _ _ _ _ _ _ _ c.requires.standing c.requires.fitting in record { standing = fits.0; fitting = fits.1 }

pub returns : goal.returns
returns c =
    body-laid _ _ _ _ _ _ _ _ _ c.put_written.ensures
