use Rattle.edits.proofs.TextLeaves.{fits-long, fits-store, fits-climbs, fits-top}
use Rattle.edits.proofs.replacing.text_fits.Goals as goal

pub returns-then-long-gt32768 : goal.returns-then-long-gt32768
returns-then-long-gt32768 c = fits-long _ _ _ _ _ _ _ c.if-long-gt32768.true

pub returns-then-used-size : goal.returns-then-used-size
returns-then-used-size c = fits-store _ _ _ _ _ _ _ c.if-long-gt32768.false c.if-used-size.true

pub top_fits-requires : goal.top_fits-requires
top_fits-requires c = fits-climbs _ _ _ _ _ _ _ c.if-long-gt32768.false c.if-used-size.false _ c.framed_size.ensures _ c.framed_size-2.ensures c.requires

pub returns : goal.returns
returns c = fits-top _ _ _ _ _ _ _ c.if-long-gt32768.false c.if-used-size.false _ c.framed_size.ensures _ c.framed_size-2.ensures _ c.top_fits.ensures
