use Rattle.text.specs.Runs.{within}
use Rattle.fold.specs.Words.{letter}
use Rattle.packer.proofs.pieces.is_letter.Goals as goal

pub returns : goal.returns
unfolding letter within
returns c = c.is_ascii_alphabetic.ensures.value
