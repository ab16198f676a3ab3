use Rattle.reader.proofs.filling.record_of.Goals as goal

pub returns : goal.returns
returns c = cc
