use Rattle.edits.proofs.lay.record_of.Goals as goal

pub returns : goal.returns
returns c = cc
