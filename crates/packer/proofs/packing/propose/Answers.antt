use Rattle.packer.proofs.Proposing.{proposed, zeros}
use Rattle.packer.proofs.packing.propose.Goals as goal

pub choose-best-requires : goal.choose-best-requires
choose-best-requires c = record {
  noted = c.collect-n.ensures.noted;
  keyed = c.fill_keys.ensures;
  n_in_bounds = c.collect-n.ensures.few;
  by_index = zeros 8192;
}

pub returns : goal.returns
returns c = proposed _ _ _ _ c.collect-n.ensures _ c.choose-best.ensures _ _ _ c.requires.in_bounds c.make_table.ensures
