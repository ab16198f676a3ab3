use mathlib.Core.Path.{refl}
use Rattle.packer.proofs.Chosen.{consider-skip, consider-add}
use Rattle.packer.proofs.counting.consider.Goals as goal

pub returns-then-done-i-ne0 : goal.returns-then-done-i-ne0
returns-then-done-i-ne0 c = record {
  done_len_unchanged = refl;
  chooses_2 = consider-skip c.args.object.now c.args.starts.now c.args.sizes.now c.args.n c.args.done.now c.args.best c.args.i c.requires.noted
      c.requires.i_lt_n c.requires.chooses c.if-done-i-ne0.true;
}

pub count_uses-uses-requires : goal.count_uses-uses-requires
count_uses-uses-requires c = record { noted = c.requires.noted; keyed = c.requires.keyed; i_lt_n = c.requires.i_lt_n; n_in_bounds = c.requires.chooses.places }

pub returns : goal.returns
returns c = record {
  done_len_unchanged = c.count_uses-uses.ensures.long;
  chooses_2 = consider-add c.args.object.now c.args.starts.now c.args.sizes.now c.args.n c.args.done.now c.args.best c.args.i c.requires.noted c.requires.i_lt_n
      c.requires.chooses c.if-done-i-ne0.false _ _ c.count_uses-uses.ensures _ _ c.from-start.ensures c.from-size.ensures _
      c.saved_by-saved.ensures _ c.insert.ensures;
}
