use Rattle.packer.proofs.Noting.{noting-holds, noting-onward, noting-inside, noting-letters, noting-ways}
use borrow.Author.Rules.{rules}
use Rattle.packer.proofs.collecting.note_words.Goals as goal

pub note_one-count-requires : goal.note_one-count-requires
note_one-count-requires c = record {
  holding = noting-holds c.args.object.now c.args.starts.now c.args.sizes.now c.args.n c.args.from c.args.to c.requires.from_le_to c.requires.to_in_bounds _
      _ _ _ c.loop-at.invariant _ c.piece_end-end.ensures;
  at_le_end = noting-onward c.args.object.now c.args.starts.now c.args.sizes.now c.args.n c.args.from c.args.to c.requires.from_le_to
      c.requires.to_in_bounds _ _ _ _ c.loop-at.invariant _ c.piece_end-end.ensures;
  end_in_bounds = noting-inside c.args.object.now c.args.starts.now c.args.sizes.now c.args.n c.args.from c.args.to c.requires.from_le_to
      c.requires.to_in_bounds _ _ _ _ c.loop-at.invariant _ c.piece_end-end.ensures;
  object_value = noting-letters c.args.object.now c.args.starts.now c.args.sizes.now c.args.n c.args.from c.args.to c.requires.from_le_to
      c.requires.to_in_bounds _ _ _ _ c.loop-at.invariant _ c.piece_end-end.ensures;
}

pub loop-at-preserved : goal.loop-at-preserved
loop-at-preserved c = search (noting-ways, rules)

pub returns : goal.returns
returns c = search (noting-ways, rules)
