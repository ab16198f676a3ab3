use Rattle.packer.proofs.Made.{make-again, make-inside, make-short, make-room, make-ways}
use borrow.Author.Rules.{rules}
use Rattle.packer.proofs.making.make_table.Goals as goal

pub put_entry-at-requires : goal.put_entry-at-requires
put_entry-at-requires c = record {
  size_in_bounds = make-inside c.args.object.now c.args.best c.args.table.now c.requires.kept c.requires.all_inside c.requires.in_bounds _ _ _
      c.loop-i.invariant c.loop-i-test.true _;
  size_bound = make-short c.args.object.now c.args.best c.args.table.now c.requires.kept c.requires.all_inside c.requires.in_bounds _ _ _ c.loop-i.invariant
      c.loop-i-test.true _;
  size_in_bounds_2 = make-room c.args.object.now c.args.best c.args.table.now c.requires.kept c.requires.all_inside c.requires.in_bounds _ _ _
      c.loop-i.invariant c.loop-i-test.true _;
}

pub loop-i-preserved : goal.loop-i-preserved
loop-i-preserved c =
    make-again c.args.object.now c.args.best c.args.table.now c.requires.kept c.requires.all_inside c.requires.in_bounds _ _ _ c.loop-i.invariant
    c.loop-i-test.true _ _ c.token_at.ensures _ c.put_entry-at.ensures.value _ c.put_entry-at.ensures.table_after

pub loop-i-init : goal.loop-i-init
loop-i-init c = search (make-ways, rules)
