use Rattle.std.proofs.Common.{slice_set, sym, ap, ◌∙◌}
use Rattle.entry.proofs.Copying.{copied_none, copied_next, all-copied}
use Rattle.entry.proofs.copy_records.Goals as goal

pub loop-i-init : goal.loop-i-init
loop-i-init c = sym (copied_none _ _)

pub loop-i-preserved : goal.loop-i-preserved
loop-i-preserved c = ap (λ s. slice_set s c.loop-i.i c.at.result) c.loop-i.invariant ∙ copied_next _ _ _ _ c.at.ensures

pub returns : goal.returns
returns c = all-copied _ _ _ _ _ c.requires c.loop-i.auto.i-end c.loop-i-test.false c.loop-i.invariant
