use Rattle.std.proofs.Common.{sym, length-take-le}
use Rattle.spi.proofs.Ways.{merged_within}
use Rattle.spi.proofs.joining.merged_form.Goals as goal

pub slice_bounds-result-end : goal.slice_bounds-result-end
slice_bounds-result-end c =
    sym (length-take-le _ _ (merged_within _ _ _ _ _ _ _ _ c.merge.ensures c.merge.auto.room _ c.in_ok-merged.was))
