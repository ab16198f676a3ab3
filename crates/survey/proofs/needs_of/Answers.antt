use Rattle.std.proofs.lemmas.Result.{err_from_is_err_and}
use Rattle.survey.proofs.Surveying.{whole-refused, whole-items}
use Rattle.survey.proofs.needs_of.Goals as goal

pub returns-in_err-counts : goal.returns-in_err-counts
returns-in_err-counts c =
    let p = err_from_is_err_and c.from_residual.result c.from_residual.ensures.1 in
    rw (p.1, p.2) (whole-refused _ _ c.judge.ensures _ c.in_err-counts.was)

pub returns : goal.returns
returns c =
    whole-items _ _ c.judge.ensures _ c.in_ok-counts.was _ c.measure.ensures
