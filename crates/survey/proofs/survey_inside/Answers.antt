use Rattle.std.proofs.lemmas.Result.{err_from_is_err_and}
use Rattle.survey.proofs.Surveying.{needed-refused, needed-items}
use Rattle.survey.proofs.survey_inside.Goals as goal

pub returns-in_err-counts : goal.returns-in_err-counts
returns-in_err-counts c =
    let p = err_from_is_err_and c.from_residual.result c.from_residual.ensures.1 in
    rw (p.1, p.2) (needed-refused _ _ _ _ c.judge_inside.ensures _ c.in_err-counts.was)

pub returns : goal.returns
returns c =
    needed-items _ _ _ _ c.judge_inside.ensures _ c.in_ok-counts.was _ c.measure_inside.ensures
