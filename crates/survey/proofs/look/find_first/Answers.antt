use Rattle.std.proofs.lemmas.Result.{err_from_is_err_and}
use Rattle.survey.proofs.Listing.{first-refused, first-looked}
use Rattle.survey.proofs.look.find_first.Goals as goal

pub returns-in_err-judge : goal.returns-in_err-judge
returns-in_err-judge c =
    let p = err_from_is_err_and c.from_residual.result c.from_residual.ensures.1 in
    rw (p.1, p.2) (first-refused _ _ _ c.judge.ensures _ c.in_err-judge.was)

pub returns : goal.returns
returns c =
    first-looked _ _ _ c.judge.ensures _ c.in_ok-judge.was _ c.look_items.ensures
