use Rattle.std.proofs.lemmas.Result.{err_from_is_err_and}
use Rattle.judge.proofs.AllWays.{all-late, all-item}
use Rattle.judge.proofs.items.read_item.Goals as goal

pub returns : goal.returns
returns c = all-item _ _ _ _ _ _ _ _ c.is_due_before-due.ensures _ c.judge_late.ensures c.in_ok-judge_late.was _ c.judge_item.ensures

pub returns-in_err-judge_late : goal.returns-in_err-judge_late
returns-in_err-judge_late c =
    let p = err_from_is_err_and c.from_residual.result c.from_residual.ensures.1 in
    rw (p.1, p.2) (all-late _ _ _ _ _ _ _ _ c.is_due_before-due.ensures _ c.judge_late.ensures _ c.in_err-judge_late.was)
