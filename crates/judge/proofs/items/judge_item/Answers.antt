use Rattle.std.proofs.lemmas.Result.{err_from_is_err_and}
use Rattle.judge.proofs.AllWays.{behind-bad, behind-late, behind-good, behind-ways}
use borrow.Author.Rules.{rules}
use Rattle.judge.proofs.items.judge_item.Goals as goal

pub overflow_add-from : goal.overflow_add-from
overflow_add-from c = search (behind-ways, rules)

pub overflow_add-to : goal.overflow_add-to
overflow_add-to c = search (behind-ways, rules)

pub slice_bounds-judge_late-end : goal.slice_bounds-judge_late-end
slice_bounds-judge_late-end c = search (behind-ways, rules)

pub returns-in_err-item : goal.returns-in_err-item
returns-in_err-item c =
    let p = err_from_is_err_and c.from_residual.result c.from_residual.ensures.1 in
    rw (p.1, p.2) (behind-bad _ _ _ _ _ _ _ _ c.judge_own.ensures _ c.in_err-item.was)

pub returns-in_err-judge_late : goal.returns-in_err-judge_late
returns-in_err-judge_late c =
    let p = err_from_is_err_and c.from_residual-in_err-judge_late.result c.from_residual-in_err-judge_late.ensures.1 in
    rw (p.1, p.2)
    (behind-late _ _ _ _ _ _ _ _ c.judge_own.ensures _ c.in_ok-item.was _ c.is_due_after-due.ensures _ c.judge_late.ensures _ c.in_err-judge_late.was)

pub returns : goal.returns
returns c = behind-good _ _ _ _ _ _ _ _ c.judge_own.ensures _ c.in_ok-item.was _ c.is_due_after-due.ensures _ c.judge_late.ensures c.in_ok-judge_late.was
