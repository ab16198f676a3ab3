use Rattle.std.proofs.lemmas.Result.{err_from_is_err_and}
use mathlib.Core.Path.{refl}
use Rattle.judge.proofs.OwnWays.{own-bad, own-good, own-ways}
use borrow.Author.Rules.{rules}
use Rattle.judge.proofs.rules.judge_framed.Goals as goal

pub returns-then-rest-start : goal.returns-then-rest-start
returns-then-rest-start c = search (own-ways, rules)

pub bounds-rest-0 : goal.bounds-rest-0
bounds-rest-0 c = search (own-ways, rules)

pub returns-then-not-is_allowed : goal.returns-then-not-is_allowed
returns-then-not-is_allowed c = search (own-ways, rules)

pub returns-then-trails : goal.returns-then-trails
returns-then-trails c = search (own-ways, rules)

pub returns-in_err-check_item : goal.returns-in_err-check_item
returns-in_err-check_item c =
    let p = err_from_is_err_and c.from_residual.result c.from_residual.ensures.1 in
    rw (p.1, p.2)
    (own-bad _ _ _ _ _ _ _ _ c.requires.framed.0 c.if-rest-start.false _ refl _ c.is_allowed.ensures c.if-not-is_allowed.false _
    c.trails.ensures c.if-trails.false _ c.check_item.ensures _ c.in_err-check_item.was)

pub returns : goal.returns
returns c =
    own-good _ _ _ _ _ _ _ _ c.requires.framed.0 c.if-rest-start.false _ refl _ c.is_allowed.ensures c.if-not-is_allowed.false _
    c.trails.ensures c.if-trails.false _ c.check_item.ensures c.in_ok-check_item.was _ c.known_kind-known.ensures _ c.sort_of.ensures _ c.progress_after.ensures
