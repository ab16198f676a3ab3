use Rattle.std.proofs.lemmas.Result.{err_from_is_err_and}
use Rattle.merging.proofs.Deciding.{decided-refused, decided-free}
use Rattle.merging.proofs.merged.decide.Goals as goal

pub returns-in_err-find_conflict : goal.returns-in_err-find_conflict
returns-in_err-find_conflict c =
    let p = err_from_is_err_and c.from_residual.result c.from_residual.ensures.1 in
    rw (p.1, p.2) (decided-refused _ _ _ _ _ _ _ c.find_conflict.ensures _ c.in_err-find_conflict.was)

pub returns : goal.returns
returns c =
    decided-free _ _ _ _ _ _ _ c.find_conflict.ensures c.in_ok-find_conflict.was _ _ c.put_object-needs.ensures c.requires.places_lt_most c.requires.store_lt_most _
    c.fit.ensures
