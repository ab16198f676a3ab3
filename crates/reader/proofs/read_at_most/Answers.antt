use Rattle.std.proofs.lemmas.Result.{err_from_is_err_and}
use Rattle.reader.proofs.Reading.{read-refused, read-full, read-can, read-filled}
use Rattle.format.proofs.Stays.{stay-same}
use Rattle.reader.proofs.read_at_most.Goals as goal

pub returns-in_err-counts : goal.returns-in_err-counts
returns-in_err-counts c =
    let p = err_from_is_err_and c.from_residual.result c.from_residual.ensures.1 in
    record { claim = rw (p.1, p.2) (read-refused _ _ _ _ c.judge.ensures _ c.in_err-counts.was); stay = stay-same _ }

pub returns-then-min-counts : goal.returns-then-min-counts
returns-then-min-counts c =
    record {
      claim = read-full _ _ _ _ c.judge.ensures _ c.in_ok-counts.was _ _ c.places.ensures c.min.ensures c.if-min-counts.true _ c.refuse.ensures;
      stay = stay-same _;
    }

pub fill_items-requires : goal.fill_items-requires
fill_items-requires c =
    read-can _ _ _ _ c.judge.ensures _ c.in_ok-counts.was _ _ c.places.ensures c.min.ensures c.if-min-counts.false

pub returns : goal.returns
returns c =
    record {
      claim = read-filled _ _ _ _ c.judge.ensures _ c.in_ok-counts.was _ _ c.places.ensures c.min.ensures c.if-min-counts.false _ _ c.fill_items.ensures.fills;
      stay = c.fill_items.ensures.stay;
    }
