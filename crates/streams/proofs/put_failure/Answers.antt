use Rattle.std.proofs.lemmas.Result.{on_ok_weaker}
use Rattle.std.proofs.KnownBytes.{Appends-trans}
use Rattle.streams.proofs.put_failure.Goals as goal

pub returns : goal.returns
returns g c =
    on_ok_weaker c.write_all-ended.result
    (λ ended.
    let told = Appends-trans _ _ _ _ _ c.in_ok-told.ensures.bytes ended in
    let marked = Appends-trans _ _ _ _ _ c.in_ok-marked.ensures.bytes told in
    (c.as_bytes.result.now, Appends-trans _ _ _ _ _ c.in_ok-named.ensures.bytes marked))
    c.write_all-ended.ensures.bytes
