use Rattle.std.proofs.Common.{rules, ◌≡◌, ℕ, ◌+◌, ◌-◌, ◌≤◌, ◌++◌, List, take, length, length-take-le, sym, ap, ◌∙◌}
use Rattle.std.proofs.lemmas.List.{take-append-le}
use Rattle.std.proofs.Math.Seq.{take-append-add}
use Rattle.std.proofs.KnownBytes.{Consumes-trans}
use borrow.Rule.Slice.PartMut.{put_mid}
use Rattle.streams.proofs.read_full.Goals as goal

-- what a read lays behind what was there
laid : (at room more : ℕ) (before read : List ℕ) → at ≤ length before → more ≤ length read
    → take (at + more) (put_mid at room before read) ≡ take at before ++ take more read
laid at room more before read p q =
    ap (λ n. take (n + more) (put_mid at room before read)) (sym (length-take-le at before p))
    ∙ take-append-add (take at before) _ more
    ∙ ap (λ l. take at before ++ l) (take-append-le more read _ q)

pub loop-size-preserved : goal.loop-size-preserved
loop-size-preserved g c =
    let both = Consumes-trans _ _ _ _ _ c.loop-size.invariant.1 c.in-Ok.ensures.bytes.0 in
    let joined = laid c.loop-size.size (length c.loop-size.buf - c.loop-size.size) c.in-Ok.more c.loop-size.buf c.read.new.buf (search rules) (search rules) in
    (search rules, rw joined both)
