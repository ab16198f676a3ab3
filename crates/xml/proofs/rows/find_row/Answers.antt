use mathlib.Core.Path.{sym, ap, ◌∙◌}
use mathlib.Core.Option.{some}
use Rattle.text.specs.Tokens.{entries, entry}
use Rattle.xml.proofs.Rowing.{seek-end, seek-long, seek-here, seek-again}
use Rattle.xml.proofs.rows.find_row.Goals as goal

pub returns-then-size-more : goal.returns-then-size-more
returns-then-size-more c = c.loop-rest.invariant ∙ seek-long _ _ _ c.in-len2-up.len_at_least c.from-size.ensures c.if-size-more.true

pub returns-then-first-key : goal.returns-then-first-key
returns-then-first-key c =
    c.loop-rest.invariant
    ∙ (seek-here _ _ _ c.in-len2-up.len_at_least c.from-size.ensures c.if-size-more.false c.if-first-key.true ∙ ap some (sym c.split_at.ensures.front))

pub loop-rest-preserved : goal.loop-rest-preserved
loop-rest-preserved c =
    c.loop-rest.invariant
    ∙ (seek-again _ _ _ c.in-len2-up.len_at_least c.from-size.ensures c.if-size-more.false c.if-first-key.false
    ∙ ap (λ rest. entry (entries rest) c.args.key) (sym c.split_at.ensures.back))

pub returns : goal.returns
returns c = c.loop-rest.invariant ∙ seek-end _ _ c.in_default.len_below
