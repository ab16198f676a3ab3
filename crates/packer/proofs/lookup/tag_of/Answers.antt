use mathlib.Core.Path.{sym, ap, ◌∙◌}
use Rattle.text.specs.Tokens.{entries}
use Rattle.fold.specs.Packed.{tag_of}
use Rattle.packer.specs.Leaves.{as_tag}
use Rattle.packer.proofs.Tagging.{seek-end, seek-long, seek-here, seek-again}
use Rattle.packer.proofs.lookup.tag_of.Goals as goal

pub returns-then-size-more : goal.returns-then-size-more
returns-then-size-more c = seek-long _ _ _ c.in-len2-up.len_at_least c.from-size.ensures c.if-size-more.true ∙ ap as_tag (sym c.loop-rest.invariant)

pub returns-then-same_octets : goal.returns-then-same_octets
returns-then-same_octets c =
    seek-here _ _ _ c.in-len2-up.len_at_least c.from-size.ensures c.if-size-more.false _ c.split_at.ensures.front _ c.same_octets.ensures c.if-same_octets.true
    ∙ ap as_tag (sym c.loop-rest.invariant)

pub loop-rest-preserved : goal.loop-rest-preserved
loop-rest-preserved c =
    c.loop-rest.invariant
    ∙ (seek-again _ _ _ c.in-len2-up.len_at_least c.from-size.ensures c.if-size-more.false _ c.split_at.ensures.front _ c.same_octets.ensures
    c.if-same_octets.false
    ∙ ap (λ rest. tag_of (entries rest) c.args.w.now) (sym c.split_at.ensures.back))

pub returns : goal.returns
returns c = seek-end _ _ c.in_default.len_below ∙ ap as_tag (sym c.loop-rest.invariant)
