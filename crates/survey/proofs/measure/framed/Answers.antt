use Rattle.survey.proofs.Parts.{framed-sum, framed-over, framed-sizes}
use Rattle.survey.proofs.measure.framed.Goals as goal

pub overflow_add-size : goal.overflow_add-size
overflow_add-size c =
    framed-sum c.args.store _ _ c.header_size.ensures (c.requires)

pub returns-then-size-gt32768 : goal.returns-then-size-gt32768
returns-then-size-gt32768 c =
    framed-over _ _ _ c.header_size.ensures c.if-size-gt32768.true

pub returns : goal.returns
returns c =
    framed-sizes _ _ _ c.header_size.ensures c.if-size-gt32768.false
