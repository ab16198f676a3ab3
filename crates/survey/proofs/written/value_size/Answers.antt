use Rattle.survey.proofs.Parts.{value-size}
use Rattle.survey.proofs.written.value_size.Goals as goal

pub returns : goal.returns
returns c =
    value-size _ _ _ c.normal_size.ensures _ c.unwrap_or.ensures
