use Rattle.survey.proofs.Listing.{sought-anywhere, sought-row}
use Rattle.survey.proofs.look.is_sought.Goals as goal
use Rattle.survey.proofs.look.is_sought.Goals.{then-contains, else-contains}

pub returns : goal.returns
returns c =
    elim c.if-contains.branch [
      | then-contains w ↦ sought-anywhere _ _ _ _ _ _ c.contains.ensures.value w.if-contains.true _ w.found-is
      | else-contains w ↦ sought-row _ _ _ _ _ _ c.contains.ensures.value w.if-contains.false _ w.contains-found.ensures.value _ w.found-is
    ]
