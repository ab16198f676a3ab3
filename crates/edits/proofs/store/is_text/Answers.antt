use Rattle.edits.proofs.Storing.{text-is, text-not}
use Rattle.edits.proofs.store.is_text.Goals as goal

pub returns-in-HoldsText : goal.returns-in-HoldsText
returns-in-HoldsText c = text-is _ c.in-HoldsText.is

pub returns-in_default : goal.returns-in_default
returns-in_default c = text-not _ c.in_default.not-HoldsText
