use borrow.Author.Rules.{rules}
use Rattle.spi_c.proofs.Told.{edit-told}
use Rattle.spi_c.proofs.Calls.{leaves-small, leaves-says}
use Rattle.spi_c.proofs.spi_replace_text.Goals as goal

pub packed_outcome-requires : goal.packed_outcome-requires
packed_outcome-requires c = leaves-small _ _ _ _ c.replace_text-answer.ensures (edit-told _ _ _ (λ i. search rules) (λ i. search rules)) _ c.from.ensures

pub returns : goal.returns
returns c =
    leaves-says _ _ _ _ c.replace_text-answer.ensures (edit-told _ _ _ (λ i. search rules) (λ i. search rules)) _ c.from.ensures _ c.packed_outcome.ensures
