use borrow.Author.Rules.{rules}
use Rattle.spi_c.proofs.Calls.{merge-small, merge-says}
use Rattle.spi_c.proofs.spi_merge.Goals as goal

pub packed_merge-requires : goal.packed_merge-requires
packed_merge-requires c =
    merge-small c.args.bearers _ c.services.ensures c.args.basic.now c.args.advanced.now (λ i. search rules) (λ i. search rules) _ _ _ _ _ c.merge-answer.ensures _
    c.from.ensures

pub returns : goal.returns
returns c =
    merge-says c.args.bearers _ c.services.ensures c.args.basic.now c.args.advanced.now (λ i. search rules) (λ i. search rules) _ _ _ _ _ c.merge-answer.ensures _
    c.from.ensures _ c.packed_merge.ensures
