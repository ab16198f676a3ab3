use mathlib.Core.Path.{sym}
use borrow.Author.Rules.{rules}
use Rattle.format.specs.Lent.{six}
use Rattle.spi_c.specs.Claims.{ReadsC}
use Rattle.spi_c.proofs.Calls.{read_small, read-says, held-lists}
use Rattle.spi_c.proofs.spi_read.Goals as goal

pub packed_outcome-requires : goal.packed_outcome-requires
packed_outcome-requires c = read_small _ _ _ _ c.read-answer.ensures.claim _ c.from.ensures

pub returns : goal.returns
returns c =
    let before = six c.args.tags.now c.args.kinds.now c.args.depths.now c.args.parents.now c.args.starts.now c.args.sizes.now in
    let stay = c.read-answer.ensures.stay in
    held-lists c.read-answer.new.records (λ after. ReadsC c.args.object.now before after c.packed_outcome.result)
    (read-says _ _ _ _ c.read-answer.ensures.claim _ c.from.ensures _ c.packed_outcome.ensures) _ _ _ _ _ _
    (search (sym stay.tags, rules)) (search (sym stay.kinds, rules)) (search (sym stay.depths, rules)) (search (sym stay.parents, rules))
    (search (sym stay.starts, rules)) (search (sym stay.sizes, rules))
