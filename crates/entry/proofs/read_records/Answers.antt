use Rattle.std.proofs.Common.{ap, ◌∙◌}
use Rattle.entry.specs.Copies.{copied}
use Rattle.entry.proofs.Copying.{can-copy, all_read}
use Rattle.entry.proofs.read_records.Goals as goal

pub copy_records-requires : goal.copy_records-requires
copy_records-requires c = can-copy _ _ _ _ _ c.read_at_most-answer.ensures.claim _ (ap (λ o. o.count) c.from-many.ensures)

pub returns : goal.returns
returns c =
    record {
      claim =
          all_read _ _ _ _ _ c.read_at_most-answer.ensures.claim _ (ap (λ o. o.count) c.from-many.ensures) _
          (c.copy_records.ensures ∙ ap (λ l. copied l c.from-many.result.count c.args.slice.now) c.as_records.ensures);
      stay = c.read_at_most-answer.ensures.stay;
    }
