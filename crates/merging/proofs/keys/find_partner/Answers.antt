use Rattle.std.proofs.Common.{rules}
use Rattle.text.specs.Index.{entries_by}
use Rattle.merging.specs.Keyed.{is_partner}
use Rattle.merging.proofs.keys.find_partner.Goals as goal

pub returns : goal.returns
returns c =
    let a = c.args in
    c.find_child.ensures (is_partner a.by a.tag (entries_by a.index_x.now a.table_x.now) a.x.now (entries_by a.index_y.now a.table_y.now))
    (λ tag body r p lt. search rules)
