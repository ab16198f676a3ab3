use native.Mathlib.Omega.{arith}
use Rattle.edits.proofs.WholeLaid.{whole-can, whole-laid}
use Rattle.edits.proofs.lay.lay.Goals as goal

pub lay_items-all-requires : goal.lay_items-all-requires
lay_items-all-requires c =
    record { items_layable = whole-can _ _ _ (λ i. omega (arith, c.type_inv.object i)) c.table_of-table.ensures c.requires; indexes = c.index_of-index.ensures }

pub shape_of-tags : goal.shape_of-tags
shape_of-tags c =
    c.tags-1.given

pub shape_of-kinds : goal.shape_of-kinds
shape_of-kinds c =
    c.kinds-1.given

pub shape_of-depths : goal.shape_of-depths
shape_of-depths c =
    c.depths-1.given

pub shape_of-parents : goal.shape_of-parents
shape_of-parents c =
    c.parents-1.given

pub shape_of-starts : goal.shape_of-starts
shape_of-starts c =
    c.starts-1.given

pub shape_of-sizes : goal.shape_of-sizes
shape_of-sizes c =
    c.sizes-1.given

pub shape_of-bodies : goal.shape_of-bodies
shape_of-bodies c =
    c.bodies-1.given

pub shape_of-store : goal.shape_of-store
shape_of-store c =
    c.store-1.given

pub returns : goal.returns
returns c =
    whole-laid _ _ _ (λ i. omega (arith, c.type_inv.object i)) c.table_of-table.ensures c.requires _ _ c.lay_items-all.ensures
