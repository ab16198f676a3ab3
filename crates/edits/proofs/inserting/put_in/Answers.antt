use mathlib.Core.Path.{◌∙◌}
use Rattle.edits.proofs.InsertWays.{put-lays, put-leaves}
use Rattle.edits.proofs.inserting.put_in.Goals as goal

pub lay_items-requires : goal.lay_items-requires
lay_items-requires c = record { items_layable = put-lays _ _ _ _ c.requires _ c.resite.ensures; indexes = c.index_of-index.ensures }

pub shape_of-tags : goal.shape_of-tags
shape_of-tags c = c.tags-2-1.given ∙ c.tags-1.given

pub shape_of-kinds : goal.shape_of-kinds
shape_of-kinds c = c.kinds-2-1.given ∙ c.kinds-1.given

pub shape_of-depths : goal.shape_of-depths
shape_of-depths c = c.depths-2-1.given ∙ c.depths-1.given

pub returns : goal.returns
returns c = put-leaves _ _ _ _ _ _ _ c.resite.ensures c.lay_items.ensures
