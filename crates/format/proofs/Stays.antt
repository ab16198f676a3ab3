-- The references of a struct of lent lists, which stay.
use mathlib.Core.Path.{refl, ◌∙◌}
use Rattle.format.specs.declared.lent.RecordsMut.{RecordsMut}
use Rattle.format.specs.Lent.{Stay}

pub stay-same : (r : RecordsMut) → Stay r r
stay-same r = record { tags = refl; kinds = refl; depths = refl; parents = refl; starts = refl; sizes = refl }

pub stay-on : (a b c : RecordsMut) → Stay a b → Stay b c → Stay a c
stay-on a b c s t =
    record {
      tags = t.tags ∙ s.tags;
      kinds = t.kinds ∙ s.kinds;
      depths = t.depths ∙ s.depths;
      parents = t.parents ∙ s.parents;
      starts = t.starts ∙ s.starts;
      sizes = t.sizes ∙ s.sizes;
    }
