use Rattle.spi.proofs.Ways.{normal_within}
use Rattle.spi.proofs.objects.normal_form.Goals as goal

pub written-requires : goal.written-requires
written-requires c = normal_within _ _ _ _ _ _ c.normalise-answer.ensures c.normalise-answer.auto.room
