use Rattle.std.proofs.Common.{rules}
use Rattle.merging.specs.Among.{is_language, language_in}
use Rattle.merging.proofs.equal.has_language.Goals as goal

pub returns : goal.returns
unfolding language_in is_language
returns c = c.any_child.ensures is_language (λ tag body r p lt. search rules)
