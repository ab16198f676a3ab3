use Rattle.packer.proofs.Laid.{text-ways}
use borrow.Author.Rules.{rules}
use Rattle.packer.proofs.texts.put_text.Goals as goal

pub loop-i-preserved : goal.loop-i-preserved
loop-i-preserved c = search (text-ways, rules)

pub returns : goal.returns
returns c = search (text-ways, rules)
