use borrow.Author.Rules.{rules}
use Rattle.merging.proofs.Fitting.{object-put}
use Rattle.merging.proofs.object.put_object.Goals as goal

pub returns : goal.returns
returns c = search (object-put, rules)
