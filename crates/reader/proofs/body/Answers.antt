use Rattle.reader.proofs.Parts.{body-ways}
use borrow.Author.Rules.{rules}
use Rattle.reader.proofs.body.Goals as goal

pub overflow_add-end : goal.overflow_add-end
overflow_add-end c = search (body-ways, rules)

pub slice_bounds-result-end : goal.slice_bounds-result-end
slice_bounds-result-end c = search (body-ways, rules)

pub returns : goal.returns
returns c = search (body-ways, rules)
