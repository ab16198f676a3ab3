use Rattle.text.proofs.Replaced.{sized-ways, sized-from}
use borrow.Author.Rules.{rules}
use Rattle.text.proofs.expanding.expanded_size.Goals as goal

pub returns-then-s-eq0 : goal.returns-then-s-eq0
returns-then-s-eq0 c = search (sized-ways, rules)

pub returns-then-most-from : goal.returns-then-most-from
returns-then-most-from c = search (sized-ways, rules)

pub returns-then-from-s : goal.returns-then-from-s
returns-then-from-s c = search (sized-ways, rules)

pub returns : goal.returns
returns c = sized-from c.args.widths.now c.args.s.now c.args.most c.untokened_end-from.result c.untokened_end-from.ensures c.size_from.result c.size_from.ensures
