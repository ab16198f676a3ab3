use Rattle.judge.proofs.ItemWays.{kind-ways}
use borrow.Author.Rules.{rules}
use Rattle.judge.proofs.rules.check_kind.Goals as goal

pub returns-then-is_table : goal.returns-then-is_table
returns-then-is_table c = search (kind-ways, rules)

pub returns-then-fits_kind : goal.returns-then-fits_kind
returns-then-fits_kind c = search (kind-ways, rules)

pub returns-in-HoldsItems : goal.returns-in-HoldsItems
returns-in-HoldsItems c = search (kind-ways, rules)

pub returns-else-is_table : goal.returns-else-is_table
returns-else-is_table c = search (kind-ways, rules)

pub returns-in-HoldsText : goal.returns-in-HoldsText
returns-in-HoldsText c = search (kind-ways, rules)

pub returns-in-HoldsPlain : goal.returns-in-HoldsPlain
returns-in-HoldsPlain c = search (kind-ways, rules)

pub returns-else-fits_kind : goal.returns-else-fits_kind
returns-else-fits_kind c = search (kind-ways, rules)
