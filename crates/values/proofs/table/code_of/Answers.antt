use Rattle.values.proofs.Lookup.{code-ways}
use borrow.Author.Rules.{rules}
use Rattle.values.proofs.table.code_of.Goals as goal

pub returns-then-tag-gt134 : goal.returns-then-tag-gt134
returns-then-tag-gt134 c = search (code-ways, rules)

pub overflow_sub-tag : goal.overflow_sub-tag
overflow_sub-tag c = search (code-ways, rules)

pub returns-then-is_attribute : goal.returns-then-is_attribute
returns-then-is_attribute c = search (code-ways, rules)

pub returns : goal.returns
returns c = search (code-ways, rules)
