use Rattle.text.proofs.Replaced.{write-ways}
use borrow.Author.Rules.{rules}
use Rattle.text.proofs.expanding.write_all.Goals as goal

pub loop-i-init : goal.loop-i-init
loop-i-init c = search (write-ways, rules)

pub copy-requires : goal.copy-requires
copy-requires c = search (write-ways, rules)

pub overflow_add-behind : goal.overflow_add-behind
overflow_add-behind c = search (write-ways, rules)

pub shape_of-out-then-from-s : goal.shape_of-out-then-from-s
shape_of-out-then-from-s c = search (write-ways, rules)

pub returns-then-from-s : goal.returns-then-from-s
returns-then-from-s c = search (write-ways, rules)

pub write_one-to-requires : goal.write_one-to-requires
write_one-to-requires c = search (write-ways, rules)

pub loop-i-preserved : goal.loop-i-preserved
loop-i-preserved c = search (write-ways, rules)

pub shape_of-out : goal.shape_of-out
shape_of-out c = search (write-ways, rules)

pub returns : goal.returns
returns c = search (write-ways, rules)
