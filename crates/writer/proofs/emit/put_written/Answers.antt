use Rattle.writer.proofs.Items.{nothing-laid, kind_fits, kind-laid, standing-fits, standing-laid}
use borrow.Author.Rules.{rules}
use Rattle.writer.proofs.emit.put_written.Goals as goal

pub returns-in_default : goal.returns-in_default
returns-in_default c = search (nothing-laid, rules)

pub put_stored-requires : goal.put_stored-requires
put_stored-requires c = search (standing-fits, c.requires.standing, rules)

pub returns-then-stored : goal.returns-then-stored
returns-then-stored c = search (standing-laid, c.requires.standing, rules)

pub put_item-requires : goal.put_item-requires
put_item-requires c = search (kind_fits, rules)

pub returns : goal.returns
returns c = search (kind-laid, rules)
