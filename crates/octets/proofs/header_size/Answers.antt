use Rattle.octets.proofs.Writing.{size-ways}
use borrow.Author.Rules.{rules}
use Rattle.octets.proofs.header_size.Goals as goal

pub length_form-requires : goal.length_form-requires
length_form-requires c = search (size-ways, rules)

pub enum_told-1 : goal.enum_told-1
enum_told-1 c = search (size-ways, rules)

pub enum_told-in-Two : goal.enum_told-in-Two
enum_told-in-Two c = search (size-ways, rules)

pub returns-in-One : goal.returns-in-One
returns-in-One c = search (size-ways, rules)

pub returns-in-Two : goal.returns-in-Two
returns-in-Two c = search (size-ways, rules)
