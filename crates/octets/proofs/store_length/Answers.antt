use Rattle.octets.proofs.Writing.{length-ways}
use borrow.Author.Rules.{rules}
use Rattle.octets.proofs.store_length.Goals as goal

pub length_form-requires : goal.length_form-requires
length_form-requires c = search (length-ways, rules)

pub enum_told-1 : goal.enum_told-1
enum_told-1 c = search (length-ways, rules)

pub overflow_cast-n : goal.overflow_cast-n
overflow_cast-n c = search (length-ways, rules)

pub store_number-requires : goal.store_number-requires
store_number-requires c = search (length-ways, rules)

pub enum_told-in-Two : goal.enum_told-in-Two
enum_told-in-Two c = search (length-ways, rules)

pub bounds-out-at : goal.bounds-out-at
bounds-out-at c = search (length-ways, rules)

pub overflow_add-at : goal.overflow_add-at
overflow_add-at c = search (length-ways, rules)

pub overflow_cast-n-in-Two : goal.overflow_cast-n-in-Two
overflow_cast-n-in-Two c = search (length-ways, rules)

pub store_number-requires-in-Two : goal.store_number-requires-in-Two
store_number-requires-in-Two c = search (length-ways, rules)

pub shape_of-out-in-One : goal.shape_of-out-in-One
shape_of-out-in-One c = search (length-ways, rules)

pub returns-in-One : goal.returns-in-One
returns-in-One c = search (length-ways, rules)

pub shape_of-out-in-Two : goal.shape_of-out-in-Two
shape_of-out-in-Two c = search (length-ways, rules)

pub returns-in-Two : goal.returns-in-Two
returns-in-Two c = search (length-ways, rules)
