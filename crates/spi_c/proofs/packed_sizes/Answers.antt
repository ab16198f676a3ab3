use borrow.Author.Rules.{rules}
use Rattle.spi_c.proofs.Calls.{sizes-ways}
use Rattle.spi_c.proofs.packed_sizes.Goals as goal

pub packed_span-requires : goal.packed_span-requires
packed_span-requires c = search (sizes-ways, rules)

pub returns-in-None : goal.returns-in-None
returns-in-None c = search (sizes-ways, rules)

pub returns-in-Some : goal.returns-in-Some
returns-in-Some c = search (sizes-ways, rules)
