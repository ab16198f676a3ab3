use Rattle.xml.proofs.Putting.{hex-two}
use borrow.Author.Rules.{rules}
use Rattle.xml.proofs.put.put_hex_octet.Goals as goal

pub returns : goal.returns
returns c = search (hex-two, rules)
