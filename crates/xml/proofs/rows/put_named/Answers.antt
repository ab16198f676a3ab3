use borrow.Author.Rules.{rules}
use Rattle.xml.proofs.Rowing.{named-digits, named-octets}
use Rattle.xml.proofs.rows.put_named.Goals as goal

pub returns-then-s-eq0 : goal.returns-then-s-eq0
returns-then-s-eq0 c = search (named-digits, named-octets, rules)

pub returns : goal.returns
returns c = search (named-digits, named-octets, rules)
