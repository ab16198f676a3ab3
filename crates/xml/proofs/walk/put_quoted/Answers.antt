use Rattle.xml.proofs.Walking.{quoted-put}
use borrow.Author.Rules.{rules}
use Rattle.xml.proofs.walk.put_quoted.Goals as goal

pub returns : goal.returns
returns c = search (quoted-put, rules)
