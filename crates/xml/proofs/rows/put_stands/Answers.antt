use borrow.Author.Rules.{rules}
use Rattle.xml.proofs.Rowing.{stands_plain, stands-none, stands-row}
use Rattle.xml.proofs.rows.put_stands.Goals as goal

pub returns-in-None : goal.returns-in-None
returns-in-None c = stands-none _ _ _ _ _ _ _ _ c.is_token.ensures c.if-not-is_token.false c.in-None.ensures c.put_escape-in-None.ensures

pub returns-in-Some : goal.returns-in-Some
returns-in-Some c = stands-row _ _ _ _ _ _ _ _ _ c.is_token.ensures c.if-not-is_token.false c.in-Some.ensures c.put_escaped.ensures

pub returns-then-not-is_token : goal.returns-then-not-is_token
returns-then-not-is_token c = search (stands_plain, rules)
