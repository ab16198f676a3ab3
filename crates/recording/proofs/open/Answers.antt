use Rattle.recording.proofs.Ways.{open-ways}
use borrow.Author.Rules.{rules}
use Rattle.recording.proofs.open.Goals as goal

pub returns-then-octets-lt5 : goal.returns-then-octets-lt5
returns-then-octets-lt5 c = search (open-ways, rules)

pub returns-then-starts_with : goal.returns-then-starts_with
returns-then-starts_with c = search (open-ways, rules)

pub returns : goal.returns
returns c = search (open-ways, rules)
