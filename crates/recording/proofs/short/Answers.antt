use borrow.Author.Rules.{rules}
use Rattle.recording.proofs.Ways.{short-ways}
use Rattle.recording.proofs.short.Goals as goal

-- src/lib.rt:89:9
pub returns-then-not-last : goal.returns-then-not-last
returns-then-not-last c = search (short-ways, rules)

-- src/lib.rt:85:1
pub returns-then-left-eq0 : goal.returns-then-left-eq0
returns-then-left-eq0 c = search (short-ways, rules)

-- src/lib.rt:85:1
pub returns-else-left-eq0 : goal.returns-else-left-eq0
returns-else-left-eq0 c = search (short-ways, rules)
