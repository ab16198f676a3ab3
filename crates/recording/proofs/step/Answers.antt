use Rattle.recording.proofs.Ways.{step-ways}
use borrow.Author.Rules.{rules}
use Rattle.recording.proofs.step.Goals as goal

-- src/lib.rt:68:9
pub returns-then-at-window : goal.returns-then-at-window
returns-then-at-window c = search (step-ways, rules)

-- src/lib.rt:72:9
pub returns-then-left-lt2 : goal.returns-then-left-lt2
returns-then-left-lt2 c = search (step-ways, rules)

-- src/lib.rt:76:9
pub returns-then-left-size : goal.returns-then-left-size
returns-then-left-size c = search (step-ways, rules)

-- src/lib.rt:64:1
pub returns : goal.returns
returns c = search (step-ways, rules)
