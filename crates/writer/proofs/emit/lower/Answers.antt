use native.Mathlib.Omega.{arith}
use Rattle.writer.proofs.Finding.{lower-below, lower-taken, lower-kept}
use Rattle.writer.proofs.emit.lower.Goals as goal

pub returns-then-tag-least : goal.returns-then-tag-least
returns-then-tag-least c = lower-below _ _ _ _ c.if-tag-least.true

pub returns-then-tag-limit_of : goal.returns-then-tag-limit_of
returns-then-tag-limit_of c = lower-taken _ _ _ _ c.if-tag-least.false (omega arith)

pub returns : goal.returns
returns c = lower-kept _ _ _ _ c.if-tag-least.false (omega arith)
