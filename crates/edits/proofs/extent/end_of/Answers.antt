use native.Mathlib.Omega.{arith}
use Rattle.edits.proofs.Scans.{scanning-start, scanning-stop, scanning-next, scanning-end}
use Rattle.edits.proofs.extent.end_of.Goals as goal

pub loop-j-init : goal.loop-j-init
loop-j-init c = scanning-start _ _ _ c.requires.0 c.requires.1

pub returns-then-depths-j : goal.returns-then-depths-j
returns-then-depths-j c = scanning-stop _ _ _ c.requires.0 c.requires.1 _ c.loop-j.invariant c.loop-j-test.true c.if-depths-j.true

pub loop-j-preserved : goal.loop-j-preserved
loop-j-preserved c = scanning-next _ _ _ c.requires.0 c.requires.1 _ c.loop-j.invariant c.loop-j-test.true c.if-depths-j.false

pub returns : goal.returns
returns c = scanning-end _ _ _ c.requires.0 c.requires.1 _ c.loop-j.invariant (omega arith)
