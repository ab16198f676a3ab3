use borrow.Author.Rules.{rules}
use native.Mathlib.Omega.{arith}
use Rattle.packer.proofs.Ranked.{pass-stop, pass-again, pass-done}
use Rattle.packer.proofs.ranking.place_in.Goals as goal

pub returns-then-word-saved : goal.returns-then-word-saved
returns-then-word-saved c = pass-stop _ _ _ _ c.loop-i.invariant c.loop-i-test.true (omega (arith, c.requires)) _ c.if-word-saved.true

pub loop-i-preserved : goal.loop-i-preserved
loop-i-preserved c = pass-again _ _ _ _ c.loop-i.invariant c.loop-i-test.true (omega (arith, c.requires)) _ c.if-word-saved.false

pub returns : goal.returns
returns c = search (pass-done, rules)
