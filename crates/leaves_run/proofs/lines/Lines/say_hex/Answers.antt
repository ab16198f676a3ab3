use Rattle.std.proofs.Common.{rules}
use Rattle.octets.proofs.Puts.{put-within}
use Rattle.leaves_run.proofs.lines.Lines.say_hex.Goals as goal

pub invariant_of-self : goal.invariant_of-self
invariant_of-self c = record { inside = search (put-within, rules) }
