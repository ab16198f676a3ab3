-- Request 2026-08: what the claims of the calls that write answer, by format's theorems on bodies.
use mathlib.Core.Path.{sym}
use Rattle.octets.specs.Counts.{size_of}
use Rattle.format.specs.Judge.{judge}
use Rattle.format.specs.State.{tree_in, tree_held}
use Rattle.format.proofs.Bodies.{written-bodies, normal-bodies}
use Rattle.state.specs.Taking.{lent_by}
use Rattle.demands.specs.Lengths.{WriteBodies, NormaliseBodies, StateBodies}
use Rattle.demands.proofs.Laws.{given-tree}

pub write-bodies : WriteBodies
write-bodies n memory bodies' before after k c =
    let w = written-bodies (size_of before) (tree_in n memory) k (sym c.answers) in
    (w.0, given-tree n memory w.0 w.1, w.2)

pub normalise-bodies : NormaliseBodies
normalise-bodies object memory memory' room room' k c = normal-bodies (lent_by memory room) (judge object) k (sym c.answers)

pub state-bodies : StateBodies
state-bodies n memory before after k c = written-bodies (size_of before) (tree_held n memory) k (sym c.answers)
