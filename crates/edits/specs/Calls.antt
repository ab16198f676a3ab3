-- What editing the tree that memory holds answers, and what it leaves there (change request 2026-06). The place of 14 to 18 is zero.
use Rattle.std.proofs.Math.Option.{Option, none, some, map}
use Rattle.std.specs.Prelude.{[], ℕ, Result}
use Rattle.octets.specs.Counts.{as_octets}
use Rattle.format.specs.Answers.{refusal}
use Rattle.format.specs.Tree.{Items}
use Rattle.format.specs.Judge.{Judged, rule, unless}
use Rattle.format.specs.Judge.Judged.{refused}
use Rattle.format.specs.Writer.{at_top, ruled}
use Rattle.format.specs.Loaded.{loaded_in}
use Rattle.format.specs.State.{Memory, kept, tree_held}
use Rattle.format.specs.declared.Refusal.{Refusal}
use Rattle.state.specs.Taking.{settled, Leaves}
use Rattle.edits.specs.Tree.{Edit, is_there, changed}

-- the tree after an edit, packed again, where it keeps the rules of records that are given to the writer (document 01, 16 of the refusal numbers)
unfoldable pub edited : Edit → Items → Option Items
edited e t = map (loaded_in [] 0 0) (kept (ruled at_top) (changed e t))

-- "18 ..; then 16 if the result would break a rule", then 14 and 15. Where memory holds no tree, the number of a record means nothing, so 16 comes first
unfoldable pub edited_in : Memory → Edit → Option Items → Judged
edited_in m e none = refused (refusal 16 0)
edited_in m e (some t) = unless (rule 18 0 (is_there e t)) (settled (as_octets 32_768) m (edited e t))

-- of the first n records of any memory: no call asks that it holds a tree
abbrev pub EditClaim : (e : Edit) (n : ℕ) (m m' : Memory) (answer : Result ℕ Refusal) → Type 0
EditClaim e n m m' answer = Leaves (edited_in m e (tree_held n m)) m m' answer
