-- What `open` and `step` answer (change request 2026-12). A program holds a window of the file: octets that stand in it one behind the other, of which it may
-- not know yet what follows them.
use Rattle.std.specs.Prelude.{Bool, cond, List, ℕ, ◌+◌, eqb, ltb, length, take, drop, Result, Ok, Err}
use Rattle.format.specs.Answers.{refusal}
use Rattle.format.specs.Same.{same_octets}
use Rattle.format.specs.declared.Refusal.{Refusal}
use Rattle.recording.specs.declared.Next.{Next}
use Rattle.recording.specs.Recording.{mark, announced, whole}

-- open: what the first octets of the file say of it, where these are all of it or five at least
unfoldable pub open_of : List ℕ → Result ℕ Refusal
open_of octets =
    cond (ltb (length octets) 5) (Err (refusal 24 0))
    (cond (same_octets (take 5 octets) mark) (Ok 5) (Err (refusal 23 0)))

-- a part of a window that holds no whole object, by its size: more is needed, where more may follow; else the recording ends there, or is cut
unfoldable pub short_of : ℕ → Bool → Next
short_of left last = cond last (cond (eqb left 0) Next.End Next.Cut) Next.More

-- step: what stands at a place of a window, where `last` says that nothing follows the window in the file: a whole object, with its start in the window and its
-- size, or none
unfoldable pub step_of : List ℕ → ℕ → Bool → Next
step_of window at last = cond (whole (drop at window)) (Next.Object (at + 2) (announced (drop at window))) (short_of (length (drop at window)) last)
