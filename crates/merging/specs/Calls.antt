-- What `find_conflict` answers, and what the functions that it asks tell of accepted objects (change request 2026-10).
use Rattle.std.specs.Prelude.{◌≡◌, Bool, List, ℕ, Result, Ok, Err}
use Rattle.std.proofs.Math.Option.{Option, none, some}
use Rattle.format.specs.declared.Refusal.{Refusal}
use Rattle.format.specs.Tree.{Items}
use Rattle.format.specs.Judge.{Judged, judge}
use Rattle.format.specs.Judge.Judged.{refused, accepted}
use Rattle.format.specs.Meaning.{meaning_of}
use Rattle.merge.specs.declared.Services.{Services}
use Rattle.merge.specs.declared.MergeRefusal.{MergeRefusal}
use Rattle.merge.specs.declared.MergeRefusal.TheVariants.{Basic, Advanced, Neither}
use Rattle.merge.specs.Merged.{clash, twice}
use Rattle.merge.specs.Calls.{conflict}

unfoldable pub as_conflict : Option Refusal → Result (Unit {0}) MergeRefusal
as_conflict none = Ok tt
as_conflict (some r) = Err (Neither r)

-- "Refusals, after 1 to 13 for Basic and then for Advanced: 20 ..; 21 .."
unfoldable pub conflict_answer : Services → (basic advanced : Judged) → Result (Unit {0}) MergeRefusal
conflict_answer by (refused r) a = Err (Basic r)
conflict_answer by (accepted t) (refused r) = Err (Advanced r)
conflict_answer by (accepted t) (accepted u) = as_conflict (conflict by (meaning_of t) (meaning_of u))

-- ---- of accepted objects; no claim of a call names these

unfoldable pub HasTwice : Services → List ℕ → Bool → Type 0
HasTwice by object r = (t : Items) → judge object ≡ accepted t → r ≡ twice by (meaning_of t)

unfoldable pub HasClash : Services → (basic advanced : List ℕ) → Bool → Type 0
HasClash by basic advanced r = (t u : Items) → judge basic ≡ accepted t → judge advanced ≡ accepted u → r ≡ clash by (meaning_of t) (meaning_of u)

unfoldable pub Settles : Services → (basic advanced : List ℕ) → Result (Unit {0}) MergeRefusal → Type 0
Settles by basic advanced r = (t u : Items) → judge basic ≡ accepted t → judge advanced ≡ accepted u → r ≡ as_conflict (conflict by (meaning_of t) (meaning_of u))
