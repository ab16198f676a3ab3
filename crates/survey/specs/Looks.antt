-- What the functions below `find_first` say, which look for the first item that a test picks.
use Rattle.std.specs.Prelude.{◌≡◌, Bool, true, cond, List, ℕ, ◌+◌, ◌≤◌, ◌<◌, length, Option, None, Some}
use Rattle.std.proofs.Math.Option.{Option as Maybe, none, some}
use Rattle.values.specs.Table.{known}
use Rattle.format.specs.Tree.{Items}
use Rattle.format.specs.Judge.{is_items}
use Rattle.reader.specs.Filling.{Accepts}
use Rattle.survey.specs.declared.look.Step.{Step}
use Rattle.survey.specs.declared.look.Step.TheVariants.{Past, Into, Picked}
use Rattle.survey.specs.First.{picks, place_in}

-- what is to be done with an item
unfoldable pub step_of : (ℕ → ℕ → Bool) → ℕ → ℕ → Step
step_of P parent tag = cond (picks P parent tag) Picked (cond (is_items (known parent tag)) Into Past)

-- where the first such item lies, as an answer
unfoldable pub place_of : Maybe ℕ → Option ℕ
place_of none = None
place_of (some place) = Some place

-- an item in an element, and the items of a part, told of accepted octets. So many levels of elements may still open: depth and they make 17
unfoldable pub ItemLooked : (ℕ → ℕ → Bool) → (parent tag left : ℕ) (body : List ℕ) (place from : ℕ) → Option ℕ → Type 0
ItemLooked P parent tag left body place from r =
    (depth : ℕ) (u : Items) (k : ℕ) → depth + left ≡ 17 → length body < k → (is_items (known parent tag) ≡ true → (depth ≤ 16) × Accepts tag (depth + 1) from body u)
    → r ≡ place_of (cond (picks P parent tag) (some place) (cond (is_items (known parent tag)) (place_in k P tag from body) none))

unfoldable pub ItemsLooked : (ℕ → ℕ → Bool) → (parent left : ℕ) (part : List ℕ) (offset : ℕ) → Option ℕ → Type 0
ItemsLooked P parent left part offset r =
    (depth : ℕ) (t : Items) (k : ℕ) → depth + left ≡ 17 → length part < k → Accepts parent depth offset part t → r ≡ place_of (place_in k P parent offset part)
