-- Demand 1 for the other calls that refuse: survey, needs_of, find_first, find_conflict, open, step, and the leaves that put octets. Each ends with an answer or one
-- numbered refusal and a place, and each answer comes exactly when its own condition holds. Nothing is lent to them but what the leaves write.
use Rattle.std.specs.Prelude.{◌≡◌, Bool, true, false, ◌↔◌, List, [], ◌∷◌, ℕ, ◌+◌, ◌≤◌, ◌<◌, length, take, drop, Option, Some, None, Result, Ok, Err}
use Rattle.std.proofs.Math.Option.{none, some}
use Rattle.octets.specs.declared.counts.Octets.{Octets as OctetCount}
use Rattle.octets.specs.Counts.{as_octets, size_of}
use Rattle.octets.specs.Numbers.{Octets}
use Rattle.octets.specs.Puts.{Puts}
use Rattle.octets.specs.declared.PutError.{PutError}
use Rattle.format.specs.declared.Refusal.{Refusal}
use Rattle.format.specs.declared.Outcome.{Outcome}
use Rattle.format.specs.Answers.{refusal}
use Rattle.format.specs.Tree.{Items, count}
use Rattle.format.specs.Judge.{Judged, judge}
use Rattle.format.specs.Judge.Judged.{refused, accepted}
use Rattle.format.specs.Meaning.{Meaning, meaning_of, normal_of}
use Rattle.format.specs.Loaded.{store_of}
use Rattle.format.specs.Calls.{Lent}
use Rattle.format.specs.State.{Memory, places_in}
use Rattle.state.specs.Taking.{NormaliseClaim}
use Rattle.survey.specs.Survey.{surveyed, needed_of, records_sizes}
use Rattle.survey.specs.First.{first_in, item_at, sought_by, sought_in}
use Rattle.survey.specs.declared.Needs.{Needs}
use Rattle.survey.specs.declared.Unfit.{Unfit}
use Rattle.survey.specs.declared.Unfit.TheVariants.{Bad, Misfit}
use Rattle.survey.specs.Makers.{store_octets}
use Rattle.recording.specs.declared.Next.{Next}
use Rattle.recording.specs.Recording.{mark, announced}
use Rattle.recording.specs.Calls.{open_of, step_of}
use Rattle.merge.specs.declared.Services.{Services}
use Rattle.merge.specs.Merged.{clash, same_top, twice}
use Rattle.merge.specs.Kept.{Mergeable}
use Rattle.merge.specs.Calls.{refused_as}
use Rattle.merge.specs.declared.MergeOutcome.{MergeOutcome}
use Rattle.merge.specs.declared.MergeRefusal.{MergeRefusal}
use Rattle.merge.specs.declared.MergeRefusal.TheVariants.{Basic, Advanced, Neither}
use Rattle.merging.specs.Calls.{conflict_answer}
use Rattle.demands.specs.One.{OfObject, OfCall, Refuses, Ends, Suffices, Lacks}
use Rattle.demands.specs.Outcomes.{standing_outcome, needed_outcome, sought_outcome, conflict_outcome, opened_outcome, next_outcome, put_outcome}

-- ---- survey: 1 to 13, then 14, then 15

abbrev pub SurveyEnds : Type 0
SurveyEnds =
    (object : List ℕ) (lent : Lent) (answer : Result (Unit {0}) Unfit) → answer ≡ surveyed lent (judge object)
    → Ends (Refuses object (14 ∷ 15 ∷ [])) (Unit {0}) (standing_outcome answer)

-- it says of an object and of what would be lent what normalise then answers: `Lacks` and `Suffices` are those of `NormaliseOrder`
pub record SurveyOrder (judged : Judged) (lent : Lent) (answer : Result (Unit {0}) Unfit) : Type 0 where
  pub of_object : (r : Refusal) → (answer ≡ Err (Bad r)) ↔ (judged ≡ refused r)
  pub lacking : (r : Refusal) → (answer ≡ Err (Misfit r)) ↔ ((t : Items) × (judged ≡ accepted t) × Lacks lent t r)
  pub fits : (answer ≡ Ok tt) ↔ ((t : Items) × (judged ≡ accepted t) × Suffices lent t)

abbrev pub SurveyInOrder : Type 0
SurveyInOrder =
    (object : List ℕ) (lent : Lent) (answer : Result (Unit {0}) Unfit) → answer ≡ surveyed lent (judge object) → SurveyOrder (judge object) lent answer

-- ---- needs_of: 1 to 13, else what an accepted object needs (change request 2026-09)

abbrev pub NeedsEnds : Type 0
NeedsEnds = (object : List ℕ) (answer : Result Needs Refusal) → answer ≡ needed_of (judge object) → Ends (OfObject object) (Unit {0}) (needed_outcome answer)

pub record NeedsOrder (judged : Judged) (answer : Result Needs Refusal) : Type 0 where
  pub of_object : (r : Refusal) → (answer ≡ Err r) ↔ (judged ≡ refused r)
  pub sizes :
      (n : ℕ) (store octets : OctetCount)
      → (answer ≡ Ok (records_sizes n (Some (store_octets store octets))))
      ↔ ((t : Items) × (judged ≡ accepted t) × (n ≡ count t) × (store ≡ size_of (store_of t)) × (octets ≡ size_of (normal_of t)) × (length (normal_of t) ≤ 32_768))
  pub over : (n : ℕ) → (answer ≡ Ok (records_sizes n None)) ↔ ((t : Items) × (judged ≡ accepted t) × (n ≡ count t) × (32_768 < length (normal_of t)))

abbrev pub NeedsInOrder : Type 0
NeedsInOrder = (object : List ℕ) (answer : Result Needs Refusal) → answer ≡ needed_of (judge object) → NeedsOrder (judge object) answer

-- two calls: an object of which needs_of tells so much is normalised exactly where so much is lent, to as many octets as it told
abbrev pub NeedsSufficeCalls : Type 0
NeedsSufficeCalls =
    (object : List ℕ) (n : ℕ) (store octets : OctetCount) → Ok (records_sizes n (Some (store_octets store octets))) ≡ needed_of (judge object)
    → (m m' : Memory) (room room' : List ℕ) (answer : Result OctetCount Refusal) → NormaliseClaim object m m' room room' answer
    → (answer ≡ Ok octets) ↔ ((n ≤ places_in m) × (store.0 ≤ length m.store) × (octets.0 ≤ length room))

-- and one whose normal form is told to be too long is normalised by no call
abbrev pub OverNeverCalls : Type 0
OverNeverCalls =
    (object : List ℕ) (n : ℕ) → Ok (records_sizes n None) ≡ needed_of (judge object)
    → (m m' : Memory) (room room' : List ℕ) (octets : OctetCount) → NormaliseClaim object m m' room room' (Ok octets) → ⊥

-- ---- find_first: 1 to 13, else nowhere, or the place of an octet of the object

pub data FoundEnds (object : List ℕ) : Outcome → Type 0 where
  refused_at : (number place field : ℕ) → OfObject object number place field → FoundEnds object (record { number = number; place = place; field = field; count = 0; items = 0 })
  nowhere : FoundEnds object (record { number = 0; place = 0; field = 0; count = 0; items = 0 })
  found_at : (place : ℕ) → place < length object → FoundEnds object (record { number = 0; place = place; field = 0; count = 1; items = 0 })

abbrev pub FindFirstEnds : Type 0
FindFirstEnds =
    (object rows anywhere : List ℕ) (listed : Bool) (answer : Result (Option ℕ) Refusal) → answer ≡ sought_in (sought_by listed rows anywhere) object
    → FoundEnds object (sought_outcome answer)

-- at a place exactly when the object is accepted and the item whose tag lies there is the first, in reading order of its tree, that is sought; nowhere exactly when none is
pub record FoundOrder (object : List ℕ) (P : ℕ → ℕ → Bool) (judged : Judged) (answer : Result (Option ℕ) Refusal) : Type 0 where
  pub of_object : (r : Refusal) → (answer ≡ Err r) ↔ (judged ≡ refused r)
  pub there : (place : ℕ) → (answer ≡ Ok (Some place)) ↔ ((t : Items) × (judged ≡ accepted t) × (first_in P 0 t ≡ some (item_at object place)))
  pub nowhere : (answer ≡ Ok None) ↔ ((t : Items) × (judged ≡ accepted t) × (first_in P 0 t ≡ none))

abbrev pub FindFirstInOrder : Type 0
FindFirstInOrder =
    (object rows anywhere : List ℕ) (listed : Bool) (answer : Result (Option ℕ) Refusal) → Octets object
    → answer ≡ sought_in (sought_by listed rows anywhere) object
    → FoundOrder object (sought_by listed rows anywhere) (judge object) answer

-- ---- find_conflict: 1 to 13 of Basic, then of Advanced, then 20, then 21 (change request 2026-10)

pub data ConflictEnded (basic advanced : List ℕ) : MergeOutcome → Type 0 where
  free : ConflictEnded basic advanced (record { which = 0; number = 0; place = 0; field = 0; records = 0; size = as_octets 0 })
  of_basic : (r : Refusal) → OfObject basic r.number r.place r.field → ConflictEnded basic advanced (refused_as 1 r)
  of_advanced : (r : Refusal) → OfObject advanced r.number r.place r.field → ConflictEnded basic advanced (refused_as 2 r)
  of_both : (r : Refusal) → OfCall (20 ∷ 21 ∷ []) r.number r.place r.field → ConflictEnded basic advanced (refused_as 0 r)

abbrev pub ConflictEnds : Type 0
ConflictEnds =
    (by : Services) (basic advanced : List ℕ) (answer : Result (Unit {0}) MergeRefusal) → answer ≡ conflict_answer by (judge basic) (judge advanced)
    → ConflictEnded basic advanced (conflict_outcome answer)

pub data Conflicts (by : Services) (m n : Meaning) : Refusal → Type 0 where
  twenty : (same_top m n ≡ true → clash by m n ≡ false → ⊥) → Conflicts by m n (refusal 20 0)
  twenty_one : same_top m n ≡ true → clash by m n ≡ false → (twice by m ≡ false → twice by n ≡ false → ⊥) → Conflicts by m n (refusal 21 0)

pub record ConflictOrder (by : Services) (basic advanced : Judged) (answer : Result (Unit {0}) MergeRefusal) : Type 0 where
  pub of_basic : (r : Refusal) → (answer ≡ Err (Basic r)) ↔ (basic ≡ refused r)
  pub of_advanced : (r : Refusal) → (answer ≡ Err (Advanced r)) ↔ ((t : Items) × (basic ≡ accepted t) × (advanced ≡ refused r))
  pub of_both :
      (r : Refusal)
      → (answer ≡ Err (Neither r)) ↔ ((t : Items) × (u : Items) × (basic ≡ accepted t) × (advanced ≡ accepted u) × Conflicts by (meaning_of t) (meaning_of u) r)
  pub free : (answer ≡ Ok tt) ↔ ((t : Items) × (u : Items) × (basic ≡ accepted t) × (advanced ≡ accepted u) × Mergeable by (meaning_of t) (meaning_of u))

abbrev pub ConflictInOrder : Type 0
ConflictInOrder =
    (by : Services) (basic advanced : List ℕ) (answer : Result (Unit {0}) MergeRefusal) → answer ≡ conflict_answer by (judge basic) (judge advanced)
    → ConflictOrder by (judge basic) (judge advanced) answer

-- ---- open and step (change request 2026-12)

abbrev pub OpenEnds : Type 0
OpenEnds = (octets : List ℕ) (answer : Result ℕ Refusal) → answer ≡ open_of octets → Ends (OfCall (23 ∷ 24 ∷ [])) (Unit {0}) (opened_outcome answer)

-- 24 at 0 exactly for fewer than five octets, 23 at 0 exactly for five or more that don't begin with mark and version; else it begins behind these
pub record OpenOrder (octets : List ℕ) (answer : Result ℕ Refusal) : Type 0 where
  pub twenty_four : (answer ≡ Err (refusal 24 0)) ↔ (length octets < 5)
  pub twenty_three : (answer ≡ Err (refusal 23 0)) ↔ ((5 ≤ length octets) × (take 5 octets ≡ mark → ⊥))
  pub begins : (at : ℕ) → (answer ≡ Ok at) ↔ ((at ≡ 5) × (5 ≤ length octets) × (take 5 octets ≡ mark))

abbrev pub OpenInOrder : Type 0
OpenInOrder = (octets : List ℕ) (answer : Result ℕ Refusal) → answer ≡ open_of octets → OpenOrder octets answer

-- step refuses with 24 alone, at the place of the file where the window's place lies
pub data StepRefuses (in_file : ℕ) : ℕ → ℕ → ℕ → Type 0 where
  is_cut : StepRefuses in_file 24 in_file 0

abbrev pub StepEnds : Type 0
StepEnds = (window : List ℕ) (at in_file : ℕ) (last : Bool) (answer : Next) → answer ≡ step_of window at last → Ends (StepRefuses in_file) (Unit {0}) (next_outcome in_file answer)

-- a whole object exactly when its size and all its octets stand there; else, where nothing follows the window, the end exactly when nothing is left and 24 exactly when
-- something is; and more is asked for exactly where something may follow
pub record StepOrder (window : List ℕ) (at : ℕ) (last : Bool) (answer : Next) : Type 0 where
  pub object :
      (start size : ℕ)
      → (answer ≡ Next.Object start size) ↔ ((start ≡ at + 2) × (size ≡ announced (drop at window)) × (2 + announced (drop at window) ≤ length (drop at window)))
  pub more : (answer ≡ Next.More) ↔ ((length (drop at window) < 2 + announced (drop at window)) × (last ≡ false))
  pub end : (answer ≡ Next.End) ↔ ((length (drop at window) < 2 + announced (drop at window)) × (last ≡ true) × (length (drop at window) ≡ 0))
  pub is_cut : (answer ≡ Next.Cut) ↔ ((length (drop at window) < 2 + announced (drop at window)) × (last ≡ true) × (0 < length (drop at window)))

abbrev pub StepInOrder : Type 0
StepInOrder = (window : List ℕ) (at : ℕ) (last : Bool) (answer : Next) → answer ≡ step_of window at last → StepOrder window at last answer

-- ---- the leaves: octets stand where they were put, or 15 or 9 and the lent octets are as they were
abbrev pub PutOutcomeEnds : Type 0
PutOutcomeEnds =
    (valid : Bool) (octets : List ℕ) (at : ℕ) (before after : List ℕ) (answer : Result ℕ PutError) → Puts valid octets at before after answer
    → Ends (OfCall (15 ∷ 9 ∷ [])) (after ≡ before) (put_outcome answer)
