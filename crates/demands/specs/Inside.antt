-- Demand 1 for judge_inside and survey_inside, which judge the items of an element by themselves. Places count from the first of these octets.
use Rattle.std.specs.Prelude.{◌≡◌, List, ℕ, Result}
use Rattle.format.specs.Answers.{read_outcome}
use Rattle.format.specs.Headers.{headers}
use Rattle.format.specs.Calls.{judge_answer}
use Rattle.format.specs.declared.Counts.{Counts}
use Rattle.format.specs.declared.Refusal.{Refusal}
use Rattle.judge.specs.Inside.{judge_inside}
use Rattle.survey.specs.Survey.{needed_by}
use Rattle.survey.specs.declared.Needs.{Needs}
use Rattle.demands.specs.One.{OfObject, Ends}
use Rattle.demands.specs.Outcomes.{needed_outcome}

-- judge_inside gives 1 to 13, at an octet of what it is given; no items are no refusal
abbrev pub JudgeInsideEnds : Type 0
JudgeInsideEnds =
    (element depth : ℕ) (octets : List ℕ) (answer : Result Counts Refusal) → answer ≡ judge_answer (headers element octets) (judge_inside element depth octets)
    → Ends (OfObject octets) (Unit {0}) (read_outcome answer)

-- survey_inside likewise
abbrev pub SurveyInsideEnds : Type 0
SurveyInsideEnds =
    (element depth : ℕ) (octets : List ℕ) (answer : Result Needs Refusal) → answer ≡ needed_by element (judge_inside element depth octets)
    → Ends (OfObject octets) (Unit {0}) (needed_outcome answer)
