-- Request 2026-04: a refusal of an object by every call that judges it, from the calls' equations.
use mathlib.Core.Path.{◌≡◌, ap, ◌∙◌}
use mathlib.Core.Bool.{true}
use mathlib.Core.List.{List}
use Prim.Native.Nat.{ℕ}
use Rattle.format.specs.Answers.{wrong_value}
use Rattle.format.specs.Headers.{headers_of}
use Rattle.format.specs.Calls.{judge_answer, edit_answer}
use Rattle.format.specs.Bench.{outcome, accented, slips}
use Rattle.format.specs.Bench.Outcome.{refuses}
use Rattle.format.proofs.Bench.{slipped}
use Rattle.state.specs.Taking.{taken_in}
use Rattle.survey.specs.Survey.{needed_of}
use Rattle.survey.specs.First.{place_at, sought_as, sought_in}
use Rattle.pocket.specs.Gate.{offends, gate_answer, gate_of}
use Rattle.demands.specs.Fields.{ToldBy, ToldByAll, FieldsToldByAll}
use Rattle.demands.proofs.Bench.{table-refused}
use Rattle.demands.proofs.One.{same-in-order}
use Rattle.demands.proofs.Merging.{merge-in-order}
use Rattle.demands.proofs.Requests.{row}

pub told-by-all : ToldByAll
unfolding judge_answer edit_answer taken_in needed_of gate_of gate_answer sought_in sought_as
told-by-all object r h = record {
  judged = λ answer e. e ∙ ap (judge_answer (headers_of object)) h;
  taken_in = λ most m m' answer c. c.answers ∙ ap (λ j. edit_answer (taken_in most m j)) h;
  gated = λ d answer e. e ∙ ap (λ j. gate_answer (sought_as j (place_at (offends d) object))) h;
  needed = λ answer e. e ∙ ap needed_of h;
  as_second = λ first t g answer e. ((same-in-order first object answer e).of_second r).1 (t, g, h);
  as_basic = λ by advanced m m' room room' answer c. ((merge-in-order by object advanced m m' room room' answer c).of_basic r).1 h;
  as_advanced = λ by basic t g m m' room room' answer c. ((merge-in-order by basic object m m' room room' answer c).of_advanced r).1 (t, g, h);
}

tells : (object : List ℕ) (place field : ℕ) → outcome true object ≡ refuses (wrong_value place field) → ToldBy object (wrong_value place field)
tells object place field e = told-by-all object (wrong_value place field) (table-refused object (wrong_value place field) e)

pub fields-told-by-all : FieldsToldByAll
unfolding slips accented row
fields-told-by-all = record {
  length = tells _ 2 1 (ap (row 8) slipped);
  date = tells _ 2 2 (ap (row 9) slipped);
  hours = tells _ 2 3 (ap (row 10) slipped);
  minutes = tells _ 2 4 (ap (row 11) slipped);
  seconds = tells _ 2 5 (ap (row 12) slipped);
  other = tells _ 2 0 (ap (row 13) slipped);
}
