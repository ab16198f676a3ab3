-- Demand 1 for items that are judged by themselves: where a refusal of them lies is a law of format, and 1 is given for their size alone.
use mathlib.Core.Path.{◌≡◌, refl, sym, ap, subst}
use mathlib.Core.Bool.{Bool, true, false}
use mathlib.Core.List.{List, []}
use Prim.Native.Nat.{ℕ, suc}
use native.Mathlib.Omega.{arith}
use lib.Dec.{leb}
use lib.ListN.{length}
use borrow.Author.Tests.{leb-false}
use Rattle.format.specs.declared.Refusal.{Refusal}
use Rattle.format.specs.Answers.{refusal, read_outcome}
use Rattle.format.specs.Tree.{count}
use Rattle.format.specs.Judge.{Judged, Context, rule, unless, read}
use Rattle.format.specs.Judge.Judged.{refused, accepted}
use Rattle.format.specs.Headers.{headers}
use Rattle.format.specs.Calls.{judge_answer}
use Rattle.format.proofs.Refusals.{Inside}
use Rattle.judge.specs.Inside.{beginning, judge_inside}
use Rattle.survey.specs.Survey.{needed_by}
use Rattle.demands.specs.One.{OfObject, Ends}
use Rattle.demands.specs.One.Ends.{answered, refused_at}
use Rattle.demands.specs.Outcomes.{needed_outcome}
use Rattle.demands.specs.Inside.{JudgeInsideEnds, SurveyInsideEnds}
use Rattle.demands.proofs.RuleOne.{OtherJudged, other_items}
use Rattle.demands.proofs.Laws.{only-nine}

-- `refusal-read` (format/proofs/Refusals)
abbrev pub RefusalRead : Type 0
RefusalRead = (c : Context) (o : List ℕ) (r : Refusal) → c.waiting ≡ [] → read c 0 o ≡ refused r → Inside (length o) r

module _ (refusal-read : RefusalRead) where
  of-inside : (element depth : ℕ) (o : List ℕ) (r : Refusal) → judge_inside element depth o ≡ refused r → OfObject o r.number r.place r.field
  unfolding judge_inside rule unless beginning
  of-inside element depth o r h = go (leb (length o) 32_768) refl h
    where
      c : Context
      c = beginning element depth

      go : (b : Bool) → leb (length o) 32_768 ≡ b → unless (rule 1 0 b) (read (beginning element depth) 0 o) ≡ refused r → OfObject o r.number r.place r.field
      go false e q =
          let z : refusal 1 0 ≡ r = cc in
          let number : 1 ≡ r.number = ap (λ x. x.number) z in
          let place : 0 ≡ r.place = ap (λ x. x.place) z in
          let field : 0 ≡ r.field = ap (λ x. x.field) z in
          let long = leb-false (length o) 32_768 e in
          record {
            least = omega arith;
            most = omega arith;
            inside = λ l. omega arith;
            empty = λ l. sym place;
            one = λ n. sym place;
            few = omega arith;
            nine = λ l. absurd (omega arith);
          }
      go true e q =
          let i = refusal-read (beginning element depth) o r refl q in
          let p = i.place in
          record {
            least = i.least;
            most = i.most;
            inside = λ l. p;
            empty = λ l. absurd (omega arith);
            one = λ n. absurd (subst OtherJudged q (other_items (suc (length o)) (beginning element depth) 0 o) n);
            few = i.field;
            nine = λ l. only-nine r.number r.field l i.nine;
          }

  pub judge-inside-ends : JudgeInsideEnds
  unfolding judge_answer
  judge-inside-ends element depth o answer e = subst (λ a. Ends (OfObject o) (Unit {0}) (read_outcome a)) (sym e) (go (judge_inside element depth o) refl)
    where
      go : (j : Judged) → judge_inside element depth o ≡ j → Ends (OfObject o) (Unit {0}) (read_outcome (judge_answer (headers element o) j))
      go (refused r) h = refused_at r.number r.place r.field (of-inside element depth o r h) tt
      go (accepted t) h = answered (count t) (headers element o)

  pub survey-inside-ends : SurveyInsideEnds
  unfolding needed_by
  survey-inside-ends element depth o answer e = subst (λ a. Ends (OfObject o) (Unit {0}) (needed_outcome a)) (sym e) (go (judge_inside element depth o) refl)
    where
      go : (j : Judged) → judge_inside element depth o ≡ j → Ends (OfObject o) (Unit {0}) (needed_outcome (needed_by element j))
      go (refused r) h = refused_at r.number r.place r.field (of-inside element depth o r h) tt
      go (accepted t) h = answered (count t) 0
